-- Lists in which a patch puts members in the place of others.
use Rattle.std.proofs.Common.{◌≡◌, ℕ, ◌+◌, ◌-◌, ◌≤◌, ◌<◌, Bool, true, false, List, ◌++◌, length, take, drop, get_or, slice_get, refl, ap, ◌∙◌, sym, arith, nat_lt, length-append}
use Rattle.std.specs.Prelude.{◌==◌, ◌&&◌, ◌||◌, not, if◌then◌else◌, unwrap_or}
use Rattle.std.specs.List.{All, list_any}
use Rattle.std.proofs.lemmas.Bool.{true≢false}
use Rattle.std.proofs.lemmas.Bool.Decides.{nat_tests}
use Rattle.std.proofs.lemmas.List.{get_or_append_left, get_or-append_right, get_or-take, get_or-drop, length-take-le}
use Rattle.std.proofs.lemmas.List.Elements.{All-append, All-take, All-drop}
use Rattle.std.proofs.lemmas.List.FromFn.{fill_by_all}
use Rattle.std.proofs.lemmas.Option.{unwrap_or-slice_get}
use Rattle.mdview.specs.Lists.{replaced}
use Rattle.mdsource.specs.Patch.{Brings, brings}
use Rattle.mdsource.specs.ChangedPieces.{ChangedPieces}
use Rattle.mdview.proofs.Sizes.{length_replaced}

pub all_replaced : {A : Type 0} (P : A → Type 0) (xs add : List A) (at del : ℕ) → All P xs → All P add → All P (replaced xs at del add)
all_replaced P xs add at del all new =
    All-append P (take at xs ++ add) (drop (at + del) xs) (All-append P (take at xs) add (All-take P at xs all) new) (All-drop P (at + del) xs all)

-- a member before the new ones
before : {A : Type 0} (xs add : List A) (at del k : ℕ) (d : A) → at ≤ length xs → k < at → get_or (replaced xs at del add) k d ≡ get_or xs k d
before xs add at del k d within below =
    let front = length-take-le at xs within in
    get_or_append_left (take at xs ++ add) (drop (at + del) xs) d k (omega (arith, length-append (take at xs) add))
    ∙ get_or_append_left (take at xs) add d k (omega arith)
    ∙ get_or-take at xs k d below

-- one behind them
behind : {A : Type 0} (xs add : List A) (at del k : ℕ) (d : A) → at ≤ length xs → at + length add ≤ k → get_or (replaced xs at del add) k d ≡ get_or xs (at + del + (k - (at + length add))) d
behind xs add at del k d within above =
    let front = length-take-le at xs within in
    get_or-append_right (take at xs ++ add) (drop (at + del) xs) (at + length add) k d (omega (arith, length-append (take at xs) add)) above
    ∙ get_or-drop (at + del) xs (k - (at + length add)) d

read_same : {A : Type 0} (xs ys : List A) (i : ℕ) (d : A) → slice_get xs i ≡ slice_get ys i → get_or xs i d ≡ get_or ys i d
read_same xs ys i d same = sym (unwrap_or-slice_get xs i d) ∙ ap (λ o. unwrap_or o d) same ∙ unwrap_or-slice_get ys i d

or_parts : (a b : Bool) → (a || b) ≡ false → (a ≡ false) × (b ≡ false)
or_parts false false e = (refl, refl)
or_parts false true e = absurd (true≢false e)
or_parts true b e = absurd (true≢false e)

-- the others stay: those before the new ones, and those behind them
pub record Stays {A : Type 0} (patch : ChangedPieces) (old changed : List A) : Type 0 where
  pub before : (i : ℕ) → i < patch.first → list_any (λ k. k == i) patch.again ≡ false → slice_get changed i ≡ slice_get old i
  pub behind : (j : ℕ) → patch.first + patch.removed ≤ j → j < length old → list_any (λ k. k == (j - patch.removed + patch.added)) patch.again ≡ false → slice_get changed j ≡ slice_get old j

-- behind the new ones
is_behind : (new low : Bool) → (not low && new) ≡ false → low ≡ false → new ≡ false
is_behind new false e f = e
is_behind new true e f = absurd (true≢false f)

member : {A : Type 0} (patch : ChangedPieces) (old changed add : List A) (d : A) → length changed ≡ length old → patch.first + patch.removed ≤ length old → patch.added ≡ length add
    → Stays patch old changed → (k : ℕ) → k < length old - patch.removed + patch.added → (b low : Bool) → brings patch k ≡ b → nat_lt k patch.first ≡ low
    → get_or (replaced changed patch.first patch.removed add) k d
    ≡ (if b then get_or (replaced changed patch.first patch.removed add) k d
    else if low then get_or old k d else get_or old (k - patch.added + patch.removed) d)
member patch old changed add d long within count stays k below true low e f = refl
member patch old changed add d long within count stays k below false true e f =
    let parts = or_parts (not (nat_lt k patch.first) && nat_lt k (patch.first + patch.added)) (list_any (λ i. i == k) patch.again) e in
    let here : k < patch.first = grind (arith, nat_tests, f) in
    before changed add patch.first patch.removed k d (omega arith) here
    ∙ read_same changed old k d (stays.before k here parts.1)
member patch old changed add d long within count stays k below false false e f =
    let parts = or_parts (not (nat_lt k patch.first) && nat_lt k (patch.first + patch.added)) (list_any (λ i. i == k) patch.again) e in
    let new : nat_lt k (patch.first + patch.added) ≡ false = is_behind _ (nat_lt k patch.first) parts.0 f in
    let past : patch.first + patch.added ≤ k = grind (arith, nat_tests, new) in
    let j : ℕ = k - patch.added + patch.removed in
    let back : j - patch.removed + patch.added ≡ k = omega arith in
    let place : patch.first + patch.removed + (k - (patch.first + length add)) ≡ j = omega arith in
    let none : list_any (λ i. i == (j - patch.removed + patch.added)) patch.again ≡ false = rw back parts.1 in
    behind changed add patch.first patch.removed k d (omega arith) (omega arith)
    ∙ ap (λ i. get_or changed i d) place
    ∙ read_same changed old j d (stays.behind j (omega arith) (omega arith) none)

pub spliced_brings : {A : Type 0} (patch : ChangedPieces) (old changed add : List A) → length changed ≡ length old → patch.first + patch.removed ≤ length old → patch.added ≡ length add
    → Stays patch old changed → Brings patch old (replaced changed patch.first patch.removed add)
spliced_brings patch old changed add long within count stays d =
    let len = length_replaced changed add patch.first patch.removed (omega arith) in
    sym (fill_by_all _ (replaced changed patch.first patch.removed add) _ d (omega arith)
    (λ k below. member patch old changed add d long within count stays k below (brings patch k) (nat_lt k patch.first) refl refl))
