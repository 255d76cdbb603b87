-- The members of an entity file, one after the other as they stand in it, give the table that they give in their names' order.
use Rattle.std.proofs.Common.{◌≡◌, ℕ, suc, ◌+◌, ◌-◌, ◌<◌, List, [], ◌∷◌, ◌++◌, length, map, take, get_or, Bool, true, false, Option, Some, None, option_map, refl, sym, ap, ap₂, ◌∙◌, arith, Ordering, Less, Equal, Greater, ◌==◌, ◌&&◌, nat_lt}
use Rattle.std.proofs.lemmas.Bool.{eqb-true}
use Rattle.std.proofs.lemmas.Bool.Decides.{nat_tests}
use Rattle.std.proofs.lemmas.Cmp.{nat_list_cmp_total, tied_itself}
use Rattle.std.proofs.lemmas.List.{take_all, take_more}
use Rattle.std.proofs.lemmas.Map.Lookups.{exact_bytes}
use Rattle.std.specs.BTreeMap.{insert_entry}
use Rattle.std.specs.Bool.{if◌then◌else◌}
use Rattle.std.specs.Cmp.Lexicographic.{slice_cmp}
use Rattle.std.specs.List.{slice_range, slice_index}
use Rattle.std.specs.Prelude.{⊤}
use Rattle.std.specs.Ordering.{nat_cmp, match_ordering, ordering_reverse}
use Rattle.serde_json.specs.Data.{Data, Members, no_members, member, put}
use Rattle.mdtext.specs.EntityFile.{counts, is_name, name_of, characters_of, with_members}
use Rattle.mdtext.specs.EntityTable.{EntityNames}
use Rattle.mdtext.specs.MemberTexts.{Given, Gathered, given_more, put_each, all_given, given_table}
use Rattle.mdtext.proofs.Tables.{inserted}

same_inside : {A : Type 0} (a b : A) → Some a ≡ Some b → a ≡ b
same_inside a b e = ap (or_else a) e
  where
    or_else : {A : Type 0} → A → Option A → A
    or_else d None = d
    or_else d (Some x) = x

-- ---- what is put into a table

abbrev pub put_in : {V : Type 0} → List (List ℕ × V) → List ℕ → V → List (List ℕ × V)
put_in table name value = insert_entry (slice_cmp nat_cmp) table name value

pub same : (n : List ℕ) → slice_cmp nat_cmp n n ≡ Equal
same n = tied_itself nat_list_cmp_total n

turned : (a b : List ℕ) (o : Ordering) → slice_cmp nat_cmp a b ≡ o → slice_cmp nat_cmp b a ≡ ordering_reverse o
turned a b o h = nat_list_cmp_total.antisymm b a ∙ ap ordering_reverse h

module _ {V : Type 0} where
  -- the second value at a name stays
  absorbed_at : (e : List ℕ × V) (es : List (List ℕ × V)) (n : List ℕ) (t u : V) (a : Ordering) → slice_cmp nat_cmp n e.0 ≡ a → put_in (put_in es n t) n u ≡ put_in es n u → put_in (put_in (e ∷ es) n t) n u ≡ put_in (e ∷ es) n u
  absorbed_at e es n t u Less h later = rw (h, same n) refl
  absorbed_at e es n t u Equal h later = rw (h, h) refl
  absorbed_at e es n t u Greater h later = rw (h, h) (ap (λ ts. e ∷ ts) later)

  pub absorbed : (table : List (List ℕ × V)) (n : List ℕ) (t u : V) → put_in (put_in table n t) n u ≡ put_in table n u
  absorbed [] n t u = rw (same n) refl
  absorbed (e ∷ es) n t u = absorbed_at e es n t u (slice_cmp nat_cmp n e.0) refl (absorbed es n t u)

  -- values at two names may be put in either way
  module _ (n : List ℕ) (t : V) (m : List ℕ) (u : V) (apart : slice_cmp nat_cmp n m ≡ Equal → ⊥) where
    in_turn : (c : Ordering) → slice_cmp nat_cmp n m ≡ c → put_in (put_in [] n t) m u ≡ put_in (put_in [] m u) n t
    in_turn Less h = rw (h, turned n m Less h) refl
    in_turn Equal h = absurd (apart h)
    in_turn Greater h = rw (h, turned n m Greater h) refl

    below : (e : List ℕ × V) (es : List (List ℕ × V)) (c : Ordering) → slice_cmp nat_cmp n m ≡ c → slice_cmp nat_cmp n e.0 ≡ Less → slice_cmp nat_cmp m e.0 ≡ Less → put_in (put_in (e ∷ es) n t) m u ≡ put_in (put_in (e ∷ es) m u) n t
    below e es Less h a b = rw (a, b, h, turned n m Less h) refl
    below e es Equal h a b = absurd (apart h)
    below e es Greater h a b = rw (a, b, h, turned n m Greater h, a) refl

    swapped_at : (e : List ℕ × V) (es : List (List ℕ × V)) (a b : Ordering) → slice_cmp nat_cmp n e.0 ≡ a → slice_cmp nat_cmp m e.0 ≡ b → put_in (put_in es n t) m u ≡ put_in (put_in es m u) n t
        → put_in (put_in (e ∷ es) n t) m u ≡ put_in (put_in (e ∷ es) m u) n t
    swapped_at e es Less Less a b later = below e es (slice_cmp nat_cmp n m) refl a b
    swapped_at e es Less Equal a b later =
        let d : slice_cmp nat_cmp m n ≡ Greater = nat_list_cmp_total.congr m e.0 n b ∙ turned n e.0 Less a in
        rw (a, b, d, a) refl
    swapped_at e es Less Greater a b later =
        let c : slice_cmp nat_cmp n m ≡ Less = nat_list_cmp_total.trans n e.0 m a (turned m e.0 Greater b) in
        rw (a, b, turned n m Less c, a) refl
    swapped_at e es Equal Less a b later =
        let c : slice_cmp nat_cmp n m ≡ Greater = nat_list_cmp_total.congr n e.0 m a ∙ turned m e.0 Less b in
        rw (a, b, c, a) refl
    swapped_at e es Equal Equal a b later = absurd (apart (nat_list_cmp_total.congr n e.0 m a ∙ turned m e.0 Equal b))
    swapped_at e es Equal Greater a b later = rw (a, b, a) refl
    swapped_at e es Greater Less a b later =
        let d : slice_cmp nat_cmp m n ≡ Less = nat_list_cmp_total.trans m e.0 n b (turned n e.0 Greater a) in
        rw (a, b, turned m n Less d, a) refl
    swapped_at e es Greater Equal a b later = rw (a, b, a) refl
    swapped_at e es Greater Greater a b later = rw (a, b, a) (ap (λ ts. e ∷ ts) later)

    pub swapped : (table : List (List ℕ × V)) → put_in (put_in table n t) m u ≡ put_in (put_in table m u) n t
    swapped [] = in_turn (slice_cmp nat_cmp n m) refl
    swapped (e ∷ es) = swapped_at e es (slice_cmp nat_cmp n e.0) (slice_cmp nat_cmp m e.0) refl refl (swapped es)

-- ---- texts, and names without one

-- texts that are all given
abbrev pub texted : EntityNames → List Given
texted table = map (λ e. (e.0, Some e.1)) table

pub texted_put : (table : EntityNames) (n t : List ℕ) → put_in (texted table) n (Some t) ≡ texted (put_in table n t)
texted_put table n t = sym (inserted (λ k. k) Some table n t)

pub all_texted : (table : EntityNames) → all_given (texted table) ≡ Some table
all_texted [] = refl
all_texted (e ∷ es) = ap (option_map (λ table. e ∷ table)) (all_texted es)

lost : (e : Given) (es : List Given) (o : Option (List ℕ)) → e.1 ≡ o → all_given es ≡ None → all_given (e ∷ es) ≡ None
lost e es None h none = rw h refl
lost e es (Some t) h none = rw (h, none) refl

-- a name that is given no text at last
no_text_at : (e : Given) (es : List Given) (n : List ℕ) (o : Ordering) → slice_cmp nat_cmp n e.0 ≡ o → all_given (put_in es n None) ≡ None → all_given (put_in (e ∷ es) n None) ≡ None
no_text_at e es n Less h later = rw h refl
no_text_at e es n Equal h later = rw h refl
no_text_at e es n Greater h later = rw h (lost e (put_in es n None) e.1 refl later)

pub no_text : (table : List Given) (n : List ℕ) → all_given (put_in table n None) ≡ None
no_text [] n = refl
no_text (e ∷ es) n = no_text_at e es n (slice_cmp nat_cmp n e.0) refl (no_text es n)

-- one more is put in behind the others
pub put_last : (es : List Given) (e : Given) (table : List Given) → put_each (es ++ e ∷ []) table ≡ put_in (put_each es table) e.0 e.1
put_last [] e table = refl
put_last (x ∷ xs) e table = put_last xs e (put_in table x.0 x.1)

-- ---- what a member does to what is gathered, seen as a table

-- what is gathered, with the table so far
abbrev pub tabled : Gathered → Gathered
tabled g = (g.0, put_each g.1 [])

pub data Effect : Type 0 where
  nothing : Effect
  spoils : Effect
  puts : List ℕ → Option (List ℕ) → Effect

abbrev pub apply : Effect → Gathered → Gathered
apply nothing g = g
apply spoils g = (true, g.1)
apply (puts n t) g = (g.0, put_in g.1 n t)

abbrev pub effect_by : Bool → Option (List ℕ) → Option (List ℕ) → Effect
effect_by false found text = nothing
effect_by true None text = spoils
effect_by true (Some n) text = puts n text

abbrev pub effect : List ℕ → Option (List ℕ) → Effect
effect k text = effect_by (counts k) (name_of k) text

gathers_by : (counted : Bool) (found text : Option (List ℕ)) (k : List ℕ) (g : Gathered) → counts k ≡ counted → name_of k ≡ found → tabled (given_more k text g) ≡ apply (effect_by counted found text) (tabled g)
gathers_by false found text k g c f = rw c refl
gathers_by true None text k g c f = rw (c, f) refl
gathers_by true (Some n) text k g c f = rw (c, f) (ap (λ t. (g.0, t)) (put_last g.1 (n, text) []))

gathers : (k : List ℕ) (text : Option (List ℕ)) (g : Gathered) → tabled (given_more k text g) ≡ apply (effect k text) (tabled g)
gathers k text g = gathers_by (counts k) (name_of k) text k g refl refl

abbrev AreApart : Effect → Effect → Type 0
AreApart nothing f = ⊤
AreApart spoils f = ⊤
AreApart (puts n t) nothing = ⊤
AreApart (puts n t) spoils = ⊤
AreApart (puts n t) (puts m u) = slice_cmp nat_cmp n m ≡ Equal → ⊥

commute : (e f : Effect) (g : Gathered) → AreApart e f → apply f (apply e g) ≡ apply e (apply f g)
commute nothing f g h = refl
commute spoils nothing g h = refl
commute spoils spoils g h = refl
commute spoils (puts m u) g h = refl
commute (puts n t) nothing g h = refl
commute (puts n t) spoils g h = refl
commute (puts n t) (puts m u) g h = ap (λ x. (g.0, x)) (swapped n t m u h g.1)

-- of two members of one name only the second counts
replaces : (counted : Bool) (found text other : Option (List ℕ)) (g : Gathered) → apply (effect_by counted found other) (apply (effect_by counted found text) g) ≡ apply (effect_by counted found other) g
replaces false found text other g = refl
replaces true None text other g = refl
replaces true (Some n) text other g = ap (λ x. (g.0, x)) (absorbed g.1 n text other)

-- ---- a member's name tells the name of its reference

last_byte : (xs : List ℕ) → 0 < length xs → xs ≡ take (length xs - 1) xs ++ get_or xs (length xs - 1) 0 ∷ []
last_byte xs some =
    let n = length xs - 1 in
    let one : n + 1 ≡ length xs = omega (arith, some) in
    sym (take_all (length xs) xs (omega arith)) ∙ ap (λ k. take k xs) (sym one) ∙ take_more xs n 0 (omega (arith, some))

both_true : (a b : Bool) → (a && b) ≡ true → (a ≡ true) × (b ≡ true)
both_true true true h = (refl, refl)
both_true true false h = cc
both_true false b h = cc

chosen : (b : Bool) (n m : List ℕ) → (if b then Some n else None) ≡ Some m → (b ≡ true) × (n ≡ m)
chosen true n m e = (refl, same_inside n m e)
chosen false n m e = absurd (cc)

-- a member that counts is `&`, its name and `;`
spelled : (k n : List ℕ) → counts k ≡ true → name_of k ≡ Some n → k ≡ 38 ∷ (n ++ 59 ∷ [])
spelled [] n c e =
    let tests = chosen (slice_index [] 0 == 38 && is_name (slice_range [] 1 (length {A = ℕ} [] - 1))) (slice_range [] 1 (length {A = ℕ} [] - 1)) n e in
    absurd (cc)
spelled (x ∷ xs) n c e =
    let name = slice_range (x ∷ xs) 1 (length (x ∷ xs) - 1) in
    let tests = chosen (slice_index (x ∷ xs) 0 == 38 && is_name name) name n e in
    let both = both_true (slice_index (x ∷ xs) 0 == 38) (is_name name) tests.0 in
    let first : x ≡ 38 = eqb-true x 38 both.0 in
    let named = both_true (nat_lt 0 (length name)) _ both.1 in
    let cut : name ≡ take (length xs - 1) xs = ap (λ k. take k xs) (omega arith) in
    let some : 0 < length xs = grind (arith, nat_tests, named.0, cut) in
    let place : length (x ∷ xs) - 1 ≡ suc (length xs - 1) = omega (arith, some) in
    let last : get_or xs (length xs - 1) 0 ≡ 59 = ap (λ k. get_or (x ∷ xs) k 0) (sym place) ∙ eqb-true (slice_index (x ∷ xs) (length (x ∷ xs) - 1)) 59 c in
    ap₂ (λ y ys. y ∷ ys) first (last_byte xs some ∙ ap₂ (λ ys y. ys ++ y ∷ []) (sym cut ∙ tests.1) last)

-- members of different names put in different names
apart_by : (k l : List ℕ) (p q : Bool) (f g s t : Option (List ℕ)) → slice_cmp nat_cmp k l ≡ Less → counts k ≡ p → counts l ≡ q → name_of k ≡ f → name_of l ≡ g → AreApart (effect_by p f s) (effect_by q g t)
apart_by k l false q f g s t less a b c d = tt
apart_by k l true q None g s t less a b c d = tt
apart_by k l true false (Some n) g s t less a b c d = tt
apart_by k l true true (Some n) None s t less a b c d = tt
apart_by k l true true (Some n) (Some m) s t less a b c d =
    λ e.
    let is : k ≡ l = spelled k n a c ∙ ap (λ x. 38 ∷ (x ++ 59 ∷ [])) (exact_bytes n m e) ∙ sym (spelled l m b d) in
    less_or_same (sym less ∙ ap (slice_cmp nat_cmp k) (sym is) ∙ same k)
  where
    less_or_same : Less ≡ Equal → ⊥
    less_or_same h = cc

apart : (k l : List ℕ) (s t : Option (List ℕ)) → slice_cmp nat_cmp k l ≡ Less → AreApart (effect k s) (effect l t)
apart k l s t less = apart_by k l (counts k) (counts l) (name_of k) (name_of l) s t less refl refl refl refl

-- ---- members in their names' order

abbrev IsBelow : List ℕ → Members → Type 0
IsBelow k no_members = ⊤
IsBelow k (member l e ms) = (slice_cmp nat_cmp k l ≡ Less) × IsBelow k ms

abbrev pub AreInOrder : Members → Type 0
AreInOrder no_members = ⊤
AreInOrder (member k d ms) = IsBelow k ms × AreInOrder ms

below_all : (k l : List ℕ) (ms : Members) → slice_cmp nat_cmp k l ≡ Less → IsBelow l ms → IsBelow k ms
below_all k l no_members less h = tt
below_all k l (member m e ms) less h = (nat_list_cmp_total.trans k l m less h.0, below_all k l ms less h.1)

below_put_at : (k l m : List ℕ) (d e : Data) (ms more : Members) (o : Ordering) → slice_cmp nat_cmp k l ≡ Less → slice_cmp nat_cmp k m ≡ Less → IsBelow k ms → IsBelow k more
    → IsBelow k (match_ordering o (member l d (member m e ms)) (member m d ms) (member m e more))
below_put_at k l m d e ms more Less less first rest later = (less, (first, rest))
below_put_at k l m d e ms more Equal less first rest later = (first, rest)
below_put_at k l m d e ms more Greater less first rest later = (first, later)

below_put : (k l : List ℕ) (d : Data) (ms : Members) → slice_cmp nat_cmp k l ≡ Less → IsBelow k ms → IsBelow k (put l d ms)
below_put k l d no_members less h = (less, tt)
below_put k l d (member m e ms) less h = below_put_at k l m d e ms (put l d ms) (slice_cmp nat_cmp l m) less h.0 h.1 (below_put k l d ms less h.1)

in_order_at : (k l : List ℕ) (d e : Data) (ms : Members) (o : Ordering) → slice_cmp nat_cmp k l ≡ o → IsBelow l ms → AreInOrder ms → AreInOrder (put k d ms)
    → AreInOrder (match_ordering o (member k d (member l e ms)) (member l d ms) (member l e (put k d ms)))
in_order_at k l d e ms Less h b o later = ((h, below_all k l ms h b), (b, o))
in_order_at k l d e ms Equal h b o later = (b, o)
in_order_at k l d e ms Greater h b o later = (below_put l k d ms (turned k l Greater h) b, later)

pub in_order_put : (k : List ℕ) (d : Data) (ms : Members) → AreInOrder ms → AreInOrder (put k d ms)
in_order_put k d no_members o = (tt, tt)
in_order_put k d (member l e ms) o = in_order_at k l d e ms (slice_cmp nat_cmp k l) refl o.0 o.1 (in_order_put k d ms o.1)

-- ---- members in turn

abbrev pub with_each : Members → Gathered → Gathered
with_each no_members g = g
with_each (member k d ms) g = with_each ms (apply (effect k (characters_of d)) g)

-- before members of greater names a member does what it does behind them
goes_first : (k : List ℕ) (text : Option (List ℕ)) (ms : Members) (g : Gathered) → IsBelow k ms → with_each ms (apply (effect k text) g) ≡ apply (effect k text) (with_each ms g)
goes_first k text no_members g b = refl
goes_first k text (member l e ms) g b =
    ap (with_each ms) (commute (effect k text) (effect l (characters_of e)) g (apart k l text (characters_of e) b.0)) ∙ goes_first k text ms (apply (effect l (characters_of e)) g) b.1

one_more_at : (k l : List ℕ) (d x : Data) (ms : Members) (g : Gathered) (o : Ordering) → slice_cmp nat_cmp k l ≡ o → IsBelow l ms
    → ((h : Gathered) → with_each (put k d ms) h ≡ apply (effect k (characters_of d)) (with_each ms h))
    → with_each (match_ordering o (member k d (member l x ms)) (member l d ms) (member l x (put k d ms))) g ≡ apply (effect k (characters_of d)) (with_each (member l x ms) g)
one_more_at k l d x ms g Less h b later = goes_first k (characters_of d) (member l x ms) g (h, below_all k l ms h b)
one_more_at k l d x ms g Equal h b later =
    let again = replaces (counts l) (name_of l) (characters_of x) (characters_of d) g in
    ap (with_each ms) (sym again) ∙ goes_first l (characters_of d) ms (apply (effect l (characters_of x)) g) b
    ∙ ap (λ n. apply (effect n (characters_of d)) (with_each (member l x ms) g)) (sym (exact_bytes k l h))
one_more_at k l d x ms g Greater h b later = later (apply (effect l (characters_of x)) g)

-- a member that comes last, at its place in the order
one_more : (k : List ℕ) (d : Data) (found : Members) (g : Gathered) → AreInOrder found → with_each (put k d found) g ≡ apply (effect k (characters_of d)) (with_each found g)
one_more k d no_members g o = refl
one_more k d (member l x ms) g o = one_more_at k l d x ms g (slice_cmp nat_cmp k l) refl o.0 (λ h. one_more k d ms h o.1)

-- what is gathered of members, in whatever order they came
abbrev pub Gathers : Members → Gathered → Type 0
Gathers found g = AreInOrder found × (tabled g ≡ with_each found (false, []))

pub gathers_none : Gathers no_members (false, [])
gathers_none = (tt, refl)

pub gathers_more : (k : List ℕ) (d : Data) (found : Members) (g : Gathered) → Gathers found g → Gathers (put k d found) (given_more k (characters_of d) g)
gathers_more k d found g h = (in_order_put k d found h.0, gathers k (characters_of d) g ∙ ap (apply (effect k (characters_of d))) h.1 ∙ sym (one_more k d found (false, []) h.0))

-- ---- the table of the members

abbrev verdict : Gathered → Option EntityNames
verdict g = if g.0 then None else all_given g.1

no_text_in : (b : Bool) (table : List Given) (n : List ℕ) → verdict (b, put_in table n None) ≡ None
no_text_in true table n = refl
no_text_in false table n = no_text table n

told_by : (counted : Bool) (found : Option (List ℕ)) (k : List ℕ) (d : Data) (ms : Members) (table : EntityNames) → counts k ≡ counted → name_of k ≡ found → IsBelow k ms
    → ((t : EntityNames) → with_members ms t ≡ verdict (with_each ms (false, texted t))) → (text : Option (List ℕ)) → characters_of d ≡ text
    → with_members (member k d ms) table ≡ verdict (with_each (member k d ms) (false, texted table))
told_by false found k d ms table c f b later text e =
    let left : with_members (member k d ms) table ≡ with_members ms table = rw c refl in
    let right : apply (effect k (characters_of d)) (false, texted table) ≡ (false, texted table) = ap (λ x. apply (effect_by x (name_of k) (characters_of d)) (false, texted table)) c in
    left ∙ later table ∙ ap (λ g. verdict (with_each ms g)) (sym right)
told_by true None k d ms table c f b later text e =
    let left : with_members (member k d ms) table ≡ None = rw (c, f) refl in
    let does : effect k (characters_of d) ≡ spoils = ap₂ (λ x o. effect_by x o (characters_of d)) c f in
    left ∙ sym (ap verdict (goes_first k (characters_of d) ms (false, texted table) b ∙ ap (λ x. apply x (with_each ms (false, texted table))) does))
told_by true (Some n) k d ms table c f b later None e =
    let left : with_members (member k d ms) table ≡ None = rw (c, f, e) refl in
    let does : effect k (characters_of d) ≡ puts n None = ap₂ (λ x o. effect_by x o (characters_of d)) c f ∙ ap (puts n) e in
    let all = with_each ms (false, texted table) in
    left ∙ sym (ap verdict (goes_first k (characters_of d) ms (false, texted table) b ∙ ap (λ x. apply x all) does) ∙ no_text_in all.0 all.1 n)
told_by true (Some n) k d ms table c f b later (Some t) e =
    let left : with_members (member k d ms) table ≡ with_members ms (put_in table n t) = rw (c, f, e) refl in
    let does : effect k (characters_of d) ≡ puts n (Some t) = ap₂ (λ x o. effect_by x o (characters_of d)) c f ∙ ap (puts n) e in
    left ∙ later (put_in table n t) ∙ ap (λ x. verdict (with_each ms (false, x))) (sym (texted_put table n t)) ∙ ap (λ x. verdict (with_each ms (apply x (false, texted table)))) (sym does)

told : (found : Members) (table : EntityNames) → AreInOrder found → with_members found table ≡ verdict (with_each found (false, texted table))
told no_members table o = sym (all_texted table)
told (member k d ms) table o = told_by (counts k) (name_of k) k d ms table refl refl o.0 (λ t. told ms t o.1) (characters_of d) refl

pub table_gathered : (found : Members) (g : Gathered) → Gathers found g → with_members found [] ≡ given_table g
table_gathered found g h = told found [] h.0 ∙ ap verdict (sym h.1)
