-- A document of which a list is parted at a line: its units, and where lists may be parted.
use Rattle.std.proofs.Common.{◌≡◌, ℕ, ◌-◌, ◌<◌, Bool, true, false, List, [], ◌∷◌, ◌++◌, length, map, take, drop, refl, sym, ◌∙◌, ap, subst, append_assoc, arith}
use Rattle.std.specs.Prelude.{Contains}
use Rattle.std.specs.List.{All}
use Rattle.std.proofs.lemmas.List.{append-nil, take-append-drop, length-take-le, length-drop}
use Rattle.std.proofs.lemmas.List.Elements.{All-nil, All-push, All-head, All-tail, All-contains}
use Rattle.mdtext.specs.EntityTable.{EntityTable}
use Rattle.blockspec.specs.BlockLine.{BlockLine, document_line}
use Rattle.blockspec.specs.Meetings.{joins_list}
use Rattle.blockspec.specs.UnitTree.{FoundUnit}
use Rattle.blockspec.proofs.DocumentLaws.{map_length}
use Rattle.blockspec.specs.Joins.{joins}
use Rattle.blockspec.proofs.UnitsMeet.{DocumentMeets}
use Rattle.blockspec.specs.BlockUnits.{units}
use Rattle.blockspec.specs.UnitBegin.{shift_found}
use Rattle.blockspec.proofs.DocumentItems.{document_units_meet}
use Rattle.blockspec.proofs.JoinCuts.{all_joins_below}
use Rattle.blockspec.proofs.JoinLines.{with_number, joins_in, joins_next}
use Rattle.mdsource.proofs.StretchReadings.{Ascends}
use Rattle.mdsource.specs.MetInside.{IsPartedAt}

-- ---- the lines at which lists may be parted ascend, and lie in the document

ascends_push : (xs : List ℕ) (n : ℕ) → Ascends xs → All (λ y. y < n) xs → Ascends (xs ++ n ∷ [])
ascends_push [] n h k = (All-nil (λ y. n < y), tt)
ascends_push (x ∷ xs) n h k =
    (All-push (λ y. x < y) xs n h.0 (All-head (λ y. y < n) x xs k), ascends_push xs n h.1 (All-tail (λ y. y < n) x xs k))

ascends_where : (b : Bool) (n : ℕ) (xs : List ℕ) → Ascends xs → All (λ y. y < n) xs → Ascends (with_number b n xs)
ascends_where true n xs h k = ascends_push xs n h k
ascends_where false n xs h k = h

ascends_next : (e : EntityTable) (xs : List BlockLine) (l : BlockLine) → Ascends (joins_in e xs) → Ascends (joins_in e (xs ++ l ∷ []))
ascends_next e xs l h = subst Ascends (sym (joins_next e xs l)) (ascends_where (joins_list xs l) (length xs) (joins_in e xs) h (all_joins_below e xs))

ascends_more : (e : EntityTable) (xs ys : List BlockLine) → Ascends (joins_in e xs) → Ascends (joins_in e (xs ++ ys))
ascends_more e xs [] h = subst (λ z. Ascends (joins_in e z)) (sym (append-nil xs)) h
ascends_more e xs (y ∷ ys) h =
    subst (λ z. Ascends (joins_in e z)) (append_assoc xs (y ∷ []) ys) (ascends_more e (xs ++ y ∷ []) ys (ascends_next e xs y h))

-- there is none in no lines
pub no_joins : (e : EntityTable) → joins_in e [] ≡ []
no_joins e = go (joins_in e []) (all_joins_below e [])
  where
    go : (xs : List ℕ) → All (λ j. j < 0) xs → xs ≡ []
    go [] w = refl
    go (x ∷ xs) w = absurd (let small = All-head (λ j. j < 0) x xs w in omega (arith, small))

pub joins_ascend : (e : EntityTable) (lines : List (List ℕ)) → Ascends (joins e lines)
joins_ascend e lines = ascends_more e [] (map document_line lines) (subst Ascends (sym (no_joins e)) tt)

pub joins_within : (e : EntityTable) (lines : List (List ℕ)) → All (λ j. j < length lines) (joins e lines)
joins_within e lines = subst (λ z. All (λ j. j < z) (joins e lines)) (map_length document_line lines) (all_joins_below e (map document_line lines))

-- ---- the units of a document that is parted at such a line

-- a list has a member at each place below its length
pub record HasMember (lines : List (List ℕ)) (n : ℕ) : Type 0 where
  pub line : List ℕ
  pub later : List (List ℕ)
  pub is : drop n lines ≡ line ∷ later

pub has_member : (lines : List (List ℕ)) (n : ℕ) → n < length lines → HasMember lines n
has_member lines n small = go (drop n lines) refl
  where
    go : (rest : List (List ℕ)) → drop n lines ≡ rest → HasMember lines n
    go [] h = absurd (let size : length lines - n ≡ 0 = sym (length-drop n lines) ∙ ap (λ z. length z) h in omega (arith, size, small))
    go (line ∷ later) h = record { line = line; later = later; is = h }

-- a document with a list in two parts
pub record Parted (e : EntityTable) (lines : List (List ℕ)) (n : ℕ) : Type 0 where
  pub before : List FoundUnit
  pub front : FoundUnit
  pub behind : FoundUnit
  pub whole : FoundUnit
  pub later : List FoundUnit
  pub is : IsPartedAt e lines n before front behind whole later

of_meeting : (e : EntityTable) (lines : List (List ℕ)) (n : ℕ) (line : List ℕ) (later : List (List ℕ)) → drop n lines ≡ line ∷ later → take n lines ++ line ∷ later ≡ lines → length (take n lines) ≡ n →
    DocumentMeets e (take n lines) line later → Parted e lines n
of_meeting e lines n line later rest all size u = record {
  before = u.us;
  front = u.last;
  behind = u.head;
  whole = u.whole;
  later = u.vs;
  is = record {
    fronts = u.before;
    behinds = ap (units e) rest ∙ u.alone;
    wholes = ap (units e) (sym all) ∙ u.both ∙ ap (λ z. u.us ++ u.whole ∷ map (shift_found z) u.vs) size;
    begin = u.first_line;
    texts = u.texts;
    definitions = u.definitions;
  };
}

-- Where a list may be parted, the units are those of both parts, but that two make one.
pub parted : (e : EntityTable) (lines : List (List ℕ)) (n : ℕ) → Contains (joins e lines) n → Parted e lines n
parted e lines n w = go (has_member lines n small)
  where
    small : n < length lines
    small = All-contains (λ j. j < length lines) (joins e lines) n (joins_within e lines) w

    size : length (take n lines) ≡ n
    size = length-take-le n lines (omega (arith, small))

    go : HasMember lines n → Parted e lines n
    go m =
        let all : take n lines ++ m.line ∷ m.later ≡ lines = ap (λ z. take n lines ++ z) (sym m.is) ∙ take-append-drop n lines in
        let there : Contains (joins e (take n lines ++ m.line ∷ m.later)) (length (take n lines)) =
        subst (λ z. Contains (joins e z) (length (take n lines))) (sym all) (subst (λ z. Contains (joins e lines) z) (sym size) w) in
        of_meeting e lines n m.line m.later m.is all size (document_units_meet e (take n lines) m.line m.later there)

-- ---- a list parted alike in two documents

first_or : FoundUnit → List FoundUnit → FoundUnit
first_or u [] = u
first_or u (v ∷ vs) = v

after_first : List FoundUnit → List FoundUnit
after_first [] = []
after_first (v ∷ vs) = vs

-- Two documents with equal lines from one on have equal units there, where a list is parted in both.
pub same_behind : (e : EntityTable) (one other : List (List ℕ)) (n m : ℕ) (before : List FoundUnit) (front behind whole : FoundUnit) (later : List FoundUnit)
    (before' : List FoundUnit) (front' behind' whole' : FoundUnit) (later' : List FoundUnit) → drop n one ≡ drop m other →
    IsPartedAt e one n before front behind whole later → IsPartedAt e other m before' front' behind' whole' later' → IsPartedAt e other m before' front' behind whole' later
unfolding first_or after_first
same_behind e one other n m before front behind whole later before' front' behind' whole' later' same w v =
    let both : behind ∷ later ≡ behind' ∷ later' = sym w.behinds ∙ ap (units e) same ∙ v.behinds in
    let one_is : behind' ≡ behind = ap (first_or behind') (sym both) in
    let rest_is : later' ≡ later = ap after_first (sym both) in
    subst (λ z. IsPartedAt e other m before' front' behind whole' z) rest_is (subst (λ z. IsPartedAt e other m before' front' z whole' later') one_is v)
