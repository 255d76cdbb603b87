-- What a line adds to the blocks of a cut, told by where each block begins and whether it is an item of a list.
use Rattle.std.proofs.Common.{◌≡◌, ℕ, Bool, true, false, List, [], ◌∷◌, ◌++◌, map, Option, None, refl, sym, ◌∙◌, ap}
use Rattle.std.proofs.lemmas.List.{map-append}
use Rattle.blockspec.specs.BlockLine.{BlockLine}
use Rattle.blockspec.specs.BlankLines.{is_blank_line}
use Rattle.blockspec.specs.BlockKinds.{Kind}
use Rattle.blockspec.specs.BlockStart.{begun}
use Rattle.blockspec.specs.BlockTree.{ListKind}
use Rattle.blockspec.specs.Laziness.{Tip}
use Rattle.blockspec.specs.Stretches.{Stretch, Step, Continues, IsLastLine, IsOverBefore, step, is_single, Tail, Empty, Going, Over, Cut, all_of, stretches, ended, gap_behind, first_of, tail_of, begin_where, grown, after_step, add_at, add}
use Rattle.blockspec.specs.UnitBegin.{is_stop, is_apart, list_mark, same_mark, tail_mark}
use Rattle.blockspec.proofs.CutLaws.{apart_begins}
use Rattle.blockspec.proofs.UnitLaws.{IsWhole, keeps, step_keeps}

-- where a block begins, and whether it is an item of a list
abbrev pub Mark : Type 0
Mark = ℕ × Option ListKind

abbrev pub outline : List Stretch → List Mark
outline ss = map (λ s. (s.begin, list_mark s.kind)) ss

unfoldable pub last_mark : Option ListKind → List Mark → Option ListKind
last_mark m [] = m
last_mark m (x ∷ xs) = last_mark x.1 xs

last_of_push : (m : Option ListKind) (xs : List Mark) (x : Mark) → last_mark m (xs ++ x ∷ []) ≡ x.1
unfolding last_mark
last_of_push m [] x = refl
last_of_push m (y ∷ xs) x = last_of_push y.1 xs x

outline_push : (ss : List Stretch) (s : Stretch) → outline (ss ++ s ∷ []) ≡ outline ss ++ (s.begin, list_mark s.kind) ∷ []
outline_push ss s = map-append (λ (r : Stretch). (r.begin, list_mark r.kind)) ss (s ∷ [])

ended_outline : (before : List Stretch) (t : Tail) → outline (all_of before (ended t)) ≡ outline (all_of before t)
unfolding all_of
ended_outline before Empty = refl
ended_outline before (Going s) = refl
ended_outline before (Over s) = refl

tail_outline : (before : List Stretch) (b : Bool) (s : Stretch) → outline (all_of before (tail_of b s)) ≡ outline before ++ (s.begin, list_mark s.kind) ∷ []
unfolding all_of
tail_outline before true s = outline_push before s
tail_outline before false s = outline_push before s

pub grown_outline : (before : List Stretch) (s : Stretch) (k : Kind) (l : BlockLine) → list_mark k ≡ list_mark s.kind → outline (before ++ grown s k l ∷ []) ≡ outline (before ++ s ∷ [])
grown_outline before s k l e =
    outline_push before (grown s k l) ∙ ap (λ z. outline before ++ (s.begin, z) ∷ []) e ∙ sym (outline_push before s)

abbrev pub cut_of : List Stretch → Tail → Bool → ℕ → Cut
cut_of before t b m = record { before = before; tail = t; blank = b; lines = m }

-- ---- a line that begins no block

step_stays : (T : List BlockLine → Tip) (before : List Stretch) (s : Stretch) (b : Bool) (m : ℕ) (l : BlockLine) (st : Step) → keeps (list_mark s.kind) st → is_stop st ≡ false →
    outline (stretches (after_step T (cut_of before (Going s) b m) s l st)) ≡ outline (before ++ s ∷ [])
unfolding after_step all_of
step_stays T before s b m l (Continues kind) k e = grown_outline before s kind l k
step_stays T before s b m l (IsLastLine kind) k e = grown_outline before s kind l k
step_stays T before s b m l IsOverBefore k e = absurd (let x : ⊥ = cc in x)

pub stays : (T : List BlockLine → Tip) (before : List Stretch) (t : Tail) (b : Bool) (m : ℕ) (l : BlockLine) → is_apart T t l ≡ false →
    outline (stretches (add_at T (cut_of before t b m) l t)) ≡ outline (all_of before t)
unfolding is_apart add_at all_of
stays T before Empty b m l e = absurd (let x : ⊥ = cc in x)
stays T before (Over s) b m l e = absurd (let x : ⊥ = cc in x)
stays T before (Going s) b m l e = step_stays T before s b m l (step T s.kind s.first s.later l) (step_keeps T s.kind s.first s.later l) e

last_is : (before : List Stretch) (t : Tail) → IsWhole before t → last_mark None (outline (all_of before t)) ≡ tail_mark t
unfolding all_of last_mark
last_is before Empty w = ap (λ z. last_mark None (outline z)) w
last_is before (Going s) w = ap (last_mark None) (outline_push before s) ∙ last_of_push None (outline before) (s.begin, list_mark s.kind)
last_is before (Over s) w = ap (last_mark None) (outline_push before s) ∙ last_of_push None (outline before) (s.begin, list_mark s.kind)

-- ---- a line that may begin one

begun_cut : (T : List BlockLine → Tip) (c : Cut) (l : BlockLine) (blank : Bool) → is_apart T c.tail l ≡ true → is_blank_line l ≡ blank →
    add T c l ≡ begin_where blank T c l
begun_cut T c l blank a b = apart_begins T c l c.tail a ∙ ap (λ z. begin_where z T c l) b

pub begin_none : (T : List BlockLine → Tip) (c : Cut) (l : BlockLine) → outline (stretches (begin_where true T c l)) ≡ outline (stretches c)
unfolding begin_where
begin_none T c l = ended_outline c.before c.tail

pub begin_one : (T : List BlockLine → Tip) (c : Cut) (l : BlockLine) →
    outline (stretches (begin_where false T c l)) ≡ outline (stretches c) ++ (c.lines, list_mark (begun l)) ∷ []
unfolding begin_where
begin_one T c l = tail_outline (stretches c) (is_single (begun l) l) (first_of c.lines (gap_behind T c) l)

-- a blank line begins none, another one that is apart does
pub blank_outline : (T : List BlockLine → Tip) (c : Cut) (l : BlockLine) → is_apart T c.tail l ≡ true → is_blank_line l ≡ true →
    outline (stretches (add T c l)) ≡ outline (stretches c)
blank_outline T c l a b = ap (λ (z : Cut). outline (stretches z)) (begun_cut T c l true a b) ∙ begin_none T c l

pub begun_outline : (T : List BlockLine → Tip) (c : Cut) (l : BlockLine) → is_apart T c.tail l ≡ true → is_blank_line l ≡ false →
    outline (stretches (add T c l)) ≡ outline (stretches c) ++ (c.lines, list_mark (begun l)) ∷ []
begun_outline T c l a b = ap (λ (z : Cut). outline (stretches z)) (begun_cut T c l false a b) ∙ begin_one T c l

pub same_as_last : (before : List Stretch) (t : Tail) (m : Option ListKind) (same : Bool) → IsWhole before t → same_mark (tail_mark t) m ≡ same →
    same_mark (last_mark None (outline (all_of before t))) m ≡ same
same_as_last before t m same w s = ap (λ z. same_mark z m) (last_is before t w) ∙ s
