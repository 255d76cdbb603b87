-- The first line of a container too many, before a line that begins a block and from it on.
use Rattle.std.proofs.Common.{◌≡◌, ℕ, zero, suc, ◌+◌, Bool, true, false, List, [], ◌∷◌, ◌++◌, length, map, Option, Some, None, refl, sym, ◌∙◌, ap, arith}
use Rattle.std.specs.Option.{option_or}
use Rattle.blockspec.specs.BlockLine.{BlockLine}
use Rattle.blockspec.specs.BlankLines.{is_blank_line}
use Rattle.blockspec.specs.BlockStart.{begun}
use Rattle.blockspec.specs.BlockUnits.{visible_in}
use Rattle.blockspec.specs.Nesting.{deep_at, first_deep, deep_within}
use Rattle.blockspec.specs.Stretches.{Stretch, Cut, stretches, gap_behind, cut_by, tip_within}
use Rattle.blockspec.specs.UnitBegin.{is_apart, list_mark, same_mark, tail_mark, begins_behind, begins_unit}
use Rattle.blockspec.proofs.CutLaws.{shift, shift_all}
use Rattle.blockspec.proofs.DepthLaws.{begins_deep}
use Rattle.blockspec.proofs.NestingLaws.{or_associates, moved_on, or_moved, stretch_deep, deep_in, deep_to, deep_agrees}
use Rattle.blockspec.proofs.UnitLaws.{stretches_meet, three_facts}
use Rattle.blockspec.proofs.VisibleLaws.{visible_append}

pub moved_twice : (a k : ℕ) (o : Option ℕ) → moved_on (a + k) o ≡ moved_on k (moved_on a o)
moved_twice a k None = refl
moved_twice a k (Some n) = let e : a + k + n ≡ k + (a + n) = omega arith in ap (λ z. Some z) e

both_deep : (D : List BlockLine → Option ℕ) (ss ts : List Stretch) → first_deep D (ss ++ ts) ≡ option_or (first_deep D ss) (first_deep D ts)
unfolding first_deep
both_deep D [] ts = refl
both_deep D (s ∷ ss) ts = ap (λ z. option_or (stretch_deep D s) z) (both_deep D ss ts) ∙ sym (or_associates (stretch_deep D s) (first_deep D ss) (first_deep D ts))

shift_deep : (D : List BlockLine → Option ℕ) (k : ℕ) (ss : List Stretch) → first_deep D (map (shift k) ss) ≡ moved_on k (first_deep D ss)
unfolding first_deep
shift_deep D k [] = refl
shift_deep D k (s ∷ ss) =
    ap (λ z. option_or z (first_deep D (map (shift k) ss))) (moved_twice s.begin k (deep_at D s.kind s.first s.later))
    ∙ ap (λ z. option_or (moved_on k (stretch_deep D s)) z) (shift_deep D k ss)
    ∙ sym (or_moved k (stretch_deep D s) (first_deep D ss))

all_deep : (D : List BlockLine → Option ℕ) (g : Bool) (k : ℕ) (ss : List Stretch) → first_deep D (shift_all g k ss) ≡ moved_on k (first_deep D ss)
unfolding first_deep
all_deep D g k [] = refl
all_deep D g k (s ∷ ss) =
    ap (λ z. option_or z (first_deep D (map (shift k) ss))) (moved_twice s.begin k (deep_at D s.kind s.first s.later))
    ∙ ap (λ z. option_or (moved_on k (stretch_deep D s)) z) (shift_deep D k ss)
    ∙ sym (or_moved k (stretch_deep D s) (first_deep D ss))

in_meets : (D : List BlockLine → Option ℕ) (d : ℕ) (xs : List BlockLine) (l : BlockLine) (ys : List BlockLine) →
    is_apart (tip_within d) (cut_by (tip_within d) xs).tail l ≡ true → is_blank_line l ≡ false →
    deep_in D d (xs ++ l ∷ ys) ≡ option_or (deep_in D d xs) (moved_on (length xs) (deep_in D d (l ∷ ys)))
in_meets D d xs l ys a b =
    let T = tip_within d in
    let c : Cut = cut_by T xs in
    let c' : Cut = cut_by T (l ∷ ys) in
    let gap = gap_behind T c in
    ap (first_deep D) (stretches_meet T xs l ys a b)
    ∙ both_deep D (stretches c) (shift_all gap (length xs) (stretches c'))
    ∙ ap (λ z. option_or (first_deep D (stretches c)) z) (all_deep D gap (length xs) (stretches c'))

to_meets : (d limit : ℕ) (xs : List BlockLine) (l : BlockLine) (ys : List BlockLine) →
    is_apart (tip_within d) (cut_by (tip_within d) xs).tail l ≡ true → is_blank_line l ≡ false →
    deep_to (suc d) limit (xs ++ l ∷ ys) ≡ option_or (deep_to (suc d) limit xs) (moved_on (length xs) (deep_to (suc d) limit (l ∷ ys)))
unfolding deep_to
to_meets d zero xs l ys a b = in_meets (λ inside. Some 0) d xs l ys a b
to_meets d (suc limit) xs l ys a b = in_meets (deep_to d limit) d xs l ys a b

-- Where a line goes on with nothing at a depth that all lines keep to, the first line too deep is that of the lines before it,
-- or else that of the lines from it on alone, so many lines further on.
pub deep_apart : (limit : ℕ) (xs : List BlockLine) (l : BlockLine) (ys : List BlockLine) →
    is_apart (tip_within (suc (visible_in (xs ++ l ∷ ys)))) (cut_by (tip_within (suc (visible_in (xs ++ l ∷ ys)))) xs).tail l ≡ true → is_blank_line l ≡ false →
    deep_within limit (xs ++ l ∷ ys) ≡ option_or (deep_within limit xs) (moved_on (length xs) (deep_within limit (l ∷ ys)))
deep_apart limit xs l ys a b =
    let all = xs ++ l ∷ ys in
    let d = suc (visible_in all) in
    let v = visible_append xs (l ∷ ys) in
    sym (deep_agrees (suc d) limit all (omega arith))
    ∙ to_meets d limit xs l ys a b
    ∙ ap (λ z. option_or z (moved_on (length xs) (deep_to (suc d) limit (l ∷ ys)))) (deep_agrees (suc d) limit xs (omega (arith, v)))
    ∙ ap (λ z. option_or (deep_within limit xs) (moved_on (length xs) z)) (deep_agrees (suc d) limit (l ∷ ys) (omega (arith, v)))

-- So it is where the line begins a unit.
pub deep_meets : (limit : ℕ) (xs : List BlockLine) (l : BlockLine) (ys : List BlockLine) → begins_unit xs l ≡ true →
    deep_within limit (xs ++ l ∷ ys) ≡ option_or (deep_within limit xs) (moved_on (length xs) (deep_within limit (l ∷ ys)))
unfolding begins_behind
deep_meets limit xs l ys b =
    let d = suc (visible_in (xs ++ l ∷ ys)) in
    let T = tip_within d in
    let t = (cut_by T xs).tail in
    let v = visible_append xs (l ∷ ys) in
    let w = three_facts (is_apart T t l) (is_blank_line l) (same_mark (tail_mark t) (list_mark (begun l))) (begins_deep d xs l (omega (arith, v)) ∙ b) in
    deep_apart limit xs l ys w.0 w.1
