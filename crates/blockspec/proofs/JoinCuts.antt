-- Whether a line begins a later item is told by the lines from the last unit's first line on: what stands before that unit does not matter.
use Rattle.std.proofs.Common.{◌≡◌, ℕ, suc, ◌<◌, Bool, true, false, not, ◌&&◌, List, [], ◌∷◌, ◌++◌, length, map, refl, sym, ◌∙◌, ap, arith}
use Rattle.std.proofs.lemmas.List.{map-append}
use Rattle.std.specs.List.{All}
use Rattle.std.proofs.lemmas.List.Elements.{All-nil, All-cons}
use Rattle.mdtext.specs.EntityTable.{EntityTable}
use Rattle.blockspec.specs.BlockLine.{BlockLine, document_line}
use Rattle.blockspec.specs.BlankLines.{is_blank_line}
use Rattle.blockspec.specs.BlockStart.{begun}
use Rattle.blockspec.specs.BlockUnits.{visible_in, depth_of}
use Rattle.blockspec.specs.Laziness.{Tip}
use Rattle.blockspec.specs.Meetings.{IsBeginning, joins_behind, joins_list}
use Rattle.blockspec.specs.Stretches.{Stretch, Tail, Empty, Going, Over, Cut, no_lines, stretches, gap_behind, cut_from, cut_by, cut_within, tip_within}
use Rattle.blockspec.specs.UnitBegin.{is_apart, list_mark, same_mark, tail_mark, begins_behind, begins_unit}
use Rattle.blockspec.proofs.CutLaws.{prepend, move, cut_from_append, meets}
use Rattle.blockspec.proofs.DepthLaws.{begins_deep}
use Rattle.blockspec.proofs.UnitLaws.{three_facts}
use Rattle.blockspec.proofs.VisibleLaws.{visible_append}
use Rattle.blockspec.proofs.JoinLines.{AreBelow, joins_in, joins_below, joins_deep}

-- blocks further on are the same for the line behind them
joins_moved : (T : List BlockLine → Tip) (os : List Stretch) (g : Bool) (k : ℕ) (before : List Stretch) (t : Tail) (blank : Bool) (n : ℕ) (l : BlockLine) →
    joins_behind T (prepend os (move g k before t blank n)) l ≡ joins_behind T (record { before = before; tail = t; blank = blank; lines = n }) l
unfolding joins_behind is_apart
joins_moved T os g k [] Empty blank n l = refl
joins_moved T os g k [] (Going s) blank n l = refl
joins_moved T os g k [] (Over s) blank n l = refl
joins_moved T os g k (b ∷ before) Empty blank n l = refl
joins_moved T os g k (b ∷ before) (Going s) blank n l = refl
joins_moved T os g k (b ∷ before) (Over s) blank n l = refl

joins_met : (T : List BlockLine → Tip) (xs : List BlockLine) (y : BlockLine) (ys : List BlockLine) (l : BlockLine) →
    is_apart T (cut_by T xs).tail y ≡ true → is_blank_line y ≡ false → joins_behind T (cut_by T (xs ++ y ∷ ys)) l ≡ joins_behind T (cut_by T (y ∷ ys)) l
joins_met T xs y ys l a b =
    let c : Cut = cut_by T xs in
    let c' : Cut = cut_by T (y ∷ ys) in
    ap (λ z. joins_behind T z l) (cut_from_append T no_lines xs (y ∷ ys) ∙ meets T c y ys a b)
    ∙ joins_moved T (stretches c) (gap_behind T c) c.lines c'.before c'.tail c'.blank c'.lines l

-- Behind lines of which one begins a unit, the lines from that one on tell it.
pub joins_cut : (xs : List BlockLine) (y : BlockLine) (ys : List BlockLine) (l : BlockLine) → begins_unit xs y ≡ true → joins_list (xs ++ y ∷ ys) l ≡ joins_list (y ∷ ys) l
unfolding begins_behind
joins_cut xs y ys l b =
    let all = xs ++ y ∷ ys in
    let d = suc (visible_in all) in
    let T = tip_within d in
    let t = (cut_by T xs).tail in
    let v = visible_append xs (y ∷ ys) in
    let w = three_facts (is_apart T t y) (is_blank_line y) (same_mark (tail_mark t) (list_mark (begun y))) (begins_deep d xs y (omega (arith, v)) ∙ b) in
    sym (joins_deep d all l (omega arith))
    ∙ joins_met T xs y ys l w.0 w.1
    ∙ joins_deep d (y ∷ ys) l (omega (arith, v))

never_both : (a b c : Bool) → (a && not b && not c) ≡ true → (a && not b && c) ≡ false
never_both true false false e = refl
never_both true false true e = absurd (let x : ⊥ = cc in x)
never_both true true c e = absurd (let x : ⊥ = cc in x)
never_both false b c e = refl

-- A line that begins a unit begins no later item.
pub no_join : (xs : List BlockLine) (l : BlockLine) → begins_unit xs l ≡ true → joins_list xs l ≡ false
unfolding begins_unit begins_behind joins_list joins_behind
no_join xs l b =
    let T = tip_within (depth_of xs) in
    let t = (cut_within (depth_of xs) xs).tail in
    never_both (is_apart T t l) (is_blank_line l) (same_mark (tail_mark t) (list_mark (begun l))) b

-- nor does the first line of all
pub first_no_join : (l : BlockLine) → joins_list [] l ≡ false
unfolding joins_list joins_behind cut_from is_apart
first_no_join l = go (is_blank_line l)
  where
    go : (b : Bool) → (true && not b && false) ≡ false
    go true = refl
    go false = refl

-- ---- the same of a document

pub document_joins_cut : (front : List (List ℕ)) (line : List ℕ) (middle : List (List ℕ)) (last : List ℕ) → IsBeginning front line →
    joins_list (map document_line (front ++ line ∷ middle)) (document_line last) ≡ joins_list (map document_line (line ∷ middle)) (document_line last)
document_joins_cut front line middle last b =
    ap (λ z. joins_list z (document_line last)) (map-append document_line front (line ∷ middle))
    ∙ joins_cut (map document_line front) (document_line line) (map document_line middle) (document_line last) b

all_below : (n : ℕ) (xs : List ℕ) → AreBelow n xs → All (λ j. j < n) xs
all_below n [] w = All-nil (λ j. j < n)
all_below n (x ∷ xs) w = All-cons (λ j. j < n) x xs w.0 (all_below n xs w.1)

pub all_joins_below : (e : EntityTable) (xs : List BlockLine) → All (λ j. j < length xs) (joins_in e xs)
all_joins_below e xs = all_below (length xs) (joins_in e xs) (joins_below e xs)
