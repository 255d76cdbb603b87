-- Later items of a list that is held, as the list's joins tell them.
use Rattle.std.proofs.Common.{◌≡◌, ℕ, zero, suc, ◌+◌, ◌<◌, ◌≤◌, true, false, ltb, List, length, map, drop, get_or, ap, arith, subst, sym, ◌∙◌}
use Rattle.std.specs.List.{All}
use Rattle.std.specs.List.Sorted.{IsPartitionPoint}
use Rattle.std.proofs.Math.ListN.{get_or-map}
use Rattle.std.proofs.lemmas.Bool.{ltb-false}
use Rattle.std.proofs.lemmas.List.{get_or-drop, get_or_default, length-drop, length-map}
use Rattle.std.proofs.lemmas.List.Elements.{All-from_get_or}
use Rattle.std.proofs.lemmas.Option.{unwrap_or-slice_get}
use Rattle.std.proofs.lemmas.Simd.{map-map}
use Rattle.blockspec.specs.ItemMarks.{ItemMark}
use Rattle.mdblock.specs.FoundLists.{join_mark}
use Rattle.mdblock.specs.declared.units.Join.{Join}
use Rattle.mdblock.specs.Spliced.{mark_at, no_mark}
use Rattle.mdview.specs.HeldLists.{item_line}

abbrev pub no_join : Join
no_join = record { line = 0; texts = 0; definitions = 0; loose = false }

pub joined_mark : (joins : List Join) (marks : List ItemMark) (k : ℕ) (d : Join) → map join_mark joins ≡ marks → k < length marks → mark_at marks k ≡ join_mark (get_or joins k d)
joined_mark joins marks k d is below =
    unwrap_or-slice_get marks k no_mark
    ∙ get_or_default marks k no_mark (join_mark d) below
    ∙ ap (λ ms. get_or ms k (join_mark d)) (sym is)
    ∙ get_or-map join_mark joins k d

-- the lines in which later items begin
pub item_lines : (joins : List Join) (marks : List ItemMark) → map join_mark joins ≡ marks → map item_line marks ≡ map (λ (j : Join). j.line) joins
item_lines joins marks is = ap (map item_line) (sym is) ∙ map-map item_line join_mark joins

-- the joins above a line stand in front of this place, and the others from it on
abbrev pub PartAt : List Join → (line place : ℕ) → Type 0
PartAt joins line place = IsPartitionPoint (λ (j : Join). ltb j.line line ≡ true) (λ (j : Join). ltb j.line line ≡ false) joins place

-- Items from there on begin in the line or below.
pub none_above : (joins : List Join) (marks : List ItemMark) (line place : ℕ) → map join_mark joins ≡ marks → PartAt joins line place
    → All (λ (begin : ℕ). line ≤ begin) (drop place (map item_line marks))
none_above joins marks line place is point =
    let lines : List ℕ = map (λ (j : Join). j.line) joins in
    subst (λ ls. All (λ (begin : ℕ). line ≤ begin) (drop place ls)) (sym (item_lines joins marks is))
    (All-from_get_or (λ (begin : ℕ). line ≤ begin) (drop place lines) 0
    (λ i below.
    let many = length-map joins (λ (j : Join). j.line) in
    let left = length-drop place lines in
    let inside : place + i < length joins = omega (arith, below, left, many) in
    let low : line ≤ (get_or joins (place + i) no_join).line = ltb-false _ _ (point.1 (place + i) no_join (omega arith) inside) in
    let at : get_or lines (place + i) 0 ≡ (get_or joins (place + i) no_join).line = get_or-map (λ (j : Join). j.line) joins (place + i) no_join in
    let here = get_or-drop place lines i 0 in
    omega (arith, low, at, here)))

-- Where none stands in front of it all do.
pub all_below : (joins : List Join) (marks : List ItemMark) (line place : ℕ) → (1 ≤ place → ⊥) → map join_mark joins ≡ marks → PartAt joins line place
    → All (λ (begin : ℕ). line ≤ begin) (map item_line marks)
all_below joins marks line zero none is point = none_above joins marks line zero is point
all_below joins marks line (suc place) none is point = absurd (none (omega arith))
