-- A text has no more units than a number can tell.
use Rattle.std.proofs.Common.{◌≡◌, ℕ, ◌+◌, ◌-◌, ◌^◌, ◌<◌, ◌≤◌, List, [], ◌∷◌, drop, length, map, take, ap, ◌∙◌, sym, arith}
use Rattle.std.specs.List.{All}
use Rattle.std.proofs.lemmas.List.{length-drop, length-map, length-take}
use Rattle.std.proofs.lemmas.List.Elements.{All-head, All-tail}
use Rattle.mdtext.specs.EntityTable.{EntityTable}
use Rattle.blockspec.specs.BlockUnits.{begins, units}
use Rattle.blockspec.specs.UnitTree.{FoundUnit}
use Rattle.mdsource.specs.Stretch.{from_line, meeting_line}
use Rattle.mdsource.specs.UnitTiles.{tile_of}
use Rattle.mdsource.proofs.StretchReadings.{Ascends, begins_ascend}
use Rattle.mdsource.proofs.Cuts.{begins_within}
use Rattle.mdsource.proofs.UnitPlaces.{small_begins}
use Rattle.mdview.specs.HeldBlocks.{HoldsUnits, IsReplacing, places_of, tile_in}
use Rattle.mdview.specs.HeldUnit.{HeldUnit, read_of}
use Rattle.mdview.specs.NewText.{lines_of as new_lines}
use Rattle.mdview.specs.Update.{units_brought}
use Rattle.mdview.specs.declared.source.new_text.NewText.{NewText}
use Rattle.mdview.specs.declared.update.Update.{Update}
use Rattle.mdview.proofs.EditPlaces.{begins_many}

-- of numbers that ascend above one and below another there are no more than between them
above_few : (xs : List ℕ) (low far : ℕ) → Ascends xs → All (λ y. low < y) xs → All (λ y. y < far) xs → length xs ≤ far - (low + 1)
above_few [] low far h above below = omega arith
above_few (x ∷ xs) low far h above below =
    let rest = above_few xs x far h.1 h.0 (All-tail (λ y. y < far) x xs below) in
    let a = All-head (λ y. low < y) x xs above in
    let b = All-head (λ y. y < far) x xs below in
    omega (arith, rest, a, b)

ascending_few : (xs : List ℕ) (far : ℕ) → Ascends xs → All (λ y. y < far) xs → length xs ≤ far
ascending_few [] far h below = omega arith
ascending_few (x ∷ xs) far h below =
    let rest = above_few xs x far h.1 h.0 (All-tail (λ y. y < far) x xs below) in
    let b = All-head (λ y. y < far) x xs below in
    omega (arith, rest, b)

pub few_units : (e : EntityTable) (lines : List (List ℕ)) (head : ℕ) (held : List HeldUnit) → HoldsUnits e lines head (map read_of held) → length lines ≤ 1000000 → length held < 2 ^ 64
few_units e lines head held w few =
    let many = begins_many e lines head held w in
    let few = ascending_few (begins e lines) (2 ^ 64 - 1) (begins_ascend e lines) (small_begins e lines few) in
    omega (arith, many, few)

-- lines have no more units than there are lines
begins_few : (e : EntityTable) (lines : List (List ℕ)) → length (begins e lines) ≤ length lines
begins_few e lines = ascending_few (begins e lines) (length lines) (begins_ascend e lines) (begins_within e lines)

pub held_few : (e : EntityTable) (lines : List (List ℕ)) (head : ℕ) (held : List HeldUnit) → HoldsUnits e lines head (map read_of held) → length held ≤ length lines
held_few e lines head held w = let many = begins_many e lines head held w in let few = begins_few e lines in omega (arith, many, few)

-- nor do more units come
pub come_few : (e : EntityTable) (held : List HeldUnit) (text : NewText) (update : Update) → IsReplacing e held text update → length (units_brought held update) ≤ length (new_lines text)
come_few e held text update w =
    let p = places_of e text in
    let part = take (meeting_line p) (new_lines text) in
    let lines = drop (from_line p) part in
    let all : length (units_brought held update) ≡ length (units e lines) =
    sym (length-map (units_brought held update) read_of) ∙ sym (length-map (map read_of (units_brought held update)) tile_in) ∙ ap (λ z. length z) w.units ∙ length-map (units e lines) tile_of in
    let many = length-map (units e lines) (λ (f : FoundUnit). f.begin) in
    let few = begins_few e lines in
    let behind = length-drop (from_line p) part in
    let front = length-take (meeting_line p) (new_lines text) in
    grind (arith, all, many, few, behind, front)
