-- The lines that a held unit stands for, by its number.
use Rattle.std.proofs.Common.{◌≡◌, ℕ, ◌+◌, ◌<◌, Some, List, length, map, take, drop, ap, ◌∙◌, sym, subst, arith, option_map}
use Rattle.std.specs.Prelude.{slice_get, sum_by}
use Rattle.std.specs.List.{take-map}
use Rattle.std.proofs.lemmas.List.{drop-drop, length-map}
use Rattle.std.proofs.lemmas.List.Folds.{fold-map}
use Rattle.std.proofs.lemmas.Option.{slice_get-map}
use Rattle.mdtext.specs.EntityTable.{EntityTable}
use Rattle.blockspec.specs.BlockUnits.{begins}
use Rattle.mdblock.specs.FoundLists.{FoundList, StandsForUnit}
use Rattle.mdview.specs.HeldBlocks.{HoldsUnits, lines_in}
use Rattle.mdview.specs.HeldLists.{StandForUnits, list_in}
use Rattle.mdview.specs.HeldUnit.{HeldUnit, read_of}
use Rattle.mdview.proofs.EditPlaces.{begin_behind}
use Rattle.mdview.proofs.HeldTiles.{lists_read}
use Rattle.mdview.proofs.ListsStand.{all_lines, stands_in}
use Rattle.mdview.proofs.UnitSizes.{lines_before}

lists_before : (held : List HeldUnit) (i : ℕ) → all_lines (take i (map list_in held)) ≡ sum_by lines_in (take i held)
lists_before held i = ap all_lines (take-map list_in i held) ∙ fold-map (λ n (f : FoundList). n + f.lines) list_in 0 (take i held)

-- they stand behind those of all units before it
pub stands_at : (e : EntityTable) (lines : List (List ℕ)) (head : ℕ) (held : List HeldUnit) (i : ℕ) (u : HeldUnit) → HoldsUnits e lines head (map read_of held) → slice_get held i ≡ Some u
    → StandsForUnit e (list_in u) (take u.read.lines (drop (head + sum_by lines_in (take i held)) lines))
stands_at e lines head held i u w at =
    subst (λ ls. StandsForUnit e (list_in u) (take u.read.lines ls)) (drop-drop (all_lines (take i (map list_in held))) head lines ∙ ap (λ n. drop (head + n) lines) (lists_before held i))
    (stands_in e (map list_in held) (drop head lines) i (list_in u) (slice_get-map list_in held i ∙ ap (option_map list_in) at) (subst (λ fs. StandForUnits e fs (drop head lines)) (lists_read held) w.stands))

pub begin_of_held : (e : EntityTable) (lines : List (List ℕ)) (head : ℕ) (held : List HeldUnit) (i : ℕ) → HoldsUnits e lines head (map read_of held) → i < length held
    → slice_get (begins e lines) i ≡ Some (head + sum_by lines_in (take i held))
begin_of_held e lines head held i w below =
    let many = length-map held read_of in
    begin_behind e lines head (map read_of held) i w (omega (arith, below, many)) ∙ ap (λ n. Some (head + n)) (sym (lines_before held i))
