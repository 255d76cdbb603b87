use Rattle.std.proofs.Common.{◌≡◌, ◌-◌, ◌++◌, ◌∷◌, [], Some, Err, ap, arith, map, option_map, slice_get, sym, ◌∙◌}
use Rattle.std.proofs.lemmas.List.{map-append}
use Rattle.mdblock.specs.FoundLists.{found_unit}
use Rattle.mdblock.specs.Seams.{seam_list}
use Rattle.mdsource.specs.TextFaults.{IsTextFault}
use Rattle.mdview.specs.HeldTexts.{line_on}
use Rattle.mdview.specs.TextSetting.{deep_place, texts_under}
use Rattle.mdview.proofs.BroughtUnits.{read_joined, some_of}
use Rattle.mdview.proofs.KeptTexts.{fault_before, fault_last, none_deep_found, none_mapped}
use Rattle.mdview.proofs.PutUnits.{got}
use Rattle.mdview.proofs.ReadParts.{returned}
use Rattle.mdview.proofs.ToldTexts.{on_err}
use Rattle.mdview.proofs.inlines.UnitTextReader.read_joined.Goals as goal

pub returns-in_err-units-clause-deep : goal.returns-in_err-units-clause-deep
returns-in_err-units-clause-deep g c =
    let s = texts_under c.args.self.now c.args.room.now in
    let front = map found_unit c.args.found.items in
    let last = found_unit (seam_list c.args.list) in
    let fault = c.in_err-units.field-0.0 in
    rw (map-append found_unit c.args.found.items (seam_list c.args.list ∷ [])) (
      on_err _ c.from_residual.result _ c.from_residual.ensures.1,
      returned c.from_residual.result fault (IsTextFault (option_map (line_on c.args.from) (deep_place s (front ++ last ∷ []))))
          c.from_residual.ensures.1 (fault_before s.options.max_spans s.entities s.behind front last c.args.from fault c.in_err-units.ensures.deep.1),
    )

pub unwrap-unit-requires : goal.unwrap-unit-requires
unwrap-unit-requires g c =
    let place = c.requires.place in
    let one = got c.args.held.now.items (c.args.next - 1) (omega (arith, place.0, place.1)) in
    some_of _ c.get.result one.0 (c.get.ensures ∙ one.1)

pub returns-in-Err-clause-deep : goal.returns-in-Err-clause-deep
returns-in-Err-clause-deep g c =
    let s = texts_under c.args.self.now c.args.room.now in
    rw (map-append found_unit c.args.found.items (seam_list c.args.list ∷ []), c.fault_in_unit.ensures, c.saturating_add-begin.ensures, c.begin.ensures) (
      tt,
      fault_last s.options.max_spans s.entities s.behind
          (map found_unit c.args.found.items) (found_unit (seam_list c.args.list)) c.args.from c.in-Err.fault (none_mapped _ _ c.in_ok-units.ensures.deep.0)
          (λ is. rw c.read_units.ensures.stays.0 at (c.in-Err.ensures.deep.1 (ap Err is))),
    )

pub returns-in_ok-with_joined-in-Ok-clause-deep : goal.returns-in_ok-with_joined-in-Ok-clause-deep
returns-in_ok-with_joined-in-Ok-clause-deep g c =
    let s = texts_under c.args.self.now c.args.room.now in
    rw (map-append found_unit c.args.found.items (seam_list c.args.list ∷ [])) (
      ap (option_map (line_on c.args.from)) (none_deep_found s.options.max_spans s.entities s.behind
          (map found_unit c.args.found.items) (found_unit (seam_list c.args.list)) (none_mapped _ _ c.in_ok-units.ensures.deep.0)
          (rw c.read_units.ensures.stays.0 at c.in-Ok.ensures.deep.0)),
      tt,
    )

pub returns-in_ok-with_joined-in-Ok-clause-units : goal.returns-in_ok-with_joined-in-Ok-clause-units
returns-in_ok-with_joined-in-Ok-clause-units g c =
    let is : slice_get c.args.held.now.items (c.args.next - 1) ≡ Some c.unwrap-unit.result.now = sym c.get.ensures ∙ ap (option_map _) c.unwrap-unit.ensures in
    read_joined (texts_under c.args.self.now c.args.room.now) c.args.held.now.items c.args.found.items c.args.list c.in_ok-units.units.items (c.args.next - 1) c.unwrap-unit.result.now is
    c.in-Ok.joined c.in_ok-with_joined-in-Ok.field-0 c.in_ok-units.ensures.units (rw c.read_units.ensures.stays.0 at c.in-Ok.ensures.unit) c.in_ok-with_joined-in-Ok.ensures
