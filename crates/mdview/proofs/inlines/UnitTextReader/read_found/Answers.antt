use Rattle.std.proofs.Common.{◌≡◌, ◌+◌, ◌++◌, ◌∷◌, [], Option, Some, Err, ap, arith, drop, map, option_map, subst, ◌∙◌}
use Rattle.std.proofs.lemmas.Result.{IfOk-from_err}
use Rattle.std.specs.Prelude.{IfSome}
use Rattle.std.specs.List.{sum_by}
use Rattle.std.proofs.lemmas.List.{map-append}
use Rattle.blockspec.specs.UnitTree.{FoundUnit}
use Rattle.mdblock.specs.FoundLists.{found_unit}
use Rattle.mdsource.specs.TextFaults.{IsTextFault}
use Rattle.mdsource.specs.UnitTexts.{trees_in}
use Rattle.mdview.specs.HeldTexts.{line_on}
use Rattle.mdview.specs.HeldUnit.{texts_in}
use Rattle.mdview.specs.KeptTexts.{last_texts, number_read}
use Rattle.mdview.specs.TextSetting.{DidReadLast, asking, deep_place, texts_beside, texts_under}
use Rattle.mdview.specs.declared.inlines.kept_texts.KeptReadings.{KeptReadings}
use Rattle.mdview.proofs.KeptTexts.{fault_before, fault_last, last_pushed, last_with_kept, none_deep_found, none_mapped}
use Rattle.mdview.proofs.ReadParts.{returned}
use Rattle.mdview.proofs.ToldTexts.{on_err, read_behind}
use Rattle.mdview.proofs.inlines.UnitTextReader.read_found.Given.{Over}
use Rattle.mdview.proofs.inlines.UnitTextReader.read_found.Goals.{In-Some-pop}
use Rattle.mdview.proofs.inlines.UnitTextReader.read_found.Goals as goal

-- the last of the units found, and those in front of it
parted : (g : Over) (c : In-Some-pop g) → map found_unit c.args.found.items ≡ map found_unit c.pop.new.self.items ++ found_unit c.in-Some-pop.last ∷ []
parted g c = ap (map found_unit) c.in-Some-pop.ensures.items ∙ map-append found_unit c.pop.new.self.items (c.in-Some-pop.last ∷ [])

-- the texts of the last one were read so
did_last : (g : Over) (c : In-Some-pop g) → DidReadLast (texts_under c.args.self.now c.args.room.now) c.in-Some-pop.last.unit.texts c.in-Some.kept
did_last g c =
    let s = texts_under c.args.self.now c.args.room.now in
    let front = map found_unit c.pop.new.self.items in
    let last = found_unit c.in-Some-pop.last in
    let texts : last_texts (trees_in (map found_unit c.args.found.items)) ≡ last.unit.texts = ap (λ us. last_texts (trees_in us)) (parted g c)
    ∙ ap last_texts (map-append (λ (one : FoundUnit). one.unit) front (last ∷ [])) ∙ last_pushed (trees_in front) last.unit in
    subst (λ ts. DidReadLast s ts c.in-Some.kept) texts
    (subst (λ (z : Option KeptReadings). IfSome z (DidReadLast s (last_texts (trees_in (map found_unit c.args.found.items))))) c.in-Some.is c.requires.kept)

-- how many texts are read, at most: those of the units in front, and of the last one
few_is : (g : Over) (c : In-Some-pop g)
    → texts_beside (texts_under c.args.self.now c.args.room.now) (option_map number_read c.args.kept) (trees_in (map found_unit c.args.found.items))
    ≡ sum_by texts_in (trees_in (map found_unit c.pop.new.self.items))
    + (c.in-Some.kept.at + asking (texts_under c.args.self.now c.args.room.now) (drop c.in-Some.kept.at c.in-Some-pop.last.unit.texts))
few_is g c =
    let s = texts_under c.args.self.now c.args.room.now in
    let front = map found_unit c.pop.new.self.items in
    let last = found_unit c.in-Some-pop.last in
    let kept = c.in-Some.kept in
    let did = did_last g c in
    ap (λ (z : Option KeptReadings). texts_beside s (option_map number_read z) (trees_in (map found_unit c.args.found.items))) c.in-Some.is
    ∙ ap (λ us. texts_beside s (Some kept.at) (trees_in us)) (parted g c)
    ∙ ap (texts_beside s (Some kept.at)) (map-append (λ (one : FoundUnit). one.unit) front (last ∷ []))
    ∙ last_with_kept s.entities s.before s.behind (trees_in front) last.unit kept.at did.readings.at

pub returns-in_err-units-clause-units : goal.returns-in_err-units-clause-units
returns-in_err-units-clause-units g c = IfOk-from_err c.from_residual.result _ c.from_residual.ensures.0

pub returns-in_err-units-clause-stays : goal.returns-in_err-units-clause-stays
returns-in_err-units-clause-stays g c = c.read_units-2.ensures.stays

pub returns-in_err-units-clause-inlines : goal.returns-in_err-units-clause-inlines
returns-in_err-units-clause-inlines g c =
    let few = few_is g (goal.at.returns-in_err-units-clause-inlines g c).In-Some-pop in
    omega (arith, c.read_units-2.ensures.inlines, few)

pub read_last-requires : goal.read_last-requires
read_last-requires g c = rw c.read_units-2.ensures.stays.0 (record { kept = did_last g (goal.at.read_last-requires g c).In-Some-pop })

pub returns-in_err-units-clause-deep : goal.returns-in_err-units-clause-deep
returns-in_err-units-clause-deep g c =
    let s = texts_under c.args.self.now c.args.room.now in
    let front = map found_unit c.pop.new.self.items in
    let last = found_unit c.in-Some-pop.last in
    let fault = c.in_err-units.field-0.0 in
    rw (parted g (goal.at.returns-in_err-units-clause-deep g c).In-Some-pop) (
      on_err _ c.from_residual.result _ c.from_residual.ensures.1,
      returned c.from_residual.result fault (IsTextFault (option_map (line_on c.args.from) (deep_place s (front ++ last ∷ []))))
          c.from_residual.ensures.1 (fault_before s.options.max_spans s.entities s.behind front last c.args.from fault c.in_err-units.ensures.deep.1),
    )

pub returns-in-Err-clause-deep : goal.returns-in-Err-clause-deep
returns-in-Err-clause-deep g c =
    let s = texts_under c.args.self.now c.args.room.now in
    rw (parted g (goal.at.returns-in-Err-clause-deep g c).In-Some-pop, c.fault_in_unit.ensures, c.saturating_add-begin.ensures, c.begin.ensures) (
      tt,
      fault_last s.options.max_spans s.entities s.behind
          (map found_unit c.pop.new.self.items) (found_unit c.in-Some-pop.last) c.args.from c.in-Err.fault (none_mapped _ _ c.in_ok-units.ensures.deep.0)
          (λ is. rw c.read_units-2.ensures.stays.0 at (c.in-Err.ensures.deep.1 (ap Err is))),
    )

pub returns-clause-units : goal.returns-clause-units
returns-clause-units g c =
    let one = rw c.read_units-2.ensures.stays.0 at c.in-Ok.ensures.unit in
    rw (c.in-Some-pop.ensures.items, c.in_ok-push-in-Ok.ensures.items)
    (read_behind _ c.pop.new.self.items c.in-Some-pop.last c.in_ok-units.units.items c.in-Ok.unit c.in_ok-units.ensures.units one)

pub returns-clause-deep : goal.returns-clause-deep
returns-clause-deep g c =
    let s = texts_under c.args.self.now c.args.room.now in
    rw (parted g (goal.at.returns-clause-deep g c).In-Some-pop) (
      ap (option_map (line_on c.args.from)) (none_deep_found s.options.max_spans s.entities s.behind
          (map found_unit c.pop.new.self.items) (found_unit c.in-Some-pop.last) (none_mapped _ _ c.in_ok-units.ensures.deep.0)
          (rw c.read_units-2.ensures.stays.0 at c.in-Ok.ensures.deep.0)),
      tt,
    )

pub returns-in_err-push-in-Ok-clause-stays : goal.returns-in_err-push-in-Ok-clause-stays
returns-in_err-push-in-Ok-clause-stays g c = (c.read_last.ensures.stays.0 ∙ c.read_units-2.ensures.stays.0, c.read_last.ensures.stays.1 ∙ c.read_units-2.ensures.stays.1)

pub returns-in_err-push-in-Ok-clause-inlines : goal.returns-in_err-push-in-Ok-clause-inlines
returns-in_err-push-in-Ok-clause-inlines g c =
    let few = few_is g (goal.at.returns-in_err-push-in-Ok-clause-inlines g c).In-Some-pop in
    let last = rw c.read_units-2.ensures.stays.0 at c.read_last.ensures.inlines in
    omega (arith, c.read_units-2.ensures.inlines, last, few)

pub returns-in-Err-clause-stays : goal.returns-in-Err-clause-stays
returns-in-Err-clause-stays g c = (c.read_last.ensures.stays.0 ∙ c.read_units-2.ensures.stays.0, c.read_last.ensures.stays.1 ∙ c.read_units-2.ensures.stays.1)

pub returns-in-Err-clause-inlines : goal.returns-in-Err-clause-inlines
returns-in-Err-clause-inlines g c =
    let few = few_is g (goal.at.returns-in-Err-clause-inlines g c).In-Some-pop in
    let last = rw c.read_units-2.ensures.stays.0 at c.read_last.ensures.inlines in
    omega (arith, c.read_units-2.ensures.inlines, last, few)

pub returns-clause-stays : goal.returns-clause-stays
returns-clause-stays g c = (c.read_last.ensures.stays.0 ∙ c.read_units-2.ensures.stays.0, c.read_last.ensures.stays.1 ∙ c.read_units-2.ensures.stays.1)

pub returns-clause-inlines : goal.returns-clause-inlines
returns-clause-inlines g c =
    let few = few_is g (goal.at.returns-clause-inlines g c).In-Some-pop in
    let last = rw c.read_units-2.ensures.stays.0 at c.read_last.ensures.inlines in
    omega (arith, c.read_units-2.ensures.inlines, last, few)
