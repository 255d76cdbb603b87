use Rattle.std.proofs.Common.{◌≡◌, ◌≤◌, ◌+◌, ◌-◌, Err, arith, ap, map, string_bytes, take, ◌∙◌}
use Rattle.blockspec.specs.UnitTree.{UnitTree}
use Rattle.mdblock.specs.FoundLists.{FoundList}
use Rattle.mdblock.specs.Fronted.{texts_staying}
use Rattle.mdview.specs.HeldTexts.{entities_in}
use Rattle.mdview.specs.JoinedLists.{texts_in_front}
use Rattle.mdview.specs.TextSetting.{readings_as, texts_under}
use Rattle.mdview.proofs.JoinedLists.{between_is, held_stays, none_deep, part_of, part_size, some_deep}
use Rattle.mdview.proofs.ToldTexts.{shallow_readings, told_deep, told_shallow}
use Rattle.mdview.proofs.inlines.UnitTextReader.read_between.Given.{Over}
use Rattle.mdview.proofs.inlines.UnitTextReader.read_between.Goals.{After-read_alike}
use Rattle.mdview.proofs.inlines.UnitTextReader.read_between.Goals as goal

stays : (g : Over) (c : After-read_alike g) → c.args.held.now.read.readings ≡ readings_as (texts_under c.args.self.now c.args.room.now) c.args.held.now.read.unit.texts
stays g c = held_stays c.args.self.now c.args.self.now.elsewhere c.requires.none (entities_in c.args.room.now) c.args.held.now c.requires.goes.read.read

part_is : (g : Over) (c : After-read_alike g) → map string_bytes c.first_of-texts.result.now ≡ take (texts_in_front c.args.seam.now - texts_staying c.args.seam.now.base) c.args.seam.now.part.unit.texts
part_is g c =
    part_of (texts_under c.args.self.now c.args.room.now) c.args.seam.now c.args.held.now c.requires.goes c.texts_read.result c.texts.result.now c.first_of-texts.result.now c.first_of-texts.ensures
    (c.texts.ensures ∙ ap (λ (z : UnitTree). z.texts) (c.unit.ensures ∙ ap (λ (z : FoundList). z.unit) c.part.ensures))
    c.texts_read.ensures

inlines_within : (g : Over) (c : After-read_alike g) → g.C.Count.inlines c.read_alike.new.count ≤ g.C.Count.inlines c.args.count.now + (texts_in_front c.args.seam.now - texts_staying c.args.seam.now.base)
inlines_within g c =
    let size = part_size (texts_under c.args.self.now c.args.room.now) c.args.seam.now c.args.held.now c.requires.goes (stays g c) c.first_of-texts.result.now (part_is g c) in
    let low = c.read_alike.ensures.inlines in
    omega (arith, low, size)

pub returns-in_err-read_alike-clause-deep : goal.returns-in_err-read_alike-clause-deep
returns-in_err-read_alike-clause-deep g c =
    let a = (goal.at.returns-in_err-read_alike-clause-deep g c).After-read_alike in
    told_deep c.from_residual-in_err-read_alike.result _ _ c.from_residual-in_err-read_alike.ensures.1
    (λ too. some_deep (texts_under c.args.self.now c.args.room.now) c.args.seam.now c.args.held.now c.requires.goes (stays g a) c.first_of-texts.result.now (part_is g a) (c.in_err-read_alike.ensures.readings.1.1 (ap Err too)))

pub returns-in_err-read_alike-clause-inlines : goal.returns-in_err-read_alike-clause-inlines
returns-in_err-read_alike-clause-inlines g c = inlines_within g (goal.at.returns-in_err-read_alike-clause-inlines g c).After-read_alike

pub returns-clause-inlines : goal.returns-clause-inlines
returns-clause-inlines g c = inlines_within g (goal.at.returns-clause-inlines g c).After-read_alike

pub returns-clause-deep : goal.returns-clause-deep
returns-clause-deep g c =
    let a = (goal.at.returns-clause-deep g c).After-read_alike in
    let s = texts_under c.args.self.now c.args.room.now in
    told_shallow _ _
    (none_deep s c.args.seam.now c.args.held.now c.requires.goes (stays g a) c.first_of-texts.result.now (part_is g a) c.in_ok-read_alike.ensures.readings.1.0 (shallow_readings s c.args.held.now c.requires.goes.read))

pub returns-clause-between : goal.returns-clause-between
returns-clause-between g c =
    let a = (goal.at.returns-clause-between g c).After-read_alike in
    let s = texts_under c.args.self.now c.args.room.now in
    between_is s c.args.seam.now c.args.held.now c.requires.goes (stays g a) c.first_of-texts.result.now (part_is g a) c.read_alike.new.inlines.items
    (rw c.in_ok-inlines.ensures.items at c.in_ok-read_alike.ensures.readings.0)
