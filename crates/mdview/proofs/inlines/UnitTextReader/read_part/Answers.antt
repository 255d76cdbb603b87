use Rattle.std.proofs.Common.{◌≡◌, ◌≤◌, ◌+◌, Err, arith, ap, drop, length, map, string_bytes, take, ◌∙◌, sym}
use Rattle.std.proofs.lemmas.List.{length-map, length-take, take-map}
use Rattle.mdsource.specs.Refusals.{is_deep}
use Rattle.mdsource.specs.View.{reading_of}
use Rattle.mdview.specs.HeldTexts.{entities_in, labels_before}
use Rattle.mdview.specs.TextSetting.{asking, reading_as, texts_under}
use Rattle.mdview.proofs.AlikeUnits.{take_within}
use Rattle.mdview.proofs.KeptTexts.{behind_passes, both_parts, front_passes, neither_passes, part_is}
use Rattle.mdview.proofs.ToldTexts.{told_deep, told_shallow}
use Rattle.mdview.proofs.inlines.UnitTextReader.read_part.Given.{Over}
use Rattle.mdview.proofs.inlines.UnitTextReader.read_part.Goals.{After-read_concerned}
use Rattle.mdview.proofs.inlines.UnitTextReader.read_part.Goals as goal

pub returns-in_err-same-clause-deep : goal.returns-in_err-same-clause-deep
returns-in_err-same-clause-deep g c =
    let s = texts_under c.args.self.now c.args.room.now in
    told_deep c.from_residual-in_err-same.result _ _ c.from_residual-in_err-same.ensures.1
    (λ too. front_passes (reading_as s) c.texts-texts.result.now c.args.unit.now.texts c.texts-texts.ensures c.args.kept.at (is_deep s.options.max_spans)
    (c.in_err-same.ensures.readings.1.1 (ap Err too)))

pub read_concerned-requires : goal.read_concerned-requires
read_concerned-requires g c =
    let read = reading_of (entities_in c.args.room.now) (labels_before c.args.self.now) in
    let part = part_is read c.texts-texts.result.now c.args.unit.now.texts c.texts-texts.ensures c.args.kept.at in
    rw c.read_alike.ensures.stays.0 (record { held = (c.requires.kept.readings ∙ ap (map read) part, c.requires.kept.shallow) })

pub returns-in_err-read_concerned-clause-deep : goal.returns-in_err-read_concerned-clause-deep
returns-in_err-read_concerned-clause-deep g c =
    let s = texts_under c.args.self.now c.args.room.now in
    told_deep c.from_residual-in_err-read_concerned.result _ _ c.from_residual-in_err-read_concerned.ensures.1
    (λ too. behind_passes (reading_as s) c.texts-texts.result.now c.args.unit.now.texts c.texts-texts.ensures c.args.kept.at (is_deep s.options.max_spans)
    (rw c.read_alike.ensures.stays.0 at (c.in_err-read_concerned.ensures.readings.1.1 (ap Err too))))

-- how many texts are read, at most
inlines_within : (g : Over) (c : After-read_concerned g) → g.C.Count.inlines c.read_concerned.new.count ≤ g.C.Count.inlines c.args.count.now
    + (c.args.kept.at + asking (texts_under c.args.self.now c.args.room.now) (drop c.args.kept.at c.args.unit.now.texts))
inlines_within g c =
    let texts = c.texts-texts.result.now in
    let read = reading_of (entities_in c.args.room.now) (labels_before c.args.self.now) in
    let part = part_is read texts c.args.unit.now.texts c.texts-texts.ensures c.args.kept.at in
    let asked = rw (c.read_alike.ensures.stays.0, ← part) at c.read_concerned.ensures.inlines in
    let size = length-take c.args.kept.at texts in
    grind (arith, asked, c.read_alike.ensures.inlines, size)

pub returns-in_err-read_concerned-clause-inlines : goal.returns-in_err-read_concerned-clause-inlines
returns-in_err-read_concerned-clause-inlines g c = inlines_within g (goal.at.returns-in_err-read_concerned-clause-inlines g c).After-read_concerned

pub returns-clause-inlines : goal.returns-clause-inlines
returns-clause-inlines g c = inlines_within g (goal.at.returns-clause-inlines g c).After-read_concerned

pub returns-clause-readings : goal.returns-clause-readings
returns-clause-readings g c =
    let s = texts_under c.args.self.now c.args.room.now in
    let are = rw (c.in_ok-same.ensures.readings.0, c.in_ok-inlines.ensures.items, c.read_alike.ensures.stays.0) at c.in_ok-read_concerned.ensures.readings.0
    ∙ both_parts (reading_as s) c.texts-texts.result.now c.args.unit.now.texts c.texts-texts.ensures c.args.kept.at in
    record { all = ap length are ∙ length-map c.args.unit.now.texts (reading_as s); are = are }

pub returns-clause-deep : goal.returns-clause-deep
returns-clause-deep g c =
    let s = texts_under c.args.self.now c.args.room.now in
    told_shallow _ _
    (neither_passes (reading_as s) c.texts-texts.result.now c.args.unit.now.texts c.texts-texts.ensures c.args.kept.at (is_deep s.options.max_spans)
    c.in_ok-same.ensures.readings.1.0 (rw c.read_alike.ensures.stays.0 at c.in_ok-read_concerned.ensures.readings.1.0))

pub returns-clause-front : goal.returns-clause-front
returns-clause-front g c =
    let texts = c.texts-texts.result.now in
    let at = c.args.kept.at in
    let same = c.in_ok-same.same in
    let low = c.in_ok-same.ensures.front.0 in
    let size = length-take at texts in
    let bytes : map string_bytes texts ≡ c.args.unit.now.texts = c.texts-texts.ensures in
    let count : length texts ≡ length c.args.unit.now.texts = sym (length-map texts string_bytes) ∙ ap length bytes in
    let within : same ≤ at = omega (arith, low, size) in (
      omega (arith, low, size, count),
      ap (take same) (sym bytes) ∙ sym (take_within same at (map string_bytes texts) within) ∙ ap (take same) (take-map string_bytes at texts) ∙ c.in_ok-same.ensures.front.1,
    )
