use Rattle.std.proofs.Common.{◌∙◌, sym}
use Rattle.mdview.specs.TextSetting.{texts_under}
use Rattle.mdview.proofs.Concerns.{concerned}
use Rattle.mdview.proofs.ToldTexts.{reads_on, told_shallow}
use Rattle.mdview.proofs.inlines.UnitTextReader.keep_one.Goals as goal

pub returns-clause-reading : goal.returns-clause-reading
returns-clause-reading g c =
    let asks = concerned c.args.self.now c.args.self.now.elsewhere c.args.held.now c.asked.result.now c.concern.result c.asked.ensures c.concern.ensures in
    let reads = reads_on (texts_under c.args.self.now c.args.room.now) c.args.text.now c.args.held.now c.requires.held (sym asks ∙ c.if-concern.false) in
    (c.in_ok-copy.ensures ∙ reads.0, told_shallow _ _ reads.1)
