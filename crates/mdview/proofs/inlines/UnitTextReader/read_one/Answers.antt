use Rattle.std.proofs.Common.{◌+◌, ◌≤◌, arith, ◌∙◌, sym}
use Rattle.mdview.specs.TextSetting.{texts_under}
use Rattle.mdview.proofs.Concerns.{concerned}
use Rattle.mdview.proofs.ToldTexts.{reads_on, told_shallow}
use Rattle.mdview.proofs.inlines.UnitTextReader.read_one.Goals as goal

pub returns-then-concern-clause-inlines : goal.returns-then-concern-clause-inlines
returns-then-concern-clause-inlines g c =
    let asks = concerned c.args.self.now c.args.self.now.elsewhere c.args.held.now c.asked.result.now c.concern.result c.asked.ensures c.concern.ensures in
    let once : g.C.Count.inlines c.read_text.new.count ≤ g.C.Count.inlines c.args.count.now + 1 = omega (arith, c.read_text.ensures.inlines) in
    rw (sym asks ∙ c.if-concern.true) once

pub returns-in_ok-copy-clause-reading : goal.returns-in_ok-copy-clause-reading
returns-in_ok-copy-clause-reading g c =
    let asks = concerned c.args.self.now c.args.self.now.elsewhere c.args.held.now c.asked.result.now c.concern.result c.asked.ensures c.concern.ensures in
    let reads = reads_on (texts_under c.args.self.now c.args.room.now) c.args.text.now c.args.held.now c.requires.held (sym asks ∙ c.if-concern.false) in
    (c.in_ok-copy.ensures ∙ reads.0, told_shallow _ _ reads.1)
