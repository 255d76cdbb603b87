use Rattle.std.proofs.Common.{refl, arith}
use Rattle.inlinespec.proofs.EscapesBreaks.{soft_break_there}
use Rattle.mdinline.proofs.Marks.{none_before_feed}
use Rattle.mdinline.proofs.line_breaks.soft_break_end.Goals as goal

pub returns-clause-value : goal.returns-clause-value
returns-clause-value c =
    let none = none_before_feed c.args.text.now c.args.at c.requires.feed in
    soft_break_there c.args.text.now c.args.text.now c.args.at c.args.at c.past_break.result refl (omega (arith, none)) c.requires.inside c.requires.feed c.past_break.ensures.value (omega arith)
