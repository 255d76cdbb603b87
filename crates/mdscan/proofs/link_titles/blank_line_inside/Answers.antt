use Rattle.std.proofs.Common.{arith, sym, ◌∙◌}
use Rattle.mdscan.proofs.BlankLines.{no_blank_line_here}
use Rattle.mdscan.proofs.link_titles.blank_line_inside.Goals as goal

pub loop-at-preserved : goal.loop-at-preserved
loop-at-preserved c = sym (no_blank_line_here c.args.text.now c.loop-at.at (omega arith) (sym c.if-blank_line_begins.ensures)) ∙ c.loop-at.invariant
