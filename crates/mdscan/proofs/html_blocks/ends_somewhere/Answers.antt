use Rattle.std.proofs.Common.{arith, sym, ◌∙◌}
use Rattle.mdscan.proofs.HtmlEnds.{here, later, none}
use Rattle.mdscan.proofs.html_blocks.ends_somewhere.Goals as goal

pub returns-then-ends_here : goal.returns-then-ends_here
returns-then-ends_here c = sym (here c.args.kind c.args.text.now c.loop-at.at (omega arith) (sym c.if-ends_here.ensures)) ∙ c.loop-at.invariant

pub loop-at-preserved : goal.loop-at-preserved
loop-at-preserved c = sym (later c.args.kind c.args.text.now c.loop-at.at (omega arith) (sym c.if-ends_here.ensures)) ∙ c.loop-at.invariant

pub returns : goal.returns
returns c = sym (none c.args.kind c.args.text.now c.loop-at.at (omega arith)) ∙ c.loop-at.invariant
