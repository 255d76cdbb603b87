use Rattle.std.proofs.Common.{◌∙◌}
use Rattle.mdblock.proofs.HtmlEnds.{end_decides}
use Rattle.mdblock.proofs.leaf.html_blocks.HtmlBlock.ends.Goals as goal

pub returns : goal.returns
returns c = c.html_end.ensures ∙ end_decides c.args.self.now.kind c.whole.ensures.0 c.args.line.now.line.text c.whole.result.now c.whole.ensures.1
