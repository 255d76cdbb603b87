use Rattle.std.proofs.Common.{◌≡◌, drop}
use Rattle.mdscan.specs.HtmlBlock.{holds_end}
use Rattle.mdscan.proofs.html_blocks.ends_somewhere.Given as goal

-- what is left decides
abbrev pub invariant-loop-at : goal.invariant-loop-at
invariant-loop-at l = holds_end l.fn.kind (drop l.at l.fn.text) ≡ holds_end l.fn.kind l.fn.text
