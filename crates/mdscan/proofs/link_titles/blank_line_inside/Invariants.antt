use Rattle.std.proofs.Common.{◌≡◌, drop}
use Rattle.mdscan.specs.LinkTitle.{holds_blank_line}
use Rattle.mdscan.proofs.link_titles.blank_line_inside.Given as goal

-- what is left decides
abbrev pub invariant-loop-at : goal.invariant-loop-at
invariant-loop-at l = holds_blank_line (drop l.at l.fn.text) ≡ holds_blank_line l.fn.text
