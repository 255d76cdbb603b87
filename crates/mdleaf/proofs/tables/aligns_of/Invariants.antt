use Rattle.std.proofs.Common.{◌≡◌, map, take}
use Rattle.mdscan.specs.DelimiterRow.{delimiter_align}
use Rattle.mdscan.specs.Spans.{part}
use Rattle.mdleaf.proofs.tables.aligns_of.Given as goal

abbrev pub invariant-loop-span : goal.invariant-loop-span
invariant-loop-span l = l.aligns.items ≡ map (λ span. delimiter_align (part l.row span)) (take l.span-index l.span-items)
