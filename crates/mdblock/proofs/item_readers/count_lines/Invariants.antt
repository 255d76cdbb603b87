use Rattle.std.proofs.Common.{◌≡◌}
use Rattle.mdblock.specs.CountedLines.{counted_by}
use Rattle.mdblock.proofs.item_readers.count_lines.Given as goal

abbrev pub invariant-loop : goal.invariant-loop
invariant-loop g l = (g.C.Count.lines l.count ≡ counted_by l.counter (g.C.Count.lines l.fn.count)) × (g.C.Count.inlines l.count ≡ g.C.Count.inlines l.fn.count)
