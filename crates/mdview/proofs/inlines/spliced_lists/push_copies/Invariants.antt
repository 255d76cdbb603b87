use Rattle.std.proofs.Common.{◌≡◌, ◌++◌, drop}
use Rattle.mdview.proofs.inlines.spliced_lists.push_copies.Given as goal

abbrev pub invariant-loop-reading : goal.invariant-loop-reading
invariant-loop-reading l = l.inlines.items ++ drop l.reading-index l.readings ≡ l.fn.inlines.items ++ l.readings
