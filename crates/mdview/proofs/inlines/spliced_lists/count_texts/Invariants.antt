use Rattle.std.proofs.Common.{◌≡◌, ◌≤◌, ◌+◌}
use Rattle.mdview.proofs.inlines.spliced_lists.count_texts.Given as goal

abbrev pub invariant-loop : goal.invariant-loop
invariant-loop g l = (g.C.Count.inlines l.count ≤ g.C.Count.inlines l.fn.count + l.counter) × (g.C.Count.lines l.count ≡ g.C.Count.lines l.fn.count)
