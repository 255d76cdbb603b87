use Rattle.std.proofs.Common.{◌≡◌, take}
use Rattle.mdchunks.specs.Lists.{weigh}
use Rattle.mdchunks.proofs.weights.sum_weights.Given as goal

abbrev pub invariant-loop-item : goal.invariant-loop-item
invariant-loop-item g l = l.sum ≡ weigh g.T.Weighed.weight (take l.item-index l.items)
