use Rattle.std.proofs.Common.{◌≡◌, drop, take}
use Rattle.mdchunks.specs.Lists.{weigh}
use Rattle.mdchunks.proofs.iters.weight_ahead.Given as goal

-- so many members were weighed
abbrev pub invariant-loop : goal.invariant-loop
invariant-loop g l = record {
  sum : l.sum ≡ weigh g.T.Weighed.weight (take l.counter l.fn.ahead);
  rest : l.ahead ≡ drop l.counter l.fn.ahead;
}
