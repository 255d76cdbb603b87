use Rattle.std.proofs.Common.{◌+◌, ◌-◌, ◌^◌, ap, arith, take, min, sym, ◌∙◌}
use Rattle.mdchunks.specs.Lists.{weigh}
use Rattle.mdchunks.proofs.Moved.{drop_moved}
use Rattle.mdchunks.proofs.WeightSums.{weigh_next, weigh_none}
use Rattle.mdchunks.proofs.iters.weight_ahead.Goals as goal

pub returns-in-None : goal.returns-in-None
returns-in-None g c =
    c.loop.invariant.sum
    ∙ weigh_none g.T.Weighed.weight c.args.ahead c.loop.ahead c.loop.counter c.args.count c.loop.invariant.rest c.in-None.ensures.steps.0 (omega (arith, c.loop-test.true))

pub loop-preserved : goal.loop-preserved
loop-preserved g c =
    let w = g.T.Weighed.weight in
    let comes = c.in-Some.ensures.steps in
    record {
      sum = c.saturating_add-sum.ensures
          ∙ ap (λ n. min (n + c.weight.result) (2 ^ 64 - 1)) c.loop.invariant.sum
          ∙ ap (λ n. min (weigh w (take c.loop.counter c.args.ahead) + n) (2 ^ 64 - 1)) c.weight.ensures
          ∙ weigh_next w c.args.ahead c.loop.ahead c.next.new.self c.loop.counter c.in-Some.member.now c.loop.invariant.rest comes;
      rest = drop_moved c.args.ahead c.next.new.self c.loop.counter c.in-Some.member.now (sym c.loop.invariant.rest ∙ comes);
    }
