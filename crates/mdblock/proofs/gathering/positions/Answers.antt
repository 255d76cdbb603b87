use Rattle.std.proofs.Common.{◌≡◌, ◌-◌, ap, ◌∙◌, arith}
use Rattle.std.specs.List.{range_with_len}
use Rattle.mdblock.proofs.CellRanges.{range_next, range_within}
use Rattle.mdblock.proofs.gathering.positions.Goals as goal

pub loop-position-preserved : goal.loop-position-preserved
loop-position-preserved c =
    c.in_ok-push.ensures.items ∙ range_next c.loop-position.positions.items c.args.start c.loop-position.position (omega (arith, c.loop-position.auto.position)) c.loop-position.invariant

pub returns-clause-within : goal.returns-clause-within
returns-clause-within c =
    let last : c.loop-position.position ≡ c.args.end = omega (arith, c.loop-position-test.false, c.loop-position.auto.position-end, c.requires) in
    range_within c.loop-position.positions.items c.args.start c.args.end c.requires (c.loop-position.invariant ∙ ap (λ p. range_with_len c.args.start (p - c.args.start)) last)
