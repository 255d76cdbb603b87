use Rattle.std.proofs.Common.{◌-◌, sym, ap, ◌∙◌, arith, Some, take}
use Rattle.std.proofs.lemmas.List.{get_or_default}
use Rattle.mdpair.specs.Matches.{stack}
use Rattle.mdpair.specs.OpenersBottom.{IsBottom, Descends}
use Rattle.mdpair.proofs.Sweep.{nearest_here, nearest_below, front_keeps}
use Rattle.mdpair.proofs.BottomKept.{front_none}
use Rattle.mdpair.proofs.emphasis.opener.Goals as goal

pub returns-then-passed-i : goal.returns-then-passed-i
returns-then-passed-i c =
    c.loop-i.invariant.same
    ∙ front_none c.args.bottom c.args.closer.now c.args.passed.now c.loop-i.i _ c.loop-i-test.true c.loop-i.auto.i c.if-passed-i.true c.loop-i.invariant.falls c.loop-i.invariant.bottom

pub returns-then-may_open : goal.returns-then-may_open
returns-then-may_open c = (
  omega arith,
  λ d.
      c.loop-i.invariant.same ∙ nearest_here c.args.closer.now c.args.passed.now c.loop-i.i _ c.loop-i-test.true c.loop-i.auto.i (sym c.may_open.ensures ∙ c.if-may_open.true)
      ∙ ap (λ o. Some (o, stack (take (c.loop-i.i - 1) c.args.passed.now))) (get_or_default c.args.passed.now (c.loop-i.i - 1) _ d (omega arith)),
)

pub loop-i-preserved : goal.loop-i-preserved
loop-i-preserved c =
    record {
      same = c.loop-i.invariant.same ∙ nearest_below c.args.closer.now c.args.passed.now c.loop-i.i _ c.loop-i-test.true c.loop-i.auto.i (sym c.may_open.ensures ∙ c.if-may_open.false);
      falls = front_keeps Descends (λ p ps q. q.1) c.args.passed.now c.loop-i.i c.loop-i-test.true c.loop-i.auto.i c.loop-i.invariant.falls;
      bottom = front_keeps (IsBottom c.args.bottom c.args.closer.now) (λ p ps q. q.1) c.args.passed.now c.loop-i.i c.loop-i-test.true c.loop-i.auto.i c.loop-i.invariant.bottom;
    }
