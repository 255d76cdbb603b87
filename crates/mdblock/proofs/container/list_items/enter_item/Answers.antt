use Rattle.std.proofs.Common.{refl, sym, subst}
use Rattle.mdblock.specs.held.LevelSteps.{EntersItem}
use Rattle.mdblock.proofs.container.list_items.enter_item.Goals as goal

pub returns-in_ok-end_item-in-Next-clause-enters : goal.returns-in_ok-end_item-in-Next-clause-enters
returns-in_ok-end_item-in-Next-clause-enters c =
    subst (λ z. EntersItem z c.args.inner.now c.args.list.now c.args.gap c.args.gathering.now c.args.line.now c.end_item-in-Next.new.inner c.begin.new.self c.end_item-in-Next.new.gathering c.take_marker.new.line _) (sym c.in-Next.is) (
      record {
        ended = c.end_item-in-Next.new.list;
        needed = c.take_marker.result;
        ends = c.in_ok-end_item-in-Next.ensures.ends;
        goes_on = c.begin.ensures;
        item_is = c.take_marker.ensures.needed;
        line_is = c.take_marker.ensures.line;
      },
      refl,
    )
