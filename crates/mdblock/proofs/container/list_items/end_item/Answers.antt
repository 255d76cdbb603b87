use Rattle.std.proofs.Common.{refl, sym, ◌∙◌}
use Rattle.mdblock.proofs.CloseLaws.{not_both}
use Rattle.mdblock.proofs.LevelItems.{item_ends}
use Rattle.mdblock.proofs.container.list_items.end_item.Goals as goal

pub returns-in_ok-push-clause-ends : goal.returns-in_ok-push-clause-ends
returns-in_ok-push-clause-ends c = (
  λ _. item_ends c.args.inner.now c.args.inner.now c.take_blocks.new.self c.args.list.now c.push.new.self c.args.gathering.now c.take_blocks.new.gathering c.in_ok-take_blocks.field-0.items refl
      c.in_ok-take_blocks.ensures.closes c.in_ok-push.ensures.pushed c.in_ok-push.ensures.ended c.in_ok-push.ensures.parted c.in_ok-take_blocks.ensures.empty,
  λ shut. absurd (not_both c.args.list.now.item_open (sym c.is_open.ensures ∙ c.if-is_open.true) shut),
)
