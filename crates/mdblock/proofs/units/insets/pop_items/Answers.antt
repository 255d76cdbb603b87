use Rattle.std.proofs.Common.{◌∙◌}
use Rattle.mdblock.proofs.InsetLaws.{popped_alone}
use Rattle.mdblock.proofs.units.insets.pop_items.Goals as goal

pub returns-in-Some-clause-items : goal.returns-in-Some-clause-items
returns-in-Some-clause-items c =
    let w = popped_alone c.args.blocks.now.items c.pop.new.self.items c.in-Some.block c.requires c.in-Some.ensures.items in
    c.items_of.ensures ∙ w.1

pub returns-in-Some-clause-empty : goal.returns-in-Some-clause-empty
returns-in-Some-clause-empty c =
    let w = popped_alone c.args.blocks.now.items c.pop.new.self.items c.in-Some.block c.requires c.in-Some.ensures.items in
    w.0
