use Rattle.std.proofs.Common.{◌∙◌, ap}
use Rattle.mdblock.specs.BlockView.{items_view}
use Rattle.mdblock.specs.Spliced.{take_items}
use Rattle.mdblock.proofs.ItemParts.{items_taken}
use Rattle.mdview.proofs.inlines.spliced_lists.items_in_front.Goals as goal

pub returns : goal.returns
returns c = ap items_view c.first_of.ensures ∙ items_taken c.args.count c.list_items.result.now ∙ ap (take_items c.args.count) c.list_items.ensures
