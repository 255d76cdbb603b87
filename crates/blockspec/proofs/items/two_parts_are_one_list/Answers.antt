use Rattle.blockspec.proofs.UnitsMeet.{list_together}
use Rattle.blockspec.proofs.items.two_parts_are_one_list.Goals as goal

pub returns : goal.returns
returns c = λ kind first later gap lines item items. list_together kind first later gap lines item items
