use Rattle.blockspec.proofs.ItemsMeet.{blocks_are}
use Rattle.blockspec.proofs.items.lists_keep_their_items.Goals as goal

pub returns : goal.returns
returns c = λ entities lines. blocks_are entities lines
