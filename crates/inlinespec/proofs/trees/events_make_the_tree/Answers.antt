use Rattle.inlinespec.proofs.TreeEvents.{tree_is}
use Rattle.inlinespec.proofs.trees.events_make_the_tree.Goals as goal

pub returns : goal.returns
returns c = λ tree joined. tree_is tree joined
