use Rattle.std.proofs.Common.{refl, false, []}
use Rattle.htmlspec.specs.InlineWriting.{writing}
use Rattle.htmlspec.proofs.WrittenTrees.{tree_shown}
use Rattle.htmlspec.proofs.laws.events_are_written_as_their_tree.Goals as goal

pub returns : goal.returns
returns c = λ options events pairs. tree_shown options (writing [] [] false) events refl pairs
