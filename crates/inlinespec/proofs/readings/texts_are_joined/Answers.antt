use Rattle.inlinespec.specs.TextReading.{reading}
use Rattle.inlinespec.specs.TextTree.{events_of, inl}
use Rattle.inlinespec.proofs.JoinedTrees.{tree_joined}
use Rattle.inlinespec.proofs.readings.texts_are_joined.Goals as goal

pub returns : goal.returns
unfolding inl
returns c = λ entities table text. tree_joined (events_of (reading entities table text))
