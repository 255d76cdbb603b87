use Rattle.inlinespec.proofs.DeepestSpans.{as_deep}
use Rattle.inlinespec.proofs.trees.a_tree_is_as_deep_as_spans_are_open.Goals as goal

pub returns : goal.returns
returns c = λ events paired. as_deep events paired
