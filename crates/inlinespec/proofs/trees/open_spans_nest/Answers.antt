use Rattle.inlinespec.proofs.OpenSpans.{open_nests}
use Rattle.inlinespec.proofs.trees.open_spans_nest.Goals as goal

pub returns : goal.returns
returns c = λ front rest one. open_nests front rest one
