use Rattle.inlinespec.proofs.NestedParts.{no_deeper}
use Rattle.inlinespec.proofs.trees.parts_nest_no_deeper.Goals as goal

pub returns : goal.returns
returns c = λ part whole h. no_deeper part whole h
