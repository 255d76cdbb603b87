use Rattle.mdsource.proofs.JoinDepths.{document_deep_inside}
use Rattle.mdsource.proofs.laws.joined_depths.parts_tell_the_first_too_deep.Goals as goal

pub returns : goal.returns
returns c = document_deep_inside
