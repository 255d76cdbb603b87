use Rattle.mdtext.proofs.HeldMembers.{AreTableBelow}
use Rattle.mdtext.proofs.member_texts.is_table.Given as goal

abbrev pub invariant-loop-at : goal.invariant-loop-at
invariant-loop-at l = AreTableBelow l.bytes l.spans l.at
