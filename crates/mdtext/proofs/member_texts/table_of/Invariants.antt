use Rattle.mdtext.proofs.ResortedTexts.{TableGoesOn}
use Rattle.mdtext.proofs.member_texts.table_of.Given as goal

abbrev pub invariant-loop-at : goal.invariant-loop-at
invariant-loop-at l = TableGoesOn l.bytes l.spans l.at l.table
