use Rattle.mdtext.proofs.Indents.{Counts}
use Rattle.mdtext.proofs.Unindented.{CountsBlanks}
use Rattle.mdtext.proofs.cursor.front_of.Given as goal

abbrev pub invariant-loop-at : goal.invariant-loop-at
invariant-loop-at l = record {
  columns : Counts l.column l.end l.at l.text;
  bytes : CountsBlanks l.at l.text;
}
