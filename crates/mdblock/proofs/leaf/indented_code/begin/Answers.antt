use Rattle.std.proofs.Common.{[], refl}
use Rattle.mdblock.proofs.leaf.indented_code.begin.Goals as goal

pub returns-clause-step : goal.returns-clause-step
returns-clause-step c = rw c.going.ensures.value (record {
  nothing_over = refl;
  going = c.in_ok-push_line.ensures [] (record { body = c.new.ensures.bytes; blanks = c.new-2.ensures.bytes });
})
