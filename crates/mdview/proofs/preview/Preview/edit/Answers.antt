use Rattle.mdview.proofs.preview.Preview.edit.Goals as goal

pub returns-clause-outcome : goal.returns-clause-outcome
returns-clause-outcome g c = rw (← c.new.ensures) c.edit_lines.ensures.outcome

pub returns-clause-patch : goal.returns-clause-patch
returns-clause-patch g c = c.edit_lines.ensures.patch

pub returns-clause-units : goal.returns-clause-units
returns-clause-units g c = c.edit_lines.ensures.units

pub returns-clause-stretch : goal.returns-clause-stretch
returns-clause-stretch g c = rw (← c.new.ensures) c.edit_lines.ensures.stretch

pub returns-clause-lines : goal.returns-clause-lines
returns-clause-lines g c = rw (← c.new.ensures) c.edit_lines.ensures.lines

pub returns-clause-inlines : goal.returns-clause-inlines
returns-clause-inlines g c = rw (← c.new.ensures) c.edit_lines.ensures.inlines

pub returns-clause-uncounted : goal.returns-clause-uncounted
returns-clause-uncounted g c = rw (← c.new.ensures) c.edit_lines.ensures.uncounted
