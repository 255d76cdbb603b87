use Rattle.mdsource.proofs.UnitJoins.{front_tells, unit_has, unit_tells}
use Rattle.mdsource.proofs.laws.unit_items.own_lines_tell_joins.Goals as goal

pub returns-clause-told : goal.returns-clause-told
returns-clause-told c = λ entities lines before one back line h. unit_tells entities lines before one back h.is line h.low h.high

pub returns-clause-has : goal.returns-clause-has
returns-clause-has c = λ entities lines before one back line h. unit_has entities lines before one back h.is line h.low h.high

pub returns-clause-front : goal.returns-clause-front
returns-clause-front c = front_tells
