use Rattle.mdsource.proofs.OwnLines.{own_last, own_later}
use Rattle.mdsource.proofs.laws.unit_items.own_lines_stay.Goals as goal

pub returns-clause-later : goal.returns-clause-later
returns-clause-later c = own_later

pub returns-clause-last : goal.returns-clause-last
returns-clause-last c = own_last
