use Rattle.mdscan.proofs.Places.{none_from}
use Rattle.mdscan.proofs.raw_html.none_later.Goals as goal

pub returns : goal.returns
returns c = none_from
