use Rattle.mdinline.proofs.StopLanes.{found_stops}
use Rattle.mdinline.proofs.stops.stops_in.Goals as goal

pub returns : goal.returns
returns c = found_stops c.args.block _ _ c.fits-block c.by_low.ensures c.by_high.ensures
