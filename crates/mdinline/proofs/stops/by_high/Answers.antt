use Rattle.std.proofs.Common.{◌/◌, arith}
use Rattle.std.proofs.lemmas.Simd.{zip2_splat}
use Rattle.mdinline.specs.declared.stops.TheConstants.{ROWS}
use Rattle.mdinline.proofs.StopLanes.{down, high_ok, looked_up}
use Rattle.mdinline.proofs.stops.by_high.Goals as goal

pub swizzle : goal.swizzle
swizzle c = high_ok c.args.block c.fits-block

pub returns : goal.returns
returns c = looked_up ROWS (λ x. x / 16) c.args.block _ c.fits-block (zip2_splat down c.args.block 16 4 c.fits-block.0) (λ x h. omega arith)
