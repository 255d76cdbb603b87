use Rattle.std.proofs.Common.{bit_and, arith}
use Rattle.std.proofs.lemmas.Nat.{and_le_r}
use Rattle.std.proofs.lemmas.Simd.{zip2_splat}
use Rattle.mdinline.specs.declared.stops.TheConstants.{STOPS}
use Rattle.mdinline.proofs.StopLanes.{low_ok, looked_up}
use Rattle.mdinline.proofs.stops.by_low.Goals as goal

pub swizzle : goal.swizzle
swizzle c = low_ok c.args.block c.fits-block

pub returns : goal.returns
returns c = looked_up STOPS (λ x. bit_and x 15) c.args.block _ c.fits-block (zip2_splat bit_and c.args.block 16 15 c.fits-block.0) (λ x h. omega (arith, and_le_r x 15))
