use Rattle.std.proofs.Common.{arith, eqb, w8}
use Rattle.std.proofs.lemmas.Simd.{bitmask_splat}
use Rattle.mdtext.proofs.byte_lanes.half_equal.Goals as goal

pub returns : goal.returns
returns c = bitmask_splat w8 eqb c.args.block 16 c.args.byte c.requires (omega arith)
