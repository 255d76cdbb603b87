use Rattle.std.proofs.Common.{◌++◌, take}
use Rattle.mdtool.proofs.Devices.{takes_more}
use Rattle.mdtool.proofs.draining.read_all.Goals as goal

pub returns-then-is_err-clause-steps : goal.returns-then-is_err-clause-steps
returns-then-is_err-clause-steps g c = (c.loop-count.bytes.items ++ take c.in-Ok.count c.get.new.buffer, takes_more _ _ _ _ _ c.loop-count.invariant.taken c.in-Ok.ensures.taken)
