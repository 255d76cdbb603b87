use Rattle.std.proofs.Common.{◌+◌, ◌*◌}
use Rattle.mdblock.proofs.open_blocks.Level.+begin.Given as goal

abbrev pub decreases-begin : goal.decreases-begin
decreases-begin l = 2 * l.room + 1

abbrev pub decreases-begin_block : goal.decreases-begin_block
decreases-begin_block l = 2 * l.room
