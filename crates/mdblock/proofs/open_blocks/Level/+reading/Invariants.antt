use Rattle.std.proofs.Common.{◌+◌, ◌*◌}
use Rattle.mdblock.proofs.open_blocks.Level.+reading.Given as goal

abbrev pub decreases-add : goal.decreases-add
decreases-add l = 2 * l.room + 1

abbrev pub decreases-go_on : goal.decreases-go_on
decreases-go_on l = 2 * l.room
