use Rattle.mdblock.proofs.open_blocks.Level.+read_inside.Given as goal

abbrev pub decreases-read_inside : goal.decreases-read_inside
decreases-read_inside l = l.room
