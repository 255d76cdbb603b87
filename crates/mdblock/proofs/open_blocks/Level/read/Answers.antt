use Rattle.mdblock.proofs.open_blocks.Level.read.Goals as goal

pub returns-in-Done-clause-adds : goal.returns-in-Done-clause-adds
returns-in-Done-clause-adds c = c.read_inside.ensures.adds c.in-Done.is
