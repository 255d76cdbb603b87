use Rattle.mdtext.proofs.Tables.{one_put}
use Rattle.mdtext.proofs.entity_table.Entities.of.Goals as goal

pub loop-name-preserved : goal.loop-name-preserved
loop-name-preserved c = one_put c.args.pairs.now c.loop-name.name-index _ _ _ _ c.loop-name-test.true c.in_ok-put.ensures c.loop-name.invariant
