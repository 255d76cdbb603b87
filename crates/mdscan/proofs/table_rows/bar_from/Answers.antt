use Rattle.mdscan.proofs.BarSearch.{whole_more}
use Rattle.mdscan.proofs.table_rows.bar_from.Goals as goal

pub loop-at-preserved : goal.loop-at-preserved
loop-at-preserved c = whole_more c.args.row.now c.args.from c.loop-at.at c.if-row-at-eq124.false c.loop-at.invariant
