use Rattle.mdblock.proofs.Within.{rows_push}
use Rattle.mdblock.proofs.leaf.tables.Table.push.Goals as goal

pub returns-clause-within : goal.returns-clause-within
returns-clause-within c = λ n h within. let e = c.in_ok-push.ensures.items in rw e (h.0, rows_push n c.args.self.now.rows.items c.args.row h.1 within)
