use Rattle.mdtool.proofs.Conversions.{page_ends_first}
use Rattle.mdtool.proofs.converting.convert.Goals as goal

pub returns-in_err-prelude : goal.returns-in_err-prelude
returns-in_err-prelude g c =
    let end = page_ends_first c.from_residual.result c.in_err-prelude.field-0.0 _ _ (g.R.Feed.left c.args.feed.now) (g.W.Out.written c.args.out.now)
    (g.R.Feed.failures c.args.feed.now) (g.W.Out.failures c.args.out.now) c.from_residual.ensures.1 c.in_err-prelude.ensures in
    record { converted = end.0; feed = end.1.0; out = end.1.1 }

pub returns-clause-converted : goal.returns-clause-converted
returns-clause-converted g c = c.convert_beside.ensures.converted _ c.in_ok-prelude.ensures
