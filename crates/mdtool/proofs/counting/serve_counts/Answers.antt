use Rattle.mdtool.specs.Counts.{Counted, CountedInPart, IsCountLine}
use Rattle.mdtool.proofs.CountedScripts.{counted, counted_in_part}
use Rattle.mdtool.proofs.PreludeEnds.{prelude_ends}
use Rattle.mdtool.proofs.ServeEnds.{served_beside}
use Rattle.mdtool.proofs.counting.serve_counts.Goals as goal

pub returns-in_err-preview : goal.returns-in_err-preview
returns-in_err-preview g c =
    let end = prelude_ends Counted CountedInPart c.from_residual.result c.in_err-preview.field-0.0 _ _ (g.R.Feed.left c.args.feed.now) (g.W.Out.written c.args.out.now)
    (g.R.Feed.failures c.args.feed.now) (g.W.Out.failures c.args.out.now) c.from_residual.ensures.1 c.in_err-preview.ensures in
    record { counts = end.0; feed = end.1.0; out = end.1.1 }

pub returns-clause-counts : goal.returns-clause-counts
returns-clause-counts g c =
    served_beside IsCountLine Counted CountedInPart counted counted_in_part c.answer.result _ _ _ _ _ _ _ c.in_ok-preview.ensures c.answer.ensures.served
