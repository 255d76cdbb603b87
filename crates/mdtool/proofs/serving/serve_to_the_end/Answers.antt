use Rattle.mdtool.specs.Replies.{IsReply}
use Rattle.mdtool.specs.Serve.{Answered, Broken}
use Rattle.mdtool.proofs.AnsweredScripts.{answered, broken}
use Rattle.mdtool.proofs.PreludeEnds.{prelude_ends}
use Rattle.mdtool.proofs.ServeEnds.{served_beside}
use Rattle.mdtool.proofs.serving.serve_to_the_end.Goals as goal

pub returns-in_err-preview : goal.returns-in_err-preview
returns-in_err-preview g c =
    let end = prelude_ends (Answered c.args.form) (Broken c.args.form) c.from_residual.result c.in_err-preview.field-0.0 _ _ (g.R.Feed.left c.args.feed.now) (g.W.Out.written c.args.out.now)
    (g.R.Feed.failures c.args.feed.now) (g.W.Out.failures c.args.out.now) c.from_residual.ensures.1 c.in_err-preview.ensures in
    record { served = end.0; feed = end.1.0; out = end.1.1 }

pub returns-clause-served : goal.returns-clause-served
returns-clause-served g c =
    served_beside (IsReply c.args.form) (Answered c.args.form) (Broken c.args.form) (answered c.args.form) (broken c.args.form) c.answer-end.result _ _ _ _ _ _ _
    c.in_ok-preview.ensures c.answer-end.ensures.served
