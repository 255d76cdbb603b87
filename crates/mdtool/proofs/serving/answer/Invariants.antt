use Rattle.std.proofs.Common.{◌≡◌, ◌+◌, ◌*◌, length}
use Rattle.mdtool.proofs.ServeRuns.{Run}
use Rattle.mdtool.proofs.serving.answer.Given as goal

abbrev pub invariant-loop-script : goal.invariant-loop-script
invariant-loop-script g l = record {
  run : Run (g.A.Replier.says l.replier) l.fn.preview (g.R.Feed.left l.fn.feed) (g.R.Feed.left l.feed) l.script (g.W.Out.written l.fn.out) (g.W.Out.written l.out) l.preview;
  feed : g.R.Feed.failures l.feed ≡ g.R.Feed.failures l.fn.feed;
  out : g.W.Out.failures l.out ≡ g.W.Out.failures l.fn.out;
}

abbrev pub decreases-loop-script : goal.decreases-loop-script
decreases-loop-script g l = g.R.Feed.calls_left l.feed * 16384 + length l.script.bytes
