use Rattle.std.proofs.Common.{◌≡◌}
use Rattle.mdtool.specs.Bytes.{Takes}
use Rattle.mdtool.proofs.draining.read_all.Given as goal

abbrev pub invariant-loop-count : goal.invariant-loop-count
invariant-loop-count g l = record {
  taken : Takes (g.R.Feed.left l.fn.feed) l.bytes.items (g.R.Feed.left l.feed);
  failures : g.R.Feed.failures l.feed ≡ g.R.Feed.failures l.fn.feed;
}

abbrev pub decreases-loop-count : goal.decreases-loop-count
decreases-loop-count g l = g.R.Feed.calls_left l.feed
