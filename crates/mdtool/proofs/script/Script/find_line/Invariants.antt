use Rattle.std.proofs.Common.{◌≡◌, ◌+◌, ◌*◌, ◌≤◌, [], length}
use Rattle.std.specs.Prelude.{if◌then◌else◌}
use Rattle.mdtool.specs.Pending.{Reads}
use Rattle.mdtool.proofs.script.Script.find_line.Given as goal

abbrev pub invariant-loop-at : goal.invariant-loop-at
invariant-loop-at g l = record {
  reads : Reads (g.R.Feed.left l.fn.feed) l.fn.self [] (g.R.Feed.left l.feed) l.self;
  failures : g.R.Feed.failures l.feed ≡ g.R.Feed.failures l.fn.feed;
  weight : g.R.Feed.calls_left l.feed * 16384 + length l.self.bytes ≤ g.R.Feed.calls_left l.fn.feed * 16384 + length l.fn.self.bytes;
}

abbrev pub decreases-loop-at : goal.decreases-loop-at
decreases-loop-at g l = g.R.Feed.calls_left l.feed + (if l.self.is_ended then 0 else 1)
