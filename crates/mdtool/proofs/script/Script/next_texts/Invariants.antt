use Rattle.std.proofs.Common.{◌≡◌, ◌+◌, ◌-◌, ◌*◌, ◌≤◌, length}
use Rattle.mdtool.specs.Pending.{Reads}
use Rattle.mdtool.proofs.script.Script.next_texts.Given as goal

abbrev pub invariant-loop-self : goal.invariant-loop-self
invariant-loop-self g l = record {
  read : Reads (g.R.Feed.left l.fn.feed) l.fn.self l.lines (g.R.Feed.left l.feed) l.self;
  within : length l.lines ≤ l.count;
  failures : g.R.Feed.failures l.feed ≡ g.R.Feed.failures l.fn.feed;
  weight : g.R.Feed.calls_left l.feed * 16384 + length l.self.bytes ≤ g.R.Feed.calls_left l.fn.feed * 16384 + length l.fn.self.bytes;
}

abbrev pub decreases-loop-self : goal.decreases-loop-self
decreases-loop-self g l = l.count - length l.lines
