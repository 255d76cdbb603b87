use Rattle.std.proofs.Common.{◌<◌, ◌≤◌, slice_index}
use Rattle.mdinline.proofs.texts.without_spaces.Given as goal

abbrev pub invariant-loop-first : goal.invariant-loop-first
invariant-loop-first l = record {
  from_there : l.start ≤ l.first;
  before : l.first ≤ l.end;
  mark : slice_index l.text l.first < 128;
}

abbrev pub decreases-loop-first : goal.decreases-loop-first
decreases-loop-first l = l.first
