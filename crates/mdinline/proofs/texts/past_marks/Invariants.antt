use Rattle.std.proofs.Common.{◌≡◌, ◌+◌, ◌-◌, ◌<◌, ◌≤◌, ◌==◌, length, drop, slice_index}
use Rattle.std.specs.List.{prefix_len}
use Rattle.mdinline.proofs.texts.past_marks.Given as goal

abbrev pub invariant-loop-end : goal.invariant-loop-end
invariant-loop-end l = record {
  after : l.at < l.end;
  within : l.end ≤ length l.text;
  mark : slice_index l.text (l.end - 1) < 128;
  all : l.end + prefix_len (λ b. b == l.mark) (drop l.end l.text) ≡ l.at + 1 + prefix_len (λ b. b == l.mark) (drop (l.at + 1) l.text);
}

abbrev pub decreases-loop-end : goal.decreases-loop-end
decreases-loop-end l = length l.text - l.end
