use Rattle.std.proofs.Common.{◌≡◌, ◌≤◌, ◌<◌, ◌^◌, ◌+◌, ◌-◌, length, drop}
use Rattle.std.specs.List.{position_or_len}
use Rattle.mdinline.specs.held.PlainText.{is_stop}
use Rattle.mdinline.proofs.stops.first_stop.Given as goal

abbrev pub invariant-loop-at : goal.invariant-loop-at
invariant-loop-at l = record {
  small : length l.text < 2 ^ 64;
  within : l.at ≤ length l.text;
  none_before : l.at + position_or_len is_stop (drop l.at l.text) ≡ position_or_len is_stop l.text;
}

abbrev pub decreases-loop-at : goal.decreases-loop-at
decreases-loop-at l = length l.text - l.at
