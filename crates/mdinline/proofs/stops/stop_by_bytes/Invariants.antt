use Rattle.std.proofs.Common.{◌≡◌, ◌+◌, drop}
use Rattle.std.specs.List.{position_or_len}
use Rattle.mdinline.specs.held.PlainText.{is_stop}
use Rattle.mdinline.proofs.stops.stop_by_bytes.Given as goal

abbrev pub invariant-loop-i : goal.invariant-loop-i
invariant-loop-i l = l.i + position_or_len is_stop (drop l.i l.text) ≡ position_or_len is_stop l.text
