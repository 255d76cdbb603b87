use Rattle.std.proofs.Common.{◌≡◌, ◌≤◌, ◌-◌, false, length, take}
use Rattle.std.specs.List.{list_any}
use Rattle.mdtool.specs.Commands.{has_break}
use Rattle.mdtool.specs.LineLengths.{AreLengths, cut}
use Rattle.mdtool.proofs.line_breaks.whole_lines.Given as goal

abbrev pub invariant-loop-len : goal.invariant-loop-len
invariant-loop-len l = record {
  few : length l.lens.items ≤ l.most;
  within : l.end ≤ length l.bytes;
  lengths : AreLengths l.lens.items (take l.end l.bytes);
  unbroken : list_any has_break (cut l.lens.items (take l.end l.bytes)) ≡ false;
}

abbrev pub decreases-loop-len : goal.decreases-loop-len
decreases-loop-len l = l.most - length l.lens.items
