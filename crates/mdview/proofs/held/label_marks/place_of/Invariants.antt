use Rattle.std.proofs.Common.{◌≡◌, ◌<◌, drop}
use Rattle.mdview.specs.LabelMarks.{place_from}
use Rattle.mdview.proofs.held.label_marks.place_of.Given as goal

-- the bytes so far led to a bit, and those to come lead on
abbrev pub invariant-loop-byte : goal.invariant-loop-byte
invariant-loop-byte l = record {
  value : place_from l.place (drop l.byte-index l.bytes) ≡ place_from 0 l.bytes;
  below : l.place < 61;
}
