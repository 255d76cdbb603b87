use Rattle.std.proofs.Common.{◌≡◌, ◌+◌, ◌-◌, ◌≤◌, length, drop}
use Rattle.mdscan.specs.Autolink.{dotted_label_length}
use Rattle.mdscan.specs.Repeats.{repeats}
use Rattle.mdscan.proofs.autolinks.dotted_labels.Given as goal

-- what is passed and the labels that are left are all of them, and the next one is known
abbrev pub invariant-loop-length : goal.invariant-loop-length
invariant-loop-length l =
    (l.at + l.length ≤ length l.text)
    × (l.length ≡ dotted_label_length (drop l.at l.text))
    × (l.at + repeats dotted_label_length (drop l.at l.text) ≡ repeats dotted_label_length l.text)

abbrev pub decreases-loop-length : goal.decreases-loop-length
decreases-loop-length l = length l.text - l.at
