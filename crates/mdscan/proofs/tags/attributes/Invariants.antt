use Rattle.std.proofs.Common.{◌≡◌, ◌+◌, ◌-◌, ◌≤◌, length, drop}
use Rattle.mdscan.specs.Tag.{attribute_length, attributes_length}
use Rattle.mdscan.proofs.tags.attributes.Given as goal

-- what is passed and the attributes that are left are all of them, and the next one is known
abbrev pub invariant-loop-length : goal.invariant-loop-length
invariant-loop-length l =
    (l.at + l.length ≤ length l.text)
    × (l.length ≡ attribute_length (drop l.at l.text))
    × (l.at + attributes_length (drop l.at l.text) ≡ attributes_length l.text)

abbrev pub decreases-loop-length : goal.decreases-loop-length
decreases-loop-length l = length l.text - l.at
