-- Marks of labels, and of units that define them or asked for them.
use Rattle.std.specs.Prelude.{ℕ, ◌+◌, ◌*◌, ◌^◌, ◌%◌, List, [], ◌∷◌}
use Rattle.std.specs.Int.RustNames.{bit_or}
use Rattle.blockspec.specs.UnitTree.{UnitTree}
use Rattle.inlinespec.specs.ParsedText.{ParsedText}
use Rattle.mdview.specs.HeldUnit.{HeldUnit}
use Rattle.mdview.specs.ToldLabels.{labels_in}

-- which bit the mark of a label is, by its bytes
abbrev pub place_from : ℕ → List ℕ → ℕ
place_from place [] = place
place_from place (byte ∷ bytes) = place_from ((place * 7 + byte) % 61) bytes

abbrev pub label_mark : List ℕ → ℕ
label_mark label = 2 ^ place_from 0 label

-- these marks and those of labels
abbrev pub marks_after : ℕ → List (List ℕ) → ℕ
marks_after marks [] = marks
marks_after marks (label ∷ labels) = marks_after (bit_or marks (label_mark label)) labels

-- these marks and those of the labels that texts asked for
abbrev pub marks_asked : ℕ → List ParsedText → ℕ
marks_asked marks [] = marks
marks_asked marks (reading ∷ readings) = marks_asked (marks_after marks reading.asked) readings

abbrev pub unit_marks : UnitTree → List ParsedText → ℕ
unit_marks unit readings = marks_asked (marks_after 0 (labels_in unit.definitions)) readings

abbrev pub held_marks : HeldUnit → ℕ
held_marks u = unit_marks u.read.unit u.read.readings
