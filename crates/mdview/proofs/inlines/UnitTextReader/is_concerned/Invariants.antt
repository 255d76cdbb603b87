use Rattle.std.proofs.Common.{◌≡◌, drop}
use Rattle.std.specs.List.{list_any}
use Rattle.mdsource.specs.Changes.{asks_changed}
use Rattle.mdview.specs.HeldTexts.{labels_before, labels_behind}
use Rattle.mdview.proofs.inlines.UnitTextReader.is_concerned.Given as goal

-- no text so far asked for a label that leads elsewhere
abbrev pub invariant-loop-parsed : goal.invariant-loop-parsed
invariant-loop-parsed l =
    list_any (asks_changed (labels_before l.fn.self) (labels_behind l.fn.self)) (drop l.parsed-index l.fn.unit.read.readings)
    ≡ list_any (asks_changed (labels_before l.fn.self) (labels_behind l.fn.self)) l.fn.unit.read.readings
