use Rattle.std.proofs.Common.{◌≡◌, drop, is_some}
use Rattle.std.specs.List.{list_any}
use Rattle.mdview.specs.LabelTargets.{at}
use Rattle.mdview.proofs.labels.changes.LabelChanges.concern.Given as goal

-- no label so far leads elsewhere
abbrev pub invariant-loop-i : goal.invariant-loop-i
invariant-loop-i l =
    list_any (λ label. is_some (at label l.self.targets.entries)) (drop l.i l.asked) ≡ list_any (λ label. is_some (at label l.self.targets.entries)) l.asked
