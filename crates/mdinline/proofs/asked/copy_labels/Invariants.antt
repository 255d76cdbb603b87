use Rattle.std.proofs.Common.{◌≡◌, ◌++◌, drop}
use Rattle.mdinline.proofs.asked.copy_labels.Given as goal

-- the labels so far and those of the rest are all
abbrev pub invariant-loop-label : goal.invariant-loop-label
invariant-loop-label l = l.copy.items ++ drop l.label-index l.labels ≡ l.labels
