use Rattle.std.proofs.Common.{◌≡◌, drop}
use Rattle.mdtext.specs.TidyLabels.{is_tidy_behind}
use Rattle.mdtext.proofs.labels.is_tidy.Given as goal

abbrev pub invariant-loop-byte : goal.invariant-loop-byte
invariant-loop-byte l = is_tidy_behind l.before (drop l.byte-index l.inside) ≡ is_tidy_behind 32 l.inside
