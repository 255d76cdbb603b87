use Rattle.std.proofs.Common.{◌≡◌, drop}
use Rattle.mdtext.specs.Labels.{has_bare_bracket}
use Rattle.mdtext.proofs.BareBrackets.{bare_from}
use Rattle.mdtext.proofs.labels.has_bare_bracket.Given as goal

abbrev pub invariant-loop-byte : goal.invariant-loop-byte
invariant-loop-byte l = bare_from l.is_escaped (drop l.byte-index l.text) ≡ has_bare_bracket l.text
