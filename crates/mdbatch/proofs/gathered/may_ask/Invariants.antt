use Rattle.std.proofs.Common.{◌≡◌}
use Rattle.mdhtml.proofs.TextsWritten.{deep_from}
use Rattle.mdbatch.specs.GatheredUnits.{closes_bracket}
use Rattle.mdbatch.proofs.gathered.may_ask.Given as goal

-- no bracket closed in a text so far
abbrev pub invariant-loop-text : goal.invariant-loop-text
invariant-loop-text l = deep_from closes_bracket l.texts l.text-index ≡ deep_from closes_bracket l.texts 0
