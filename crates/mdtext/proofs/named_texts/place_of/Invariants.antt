use Rattle.std.proofs.Common.{◌-◌, ◌≤◌, length}
use Rattle.mdtext.specs.NamedTexts.{named_texts, StandsBehind, StandsBefore}
use Rattle.mdtext.proofs.named_texts.place_of.Given as goal

abbrev pub invariant-loop-low : goal.invariant-loop-low
invariant-loop-low l = (l.low ≤ l.high) × (l.high ≤ length l.spans) × StandsBehind (named_texts l.bytes l.spans) l.name l.low × StandsBefore (named_texts l.bytes l.spans) l.name l.high

abbrev pub decreases-loop-low : goal.decreases-loop-low
decreases-loop-low l = l.high - l.low
