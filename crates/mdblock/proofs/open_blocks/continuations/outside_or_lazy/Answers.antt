use Rattle.std.proofs.Common.{sym, ◌∙◌}
use Rattle.mdblock.specs.declared.open_blocks.Continuation.TheVariants as continuation
use Rattle.mdblock.proofs.ContinuationLaws.{shut_lazy, shut_outside}
use Rattle.mdblock.proofs.open_blocks.continuations.outside_or_lazy.Goals as goal

pub returns-then-is_lazy-clause-shut : goal.returns-then-is_lazy-clause-shut
returns-then-is_lazy-clause-shut c = λ level is. shut_lazy level c.args.line.now continuation.Matched is (sym c.is_lazy.ensures ∙ c.if-is_lazy.true)

pub returns-clause-shut : goal.returns-clause-shut
returns-clause-shut c = λ level is. shut_outside level c.args.line.now c.beginning.result is
