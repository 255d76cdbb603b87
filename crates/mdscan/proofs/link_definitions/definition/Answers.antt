use Rattle.std.proofs.Common.{ℕ, List, subst}
use Rattle.mdscan.specs.LinkDefinition.{AreDefSpans}
use Rattle.mdscan.proofs.Ends.{if_some}
use Rattle.mdscan.proofs.link_definitions.definition.Goals as goal

pub returns-clause-spans : goal.returns-clause-spans
returns-clause-spans c =
    if_some c.defined.result _ _ (λ def h. subst (λ (t : List ℕ). AreDefSpans t def) c.as_bytes.ensures.value h) (c.defined.ensures.spans c.as_bytes.ensures.utf8)
