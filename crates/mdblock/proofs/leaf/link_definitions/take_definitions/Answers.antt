use Rattle.std.proofs.Common.{ap, sym, ◌∙◌}
use Rattle.mdscan.specs.Blanks.{begins_with}
use Rattle.mdblock.proofs.NoDefinitions.{all_left, none_found}
use Rattle.mdblock.proofs.leaf.link_definitions.take_definitions.Goals as goal

pub returns-then-not-may_define-clause-left : goal.returns-then-not-may_define-clause-left
returns-then-not-may_define-clause-left c =
    let free = ap (begins_with 91) (sym c.as_str.ensures.value) ∙ sym c.may_define.ensures ∙ c.if-not-may_define.true in
    all_left _ free

pub returns-then-not-may_define-clause-found : goal.returns-then-not-may_define-clause-found
returns-then-not-may_define-clause-found c =
    let free = ap (begins_with 91) (sym c.as_str.ensures.value) ∙ sym c.may_define.ensures ∙ c.if-not-may_define.true in
    none_found _ _ _ free
