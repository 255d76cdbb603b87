use Rattle.std.proofs.Common.{not, length, subst, ap, ◌∙◌}
use Rattle.blockspec.specs.UnitBegin.{is_stop}
use Rattle.mdblock.specs.held.OpenLeaves.{IsLeafOf}
use Rattle.mdblock.proofs.LeafLaws.{paragraph_takes, fence_takes, html_takes, code_takes, table_takes}
use Rattle.mdblock.proofs.ParagraphLaws.{goes_by_step}
use Rattle.mdblock.proofs.leaf.Leaf.continuation.Goals as goal

pub returns-in-Paragraph-clause-takes : goal.returns-in-Paragraph-clause-takes
returns-in-Paragraph-clause-takes c = λ entities kind first later h tip.
    paragraph_takes entities _ kind first later tip c.args.line.now _ (λ lines h. goes_by_step (length lines) c.continuation.result ∙ ap (λ s. not (is_stop s)) (c.continuation.ensures.step lines h)) (subst (λ w. IsLeafOf entities w kind first later) c.in-Paragraph.is h)

pub returns-in-Fence-clause-takes : goal.returns-in-Fence-clause-takes
returns-in-Fence-clause-takes c = λ entities kind first later h tip.
    c.matched_if.ensures.takes ∙ c.takes.ensures ∙ fence_takes entities _ kind first later tip c.args.line.now (subst (λ w. IsLeafOf entities w kind first later) c.in-Fence.is h)

pub returns-in-Html-clause-takes : goal.returns-in-Html-clause-takes
returns-in-Html-clause-takes c = λ entities kind first later h tip.
    c.matched_if-in-Html.ensures.takes ∙ html_takes entities _ kind first later tip c.args.line.now _ c.takes-in-Html.ensures (subst (λ w. IsLeafOf entities w kind first later) c.in-Html.is h)

pub returns-in-Code-clause-takes : goal.returns-in-Code-clause-takes
returns-in-Code-clause-takes c = λ entities kind first later h tip.
    c.matched_if-in-Code.ensures.takes ∙ code_takes entities _ kind first later tip c.args.line.now _ c.takes-in-Code.ensures (subst (λ w. IsLeafOf entities w kind first later) c.in-Code.is h)

pub returns-in-Table-clause-takes : goal.returns-in-Table-clause-takes
returns-in-Table-clause-takes c = λ entities kind first later h tip.
    c.matched_if-in-Table.ensures.takes ∙ table_takes entities c.in-Table.table kind first later tip c.args.line.now _ c.takes-in-Table.ensures (subst (λ w. IsLeafOf entities w kind first later) c.in-Table.is h)
