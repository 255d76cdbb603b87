use Rattle.std.proofs.Common.{sym, ◌∙◌}
use Rattle.mdblock.proofs.Interrupts.{blank_begins}
use Rattle.mdblock.proofs.ParagraphLaws.{step_near, step_far}
use Rattle.mdblock.proofs.leaf.paragraphs.Paragraph.continuation.Goals as goal

pub returns-then-is_blank-clause-continuation : goal.returns-then-is_blank-clause-continuation
returns-then-is_blank-clause-continuation c = (tt, sym (blank_begins _ _ c.args.line.now (sym c.is_blank.ensures ∙ c.if-is_blank.true)))

pub returns-then-is_near_margin-clause-step : goal.returns-then-is_near_margin-clause-step
returns-then-is_near_margin-clause-step c = λ lines h.
    c.continuation_at_margin.ensures.step lines h
    ∙ sym (step_near lines c.args.line.now (sym c.is_lazy.ensures ∙ c.if-is_lazy.false) (sym c.is_blank.ensures ∙ c.if-is_blank.false) (sym c.is_near_margin.ensures ∙ c.if-is_near_margin.true))

pub returns-clause-step : goal.returns-clause-step
returns-clause-step c = λ lines h.
    sym (step_far lines c.args.line.now (sym c.is_lazy.ensures ∙ c.if-is_lazy.false) (sym c.is_blank.ensures ∙ c.if-is_blank.false) (sym c.is_near_margin.ensures ∙ c.if-is_near_margin.false))
