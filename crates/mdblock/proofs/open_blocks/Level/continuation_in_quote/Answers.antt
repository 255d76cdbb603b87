use Rattle.std.proofs.Common.{refl, sym, ◌∙◌}
use Rattle.mdblock.proofs.ContinuationLaws.{quote_lazy, quote_text, quote_outside, first_false, second_false, both_true}
use Rattle.mdblock.proofs.open_blocks.Level.continuation_in_quote.Goals as goal
use Rattle.mdblock.proofs.open_blocks.Level.continuation_in_quote.Goals.{else-ends_in_text-via-then-ends_in_text+else-continues_lazily, else-ends_in_text-via-else-ends_in_text}

pub returns-then-is_lazy-clause-quote : goal.returns-then-is_lazy-clause-quote
returns-then-is_lazy-clause-quote c = quote_lazy c.args.self.now c.args.line.now (sym c.is_lazy.ensures ∙ c.if-is_lazy.true)

pub returns-then-continues_lazily-clause-quote : goal.returns-then-continues_lazily-clause-quote
returns-then-continues_lazily-clause-quote c =
    quote_text c.args.self.now c.args.line.now c.ends_in_text.result c.continues_lazily.result (sym c.is_lazy.ensures ∙ c.if-is_lazy.false)
    c.ends_in_text.ensures c.continues_lazily.ensures (both_true c.ends_in_text.result c.continues_lazily.result c.if-ends_in_text.true c.if-continues_lazily.true)

pub returns-clause-quote : goal.returns-clause-quote
returns-clause-quote c =
    let stays = sym c.is_lazy.ensures ∙ c.if-is_lazy.false in
    elim c.else-ends_in_text.branch [
      | else-ends_in_text-via-then-ends_in_text+else-continues_lazily w ↦
          quote_outside c.args.self.now c.args.line.now c.ends_in_text.result w.continues_lazily.result c.beginning-opening.result stays
          c.ends_in_text.ensures w.continues_lazily.ensures (second_false c.ends_in_text.result w.continues_lazily.result w.if-continues_lazily.false)
      | else-ends_in_text-via-else-ends_in_text w ↦
          quote_outside c.args.self.now c.args.line.now c.ends_in_text.result _ c.beginning-opening.result stays
          c.ends_in_text.ensures refl (first_false c.ends_in_text.result _ w.if-ends_in_text.false)
    ]
