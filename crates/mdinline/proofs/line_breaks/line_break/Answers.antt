use Rattle.std.proofs.Common.{[], ◌∷◌, refl, sym, ◌∙◌, arith}
use Rattle.inlinespec.specs.InlineEvents.{HardBreak, SoftBreak}
use Rattle.inlinespec.proofs.EscapesBreaks.{hard_break_there, soft_break_there, no_break_there}
use Rattle.mdinline.proofs.FoundLeaves.{found_is}
use Rattle.mdinline.proofs.line_breaks.line_break.Goals.{then-feed-bytes-via-then-feed-bytes, then-feed-bytes-via-else-feed-bytes+then-bytes-feed-ne10}
use Rattle.mdinline.proofs.line_breaks.line_break.Goals as goal

pub returns-then-feed-bytes-clause-value : goal.returns-then-feed-bytes-clause-value
returns-then-feed-bytes-clause-value c = λ entities.
    no_break_there c.args.text.now c.as_bytes-bytes.result.now c.args.at c.past_spaces-feed.result c.as_bytes-bytes.ensures.value c.past_spaces-feed.ensures.value
    (λ inside feed. elim c.then-feed-bytes.branch [
      | then-feed-bytes-via-then-feed-bytes w ↦ omega (arith, inside, w.if-feed-bytes.true)
      | then-feed-bytes-via-else-feed-bytes+then-bytes-feed-ne10 w ↦ w.if-bytes-feed-ne10.true feed
    ])

pub returns-then-feed-at-gt1-clause-value : goal.returns-then-feed-at-gt1-clause-value
returns-then-feed-at-gt1-clause-value c = λ entities.
    found_is entities c.args.text.now c.args.at c.past_break-end.result c.leaf_of.result _ (HardBreak ∷ []) c.leaf_of.ensures.end c.leaf_of.ensures.token refl
    ∙ sym (hard_break_there c.args.text.now c.as_bytes-bytes.result.now c.args.at c.past_spaces-feed.result c.past_break-end.result c.as_bytes-bytes.ensures.value
    c.past_spaces-feed.ensures.value c.if-feed-bytes.false c.if-bytes-feed-ne10.false c.past_break-end.ensures.value c.if-feed-at-gt1.true)

pub returns-else-feed-at-gt1-clause-value : goal.returns-else-feed-at-gt1-clause-value
returns-else-feed-at-gt1-clause-value c = λ entities.
    found_is entities c.args.text.now c.args.at c.past_break-end.result c.leaf_of-else-feed-at-gt1.result _ (SoftBreak ∷ []) c.leaf_of-else-feed-at-gt1.ensures.end c.leaf_of-else-feed-at-gt1.ensures.token refl
    ∙ sym (soft_break_there c.args.text.now c.as_bytes-bytes.result.now c.args.at c.past_spaces-feed.result c.past_break-end.result c.as_bytes-bytes.ensures.value
    c.past_spaces-feed.ensures.value c.if-feed-bytes.false c.if-bytes-feed-ne10.false c.past_break-end.ensures.value c.if-feed-at-gt1.false)
