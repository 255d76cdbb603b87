use Rattle.std.proofs.Common.{refl, sym, ◌∙◌}
use Rattle.mdblock.specs.declared.open_blocks.Continuation.TheVariants as continuation
use Rattle.mdblock.proofs.ContinuationLaws.{item_lazy, item_matched, item_between, item_shut, item_text, item_next, item_outside, between_between, between_next, between_outside, first_false, second_false, both_true}
use Rattle.mdblock.proofs.open_blocks.Level.continuation_in.Goals as goal
use Rattle.mdblock.proofs.open_blocks.Level.continuation_in.Goals.{else-is_open-via-then-is_open+else-self, else-is_open-via-else-is_open, else-is_open-2-via-then-is_open-2+then-ends_in_text+else-continues_lazily, else-is_open-2-via-then-is_open-2+else-ends_in_text, else-is_open-2-via-else-is_open-2}

pub returns-then-is_lazy-clause-item : goal.returns-then-is_lazy-clause-item
returns-then-is_lazy-clause-item c = item_lazy c.args.self.now c.args.list.now c.args.line.now (sym c.is_lazy.ensures ∙ c.if-is_lazy.true)

pub returns-then-self-clause-item : goal.returns-then-self-clause-item
returns-then-self-clause-item c =
    item_matched c.args.self.now c.args.list.now c.args.line.now (sym c.is_lazy.ensures ∙ c.if-is_lazy.false) (sym c.is_blank.ensures ∙ c.if-is_blank.true) c.if-self.true

pub returns-then-is_blank-clause-item : goal.returns-then-is_blank-clause-item
returns-then-is_blank-clause-item c =
    elim c.else-is_open.branch [
      | else-is_open-via-then-is_open+else-self w ↦
          item_between c.args.self.now c.args.list.now c.args.line.now (sym c.is_lazy.ensures ∙ c.if-is_lazy.false) (sym c.is_blank.ensures ∙ c.if-is_blank.true) w.if-self.false
      | else-is_open-via-else-is_open w ↦ item_shut c.args.self.now c.args.list.now c.args.line.now continuation.Between (sym c.is_open.ensures ∙ w.if-is_open.false)
    ]

pub returns-then-is_blank-clause-between : goal.returns-then-is_blank-clause-between
returns-then-is_blank-clause-between c = between_between c.args.list.now c.args.line.now (sym c.is_blank.ensures ∙ c.if-is_blank.true)

pub returns-then-continues_lazily-clause-item : goal.returns-then-continues_lazily-clause-item
returns-then-continues_lazily-clause-item c =
    item_text c.args.self.now c.args.list.now c.args.line.now c.ends_in_text.result c.continues_lazily.result (sym c.is_lazy.ensures ∙ c.if-is_lazy.false)
    (sym c.is_blank.ensures ∙ c.if-is_blank.false) c.ends_in_text.ensures c.continues_lazily.ensures
    (both_true c.ends_in_text.result c.continues_lazily.result c.if-ends_in_text.true c.if-continues_lazily.true)

pub returns-in-Some-clause-item : goal.returns-in-Some-clause-item
returns-in-Some-clause-item c =
    let stays = sym c.is_lazy.ensures ∙ c.if-is_lazy.false in
    let text = sym c.is_blank.ensures ∙ c.if-is_blank.false in
    elim c.else-is_open-2.branch [
      | else-is_open-2-via-then-is_open-2+then-ends_in_text+else-continues_lazily w ↦
          item_next c.args.self.now c.args.list.now c.args.line.now w.ends_in_text.result w.continues_lazily.result c.in-Some.marker stays text
          w.ends_in_text.ensures w.continues_lazily.ensures (second_false w.ends_in_text.result w.continues_lazily.result w.if-continues_lazily.false)
          c.in-Some.ensures.begins (sym c.in-Some.ensures.same)
      | else-is_open-2-via-then-is_open-2+else-ends_in_text w ↦
          item_next c.args.self.now c.args.list.now c.args.line.now w.ends_in_text.result _ c.in-Some.marker stays text
          w.ends_in_text.ensures refl (first_false w.ends_in_text.result _ w.if-ends_in_text.false)
          c.in-Some.ensures.begins (sym c.in-Some.ensures.same)
      | else-is_open-2-via-else-is_open-2 w ↦ item_shut c.args.self.now c.args.list.now c.args.line.now (continuation.Next c.in-Some.marker) (sym c.is_open-2.ensures ∙ w.if-is_open-2.false)
    ]

pub returns-in-Some-clause-between : goal.returns-in-Some-clause-between
returns-in-Some-clause-between c =
    between_next c.args.list.now c.args.line.now c.in-Some.marker (sym c.is_blank.ensures ∙ c.if-is_blank.false) c.in-Some.ensures.begins (sym c.in-Some.ensures.same)

pub returns-in-None-clause-item : goal.returns-in-None-clause-item
returns-in-None-clause-item c =
    let stays = sym c.is_lazy.ensures ∙ c.if-is_lazy.false in
    let text = sym c.is_blank.ensures ∙ c.if-is_blank.false in
    elim c.else-is_open-2.branch [
      | else-is_open-2-via-then-is_open-2+then-ends_in_text+else-continues_lazily w ↦
          item_outside c.args.self.now c.args.list.now c.args.line.now w.ends_in_text.result w.continues_lazily.result c.beginning-opening.result stays text
          w.ends_in_text.ensures w.continues_lazily.ensures (second_false w.ends_in_text.result w.continues_lazily.result w.if-continues_lazily.false) (sym c.in-None.ensures.same)
      | else-is_open-2-via-then-is_open-2+else-ends_in_text w ↦
          item_outside c.args.self.now c.args.list.now c.args.line.now w.ends_in_text.result _ c.beginning-opening.result stays text
          w.ends_in_text.ensures refl (first_false w.ends_in_text.result _ w.if-ends_in_text.false) (sym c.in-None.ensures.same)
      | else-is_open-2-via-else-is_open-2 w ↦ item_shut c.args.self.now c.args.list.now c.args.line.now (continuation.Outside c.beginning-opening.result) (sym c.is_open-2.ensures ∙ w.if-is_open-2.false)
    ]

pub returns-in-None-clause-between : goal.returns-in-None-clause-between
returns-in-None-clause-between c = between_outside c.args.list.now c.args.line.now c.beginning-opening.result (sym c.is_blank.ensures ∙ c.if-is_blank.false) (sym c.in-None.ensures.same)
