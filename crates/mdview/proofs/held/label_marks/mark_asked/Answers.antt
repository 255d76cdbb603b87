use Rattle.std.proofs.Common.{◌∙◌, ◌+◌, ap, arith, drop, sym}
use Rattle.std.specs.Option.{option_to_list}
use Rattle.mdview.specs.LabelMarks.{marks_after}
use Rattle.mdview.proofs.LabelMarkLaws.{marks_from}
use Rattle.mdview.proofs.held.label_marks.mark_asked.Goals as goal

pub loop-i-preserved : goal.loop-i-preserved
loop-i-preserved c =
    let asked = c.args.asked.now in
    ap (λ m. marks_after m (drop (c.loop-i.i + 1) asked)) (c.mark_some-marks.ensures ∙ ap (λ o. marks_after c.loop-i.marks (option_to_list o)) c.get.ensures.value)
    ∙ sym (marks_from c.loop-i.marks asked c.loop-i.i (omega (arith, c.loop-i-test.true, c.len-i-end.ensures))) ∙ c.loop-i.invariant
