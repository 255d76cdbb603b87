use Rattle.std.proofs.Common.{◌∙◌, ap, is_some, sym}
use Rattle.std.specs.Int.RustNames.{bit_and, bit_or}
use Rattle.std.specs.Cmp.Lexicographic.{slice_cmp}
use Rattle.std.specs.Ordering.{eq_by_cmp, nat_cmp}
use Rattle.std.specs.Set.{is_member}
use Rattle.mdview.specs.LabelMarks.{label_mark}
use Rattle.mdview.specs.LabelTargets.{at}
use Rattle.mdview.proofs.LabelMarkLaws.{key_seen}
use Rattle.mdview.proofs.held.label_marks.marks_of_keys.Goals as goal

pub loop-label-init : goal.loop-label-init
loop-label-init c = λ q apart.
    c.keys-label-items.ensures.has q ∙ sym (ap (λ labels. is_member (eq_by_cmp (slice_cmp nat_cmp)) labels q) c.into_iter-label-iterator.ensures.into_iter_gives)

pub loop-label-preserved : goal.loop-label-preserved
loop-label-preserved c = λ q apart.
    let some = is_some (at q c.args.targets.now.entries) in
    key_seen c.in-Some.label.now q c.loop-label.marks (is_member (eq_by_cmp (slice_cmp nat_cmp)) c.next.new.self q) some
    (ap (λ m. bit_and (label_mark q) (bit_or c.loop-label.marks m)) (sym c.mark_of-marks.ensures) ∙ apart)
    (λ old. c.loop-label.invariant q old ∙ ap (λ labels. is_member (eq_by_cmp (slice_cmp nat_cmp)) labels q) c.in-Some.ensures.steps)
