use Rattle.std.proofs.Common.{◌≡◌, ◌∙◌, ◌||◌, is_some, subst, true}
use Rattle.std.specs.Cmp.Lexicographic.{slice_cmp}
use Rattle.std.specs.Ordering.{eq_by_cmp, nat_cmp}
use Rattle.std.specs.Set.{is_member}
use Rattle.mdview.specs.LabelTargets.{at}
use Rattle.mdview.proofs.Elsewhere.{room_next}
use Rattle.mdview.proofs.held.labels.HeldLabels.make_room.Goals as goal

pub loop-label-preserved : goal.loop-label-preserved
loop-label-preserved c =
    let old = c.loop-label.self.targets.entries in
    let new = c.make_room_for.new.self.targets.entries in
    record {
      led = c.in_ok-make_room_for.ensures.led ∙ c.loop-label.invariant.led;
      room = λ q some.
          room_next c.in-Some.label.now q (is_some (at q old)) (is_some (at q new)) (is_member (eq_by_cmp (slice_cmp nat_cmp)) c.next.new.self q) (c.in_ok-make_room_for.ensures.room q)
          (subst (λ labels. (is_some (at q old) || is_member (eq_by_cmp (slice_cmp nat_cmp)) labels q) ≡ true) c.in-Some.ensures.steps (c.loop-label.invariant.room q some));
      same = λ q. c.in_ok-make_room_for.ensures.same q ∙ c.loop-label.invariant.same q;
    }
