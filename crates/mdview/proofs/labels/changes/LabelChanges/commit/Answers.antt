use Rattle.std.proofs.Common.{◌∙◌, ap, is_some, subst, sym, true, ◌≡◌}
use Rattle.std.specs.Cmp.Lexicographic.{slice_cmp}
use Rattle.std.specs.List.Sorted.{IsStrictlySortedBy}
use Rattle.std.specs.Map.{keys_of}
use Rattle.std.specs.Ordering.{nat_cmp}
use Rattle.std.proofs.lemmas.Map.Keys.{sorted_tail}
use Rattle.mdview.specs.LabelTargets.{at, changed, target_held}
use Rattle.mdview.proofs.Elsewhere.{led_more, room_here, room_more}
use Rattle.mdview.proofs.labels.changes.LabelChanges.commit.Goals as goal

pub returns-then-is_empty : goal.returns-then-is_empty
returns-then-is_empty c = λ q. ap (λ target. changed target (target_held c.args.held.now q)) (sym (c.is_empty.ensures c.if-is_empty.true q))

pub set-requires : goal.set-requires
set-requires c =
    let key = c.in-Some.label in
    let old = c.loop-label.held.targets.entries in
    record { room = room_here key c.in-Some.target c.next.new.self old (subst (λ es. is_some (at key es) ≡ true → is_some (at key old) ≡ true) c.in-Some.ensures.steps (c.loop-label.invariant.room key)) }

pub loop-label-preserved : goal.loop-label-preserved
loop-label-preserved c =
    let key = c.in-Some.label in
    let target = c.in-Some.target in
    let later = c.next.new.self in
    let old = c.loop-label.held in
    let new = c.set.new.self in
    let step = c.in-Some.ensures.steps in
    let sorted = subst (λ es. IsStrictlySortedBy (slice_cmp nat_cmp) (keys_of es)) step c.loop-label.invariant.sorted in
    record {
      sorted = sorted_tail (slice_cmp nat_cmp) key (keys_of later) sorted;
      room = λ q. room_more key target later sorted q old.targets.entries new.targets.entries
          (subst (λ es. is_some (at q es) ≡ true → is_some (at q old.targets.entries) ≡ true) step (c.loop-label.invariant.room q)) (c.set.ensures.room q);
      led = λ q. led_more key target later sorted q (target_held old q) (target_held new q) (c.set.ensures.led q)
          ∙ ap (λ es. changed (at q es) (target_held old q)) (sym step) ∙ c.loop-label.invariant.led q;
    }
