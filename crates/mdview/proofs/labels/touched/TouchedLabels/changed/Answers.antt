use Rattle.std.proofs.Common.{◌∙◌, ap, subst, sym}
use Rattle.std.specs.Cmp.Lexicographic.{slice_cmp}
use Rattle.std.specs.List.Sorted.{IsStrictlySortedBy}
use Rattle.std.specs.Map.{keys_of}
use Rattle.std.specs.Option.{option_or}
use Rattle.std.specs.Ordering.{nat_cmp}
use Rattle.std.proofs.lemmas.Map.Keys.{sorted_tail}
use Rattle.mdview.specs.LabelTargets.{target_held}
use Rattle.mdsource.specs.Preludes.{target_beside}
use Rattle.mdview.specs.ToldLabels.{said, said_in, told_in}
use Rattle.mdview.proofs.Elsewhere.{said_more}
use Rattle.mdview.proofs.labels.touched.TouchedLabels.changed.Goals as goal

pub returns-then-is_empty : goal.returns-then-is_empty
returns-then-is_empty c =
    let held = c.args.held.now in
    let prelude = c.args.prelude.now in
    λ q. ap (λ es. told_in es q) c.new-changed.ensures.empty ∙ ap (λ t. said t (target_held held q) (target_beside prelude q)) (sym (c.is_empty.ensures c.if-is_empty.true q))

pub loop-label-preserved : goal.loop-label-preserved
loop-label-preserved c =
    let held = c.args.held.now in
    let prelude = c.args.prelude.now in
    let later = c.next.new.self in
    let sorted = subst (λ es. IsStrictlySortedBy (slice_cmp nat_cmp) (keys_of es)) c.in-Some.ensures.steps c.loop-label.invariant.sorted in
    record {
      sorted = sorted_tail (slice_cmp nat_cmp) c.in-Some.label (keys_of later) sorted;
      said = λ q.
          let old = told_in c.loop-label.changed.entries q in
          said_more c.in-Some.label c.in-Some.target later sorted q (target_held held) (target_beside prelude) c.in_ok-target.target old
          (told_in c.put_elsewhere.new.changed.entries q) c.in_ok-target.ensures (c.in_ok-put_elsewhere.ensures q)
          ∙ ap (λ es. option_or (said_in es held prelude q) old) (sym c.in-Some.ensures.steps) ∙ c.loop-label.invariant.said q;
    }
