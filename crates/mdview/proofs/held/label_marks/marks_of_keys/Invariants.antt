use Rattle.std.proofs.Common.{◌≡◌, ℕ, List, is_some}
use Rattle.std.specs.Int.RustNames.{bit_and}
use Rattle.std.specs.Cmp.Lexicographic.{slice_cmp}
use Rattle.std.specs.Ordering.{eq_by_cmp, nat_cmp}
use Rattle.std.specs.Set.{is_member}
use Rattle.mdview.specs.LabelMarks.{label_mark}
use Rattle.mdview.specs.LabelTargets.{at}
use Rattle.mdview.proofs.held.label_marks.marks_of_keys.Given as goal

-- a label that has none of the marks so far is not among those that were seen
abbrev pub invariant-loop-label : goal.invariant-loop-label
invariant-loop-label l =
    (q : List ℕ) → bit_and (label_mark q) l.marks ≡ 0 → is_some (at q l.targets.entries) ≡ is_member (eq_by_cmp (slice_cmp nat_cmp)) l.label-iterator q
