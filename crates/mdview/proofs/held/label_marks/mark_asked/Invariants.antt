use Rattle.std.proofs.Common.{◌≡◌, drop}
use Rattle.mdview.specs.LabelMarks.{marks_after}
use Rattle.mdview.proofs.held.label_marks.mark_asked.Given as goal

-- the marks so far, and those of the labels to come
abbrev pub invariant-loop-i : goal.invariant-loop-i
invariant-loop-i l = marks_after l.marks (drop l.i l.asked) ≡ marks_after l.fn.marks l.asked
