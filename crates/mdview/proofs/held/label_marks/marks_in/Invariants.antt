use Rattle.std.proofs.Common.{◌≡◌, drop}
use Rattle.mdview.specs.LabelMarks.{marks_asked, unit_marks}
use Rattle.mdview.proofs.held.label_marks.marks_in.Given as goal

-- the marks so far, and those of the texts to come
abbrev pub invariant-loop-parsed : goal.invariant-loop-parsed
invariant-loop-parsed l = marks_asked l.marks (drop l.parsed-index l.inlines) ≡ unit_marks l.fn.unit l.inlines
