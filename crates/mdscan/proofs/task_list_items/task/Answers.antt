use Rattle.std.proofs.Common.{◌≡◌, ℕ, List, arith, subst}
use Rattle.std.specs.List.{prefix_len}
use Rattle.std.proofs.lemmas.Grind.{common_steps}
use Rattle.mdscan.specs.Blanks.{is_blank}
use Rattle.mdscan.specs.TaskListItem.{task_marker}
use Rattle.mdscan.proofs.Boundaries.{after_blanks_boundary}
use Rattle.std.proofs.lemmas.List.{take_rest}
use Rattle.mdscan.proofs.task_list_items.task.Goals as goal
use Rattle.mdscan.proofs.task_list_items.task.Goals.{else-blanks-gt0-via-then-blanks-gt0+else-text_follows, else-blanks-gt0-via-else-blanks-gt0}

pub returns-then-text_follows-clause-boundary : goal.returns-then-text_follows-clause-boundary
returns-then-text_follows-clause-boundary c =
    let bytes = c.as_bytes-bytes.result.now in
    let blanks = c.leading_blanks-blanks.result in
    after_blanks_boundary c.args.text.now bytes 3 blanks c.as_bytes-bytes.ensures.value c.utf8.text (subst (λ (t : List ℕ). blanks ≡ prefix_len is_blank t) (take_rest bytes 3) c.leading_blanks-blanks.ensures.count) c.if-blanks-gt0.true

pub returns-else-blanks-gt0-clause-mark : goal.returns-else-blanks-gt0-clause-mark
unfolding task_marker
returns-else-blanks-gt0-clause-mark c = elim c.else-blanks-gt0.branch [ else-blanks-gt0-via-then-blanks-gt0+else-text_follows w ↦ grind (arith, common_steps) | else-blanks-gt0-via-else-blanks-gt0 w ↦ grind (arith, common_steps) ]
