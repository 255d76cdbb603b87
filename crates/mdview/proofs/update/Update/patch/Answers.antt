use Rattle.mdview.proofs.update.Update.patch.Goals as goal

pub overflow_sub-result : goal.overflow_sub-result
overflow_sub-result c = c.requires
