use Rattle.jirmoans.proofs.Called.{called}
use Rattle.jirmoans.proofs.previews.jirmoans_set_prelude.Goals as goal

pub returns : goal.returns
returns c =
    called _ _ _ _ _ _ _ _ _ _ c.in-Some.ensures.taken c.deref_mut.ensures.value c.set_prelude-ended.ensures c.put.ensures c.answer.ensures.fault c.answer.ensures.told
