use Rattle.std.proofs.lemmas.Result.{on_ok_weaker}
use Rattle.mdblock.proofs.closed_blocks.push_item.Goals as goal

pub returns-clause-within : goal.returns-clause-within
returns-clause-within c =
    on_ok_weaker c.push_list.result (λ pushed. λ n h items within. pushed n h (c.in_ok-push.ensures.within n items within)) c.push_list.ensures.within
