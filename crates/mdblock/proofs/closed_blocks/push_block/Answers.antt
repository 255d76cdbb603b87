use Rattle.std.proofs.Common.{ap, ◌∙◌, ◌++◌, ◌∷◌, []}
use Rattle.mdblock.specs.BlockView.{blocks_view}
use Rattle.mdblock.proofs.Views.{pushed_blocks}
use Rattle.mdblock.proofs.Within.{blocks_push}
use Rattle.mdblock.proofs.closed_blocks.push_block.Goals as goal

pub returns-clause-pushed : goal.returns-clause-pushed
returns-clause-pushed c =
    let e = c.in_ok-push.ensures.items ∙ ap (λ blocks. blocks ++ c.args.block ∷ []) c.make_room.ensures in
    ap blocks_view e ∙ pushed_blocks c.args.over.now.items c.args.block

pub returns-clause-within : goal.returns-clause-within
returns-clause-within c = λ n h within.
    let e = c.in_ok-push.ensures.items ∙ ap (λ blocks. blocks ++ c.args.block ∷ []) c.make_room.ensures in
    rw e (blocks_push n c.args.over.now.items _ h within)
