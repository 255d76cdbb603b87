use Rattle.std.proofs.Common.{◌<◌, List, [], ◌∷◌, length, refl, arith}
use Rattle.mdblock.specs.BlockView.{blocks_view}
use Rattle.mdblock.specs.declared.blocks.Block as b
use Rattle.mdhtml.specs.held.ListUnits.{NoList}
use Rattle.mdhtml.proofs.lists.item_ends.one_list.Goals as goal

several : (bs : List b.Block) → 1 < length bs → NoList (blocks_view bs)
several [] h o texts = absurd (omega (arith, h))
several (x ∷ []) h o texts = absurd (omega (arith, h))
several (x ∷ y ∷ bs) h o texts = refl

pub returns-in-len2-up : goal.returns-in-len2-up
returns-in-len2-up c = several c.args.blocks.now (omega arith)
