use Rattle.std.proofs.Common.{refl, sym, append-nil, None, Some}
use Rattle.mdblock.specs.BlockView.{blocks_view}
use Rattle.mdblock.specs.held.HandedIn.{gathered_texts}
use Rattle.mdblock.specs.declared.leaf.Leaf.TheVariants as leaf
use Rattle.mdblock.specs.declared.leaf.LeafAfter.{LeafAfter}
use Rattle.mdblock.specs.declared.open_blocks.OpenBlock as open_block
use Rattle.mdblock.proofs.LevelLeaves.{leaf_begins}
use Rattle.mdblock.proofs.PlacedNodes.{blocks_nil}
use Rattle.mdblock.proofs.open_blocks.Level.begin_paragraph.Goals as goal

pub returns-clause-begins : goal.returns-clause-begins
returns-clause-begins c = λ room.
    let level = c.args.self.now in
    let g = c.args.gathering.now in
    let x = leaf.Paragraph c.in_ok-paragraph.paragraph in
    let step : LeafAfter = record { over = None; going = Some x } in
    leaf_begins room level g c.args.line.now None step (record level { last = open_block.Leaf x }) g c.requires.opening.1 tt c.requires.full
    (record { nothing_over = refl; going = c.in_ok-paragraph.ensures })
    (sym (append-nil (gathered_texts g)), refl, sym (blocks_nil (blocks_view level.over.items)), λ _. refl, (refl, refl, refl, refl))
