use Rattle.std.proofs.Common.{refl, ap, map, None, Some}
use Rattle.mdleaf.specs.DefinedLinks.{definition_of}
use Rattle.mdblock.specs.declared.block_starts.BlockStart.TheVariants as o
use Rattle.mdblock.specs.declared.leaf.LeafAfter.{LeafAfter}
use Rattle.mdblock.proofs.LevelLeaves.{leaf_begins, shut_last}
use Rattle.mdblock.proofs.open_blocks.Level.begin_heading.Goals as goal

pub returns-clause-begins : goal.returns-clause-begins
returns-clause-begins c = λ room.
    let level = c.args.self.now in
    let step : LeafAfter = record { over = Some c.in_ok-block.block; going = None } in
    leaf_begins room level c.args.gathering.now c.args.line.now (Some (o.Heading c.args.heading)) step (record level { over = c.push_block.new.over }) c.atx_heading.new.gathering c.requires.opening.1 tt c.requires.full
    (record { over = c.in_ok-block.ensures.block; nothing_going = refl })
    (c.in_ok-block.ensures.texts, ap (λ d. map definition_of d.items) c.in_ok-block.ensures.definitions, c.in_ok-push_block.ensures.pushed, λ w. shut_last level.last w, (refl, refl, refl, refl))
