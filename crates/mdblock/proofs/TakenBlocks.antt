-- A level whose blocks are taken out.
use Rattle.std.proofs.Common.{◌≡◌, ℕ, Bool, true, not, [], refl, sym, ap, ◌∙◌}
use Rattle.blockspec.specs.LineSummary.{nothing_yet, no_summary}
use Rattle.mdtext.specs.EntityTable.{EntityTable}
use Rattle.mdblock.specs.BlockView.{blocks_view}
use Rattle.mdblock.specs.declared.open_blocks.Level.{Level}
use Rattle.mdblock.specs.declared.open_blocks.OpenBlock as open_block
use Rattle.mdblock.specs.declared.open_blocks.OpenBlock.{OpenBlock}
use Rattle.mdblock.specs.declared.gathering.Gathering.{Gathering}
use Rattle.mdblock.specs.held.HeldLevel.{ClosesAll, IsShut, StandsFor, StandsForLast, is_shut}
use Rattle.mdblock.specs.held.LevelSteps.{EndsAll, HasMarksOf, IsEmpty}
use Rattle.mdblock.proofs.HeldNodesLaws.{none_over, none_spaced}
use Rattle.mdblock.proofs.LevelBegins.{all_end}

pub shut_is : (o : OpenBlock) → is_shut o ≡ true → o ≡ open_block.Shut
shut_is open_block.Shut h = refl
shut_is (open_block.Leaf held) h = absurd (let x : ⊥ = cc in x)
shut_is (open_block.Quote' p over last in_item begun blank spaced) h = absurd (let x : ⊥ = cc in x)
shut_is (open_block.List' p over last in_item begun blank spaced list) h = absurd (let x : ⊥ = cc in x)

nothing_stands : (entities : EntityTable) (at : ℕ) (o : OpenBlock) → IsShut o → StandsForLast entities at o [] nothing_yet
nothing_stands entities at open_block.Shut h = refl
nothing_stands entities at (open_block.Leaf held) h = absurd h
nothing_stands entities at (open_block.Quote' p over last in_item begun blank spaced) h = absurd h
nothing_stands entities at (open_block.List' p over last in_item begun blank spaced list) h = absurd h

pub empty_stands : (entities : EntityTable) (at : ℕ) (in_item : Bool) (level : Level) → IsEmpty in_item level → StandsFor entities at in_item level no_summary
empty_stands entities at in_item level h =
    ((ap blocks_view h.0 ∙ sym (none_over at in_item), h.2, h.3, h.4, h.5 ∙ ap not (sym (none_spaced entities))), nothing_stands entities _ level.last h.1)

pub closed_ends : (level : Level) (before : Gathering) (new : Level) (after : Gathering) → ClosesAll level before new.over.items after → is_shut new.last ≡ true → HasMarksOf level new → EndsAll level before new after
closed_ends level before new after closes shut marks =
    all_end level before new.over.items new after closes
    (record { over_is = refl; last_is = shut_is new.last shut; in_item_is = marks.0; begun_is = marks.1; blank_is = marks.2; spaced_is = marks.3 })
