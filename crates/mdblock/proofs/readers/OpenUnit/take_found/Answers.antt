use Rattle.std.proofs.Common.{[], false, map, string_bytes, sym, ap, ◌∙◌}
use Rattle.mdleaf.specs.DefinedLinks.{definition_of}
use Rattle.mdblock.specs.FoundLists.{join_mark}
use Rattle.mdblock.proofs.FoundParts.{same_found}
use Rattle.mdblock.proofs.HeldNodesLaws.{none_texts, none_definitions}
use Rattle.mdblock.proofs.PartedLaws.{level_parted}
use Rattle.mdblock.proofs.TakenBlocks.{empty_stands}
use Rattle.mdblock.proofs.readers.OpenUnit.take_found.Goals as goal

pub returns-clause-gives : goal.returns-clause-gives
returns-clause-gives c = λ s h.
    let old = c.args.self.now in
    let closes = c.in_ok-blocks.ensures.closes false s [] [] h.0 h.1 in
    c.new-2.ensures
    ∙ same_found _ _ _ _ _ _ _ _ _ _ _ _ _ (c.is_parted-parted.ensures ∙ level_parted old.gathering.entities.now 0 false old.level s h.1) (ap (λ z. map join_mark z.items) c.replace-joins.ensures.value)
    c.saturating_sub.ensures closes.1
    (ap (λ z. map definition_of z.items) c.take_parts-definitions.ensures.definitions ∙ closes.0.1)
    (ap (λ z. map string_bytes z.items) c.take_parts-definitions.ensures.texts ∙ closes.0.0)

pub returns-clause-empty : goal.returns-clause-empty
returns-clause-empty c =
    let entities = c.take_parts-definitions.new.self.entities.now in (
      (
        ap (map string_bytes) c.take_parts-definitions.ensures.no_texts ∙ sym (none_texts entities),
        ap (map definition_of) c.take_parts-definitions.ensures.no_definitions ∙ sym (none_definitions entities),
      ),
      empty_stands entities 0 false c.take_blocks.new.self c.in_ok-blocks.ensures.empty,
    )
