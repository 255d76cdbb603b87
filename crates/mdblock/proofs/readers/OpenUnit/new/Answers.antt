use Rattle.std.proofs.Common.{map, string_bytes, sym, ap, ◌∙◌}
use Rattle.mdleaf.specs.DefinedLinks.{definition_of}
use Rattle.mdblock.proofs.HeldNodesLaws.{none_texts, none_definitions}
use Rattle.mdblock.proofs.readers.OpenUnit.new.Goals as goal

pub returns-clause-empty : goal.returns-clause-empty
returns-clause-empty c =
    let entities = c.new-2.result.entities.now in (
      (
        ap (map string_bytes) c.new-2.ensures.texts ∙ sym (none_texts entities),
        ap (map definition_of) c.new-2.ensures.definitions ∙ sym (none_definitions entities),
      ),
      c.new.ensures.empty entities 0,
    )

pub returns-clause-kept : goal.returns-clause-kept
returns-clause-kept c = c.new.ensures.within _
