use Rattle.std.proofs.Common.{refl}
use Rattle.mdscan.proofs.Ends.{if_some}
use Rattle.mdinline.proofs.Marks.{behind, reference_end}
use Rattle.mdinline.proofs.character_references.reference_at.Goals as goal

pub range_from-requires : goal.range_from-requires
range_from-requires c = λ _. behind c.args.text.now c.args.text.now c.args.at refl c.utf8.text c.requires.inside c.requires.mark

pub returns-clause-end : goal.returns-clause-end
returns-clause-end c =
    if_some c.read_reference.result _ _ (λ r h. reference_end c.args.text.now c.range_from.result.now c.args.at r.len c.range_from.ensures.value c.utf8.text h.0 h.1) c.read_reference.ensures.end
