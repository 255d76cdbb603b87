use Rattle.mdtext.proofs.NamedPlaces.{no_texts}
use Rattle.mdtext.proofs.named_texts.NamedTexts.with_room.Goals as goal

pub invariant_of-result : goal.invariant_of-result
invariant_of-result c = no_texts _ c.in_ok-with_capacity.field-0.items c.in_ok-with_capacity.ensures.items
