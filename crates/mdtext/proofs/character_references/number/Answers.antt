use Rattle.mdtext.proofs.Numerals.{parses}
use Rattle.mdtext.proofs.character_references.number.Goals as goal

pub unreachable-requires : goal.unreachable-requires
unreachable-requires c = let v = c.in-Err.ensures.value in v (parses _ _ c.requires.greatest c.requires.few c.requires.numeral)
