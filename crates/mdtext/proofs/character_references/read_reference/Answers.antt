use Rattle.std.proofs.Common.{ap, ◌∙◌, sym, arith}
use Rattle.mdtext.specs.CharacterReferences.{numeric}
use Rattle.mdtext.proofs.Numerals.{at_name, at_hex, at_decimal, cut_after, x_bounds}
use Rattle.mdtext.proofs.character_references.read_reference.Goals as goal

pub returns-then-byte_at-ne35-clause-meaning : goal.returns-then-byte_at-ne35-clause-meaning
returns-then-byte_at-ne35-clause-meaning c = c.read_name.ensures.meaning ∙ at_name _ _ _ c.byte_at.ensures c.if-byte_at-ne35.true

pub range_from-requires : goal.range_from-requires
range_from-requires c = λ _. let x = x_bounds _ (sym c.if-is_x.ensures) in cut_after _ 1 _ c.utf8.after c.byte_at-2.ensures x.0 x.1

pub returns-then-is_x-clause-meaning : goal.returns-then-is_x-clause-meaning
returns-then-is_x-clause-meaning c = c.read_number.ensures.meaning ∙ ap (numeric 3 16 6) c.range_from.ensures.value ∙ at_hex _ _ _ _ c.byte_at.ensures c.if-byte_at-ne35.false c.byte_at-2.ensures (sym c.if-is_x.ensures)

pub range_from-requires-2 : goal.range_from-requires-2
range_from-requires-2 c = λ _. cut_after _ 0 _ c.utf8.after c.byte_at.ensures (omega (arith, c.if-byte_at-ne35.false)) (omega (arith, c.if-byte_at-ne35.false))

pub returns-clause-meaning : goal.returns-clause-meaning
returns-clause-meaning c = c.read_number-2.ensures.meaning ∙ ap (numeric 2 10 7) c.range_from-2.ensures.value ∙ at_decimal _ _ _ _ c.byte_at.ensures c.if-byte_at-ne35.false c.byte_at-2.ensures (sym c.if-is_x.ensures)
