use Rattle.std.proofs.Common.{ap, arith, ◌∙◌}
use Rattle.mdtext.specs.Columns.{indent_at}
use Rattle.mdtext.proofs.Unindented.{indentation_ends, behind}
use Rattle.mdtext.proofs.cursor.Cursor.new.Goals as goal

pub range_from-requires : goal.range_from-requires
range_from-requires c = λ _. indentation_ends c.args.line.now c.as_bytes.result.now c.front_of-front.result.bytes c.utf8.line c.as_bytes.ensures.value c.front_of-front.ensures.bytes

pub invariant_of-result : goal.invariant_of-result
invariant_of-result c =
    let columns = c.front_of-front.ensures.columns ∙ ap (indent_at 0) c.as_bytes.ensures.value in (
      omega (arith, columns),
      omega (arith, c.requires),
      behind c.args.line.now c.as_bytes.result.now c.range_from.result.now c.front_of-front.result.bytes c.as_bytes.ensures.value c.front_of-front.ensures.bytes c.range_from.ensures.value,
    )
