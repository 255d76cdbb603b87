use Rattle.std.proofs.Common.{◌<◌, length, arith}
use Rattle.mdblock.proofs.LeafTexts.{word_le, word_end_behind}
use Rattle.mdblock.proofs.leaf.fenced_code.behind_word.Goals as goal

pub overflow_add-end : goal.overflow_add-end
overflow_add-end c = omega (arith, word_le c.args.text.now c.args.end c.requires, c.if-end-text.false, c.ranges.end.fits)

pub range_from-requires : goal.range_from-requires
range_from-requires c =
    let less : c.args.end < length c.args.text.now = omega (arith, word_le c.args.text.now c.args.end c.requires, c.if-end-text.false) in
    let b = word_end_behind c.args.text.now c.args.end c.utf8.text c.requires less in
    λ _. (b.0, λ l. b.1 l)
