use Rattle.std.proofs.Common.{◌≡◌, ◌+◌, ◌++◌, drop, length, map, string_bytes}
use Rattle.std.specs.List.{range_with_len}
use Rattle.mdblock.specs.Copies.{texts_at}
use Rattle.mdblock.proofs.copies.row_from.Given as goal

abbrev pub invariant-loop-cell : goal.invariant-loop-cell
invariant-loop-cell l = record {
  copies : l.copies.items ++ range_with_len (l.from.before + length (map string_bytes l.copied.items)) (length (drop l.cell-index l.cells)) ≡ range_with_len (l.from.before + length (map string_bytes l.fn.copied.items)) (length l.cells);
  texts : map string_bytes l.copied.items ++ texts_at (map string_bytes l.from.texts.now) ((drop l.cell-index l.cells)) ≡ map string_bytes l.fn.copied.items ++ texts_at (map string_bytes l.from.texts.now) (l.cells);
}
