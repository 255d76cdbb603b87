use Rattle.std.proofs.Common.{◌≡◌, ◌+◌, ◌++◌, drop, length, map, string_bytes}
use Rattle.std.specs.List.{flat_map}
use Rattle.mdblock.specs.Copies.{copied_rows, texts_at}
use Rattle.mdblock.proofs.copies.rows_from.Given as goal

abbrev pub invariant-loop-row : goal.invariant-loop-row
invariant-loop-row l = record {
  copies : map (λ row. row.items) l.copies.items ++ copied_rows (l.from.before + length (map string_bytes l.copied.items)) (map (λ row. row.items) (drop l.row-index l.rows)) ≡ copied_rows (l.from.before + length (map string_bytes l.fn.copied.items)) (map (λ row. row.items) l.rows);
  texts : map string_bytes l.copied.items ++ texts_at (map string_bytes l.from.texts.now) (flat_map (λ row. row) (map (λ row. row.items) (drop l.row-index l.rows))) ≡ map string_bytes l.fn.copied.items ++ texts_at (map string_bytes l.from.texts.now) (flat_map (λ row. row) (map (λ row. row.items) l.rows));
}
