use Rattle.std.proofs.Common.{ℕ, ◌++◌, drop, map}
use Rattle.std.specs.List.{flat_map}
use Rattle.mdblock.specs.Copies.{IsBehind}
use Rattle.mdblock.proofs.text_order.behind_table.Given as goal

abbrev pub invariant-loop-row : goal.invariant-loop-row
invariant-loop-row l = (end : ℕ) → IsBehind l.next (flat_map (λ row. row) (map (λ row. row.items) (drop l.row-index l.rows))) end
    → IsBehind l.fn.at (l.head ++ flat_map (λ row. row) (map (λ row. row.items) l.rows)) end
