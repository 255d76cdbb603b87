use Rattle.std.proofs.Common.{◌∷◌, ◌++◌, [], length, ap, ◌∙◌}
use Rattle.std.specs.List.{range_with_len}
use Rattle.mdblock.specs.held.HeldTables.{held_rows}
use Rattle.mdblock.proofs.TableLaws.{columns_filled}
use Rattle.mdblock.proofs.Within.{table_grows}
use Rattle.mdblock.proofs.leaf.tables.Table.push_row.Goals as goal

pub returns-clause-within : goal.returns-clause-within
returns-clause-within c = c.in_ok-push.ensures.within _ (table_grows _ _ c.args.self.now c.row.ensures.grows.0 c.requires) c.in_ok-row.ensures.within

pub returns-clause-row : goal.returns-clause-row
returns-clause-row c =
    let rows = held_rows c.args.self.now in
    let texts = length c.args.gathering.now.texts.items in (
      ap (λ v. v.items) c.in_ok-push.ensures.aligns,
      ap (λ v. v.items) c.in_ok-push.ensures.head,
      c.in_ok-push.ensures.rows
          ∙ ap (λ r. rows ++ r ∷ []) (c.in_ok-row.ensures.positions ∙ ap (range_with_len texts) (columns_filled c.args.self.now.aligns _ _ _ c.len.ensures c.in_ok-cells.ensures)),
    )
