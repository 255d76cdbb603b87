use Rattle.std.proofs.Common.{rules, ◌≡◌, ◌≤◌, ◌<◌, ◌+◌, List, ap, arith, drop, get_or, length, ltb, map, subst, sym, ◌∙◌}
use Rattle.std.specs.List.{All}
use Rattle.std.specs.List.Sorted.{IsNonDecreasing}
use Rattle.std.proofs.lemmas.Bool.{ltb-false, ltb-true}
use Rattle.std.proofs.lemmas.List.Sorted.{IsPartitionPoint-from_clause, IsPartitionedBy-ltb}
use Rattle.mdblock.specs.FoundLists.{join_mark}
use Rattle.mdblock.specs.declared.units.Join.{Join}
use Rattle.mdview.specs.HeldLists.{item_line}
use Rattle.mdview.specs.HeldUnit.{HeldUnit}
use Rattle.mdview.proofs.HeldJoins.{PartAt, all_below, item_lines, no_join, none_above}
use Rattle.mdview.proofs.Numbers.{rise_by}
use Rattle.mdview.proofs.held.units.HeldUnit.item_above.Goals.{After-partition_point}
use Rattle.mdview.proofs.held.units.HeldUnit.item_above.Goals as goal

marks_are : (c : After-partition_point) → map join_mark c.joins-joins.result.now ≡ c.args.self.now.read.items
marks_are c = c.joins-joins.ensures ∙ ap (λ (u : HeldUnit). u.read.items) c.self.view_is

-- where the joins of a list part whose items begin in rising lines
parted : (c : After-partition_point) → IsNonDecreasing (map item_line c.args.self.now.read.items) → PartAt c.joins-joins.result.now c.args.line c.partition_point.result
parted c rising =
    let joins : List Join = c.joins-joins.result.now in
    let rise = rise_by (λ (j : Join). j.line) joins no_join (subst IsNonDecreasing (item_lines joins c.args.self.now.read.items (marks_are c)) rising) in
    IsPartitionPoint-from_clause (λ (j : Join). ltb j.line c.args.line) joins c.partition_point.result c.partition_point.ensures.partitioned
    (IsPartitionedBy-ltb (λ (j : Join). j.line) joins c.args.line rise) (λ a r q k. search rules)

pub returns-in_err-item-clause-told : goal.returns-in_err-item-clause-told
returns-in_err-item-clause-told c = λ rising.
    let s = (goal.at.returns-in_err-item-clause-told c).After-partition_point in
    rw c.from_residual.ensures (all_below c.joins-joins.result.now c.args.self.now.read.items c.args.line c.partition_point.result c.in_err-item.ensures (marks_are s) (parted s rising))

pub returns-in_err-get-clause-told : goal.returns-in_err-get-clause-told
returns-in_err-get-clause-told c = λ rising.
    let joins : List Join = c.joins-joins.result.now in
    let past : length joins ≤ c.in_ok-item.item = ltb-false _ _ (sym c.in_err-get.ensures.lookup.0) in
    absurd (omega (arith, past, c.in_ok-item.ensures, c.partition_point.ensures.bound))

pub returns-then-branch-line-clause-told : goal.returns-then-branch-line-clause-told
returns-then-branch-line-clause-told c = λ rising.
    let s = (goal.at.returns-then-branch-line-clause-told c).After-partition_point in
    let next : c.partition_point.result ≡ c.in_ok-item.item + 1 = omega (arith, c.in_ok-item.ensures) in
    subst (λ n. All (λ begin. c.args.line ≤ begin) (drop n (map item_line c.args.self.now.read.items))) next
    (none_above c.joins-joins.result.now c.args.self.now.read.items c.args.line c.partition_point.result (marks_are s) (parted s rising))

pub returns-else-branch-line-clause-told : goal.returns-else-branch-line-clause-told
returns-else-branch-line-clause-told c = λ rising.
    let joins : List Join = c.joins-joins.result.now in
    let item = c.in_ok-item.item in
    let found : Join = c.in_ok-get.field-0.now in
    let point = parted (goal.at.returns-else-branch-line-clause-told c).After-partition_point rising in
    let front : (get_or joins item found).line < c.args.line = ltb-true _ _ (point.0 item found (omega arith) (omega (arith, c.in_ok-item.ensures))) in
    let here : found.line ≡ (get_or joins item found).line = ap (λ (j : Join). j.line) c.in_ok-get.ensures.lookup.1 in
    absurd (omega (arith, front, here, c.if-branch-line.false))
