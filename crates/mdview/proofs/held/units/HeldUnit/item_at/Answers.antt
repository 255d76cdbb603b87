use Rattle.std.proofs.Common.{rules, ◌≡◌, Some, is_some, length, map, nat_eq, slice_get, ℕ, ◌<◌, ◌≤◌, true, false, ltb, nat_lt, Bool, Option, refl, get_or, List, ap, sym, subst, ◌∙◌, arith}
use Rattle.std.proofs.Math.ListN.{get_or-map}
use Rattle.std.proofs.lemmas.Bool.{ltb-true, ltb-false}
use Rattle.std.proofs.lemmas.Bool.Decides.{nat_tests}
use Rattle.std.proofs.lemmas.List.{get_or_default, length-map}
use Rattle.std.proofs.lemmas.List.Sorted.{IsPartitionPoint-from_clause, IsPartitionedBy-ltb}
use Rattle.std.proofs.lemmas.Option.{slice_get-get_or}
use Rattle.std.specs.List.{list_any}
use Rattle.std.specs.List.Sorted.{IsNonDecreasing}
use Rattle.mdblock.specs.declared.units.Join.{Join}
use Rattle.mdview.specs.HeldLists.{item_line}
use Rattle.mdview.specs.HeldUnit.{HeldUnit}
use Rattle.mdview.proofs.HeldJoins.{item_lines, no_join}
use Rattle.mdview.proofs.Numbers.{number_not, number_there, rise_by}
use Rattle.mdview.proofs.held.units.HeldUnit.item_at.Goals as goal

number_at : (joins : List Join) (i : ℕ) → i < length joins → get_or (map (λ (j : Join). j.line) joins) i 0 ≡ (get_or joins i no_join).line
number_at joins i below = get_or-map (λ (j : Join). j.line) joins i no_join

get_or_same : (joins : List Join) (i : ℕ) (d d' : Join) → i < length joins → get_or joins i d ≡ get_or joins i d'
get_or_same joins i d d' below = get_or_default joins i d d' below

above : (line found other : ℕ) → (found ≡ line → ⊥) → line ≤ found → found ≤ other → line < other
above line found other not low more = by (nat_lt line other) refl
  where
    by : (t : Bool) → nat_lt line other ≡ t → line < other
    by true h = grind (arith, nat_tests, h)
    by false h = let high : other ≤ line = grind (arith, nat_tests, h) in absurd (not (omega (arith, high, low, more)))

pub returns-in_err-get-clause-told : goal.returns-in_err-get-clause-told
returns-in_err-get-clause-told c = λ rising.
    let joins : List Join = c.joins-joins.result.now in
    let place = c.partition_point-place.result in
    let line = c.args.line in
    let same = item_lines joins c.args.self.now.read.items (c.joins-joins.ensures ∙ ap (λ (u : HeldUnit). u.read.items) c.self.view_is) in
    let many = length-map joins (λ (j : Join). j.line) in
    let numbers = map (λ (j : Join). j.line) joins in
    let rise = subst IsNonDecreasing same rising in
    let parted = IsPartitionedBy-ltb (λ (j : Join). j.line) joins line (rise_by (λ (j : Join). j.line) joins no_join rise) in
    let point = IsPartitionPoint-from_clause (λ (j : Join). ltb j.line line) joins place c.partition_point-place.ensures.partitioned parted (λ a r q k. search rules) in
    let past : length joins ≤ place = ltb-false _ _ (sym c.in_err-get.ensures.lookup.0) in
    ap (λ (o : Option ℕ). is_some o) c.from_residual.ensures
    ∙ sym (ap (list_any (nat_eq line)) same
    ∙ number_not numbers place line
    (λ i front below. let less = ltb-true _ _ (point.0 i no_join (omega arith) front) in let here = number_at joins i (omega (arith, below, many)) in omega (arith, less, here))
    (λ i behind below. omega (arith, past, behind, below, many)))

pub returns-then-branch-line-clause-there : goal.returns-then-branch-line-clause-there
returns-then-branch-line-clause-there c =
    let joins : List Join = c.joins-joins.result.now in
    let place = c.partition_point-place.result in
    let line = c.args.line in
    let same = item_lines joins c.args.self.now.read.items (c.joins-joins.ensures ∙ ap (λ (u : HeldUnit). u.read.items) c.self.view_is) in
    let many = length-map joins (λ (j : Join). j.line) in
    let inside : place < length joins = ltb-true _ _ (sym c.in_ok-get.ensures.lookup.0) in
    ap (λ xs. slice_get xs place) same ∙ slice_get-get_or (map (λ (j : Join). j.line) joins) place c.in_ok-get.field-0.now.line (omega (arith, inside, many))
    ∙ ap (λ n. Some n) (get_or-map (λ (j : Join). j.line) joins place c.in_ok-get.field-0.now ∙ ap (λ (j : Join). j.line) (sym c.in_ok-get.ensures.lookup.1) ∙ c.if-branch-line.true)

pub returns-then-branch-line-clause-told : goal.returns-then-branch-line-clause-told
returns-then-branch-line-clause-told c = λ rising. sym (number_there (map item_line c.args.self.now.read.items) c.partition_point-place.result c.args.line (returns-then-branch-line-clause-there c))

pub returns-else-branch-line-clause-told : goal.returns-else-branch-line-clause-told
returns-else-branch-line-clause-told c = λ rising.
    let joins : List Join = c.joins-joins.result.now in
    let place = c.partition_point-place.result in
    let line = c.args.line in
    let found : Join = c.in_ok-get.field-0.now in
    let same = item_lines joins c.args.self.now.read.items (c.joins-joins.ensures ∙ ap (λ (u : HeldUnit). u.read.items) c.self.view_is) in
    let inside : place < length joins = ltb-true _ _ (sym c.in_ok-get.ensures.lookup.0) in
    let many = length-map joins (λ (j : Join). j.line) in
    let numbers = map (λ (j : Join). j.line) joins in
    let rise = subst IsNonDecreasing same rising in
    let parted = IsPartitionedBy-ltb (λ (j : Join). j.line) joins line (rise_by (λ (j : Join). j.line) joins no_join rise) in
    let point = IsPartitionPoint-from_clause (λ (j : Join). ltb j.line line) joins place c.partition_point-place.ensures.partitioned parted (λ a r q k. search rules) in
    let here : get_or numbers place 0 ≡ found.line =
    number_at joins place inside ∙ ap (λ (j : Join). j.line) (get_or_same joins place no_join found inside ∙ sym c.in_ok-get.ensures.lookup.1) in
    let low = ltb-false _ _ (point.1 place no_join (omega arith) inside) in
    let at = number_at joins place inside in
    sym (ap (list_any (nat_eq line)) same
    ∙ number_not numbers place line
    (λ i front below. let less = ltb-true _ _ (point.0 i no_join (omega arith) front) in let here = number_at joins i (omega (arith, below, many)) in omega (arith, less, here))
    (λ i behind below. let more = rise place i 0 behind below in above line found.line (get_or numbers i 0) c.if-branch-line.false (omega (arith, low, at, here)) (omega (arith, more, here))))
