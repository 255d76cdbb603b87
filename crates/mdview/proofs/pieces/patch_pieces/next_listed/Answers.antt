use Rattle.std.proofs.Common.{◌≡◌, ◌≤◌, ◌<◌, suc, length, get_or, ltb, sym, subst, ◌∙◌, arith, rules}
use Rattle.std.proofs.lemmas.Bool.{ltb-true, ltb-false}
use Rattle.std.proofs.lemmas.Bool.Decides.{nat_tests}
use Rattle.std.proofs.lemmas.Grind.{get_or_default_zero}
use Rattle.std.proofs.lemmas.List.Sorted.{IsPartitionPoint-from_clause, IsPartitionedBy-ltb}
use Rattle.mdview.proofs.BroughtLaws.{none_listed}
use Rattle.mdview.proofs.pieces.patch_pieces.next_listed.Goals as goal

pub returns-in-Some-clause-low : goal.returns-in-Some-clause-low
returns-in-Some-clause-low c =
    let numbers = c.args.numbers.now in
    let place = c.partition_point-place.result in
    let number = c.in-Some.number.now in
    let parted = IsPartitionedBy-ltb (λ n. n) numbers c.args.from c.requires.rising in
    let point = IsPartitionPoint-from_clause (λ n. ltb n c.args.from) numbers place c.partition_point-place.ensures.partitioned parted (λ a r q k. search rules) in
    let inside : place < length numbers = grind (arith, nat_tests) in
    let low : c.args.from ≤ get_or numbers place number = ltb-false _ _ (point.1 place number (omega arith) inside) in
    subst (λ n. c.args.from ≤ n) (sym c.in-Some.ensures.lookup.1) low

pub returns-in-Some-clause-before : goal.returns-in-Some-clause-before
returns-in-Some-clause-before c = λ k low below end.
    let numbers = c.args.numbers.now in
    let place = c.partition_point-place.result in
    let parted = IsPartitionedBy-ltb (λ n. n) numbers c.args.from c.requires.rising in
    let point = IsPartitionPoint-from_clause (λ n. ltb n c.args.from) numbers place c.partition_point-place.ensures.partitioned parted (λ a r q k. search rules) in
    none_listed numbers place c.args.from c.in-Some.number.now k (λ i front. ltb-true _ _ (point.0 i 0 (omega arith) front))
    (λ i behind within. let rises = c.requires.rising place i 0 behind within in
    let read : c.in-Some.number.now ≡ get_or numbers place 0 =
    c.in-Some.ensures.lookup.1 ∙ get_or_default_zero numbers place c.in-Some.number.now (omega (arith, behind, within)) in
    omega (arith, rises, read)) low below

pub returns-in-None-clause-before : goal.returns-in-None-clause-before
returns-in-None-clause-before c = λ k low below end.
    let numbers = c.args.numbers.now in
    let place = c.partition_point-place.result in
    let parted = IsPartitionedBy-ltb (λ n. n) numbers c.args.from c.requires.rising in
    let point = IsPartitionPoint-from_clause (λ n. ltb n c.args.from) numbers place c.partition_point-place.ensures.partitioned parted (λ a r q k. search rules) in
    let past : length numbers ≤ place = grind (arith, nat_tests) in
    none_listed numbers place c.args.from (suc k) k (λ i front. ltb-true _ _ (point.0 i 0 (omega arith) front)) (λ i behind within. omega (arith, past, behind, within)) low (omega arith)
