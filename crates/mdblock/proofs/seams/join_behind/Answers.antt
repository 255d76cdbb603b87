use Rattle.std.proofs.Common.{◌≡◌, ◌+◌, ◌-◌, ◌<◌, ◌≤◌, None, Some, length, map, refl, sym, ◌∙◌, ap, arith}
use Rattle.std.proofs.lemmas.Bool.Decides.{nat_tests}
use Rattle.std.proofs.lemmas.Option.{slice_get-map, slice_get_past, slice_get_read}
use Rattle.std.specs.Prelude.{option_map, slice_get, unwrap_or}
use Rattle.mdblock.specs.Bases.{base_view}
use Rattle.mdblock.specs.FoundLists.{join_mark}
use Rattle.mdblock.specs.Fronted.{base_mark}
use Rattle.mdblock.specs.Spliced.{mark_at, mark_further, no_mark}
use Rattle.mdblock.proofs.FrontedValues.{fronted_later}
use Rattle.mdblock.proofs.seams.join_behind.Goals as goal

pub returns-in-Some : goal.returns-in-Some
returns-in-Some c =
    let b = base_view c.args.base.now in
    let later = c.args.later.now in
    let m = c.args.k - b.join - 1 in
    let far = c.if-k-base.false in
    let is : c.args.k ≡ b.join + 1 + m = omega (arith, far) in
    let inside : m < length later = grind (arith, nat_tests, c.in-Some.ensures.lookup.0) in
    let there : slice_get later m ≡ Some c.in-Some.join.now = slice_get_read later (length later) m c.in-Some.join.now refl inside c.in-Some.ensures.lookup.1 in
    let join : slice_get (map join_mark later) m ≡ Some (join_mark c.in-Some.join.now) = slice_get-map join_mark later m ∙ ap (option_map join_mark) there in
    let base : join_mark c.join_at-in-Some.result ≡ base_mark b = c.join_at-in-Some.ensures ∙ ap (λ z. mark_at z b.join) c.joins-joins.ensures in
    c.moved.ensures
    ∙ ap (λ z. mark_further z (join_mark c.join_at-in-Some.result) (join_mark c.in-Some.join.now)) c.no_join.ensures
    ∙ ap (λ z. mark_further no_mark z (join_mark c.in-Some.join.now)) base
    ∙ sym (fronted_later b c.requires (map join_mark later) c.args.k m is ∙ ap (λ o. unwrap_or (option_map (mark_further no_mark (base_mark b)) o) no_mark) join)

pub returns-in-None : goal.returns-in-None
returns-in-None c =
    let b = base_view c.args.base.now in
    let later = c.args.later.now in
    let m = c.args.k - b.join - 1 in
    let far = c.if-k-base.false in
    let is : c.args.k ≡ b.join + 1 + m = omega (arith, far) in
    let past : length later ≤ m = grind (arith, nat_tests, c.in-None.ensures.lookup.0) in
    let none : slice_get (map join_mark later) m ≡ None = slice_get-map join_mark later m ∙ ap (option_map join_mark) (slice_get_past later m past) in
    c.no_join-in-None.ensures
    ∙ sym (fronted_later b c.requires (map join_mark later) c.args.k m is ∙ ap (λ o. unwrap_or (option_map (mark_further no_mark (base_mark b)) o) no_mark) none)
