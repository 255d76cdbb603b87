use Rattle.std.proofs.Common.{◌∙◌, ◌||◌, ◌+◌, ℕ, Bool, List, ap, drop, is_some, sym, arith}
use Rattle.std.specs.List.{list_any}
use Rattle.std.specs.Option.{option_to_list}
use Rattle.mdview.specs.LabelTargets.{at}
use Rattle.mdview.proofs.Elsewhere.{any_from}
use Rattle.mdview.proofs.labels.changes.LabelChanges.concern.Goals as goal

pub returns-then-concerns_some : goal.returns-then-concerns_some
returns-then-concerns_some c =
    let f : List ℕ → Bool = λ label. is_some (at label c.args.self.now.targets.entries) in
    let asked = c.args.asked.now in
    let here = sym (ap (λ o. list_any f (option_to_list o)) c.get.ensures.value) ∙ sym c.concerns_some.ensures ∙ c.if-concerns_some.true in
    sym (sym c.loop-i.invariant ∙ any_from f asked c.loop-i.i (omega (arith, c.loop-i-test.true, c.len-i-end.ensures)) ∙ ap (λ b. b || list_any f (drop (c.loop-i.i + 1) asked)) here)

pub loop-i-preserved : goal.loop-i-preserved
loop-i-preserved c =
    let f : List ℕ → Bool = λ label. is_some (at label c.args.self.now.targets.entries) in
    let asked = c.args.asked.now in
    let here = sym (ap (λ o. list_any f (option_to_list o)) c.get.ensures.value) ∙ sym c.concerns_some.ensures ∙ c.if-concerns_some.false in
    sym (any_from f asked c.loop-i.i (omega (arith, c.loop-i-test.true, c.len-i-end.ensures)) ∙ ap (λ b. b || list_any f (drop (c.loop-i.i + 1) asked)) here) ∙ c.loop-i.invariant
