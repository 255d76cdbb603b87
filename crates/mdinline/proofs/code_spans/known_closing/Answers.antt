use Rattle.std.proofs.Common.{false, drop, sym, ◌∙◌}
use Rattle.std.specs.BTreeMap.{get}
use Rattle.std.specs.Ordering.{nat_cmp}
use Rattle.inlinespec.proofs.BacktickPlaces.{placed}
use Rattle.mdinline.proofs.LastStrings.{left_out, same_place}
use Rattle.mdinline.proofs.code_spans.known_closing.Goals as goal

pub returns-in_default-clause-value : goal.returns-in_default-clause-value
returns-in_default-clause-value c = λ some outside holds.
    sym (placed false c.args.size c.args.from (drop c.args.from c.args.text.now)
    ∙ left_out c.args.text.now (get nat_cmp c.args.last.now) c.args.size c.args.from holds some outside
    (λ last e. same_place c.in-Some.last.now last c.args.from _ c.in-Some.ensures.value e c.if-from-last.false))

pub returns-in_default-2-clause-value : goal.returns-in_default-2-clause-value
returns-in_default-2-clause-value c = λ some outside holds.
    let none = rw c.in_default.is at c.get.ensures.value in
    sym (placed false c.args.size c.args.from (drop c.args.from c.args.text.now)
    ∙ left_out c.args.text.now (get nat_cmp c.args.last.now) c.args.size c.args.from holds some outside (λ last e. (let never = none ∙ e in cc)))
