use Rattle.std.proofs.Common.{rules, ◌≡◌, true, ap, sym, ◌∙◌, arith, inl, inr}
use Rattle.std.specs.Prelude.{not}
use Rattle.mdtool.proofs.Devices.{front_more, front_of_first, gains_more, gains_same}
use Rattle.mdtool.proofs.explaining.put_both.Goals as goal

pub returns-then-is_err-clause-front : goal.returns-then-is_err-clause-front
returns-then-is_err-clause-front g c =
    let front = rw (c.is_err.ensures.negation ∙ ap not c.if-is_err.true) at c.put_text.ensures in
    front_of_first _ _ _ _ front.0

pub returns-then-is_err-clause-whole : goal.returns-then-is_err-clause-whole
returns-then-is_err-clause-whole g c = λ none.
    let front = rw (c.is_err.ensures.negation ∙ ap not c.if-is_err.true) at c.put_text.ensures in
    absurd (omega (arith, front.1, none))

pub returns-clause-front : goal.returns-clause-front
returns-clause-front g c =
    let asked : c.args.words.now.explains ≡ true = search rules in
    let gained = rw (c.is_err.ensures.negation ∙ ap not c.if-is_err.false) at c.put_text.ensures in
    rw asked (front_more _ _ _ _ _ gained.0 c.put_explanation.ensures.front)

pub returns-clause-whole : goal.returns-clause-whole
returns-clause-whole g c = λ none.
    let asked : c.args.words.now.explains ≡ true = search rules in
    let gained = rw (c.is_err.ensures.negation ∙ ap not c.if-is_err.false) at c.put_text.ensures in
    elim (c.put_explanation.ensures.whole (none ∙ sym gained.1)) [
      | inl same ↦ inl (gains_same _ _ _ _ gained.0 same)
      | inr more ↦ inr (rw asked (gains_more _ _ _ _ _ gained.0 more))
    ]
