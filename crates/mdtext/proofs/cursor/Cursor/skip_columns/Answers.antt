use Rattle.std.proofs.Common.{◌≡◌, drop, arith, ap, sym, subst, ◌∙◌}
use Rattle.mdtext.specs.Columns.{indent, line_at}
use Rattle.mdtext.proofs.Indents.{indent_spaces}
use Rattle.mdtext.proofs.Strips.{line_skip}
use Rattle.mdtext.proofs.Unindented.{skip_none}
use Rattle.mdtext.proofs.EvenIndents.{EvenAt, even_at, even_fits, even_cut, even_place, even_kept}
use Rattle.mdtext.proofs.cursor.Cursor.skip_columns.Goals as goal

pub overflow_add-self : goal.overflow_add-self
overflow_add-self c =
    let here = c.self.inside in
    let even = even_at here.column here.left c.args.columns here.rest.now c.args.self.now c.self.view_is (c.is_even.ensures.left c.if-is_even.true) (c.is_even.ensures.even c.if-is_even.true) c.requires in
    let fits = even_fits here.column here.left c.args.columns here.rest.now even c.self.invariant.1 in
    omega (arith, fits)

pub range_from-self-inside-requires : goal.range_from-self-inside-requires
range_from-self-inside-requires c =
    let here = c.self.inside in
    let rest_is : c.rest-rest.result.now ≡ here.rest.now = c.rest-rest.ensures ∙ sym (ap (λ p. p.rest) c.self.view_is) in
    let even = even_at here.column here.left c.args.columns here.rest.now c.args.self.now c.self.view_is (c.is_even.ensures.left c.if-is_even.true) (c.is_even.ensures.even c.if-is_even.true) c.requires in
    λ _. even_cut here.column here.left c.args.columns c.rest-rest.result.now c.rest-rest.utf8 (subst (EvenAt here.column here.left c.args.columns) (sym rest_is) even)

pub overflow_sub-self : goal.overflow_sub-self
overflow_sub-self c =
    let all = sym (ap (λ p. indent (line_at p)) c.self.view_is) ∙ indent_spaces c.self.inside.column c.self.inside.left c.self.inside.rest.now in
    omega (arith, c.requires, c.self.invariant.0, all)

pub invariant_of-self : goal.invariant_of-self
invariant_of-self c =
    let here = c.self.inside in
    let rest_is : c.rest-rest.result.now ≡ here.rest.now = c.rest-rest.ensures ∙ sym (ap (λ p. p.rest) c.self.view_is) in
    let after : c.range_from-self-inside.result.now ≡ drop c.args.columns here.rest.now = c.range_from-self-inside.ensures.value ∙ ap (drop c.args.columns) rest_is in
    let even = even_at here.column here.left c.args.columns here.rest.now c.args.self.now c.self.view_is (c.is_even.ensures.left c.if-is_even.true) (c.is_even.ensures.even c.if-is_even.true) c.requires in
    let kept = even_kept here.column here.left c.args.columns here.indent here.rest.now c.range_from-self-inside.result.now here.text.now even c.self.invariant.0 c.self.invariant.1 c.self.invariant.2 after in
    (kept.indent, kept.short, kept.same)

pub returns-then-is_even-clause-place : goal.returns-then-is_even-clause-place
returns-then-is_even-clause-place c =
    let here = c.self.inside in
    let rest_is : c.rest-rest.result.now ≡ here.rest.now = c.rest-rest.ensures ∙ sym (ap (λ p. p.rest) c.self.view_is) in
    let after : c.range_from-self-inside.result.now ≡ drop c.args.columns here.rest.now = c.range_from-self-inside.ensures.value ∙ ap (drop c.args.columns) rest_is in
    let even = even_at here.column here.left c.args.columns here.rest.now c.args.self.now c.self.view_is (c.is_even.ensures.left c.if-is_even.true) (c.is_even.ensures.even c.if-is_even.true) c.requires in
    even_place here.column here.left c.args.columns here.rest.now c.range_from-self-inside.result.now c.args.self.now c.self.view_is even after

pub returns-then-is_even-clause-line : goal.returns-then-is_even-clause-line
returns-then-is_even-clause-line c =
    let here = c.self.inside in
    let rest_is : c.rest-rest.result.now ≡ here.rest.now = c.rest-rest.ensures ∙ sym (ap (λ p. p.rest) c.self.view_is) in
    let after : c.range_from-self-inside.result.now ≡ drop c.args.columns here.rest.now = c.range_from-self-inside.ensures.value ∙ ap (drop c.args.columns) rest_is in
    let even = even_at here.column here.left c.args.columns here.rest.now c.args.self.now c.self.view_is (c.is_even.ensures.left c.if-is_even.true) (c.is_even.ensures.even c.if-is_even.true) c.requires in
    ap line_at (even_place here.column here.left c.args.columns here.rest.now c.range_from-self-inside.result.now c.args.self.now c.self.view_is even after) ∙ line_skip c.args.self.now c.args.columns c.requires

pub returns-then-columns-eq0-clause-place : goal.returns-then-columns-eq0-clause-place
returns-then-columns-eq0-clause-place c = skip_none c.args.self.now c.args.columns (omega (arith, c.if-columns-eq0.true))

pub returns-then-columns-eq0-clause-line : goal.returns-then-columns-eq0-clause-line
returns-then-columns-eq0-clause-line c = ap line_at (skip_none c.args.self.now c.args.columns (omega (arith, c.if-columns-eq0.true))) ∙ line_skip c.args.self.now c.args.columns c.requires
