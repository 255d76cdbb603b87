use Rattle.std.proofs.Common.{◌≡◌, ◌-◌, length, ap, sym, ◌∙◌, arith}
use Rattle.std.proofs.lemmas.Bool.Decides.{nat_tests}
use Rattle.std.specs.List.{prefix_len}
use Rattle.mdtext.specs.Columns.{is_space_or_tab, indent, line_at}
use Rattle.mdtext.proofs.Indents.{indent_spaces}
use Rattle.mdtext.proofs.EvenIndents.{both_parts}
use Rattle.mdtext.proofs.cursor.Cursor.is_even.Goals as goal

pub overflow_sub-result : goal.overflow_sub-result
overflow_sub-result c = omega (arith, ap length c.self.invariant.2, both_parts c.self.inside.rest.now)

pub returns-then-self-eq0-clause-even : goal.returns-then-self-eq0-clause-even
returns-then-self-eq0-clause-even c = λ e.
    let here = c.self.inside in
    let all = sym (indent_spaces here.column here.left here.rest.now) ∙ ap (λ p. indent (line_at p)) c.self.view_is in
    let equal : length here.rest.now - length here.text.now ≡ here.indent = grind (arith, nat_tests, e) in
    let front = ap (λ p. prefix_len is_space_or_tab p.rest) c.self.view_is in
    omega (arith, equal, all, front, c.self.invariant.0, ap length c.self.invariant.2, both_parts here.rest.now)
