use Rattle.std.proofs.Common.{◌≡◌, ◌+◌, ◌*◌, ◌^◌, ◌<◌, ◌≤◌, length, drop, ap, arith, sym, subst, ◌∙◌}
use Rattle.mdtext.specs.Columns.{AreMarks, indent_at, unindented}
use Rattle.mdtext.proofs.Indents.{mark_ends}
use Rattle.mdtext.proofs.Unindented.{indentation_ends, behind, mark_reaches, behind_mark, none_left}
use Rattle.mdtext.proofs.cursor.Cursor.skip_mark.Goals.{After-range_from-rest}
use Rattle.mdtext.proofs.cursor.Cursor.skip_mark.Goals as goal

reaches : (c : After-range_from-rest) → c.self.inside.column + c.self.inside.indent + c.args.n + 4 * length c.range_from-rest.result.now < 2 ^ 64
reaches c =
    let here = c.self.inside in
    let rest_is : here.rest.now ≡ c.args.self.now.rest = ap (λ p. p.rest) c.self.view_is in
    let text_is : c.text.result.now ≡ unindented here.rest.now = c.text.ensures ∙ ap unindented (sym rest_is) in
    let within : c.args.n ≤ length (unindented here.rest.now) = omega (arith, c.requires.0, ap (λ r. length (unindented r)) rest_is) in
    let after : c.range_from-rest.result.now ≡ drop c.args.n (unindented here.rest.now) = c.range_from-rest.ensures.value ∙ ap (drop c.args.n) text_is in
    mark_reaches here.column here.left here.indent c.args.n here.rest.now c.range_from-rest.result.now c.self.invariant.0 c.self.invariant.1 within after

pub overflow_add-column : goal.overflow_add-column
overflow_add-column c = let reach = reaches (goal.at.overflow_add-column c).After-range_from-rest in omega (arith, reach)

pub overflow_add-column-2 : goal.overflow_add-column-2
overflow_add-column-2 c = let reach = reaches (goal.at.overflow_add-column-2 c).After-range_from-rest in omega (arith, reach)

pub front_of-front-requires : goal.front_of-front-requires
front_of-front-requires c =
    let reach = reaches (goal.at.front_of-front-requires c).After-range_from-rest in
    omega (arith, reach, ap length c.as_bytes.ensures.value)

pub range_from-rest-requires : goal.range_from-rest-requires
range_from-rest-requires c = mark_ends _ _ c.text.utf8 (subst (AreMarks c.args.n) (sym c.text.ensures) c.requires)

pub range_from-self-inside-requires : goal.range_from-self-inside-requires
range_from-self-inside-requires c =
    λ _. indentation_ends c.range_from-rest.result.now c.as_bytes.result.now c.front_of-front.result.bytes c.range_from-rest.utf8 c.as_bytes.ensures.value c.front_of-front.ensures.bytes

pub invariant_of-self : goal.invariant_of-self
invariant_of-self c =
    let here = c.self.inside in
    let reach = reaches (goal.at.invariant_of-self c).After-range_from-rest in
    let columns = c.front_of-front.ensures.columns ∙ ap (indent_at (here.column + here.indent + c.args.n)) c.as_bytes.ensures.value in (
      none_left (here.column + here.indent + c.args.n) c.front_of-front.result.columns c.range_from-rest.result.now columns,
      omega (arith, reach),
      behind c.range_from-rest.result.now c.as_bytes.result.now _ c.front_of-front.result.bytes c.as_bytes.ensures.value c.front_of-front.ensures.bytes c.range_from-self-inside.ensures.value,
    )

pub returns : goal.returns
returns c =
    let here = c.self.inside in
    behind_mark here.column here.left here.indent c.args.n here.rest.now c.args.self.now c.range_from-rest.result.now c.self.invariant.0 c.self.view_is
    (c.range_from-rest.ensures.value ∙ ap (drop c.args.n) c.text.ensures)
