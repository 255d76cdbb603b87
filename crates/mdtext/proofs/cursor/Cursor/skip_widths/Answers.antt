use Rattle.std.proofs.Common.{◌≡◌, ◌+◌, arith, ap, ◌∙◌, sym, refl}
use Rattle.std.proofs.lemmas.Str.{IsCharBoundary-after_ascii}
use Rattle.mdtext.specs.Columns.{Place, skip_from, indent_at, indent, line_at, skip, unindented}
use Rattle.mdtext.proofs.Strips.{line_skip}
use Rattle.mdtext.proofs.Indents.{steps, walks_on, walked, indent_spaces, lands}
use Rattle.mdtext.proofs.Unindented.{text_stays}
use Rattle.mdtext.proofs.cursor.Cursor.skip_widths.Goals as goal

pub loop-left-init : goal.loop-left-init
loop-left-init c =
    let here = c.self.inside in
    let rest_is : c.rest-rest.result.now ≡ here.rest.now = c.rest-rest.ensures ∙ sym (ap (λ p. p.rest) c.self.view_is) in
    let all : indent (line_at c.args.self.now) ≡ here.left + indent_at (here.column + here.left) c.rest-rest.result.now =
    sym (ap (λ p. indent (line_at p)) c.self.view_is) ∙ indent_spaces here.column here.left here.rest.now ∙ sym (ap (λ r. here.left + indent_at (here.column + here.left) r) rest_is) in
    record {
      text = c.rest-rest.utf8;
      walks = record {
        enough = omega (arith, all, c.requires);
        room = rw rest_is c.self.invariant.1;
        counted = refl;
        same = refl;
      };
    }

pub bounds-as_bytes-0 : goal.bounds-as_bytes-0
bounds-as_bytes-0 c = let s = steps c.loop-left.column c.loop-left.left c.loop-left.wanted c.loop-left.rest.now c.loop-left-test.true c.loop-left.invariant.walks.enough in rw c.as_bytes.ensures.value s.some

pub range_from-rest-requires : goal.range_from-rest-requires
range_from-rest-requires c = let s = steps c.loop-left.column c.loop-left.left c.loop-left.wanted c.loop-left.rest.now c.loop-left-test.true c.loop-left.invariant.walks.enough in
    λ _. IsCharBoundary-after_ascii _ 0 c.loop-left.invariant.text s.some s.ascii

pub loop-left-preserved : goal.loop-left-preserved
loop-left-preserved c = record {
  text = c.range_from-rest.utf8;
  walks = walks_on _ _ _ _ _ _ _ _ _ c.loop-left.invariant.walks c.loop-left-test.true (rw c.as_bytes.ensures.value at c.width-left.ensures) c.range_from-rest.ensures.value c.range_from-rest.ensures.len;
}

pub overflow_sub-self-2 : goal.overflow_sub-self-2
overflow_sub-self-2 c =
    let all = sym (ap (λ p. indent (line_at p)) c.self.view_is) ∙ indent_spaces c.self.inside.column c.self.inside.left c.self.inside.rest.now in
    omega (arith, c.requires, c.self.invariant.0, all)

pub returns-clause-place : goal.returns-clause-place
returns-clause-place c =
    sym (lands c.loop-left.column c.loop-left.left c.loop-left.wanted c.loop-left.rest.now c.loop-left-test.false) ∙ c.loop-left.invariant.walks.same
    ∙ ap (λ r. skip_from c.self.inside.column c.self.inside.left c.args.columns r) (c.rest-rest.ensures ∙ sym (ap (λ p. p.rest) c.self.view_is)) ∙ ap (λ p. skip p c.args.columns) c.self.view_is

pub returns-clause-line : goal.returns-clause-line
returns-clause-line c =
    ap line_at (sym (lands c.loop-left.column c.loop-left.left c.loop-left.wanted c.loop-left.rest.now c.loop-left-test.false) ∙ c.loop-left.invariant.walks.same
    ∙ ap (λ r. skip_from c.self.inside.column c.self.inside.left c.args.columns r) (c.rest-rest.ensures ∙ sym (ap (λ p. p.rest) c.self.view_is)) ∙ ap (λ p. skip p c.args.columns) c.self.view_is)
    ∙ line_skip c.args.self.now c.args.columns c.requires

pub invariant_of-self : goal.invariant_of-self
invariant_of-self c =
    let all = sym (ap (λ p. indent (line_at p)) c.self.view_is) ∙ indent_spaces c.self.inside.column c.self.inside.left c.self.inside.rest.now in
    let rest_is = c.rest-rest.ensures ∙ sym (ap (λ p. p.rest) c.self.view_is) in
    let here : Place = record { column = c.self.inside.column; left = c.self.inside.left; rest = c.self.inside.rest.now } in
    let there = sym (lands c.loop-left.column c.loop-left.left c.loop-left.wanted c.loop-left.rest.now c.loop-left-test.false) ∙ c.loop-left.invariant.walks.same
    ∙ ap (λ r. skip_from c.self.inside.column c.self.inside.left c.args.columns r) rest_is in
    let ends = walked _ _ _ _ _ _ _ c.loop-left.invariant.walks c.loop-left-test.false in
    let total = ap (λ r. c.self.inside.left + indent_at (c.self.inside.column + c.self.inside.left) r) rest_is in (
      omega (arith, ends.0, total, c.self.invariant.0),
      ends.1,
      c.self.invariant.2 ∙ sym (text_stays here c.args.columns (omega (arith, c.requires, ap (λ p. indent (line_at p)) c.self.view_is))) ∙ sym (ap (λ (p : Place). unindented p.rest) there),
    )
