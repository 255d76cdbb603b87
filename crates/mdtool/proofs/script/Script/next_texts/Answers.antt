use Rattle.std.proofs.Common.{◌≡◌, ◌+◌, ◌++◌, ◌∷◌, [], length, take, drop, refl, ap, ◌∙◌, arith, length-drop}
use Rattle.std.proofs.lemmas.Result.{err_from_is_err_and}
use Rattle.mdtool.specs.Pending.{Pending}
use Rattle.mdtool.proofs.Readings.{draws_on}
use Rattle.mdtool.proofs.Texts.{lines_more, few_lines, lines_draw, texts_fail}
use Rattle.mdtool.proofs.script.Script.next_texts.Goals as goal

pub loop-self-preserved : goal.loop-self-preserved
loop-self-preserved g c =
    let i = c.loop-self.invariant in
    let found = rw c.in-Some.is at c.in_ok-len.ensures.steps in
    let line : c.push.new.self ≡ c.loop-self.lines ++ take c.in-Some.len c.find_line.new.self.bytes ∷ [] = c.in_ok-push.ensures ∙ ap (λ bytes. c.loop-self.lines ++ bytes ∷ []) c.front.ensures in
    let whole = c.in_ok-use_whole_lines.ensures.lines in
    let left : length c.use_line.new.self.bytes ≡ length (drop (c.in-Some.len + 1) c.find_line.new.self.bytes) = ap (λ (p : Pending). length p.bytes) c.use_line.ensures in
    record {
      read = lines_more _ _ _ _ _ _ _ _ _ _ _ _ _ i.read found.0 found.1 c.use_line.ensures line whole.1 whole.2;
      within = c.in_ok-use_whole_lines.ensures.few;
      failures = c.in_ok-len.ensures.failures ∙ i.failures;
      weight = omega (arith, c.in_ok-len.ensures.weight, i.weight, left, whole.2.shorter, length-drop (c.in-Some.len + 1) c.find_line.new.self.bytes);
    }

pub returns-in_err-len-clause-texts : goal.returns-in_err-len-clause-texts
returns-in_err-len-clause-texts g c =
    let p = err_from_is_err_and c.from_residual.result c.from_residual.ensures.1 in
    rw (p.1, p.2) (texts_fail c.in_err-len.field-0.0 _ _ _ c.args.line c.args.count _ _ _ _
    (λ r. few_lines _ _ _ _ _ _ _ _ _ c.loop-self.invariant.read r.0 r.1 (omega (arith, c.len.ensures, c.loop-self-test.true)))
    (λ d. draws_on _ _ _ _ _ _ c.loop-self.invariant.read d)
    c.in_err-len.ensures.steps)

pub returns-in_default-clause-texts : goal.returns-in_default-clause-texts
returns-in_default-clause-texts g c =
    let found = rw c.in_default.is at c.in_ok-len.ensures.steps in
    (refl, few_lines _ _ _ _ _ _ _ _ _ c.loop-self.invariant.read found.0 found.1 (omega (arith, c.len.ensures, c.loop-self-test.true)))

pub returns-in_err-push-clause-texts : goal.returns-in_err-push-clause-texts
returns-in_err-push-clause-texts g c =
    let found = rw c.in-Some.is at c.in_ok-len.ensures.steps in
    let p = err_from_is_err_and c.from_residual-in_err-push.result c.from_residual-in_err-push.ensures.1 in
    rw (p.1, p.2) (lines_draw _ _ _ _ _ _ _ c.loop-self.invariant.read found.0)

pub returns-in_err-use_whole_lines-clause-texts : goal.returns-in_err-use_whole_lines-clause-texts
returns-in_err-use_whole_lines-clause-texts g c =
    let found = rw c.in-Some.is at c.in_ok-len.ensures.steps in
    let p = err_from_is_err_and c.from_residual-in_err-use_whole_lines.result c.from_residual-in_err-use_whole_lines.ensures.1 in
    rw (p.1, p.2) (lines_draw _ _ _ _ _ _ _ c.loop-self.invariant.read found.0)
