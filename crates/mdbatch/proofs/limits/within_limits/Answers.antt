use Rattle.std.proofs.Common.{◌∙◌, sym, arith, length, map, eqb-true}
use Rattle.std.proofs.lemmas.List.{length-map, nil_from_length}
use Rattle.mdtext.specs.Lines.{split_lines, without_nul}
use Rattle.mdsource.specs.SourceLimits.{size_of}
use Rattle.mdbatch.proofs.DueRefusals.{none_due, too_large, lines_counted, bytes_counted}
use Rattle.mdbatch.proofs.SplitText.{few_lines, small_lines}
use Rattle.mdbatch.proofs.limits.within_limits.Goals as goal

pub returns-then-stays_within-clause-within : goal.returns-then-stays_within-clause-within
returns-then-stays_within-clause-within c =
    let text = c.args.text.now in
    let same = length-map (split_lines text) without_nul in
    let few = few_lines c.loop-rest.rest.now in
    let small = small_lines c.loop-rest.rest.now in
    let lines = c.stays_within.ensures.lines c.if-stays_within.true in
    let bytes = c.stays_within.ensures.bytes c.if-stays_within.true in
    none_due (map without_nul (split_lines text)) (omega (arith, same, few, lines, c.loop-rest.invariant.lines)) (omega (arith, small, bytes, c.loop-rest.invariant.bytes))

pub returns-then-size-gt-MAX_SIZE-clause-beyond : goal.returns-then-size-gt-MAX_SIZE-clause-beyond
returns-then-size-gt-MAX_SIZE-clause-beyond c =
    let text = c.args.text.now in
    let no_rest = nil_from_length c.loop-rest.rest.now (eqb-true _ _ (sym c.is_empty.ensures ∙ c.loop-rest-test.false)) in
    let same = length-map (split_lines text) without_nul in
    let few = lines_counted c.loop-rest.rest.now c.loop-rest.lines (length (split_lines text)) no_rest c.loop-rest.invariant.lines (omega (arith, c.if-lines-gt-MAX_LINES.false)) in
    let large = (bytes_counted c.loop-rest.rest.now c.loop-rest.size (size_of (map without_nul (split_lines text))) no_rest c.loop-rest.invariant.bytes).1 (omega (arith, c.if-size-gt-MAX_SIZE.true)) in
    too_large (map without_nul (split_lines text)) (omega (arith, same, few)) large

pub returns-clause-within : goal.returns-clause-within
returns-clause-within c =
    let text = c.args.text.now in
    let no_rest = nil_from_length c.loop-rest.rest.now (eqb-true _ _ (sym c.is_empty.ensures ∙ c.loop-rest-test.false)) in
    let same = length-map (split_lines text) without_nul in
    let few = lines_counted c.loop-rest.rest.now c.loop-rest.lines (length (split_lines text)) no_rest c.loop-rest.invariant.lines (omega (arith, c.if-lines-gt-MAX_LINES.false)) in
    let small = (bytes_counted c.loop-rest.rest.now c.loop-rest.size (size_of (map without_nul (split_lines text))) no_rest c.loop-rest.invariant.bytes).0 (omega (arith, c.if-size-gt-MAX_SIZE.false)) in
    none_due (map without_nul (split_lines text)) (omega (arith, same, few)) small
