use Rattle.std.proofs.Common.{◌++◌, ◌∙◌, [], ◌∷◌, Err, ap, arith, eqb-true, rules, subst, sym}
use Rattle.std.proofs.lemmas.List.{nil_from_length}
use Rattle.std.proofs.lemmas.Result.{IfOk-weaker}
use Rattle.mdtext.specs.Lines.{split_lines}
use Rattle.blockspec.specs.BlockUnits.{units}
use Rattle.blockspec.specs.Nesting.{first_too_deep}
use Rattle.mdblock.specs.held.ReaderState.{ReaderState}
use Rattle.mdblock.specs.held.Reads.{handed}
use Rattle.mdsource.specs.SourceLimits.{size_of}
use Rattle.mdbatch.specs.BatchHtml.{IsReadFault}
use Rattle.mdsource.proofs.ReadLines.{lines_fed, none_deep, none_handed}
use Rattle.mdbatch.proofs.ReadLines.{all_fed, fault_is, next_fed}
use Rattle.mdbatch.proofs.SplitText.{size_next}
use Rattle.mdbatch.proofs.units.read_units.Goals as goal

pub loop-rest-init : goal.loop-rest-init
loop-rest-init g c = record {
  text = c.as_str-rest.utf8;
  few = search rules;
  small = rw c.as_str-rest.ensures c.args.clean.small;
  alike = g.met.S.UnitSink.alike_itself c.args.sink.now;
  took = ([], ap split_lines (sym c.as_str-rest.ensures), c.new-reader.ensures.reads, subst (g.S.UnitSink.took c.args.sink.now) (sym (none_handed c.args.clean.entities.now)) c.requires.none);
}

pub returns-in-Err-clause-fault : goal.returns-in-Err-clause-fault
returns-in-Err-clause-fault g c =
    let before = c.loop-rest.invariant.took in
    let limit = c.args.clean.options.now.max_containers in
    let rest = split_lines c.loop-rest.rest.now in
    let line = c.next_line.result.0.now in
    let later = split_lines c.next_line.result.1.now in
    let fed = c.fed.ensures ∙ ap (λ (r : ReaderState). r.fed) c.in-Err.ensures.fault ∙ lines_fed limit c.args.clean.entities.now c.loop-rest.reader before.0 before.2 in
    subst (IsReadFault _) (sym c.fault_in_line.ensures.value)
    (fault_is limit (split_lines c.args.clean.text.now) before.0 rest line later c.in-Err.fault c.fed.result before.1 c.next_line.ensures.lines fed
    (λ is. c.in-Err.ensures.deep (ap Err is) limit c.args.clean.entities.now before.0 before.2))

pub loop-rest-preserved : goal.loop-rest-preserved
loop-rest-preserved g c =
    let before = c.loop-rest.invariant.took in
    let limit = c.args.clean.options.now.max_containers in
    let e = c.args.clean.entities.now in
    let ls = before.0 in
    let line = c.next_line.result.0.now in
    let later = split_lines c.next_line.result.1.now in
    let size = size_next line later in
    record {
      text = search rules;
      few = search rules;
      small = omega (arith, size, ap size_of c.next_line.ensures.lines, c.loop-rest.invariant.small);
      alike = g.met.S.UnitSink.alike_both c.args.sink.now c.loop-rest.sink c.hand.new.sink c.loop-rest.invariant.alike c.hand.ensures.alike;
      took = (
        ls ++ line ∷ [],
        next_fed (split_lines c.args.clean.text.now) ls (split_lines c.loop-rest.rest.now) line later before.1 c.next_line.ensures.lines,
        c.in-Ok.ensures.reads limit e ls before.2,
        subst (g.S.UnitSink.took c.hand.new.sink) (sym (c.in-Ok.ensures.hands limit e ls before.2)) (c.in_ok-hand-in-Ok.ensures.took (handed e ls) before.3 c.if-not-branch.false),
      );
    }

pub hand-requires : goal.hand-requires
hand-requires g c = let before = c.loop-rest.invariant.took in (handed c.args.clean.entities.now before.0, before.3)

pub hand-requires-in-Ok-finish : goal.hand-requires-in-Ok-finish
hand-requires-in-Ok-finish g c = let before = c.loop-rest.invariant.took in (handed c.args.clean.entities.now before.0, before.3)

pub returns-in-Ok-finish-clause-took : goal.returns-in-Ok-finish-clause-took
returns-in-Ok-finish-clause-took g c =
    let before = c.loop-rest.invariant.took in
    let e = c.args.clean.entities.now in
    let ls = before.0 in
    let all = all_fed c.args.clean.text.now ls c.loop-rest.rest.now (nil_from_length c.loop-rest.rest.now (eqb-true _ _ (sym c.is_empty.ensures ∙ c.loop-rest-test.false))) before.1 in
    IfOk-weaker c.hand-in-Ok-finish.result _ _
    (λ goes_on took is.
    subst (λ lines. g.S.UnitSink.took c.hand-in-Ok-finish.new.sink (units e lines)) (sym all)
    (subst (g.S.UnitSink.took c.hand-in-Ok-finish.new.sink) (sym (c.in-Ok-finish.ensures.hands c.args.clean.options.now.max_containers e ls before.2)) (took is)))
    (c.hand-in-Ok-finish.ensures.took (handed e ls) before.3)

pub returns-in-Ok-finish-clause-alike : goal.returns-in-Ok-finish-clause-alike
returns-in-Ok-finish-clause-alike g c =
    g.met.S.UnitSink.alike_both c.args.sink.now c.loop-rest.sink c.hand-in-Ok-finish.new.sink c.loop-rest.invariant.alike c.hand-in-Ok-finish.ensures.alike

pub returns-in-Ok-finish-clause-nesting : goal.returns-in-Ok-finish-clause-nesting
returns-in-Ok-finish-clause-nesting g c =
    let before = c.loop-rest.invariant.took in
    let limit = c.args.clean.options.now.max_containers in
    let all = all_fed c.args.clean.text.now before.0 c.loop-rest.rest.now (nil_from_length c.loop-rest.rest.now (eqb-true _ _ (sym c.is_empty.ensures ∙ c.loop-rest-test.false))) before.1 in
    IfOk-weaker c.hand-in-Ok-finish.result _ _
    (λ goes_on took is. ap (first_too_deep limit) all ∙ none_deep limit c.args.clean.entities.now c.loop-rest.reader before.0 before.2)
    (c.hand-in-Ok-finish.ensures.took (handed c.args.clean.entities.now before.0) before.3)
