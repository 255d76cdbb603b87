use Rattle.std.proofs.Common.{◌<◌, length, arith, refl}
use Rattle.std.proofs.lemmas.Str.{IsCharBoundary-after_ascii}
use Rattle.mdtext.specs.ByteClass.{in_class}
use Rattle.mdtext.proofs.PlainRuns.{Stops, stops, run_plain}
use Rattle.mdtext.proofs.plain_runs.split_at_special.Goals as goal
use Rattle.mdtext.proofs.plain_runs.split_at_special.Goals.{After-first_special-stop}

here : (c : After-first_special-stop) → Stops (in_class c.args.class.now) c.args.text.now c.first_special-stop.result
here c = stops _ _ _ _ _ c.first_special-stop.ensures refl c.as_bytes.ensures.value

pub range-plain-requires-clause-end_boundary : goal.range-plain-requires-clause-end_boundary
range-plain-requires-clause-end_boundary c =
    let s = here (goal.at.range-plain-requires-clause-end_boundary c).After-first_special-stop in
    (s.within, λ h big. let ascii = c.requires _ (s.special h) in omega (arith, ascii))

pub returns-then-stop-text-clause-plain : goal.returns-then-stop-text-clause-plain
returns-then-stop-text-clause-plain c =
    run_plain _ _ _ _ (here (goal.at.returns-then-stop-text-clause-plain c).After-first_special-stop) c.range-plain.ensures.value

pub range_from-requires : goal.range_from-requires
range_from-requires c =
    let s = here (goal.at.range_from-requires c).After-first_special-stop in
    let h : c.first_special-stop.result < length c.args.text.now = omega (arith, s.within, c.if-stop-text.false) in
    λ _. IsCharBoundary-after_ascii _ _ c.utf8.text h (c.requires _ (s.special h))

pub returns-clause-plain : goal.returns-clause-plain
returns-clause-plain c = run_plain _ _ _ _ (here (goal.at.returns-clause-plain c).After-first_special-stop) c.range-plain.ensures.value

pub returns-clause-special : goal.returns-clause-special
returns-clause-special c =
    let s = here (goal.at.returns-clause-special c).After-first_special-stop in
    rw c.as_bytes-2.ensures.value (s.special (omega (arith, s.within, c.if-stop-text.false)))
