use Rattle.std.proofs.Common.{◌≡◌, ◌+◌, ◌<◌, ℕ, length, get_or, Option, IfSome, arith, sym, subst}
use Rattle.std.proofs.lemmas.Grind.{common_steps}
use Rattle.std.proofs.lemmas.Str.{IsCharBoundary-after_ascii}
use Rattle.std.specs.Str.{IsCharBoundary}
use Rattle.mdscan.specs.declared.link_definitions.Def.{Def}
use Rattle.mdscan.specs.LinkDefinition.{AreDefSpans}
use Rattle.mdscan.proofs.Ends.{or_some}
use Rattle.mdscan.proofs.link_definitions.labelled.Goals as goal

pub returns-in-Some-clause-spans : goal.returns-in-Some-clause-spans
returns-in-Some-clause-spans c utf8 label =
    let text = c.args.text.now in
    let at : ℕ = c.args.label.end + 1 in
    let inside : at < length text = grind (arith, common_steps) in
    let ascii : get_or text at 0 < 128 = grind (arith, common_steps) in
    let e : at + 1 ≡ c.args.label.end + 2 = omega arith in
    let behind = subst (λ (i : ℕ). IsCharBoundary text i) e (IsCharBoundary-after_ascii text at utf8 inside ascii) in
    let span = c.in-Some.ensures.span utf8 (c.after_spacing.ensures.boundary utf8 behind) in
    let end = c.in-Some.ensures.end utf8 in
    subst (λ (r : Option Def). IfSome r (λ def. AreDefSpans text def)) (sym c.or.ensures)
    (or_some c.with_title.result c.without_title.result (λ def. AreDefSpans text def) (c.with_title.ensures.spans utf8 label span) (c.without_title.ensures.spans utf8 label span end.whole))
