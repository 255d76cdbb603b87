use Rattle.std.proofs.Common.{◌≡◌, ◌+◌, sym, subst, arith}
use Rattle.std.proofs.lemmas.Grind.{common_steps}
use Rattle.mdscan.specs.declared.spans.Span.{Span}
use Rattle.mdscan.specs.AtxHeading.{heading_content}
use Rattle.mdscan.specs.Spans.{IsSpanOf}
use Rattle.mdscan.proofs.Boundaries.{content_is_span}
use Rattle.mdscan.proofs.atx_headings.content.Goals as goal

pub returns-clause-span : goal.returns-clause-span
unfolding heading_content
returns-clause-span c =
    let e : ◌≡◌ {A = Span} (record { start = c.trimmed-inner.result.start; end = c.trimmed-inner.result.start + c.before_closing-length.result }) (heading_content c.args.line.now c.args.level) = grind (arith, common_steps) in
    subst (λ (s : Span). IsSpanOf c.args.line.now s) (sym e) (content_is_span c.args.line.now c.args.level c.utf8.line c.requires)
