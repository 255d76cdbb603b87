use Rattle.std.proofs.Common.{◌≡◌, ℕ, List, sym, subst}
use Rattle.mdscan.specs.declared.spans.Span.{Span}
use Rattle.mdscan.specs.Spans.{IsSpanOf, trimmed_from}
use Rattle.mdscan.proofs.Boundaries.{trimmed_is_span}
use Rattle.mdscan.proofs.spans.trimmed.Goals as goal

pub returns-clause-span : goal.returns-clause-span
returns-clause-span c =
    let e = subst (λ (t : List ℕ). c.trimmed_bytes.result ≡ trimmed_from t c.args.at) c.as_bytes.ensures.value c.trimmed_bytes.ensures.value in
    subst (λ (s : Span). IsSpanOf c.args.text.now s) (sym e) (trimmed_is_span c.args.text.now c.args.at c.utf8.text c.requires)
