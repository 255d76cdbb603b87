use Rattle.std.proofs.Common.{◌≡◌, ◌+◌, ℕ, List, sym, subst}
use Rattle.std.specs.Str.{IsCharBoundary}
use Rattle.std.proofs.lemmas.List.{take_rest}
use Rattle.mdscan.specs.Spacing.{spacing_length}
use Rattle.mdscan.proofs.Boundaries.{past_spacing_boundary}
use Rattle.mdscan.proofs.link_tails.after_spacing.Goals as goal

pub returns-clause-boundary : goal.returns-clause-boundary
returns-clause-boundary c utf8 boundary =
    let text = c.args.text.now in
    let at = c.args.at in
    let e = subst (λ (t : List ℕ). c.spacing.result ≡ spacing_length t) (take_rest text at) c.spacing.ensures.value in
    subst (λ (n : ℕ). IsCharBoundary text (at + n)) (sym e) (past_spacing_boundary text at utf8 boundary)
