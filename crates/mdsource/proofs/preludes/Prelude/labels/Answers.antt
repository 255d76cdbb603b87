use Rattle.std.proofs.Common.{◌≡◌, ◌∙◌, map, subst, sym}
use Rattle.mdsource.specs.Preludes.{HeldPrelude}
use Rattle.mdsource.proofs.ShownLabels.{keys_shown}
use Rattle.mdsource.proofs.preludes.Prelude.labels.Goals as goal

pub returns-clause-rest : goal.returns-clause-rest
returns-clause-rest c = subst (λ (p : HeldPrelude). c.keys.result ≡ map (λ e. e.0) p.labels) c.self.view_is (c.keys.ensures.rest ∙ sym (keys_shown c.self.inside.targets.entries))
