use Rattle.std.proofs.Common.{◌≡◌, Some, None, MatchOption, subst}
use Rattle.inlinespec.specs.LabelMap.{target_of}
use Rattle.inlinespec.proofs.FirstTargets.{found_is}
use Rattle.mdsource.specs.Preludes.{HeldPrelude, target_beside}
use Rattle.mdsource.proofs.preludes.PreludeLabels.find.Goals as goal

pub returns : goal.returns
returns c =
    subst (λ (p : HeldPrelude). MatchOption c.get.result (target_beside p c.args.label.now ≡ None) (λ t. target_beside p c.args.label.now ≡ Some (target_of t.now))) c.self.view_is
    (found_is c.get.result c.args.label.now c.self.inside.targets.entries c.get.ensures.value)
