use Rattle.std.proofs.Common.{◌≡◌, Some, None, MatchOption, subst}
use Rattle.inlinespec.specs.LabelMap.{target_of, target_in}
use Rattle.inlinespec.proofs.FirstTargets.{found_is}
use Rattle.mdinline.proofs.labels.LabelTableLabels.find.Goals as goal

pub returns : goal.returns
returns c =
    subst (λ m. MatchOption c.get.result (target_in m c.args.label.now ≡ None) (λ t. target_in m c.args.label.now ≡ Some (target_of t.now))) c.self.view_is
    (found_is c.get.result c.args.label.now c.self.inside.targets.entries c.get.ensures.value)
