-- The target of a label after an edit.
use Rattle.std.proofs.Common.{◌≡◌, Option, Some, None, option_map, Bor, MatchOption, ap, ◌∙◌, sym}
use Rattle.std.specs.Option.{option_copied}
use Rattle.inlinespec.specs.LabelMap.{LinkTarget, target_of}
use Rattle.mdtext.specs.declared.labels.Target.{Target}
use Rattle.mdview.specs.LabelTargets.{changed}

-- an edit that changes the label says where it leads
pub target_changed : (r : Option (Bor Target)) (found : Option (Option Target)) (change : Option Target) (before : Option LinkTarget) → found ≡ Some change → option_copied r ≡ change
    → MatchOption r (changed found before ≡ None) (λ t. changed found before ≡ Some (target_of t.now))
target_changed None found change before is e = ap (λ o. changed o before) is ∙ sym (ap (option_map target_of) e)
target_changed (Some t) found change before is e = ap (λ o. changed o before) is ∙ sym (ap (option_map target_of) e)

-- one that does not leaves it
pub target_stays : (r : Option (Bor Target)) (found : Option (Option Target)) (before : Option LinkTarget) → found ≡ None → MatchOption r (before ≡ None) (λ t. before ≡ Some (target_of t.now))
    → MatchOption r (changed found before ≡ None) (λ t. changed found before ≡ Some (target_of t.now))
target_stays None found before is e = ap (λ o. changed o before) is ∙ e
target_stays (Some t) found before is e = ap (λ o. changed o before) is ∙ e
