-- The target of a label on a page, from those of its two maps.
use Rattle.std.proofs.Common.{◌≡◌, ℕ, List, [], Option, Some, None, Bor, MatchOption, ap, ◌∙◌}
use Rattle.std.specs.Option.{option_or}
use Rattle.blockspec.specs.UnitTree.{FoundUnit}
use Rattle.inlinespec.specs.LabelMap.{LabelMap, LinkTarget, target_in, target_of}
use Rattle.mdsource.proofs.LabelsLead.{units_lead}
use Rattle.mdsource.specs.LabelTable.{with_units}
use Rattle.mdtext.specs.declared.labels.Target.{Target}
use Rattle.mdsource.specs.Preludes.{HeldPrelude, target_beside}
use Rattle.mdbatch.specs.TextLabels.{page_table, target_by}

-- the text's own definition counts
pub own_leads : (own beside : Option LinkTarget) (t : Bor Target) → own ≡ Some (target_of t.now) → option_or own beside ≡ Some (target_of t.now)
own_leads own beside t is = ap (λ o. option_or o beside) is

-- where there is none, the prelude's
pub beside_leads : (r : Option (Bor Target)) (own beside : Option LinkTarget) → own ≡ None → MatchOption r (beside ≡ None) (λ t. beside ≡ Some (target_of t.now))
    → MatchOption r (option_or own beside ≡ None) (λ t. option_or own beside ≡ Some (target_of t.now))
beside_leads None own beside none is = ap (λ o. option_or o beside) none ∙ is
beside_leads (Some t) own beside none is = ap (λ o. option_or o beside) none ∙ is

-- The labels of all units lead where the first definition of each says, and else where the prelude says.
pub leads_on_page : (found : List FoundUnit) (own : LabelMap) (prelude : HeldPrelude) (label : List ℕ) → own ≡ with_units [] found
    → target_by own prelude label ≡ page_table found prelude label
leads_on_page found own prelude label is =
    ap (λ own. option_or own (target_beside prelude label)) (ap (λ labels. target_in labels label) is ∙ units_lead found [] label)
