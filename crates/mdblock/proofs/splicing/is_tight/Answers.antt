use Rattle.std.proofs.Common.{rules, tests, ◌≡◌, Bool, true, false, not, ◌||◌, ◌∙◌, ap}
use Rattle.std.proofs.lemmas.Iterator.{YieldsList-from_slice}
use Rattle.std.proofs.lemmas.Iterator.Search.{any_from_yields_List}
use Rattle.mdblock.specs.declared.units.Join as declared
use Rattle.mdblock.proofs.ItemParts.{loose_mapped}
use Rattle.mdblock.proofs.splicing.is_tight.Goals as goal

tight_is : (p a b : Bool) → p ≡ false → a ≡ b → not a ≡ not (p || b)
tight_is true a b h is = absurd (let x : ⊥ = cc in x)
tight_is false a b h is = ap not is

pub returns-then-not-parted : goal.returns-then-not-parted
returns-then-not-parted c =
    tight_is c.args.parted c.any.result _ c.if-not-parted.true
    (any_from_yields_List (λ (j : declared.Join). j.loose) _ _ c.any.result c.any.ensures.ran (YieldsList-from_slice c.args.joins.now cc) (λ x b q k. search (rules, tests)) ∙ loose_mapped c.args.joins.now)
