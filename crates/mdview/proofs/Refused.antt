-- What a reading of texts tells that ends for want of memory.
use Rattle.std.proofs.Common.{◌≡◌, Bool, Result}
use Rattle.std.specs.Result.{IsErrAnd}
use Rattle.mdinline.specs.declared.faults.InlineFault.{InlineFault}
use Rattle.mdinline.specs.declared.faults.InlineFault.TheVariants.{NoMemory}
use Rattle.mdview.specs.TextSetting.{TellsDeep}
use Rattle.mdview.proofs.ToldTexts.{told_deep}

pub told_memory : {T : Type 0} (result : Result T InlineFault) (deep : Bool) → IsErrAnd result (λ f. f ≡ NoMemory) → TellsDeep result deep
told_memory result deep is = told_deep result NoMemory deep is (λ same. absurd (let z : ⊥ = cc in z))
