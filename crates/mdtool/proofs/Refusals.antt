-- What a refusal is written as.
use Rattle.std.proofs.Common.{◌≡◌, refl}
use Rattle.mdsource.specs.declared.fault.EditFault.{EditFault}
use Rattle.mdsource.specs.declared.fault.EditFault.TheVariants.{NoMemory}
use Rattle.mdtool.specs.RefusalText.{fault_text}
use Rattle.mdtool.specs.Endings.{refusal_reason_of}

-- each but want of memory by its name and number
pub refusal_is : (fault : EditFault) → (fault ≡ NoMemory → ⊥) → refusal_reason_of fault ≡ fault_text fault
refusal_is NoMemory other = absurd (other refl)
refusal_is _ other = refl
