-- What is answered where a step fails that can only refuse, or want memory.
use Rattle.std.proofs.Common.{◌≡◌, ℕ, Result, Err}
use Rattle.std.specs.Result.{IsErrAnd}
use Rattle.std.proofs.lemmas.Result.{err_from_is_err_and}
use Rattle.mdsource.specs.declared.fault.EditFault.{EditFault}
use Rattle.mdtool.specs.declared.fault.ToolFault.{ToolFault}
use Rattle.mdtool.specs.declared.fault.ToolFault.TheVariants.{Refused, NoMemory}
use Rattle.mdtool.specs.Steps.{failures_after, out_failures_after}
use Rattle.mdtool.specs.ToolRefusals.{OnlyRefuses}

-- neither device failed once more: the feed, which had failed so often, nor the out
abbrev pub NoDeviceFailed : {U : Type 0} → Result U ToolFault → (feed out : ℕ) → Type 0
NoDeviceFailed answer feed out = (feed ≡ failures_after answer feed) × (out ≡ out_failures_after answer out)

module _ {T U : Type 0} (Is : T → Type 0) (Refuses : EditFault → Type 0) (P : Result U ToolFault → Type 0)
    (refused : (why : EditFault) → Refuses why → P (Err (Refused why))) (starved : P (Err NoMemory)) where
  at_fault : (fault : ToolFault) → OnlyRefuses {T = T} (Err fault) Is Refuses → P (Err fault)
  at_fault (Refused why) says = refused why says
  at_fault NoMemory says = starved
  at_fault _ says = absurd says

  -- what is so at both is so of an answer that hands the step's fault on
  pub handed_on : (answer : Result U ToolFault) (fault : ToolFault) → IsErrAnd answer (λ f. f ≡ fault) → OnlyRefuses {T = T} (Err fault) Is Refuses → P answer
  handed_on answer fault failed says =
      let p = err_from_is_err_and answer failed in
      rw (p.1, p.2) (at_fault fault says)
