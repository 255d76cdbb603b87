-- A refusal as replies and error lines have it.
use Rattle.std.specs.Prelude.{ℕ, List, ◌∷◌, ◌++◌, codes, decimal}
use Rattle.mdsource.specs.Refusals.{Refusal}
use Rattle.mdsource.specs.declared.fault.EditFault.{EditFault}
use Rattle.mdsource.specs.FaultNames.{name_of, number_of}
use Rattle.mdsource.specs.FaultReasons.{reason_of}

abbrev pub refused_text : Refusal → List ℕ
refused_text reason = codes "refused " ++ name_of reason ++ 32 ∷ decimal (number_of reason)

-- the same of a fault
abbrev pub fault_text : EditFault → List ℕ
fault_text fault = refused_text (reason_of fault)
