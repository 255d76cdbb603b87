-- A prelude that is set before anything is read.
use Rattle.std.specs.Prelude.{◌≡◌, ℕ, List, Option, Some, None, Result}
use Rattle.mdsource.specs.Calls.{due, put, set_prelude}
use Rattle.mdtool.specs.declared.fault.ToolFault.{ToolFault}
use Rattle.mdsource.specs.declared.fault.EditFault.{EditFault}
use Rattle.mdview.specs.Document.{Document, document, setting_of, source_of}
use Rattle.mdsource.specs.FaultReasons.{reason_of}
use Rattle.mdtool.specs.ToolRefusals.{OnlyRefuses}

-- these lines are not refused as the prelude, and this is held then
pub record Sets (empty : Document) (lines : List (List ℕ)) (held : Document) : Type 0 where
  pub stands : due (setting_of empty) (source_of empty) (set_prelude lines) ≡ None
  pub holds : held ≡ document (setting_of empty) (put (source_of empty) (set_prelude lines))

-- these lines are refused so as the prelude
abbrev pub RefusesLines : (empty : Document) (lines : List (List ℕ)) → EditFault → Type 0
RefusesLines empty lines fault = due (setting_of empty) (source_of empty) (set_prelude lines) ≡ Some (reason_of fault)

-- what each end of the setting of a prelude says, where an answer is seen as what is held; there is no other
abbrev pub PreludeSet : {T : Type 0} → (T → Document) → Result T ToolFault → Document → List (List ℕ) → Type 0
PreludeSet held set empty lines = OnlyRefuses set (λ answer. Sets empty lines (held answer)) (λ fault. RefusesLines empty lines fault)

-- the prelude is accepted, and this is so where it is held
abbrev pub Beside : Document → List (List ℕ) → (Document → Type 0) → Type 0
Beside empty lines Holds = (held : Document) × Sets empty lines held × Holds held

-- the prelude was refused, and nothing was read or written
pub record PreludeRefused (empty : Document) (lines : List (List ℕ)) (fault : EditFault) (left left' written written' : Option (List ℕ)) : Type 0 where
  pub refused : RefusesLines empty lines fault
  pub unread : left' ≡ left
  pub unwritten : written' ≡ written
