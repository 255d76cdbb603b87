-- What an exported function does with what C holds of a preview, and what C is told.
use Rattle.std.specs.Prelude.{◌≡◌, ℕ, List, Option, Some, None, Result, length}
use Rattle.std.specs.Result.{result_ok}
use Rattle.jirmoans.specs.declared.faults.Fault.{Fault}
use Rattle.jirmoans.specs.declared.faults.Refusal.{Refusal}
use Rattle.jirmoans.specs.declared.faults.Refusal.TheVariants.{NotOpen, AlreadyOpen}
use Rattle.jirmoans.specs.declared.session.Session.{Session}
use Rattle.jirmoans.specs.declared.settings.Settings.{Settings}
use Rattle.mdview.specs.Document.{pieces_of}
use Rattle.jirmoans.specs.Refusals.{fault_after, fault_of, told}
use Rattle.jirmoans.specs.Sessions.{Opens}

-- the session was called, C is told of it, and the session is held still
pub record Calls {A : Type 0} (does : Session → Result A Refusal → Session → Type 0) (old : Session) (held : Option Session) (fault : Fault)
    (before after : A) : Type 0 where
  pub ended : Result A Refusal
  pub new : Session
  pub is : does old ended new
  pub kept : held ≡ Some new
  pub named : fault ≡ fault_after ended
  pub shown : after ≡ told ended before

-- a call of the session that is held; where none is, C is told that
abbrev pub Answers : {A : Type 0} → (Session → Result A Refusal → Session → Type 0) → Option Session → Option Session → Fault → A → A → Type 0
Answers does None held fault before after = (held ≡ None) × (fault ≡ fault_of NotOpen) × (after ≡ before)
Answers does (Some old) held fault before after = Calls does old held fault before after

-- a session is held where it was opened, and none where it was refused
pub record Opened (settings : Settings) (entities : List ℕ) (held : Option Session) (fault : Fault) : Type 0 where
  pub ended : Result Session Refusal
  pub is : Opens ended settings entities
  pub kept : held ≡ result_ok ended
  pub named : fault ≡ fault_after ended

-- one that is held already is left
abbrev pub AnswersOpening : Settings → List ℕ → Option Session → Option Session → Fault → Type 0
AnswersOpening settings entities None held fault = Opened settings entities held fault
AnswersOpening settings entities (Some old) held fault = (held ≡ Some old) × (fault ≡ fault_of AlreadyOpen)

-- how many units and lines are held
abbrev pub units_in : Option Session → ℕ
units_in None = 0
units_in (Some session) = length (pieces_of session.preview)

abbrev pub lines_in : Option Session → ℕ
lines_in None = 0
lines_in (Some session) = length session.preview.lines
