-- A refusal as an engine answers it.
use Rattle.std.specs.Prelude.{◌≡◌, Result, Ok, Err}
use Rattle.mdtool.specs.declared.fault.ToolFault.{ToolFault}
use Rattle.mdtool.specs.declared.fault.ToolFault.TheVariants.{Read, Write, Refused, BadCommand, Truncated, Table, NoMemory}
use Rattle.mdsource.specs.declared.fault.EditFault.{EditFault}
use Rattle.mdsource.specs.declared.fault.EditFault.TheVariants.{NoMemory as EditNoMemory}

-- want of memory is no refusal of the text or the prelude
abbrev pub refusal_of : EditFault → ToolFault
refusal_of EditNoMemory = NoMemory
refusal_of fault = Refused fault

-- the text or the prelude was refused, or memory was
abbrev pub IsRefusal : ToolFault → Type 0
IsRefusal tool = (fault : EditFault) × (tool ≡ refusal_of fault)

-- what holds at an answer, and at a refusal of the text or the prelude; want of memory may end the step too, and there is no other end
abbrev pub OnlyRefuses : {T : Type 0} → Result T ToolFault → (T → Type 0) → (EditFault → Type 0) → Type 0
OnlyRefuses (Ok answer) ok refused = ok answer
OnlyRefuses (Err (Refused fault)) ok refused = refused fault
OnlyRefuses (Err NoMemory) ok refused = Unit {0}
OnlyRefuses (Err Read) ok refused = ⊥
OnlyRefuses (Err Write) ok refused = ⊥
OnlyRefuses (Err (BadCommand line)) ok refused = ⊥
OnlyRefuses (Err (Truncated line)) ok refused = ⊥
OnlyRefuses (Err (Table fault)) ok refused = ⊥
