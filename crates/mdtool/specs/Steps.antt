-- What each end of a step says that reads a script.
use Rattle.std.specs.Prelude.{◌≡◌, ℕ, ◌+◌, ◌<◌, Bool, true, false, List, [], ◌++◌, Option, Some, None, Result, Ok, Err, length, map}
use Rattle.std.specs.Str.Lossy.{utf8_lossy}
use Rattle.mdtool.specs.declared.fault.ToolFault.{ToolFault}
use Rattle.mdtool.specs.declared.fault.ToolFault.TheVariants.{Read, Write, Refused, BadCommand, Truncated, Table, NoMemory}
use Rattle.mdtool.specs.declared.command.Command.{Command as TheCommand}
use Rattle.mdtool.specs.Bytes.{Takes, AtEnd}
use Rattle.mdtool.specs.Commands.{Command, Stop, Done, Open, Bad, Short, first_command, stop_at, script_lines, capped}
use Rattle.mdtool.specs.Pending.{Pending, Reads, Draws, IsOver}
use Rattle.mdtool.specs.Views.{command_view}

-- what holds at an answer, at a failure of the feed, and at want of memory; there is no other end
abbrev pub Steps : {T : Type 0} → Result T ToolFault → (T → Type 0) → Type 0 → Type 0 → Type 0
Steps (Ok answer) ok read memory = ok answer
Steps (Err Read) ok read memory = read
Steps (Err NoMemory) ok read memory = memory
Steps (Err Write) ok read memory = ⊥
Steps (Err (Refused fault)) ok read memory = ⊥
Steps (Err (BadCommand line)) ok read memory = ⊥
Steps (Err (Truncated line)) ok read memory = ⊥
Steps (Err (Table fault)) ok read memory = ⊥

-- the feed's failures afterwards: `Read` answers one more
abbrev pub failures_after : {T : Type 0} → Result T ToolFault → ℕ → ℕ
failures_after (Err Read) failures = failures + 1
failures_after _ failures = failures

-- the out's failures afterwards: `Write` answers one more
abbrev pub out_failures_after : {T : Type 0} → Result T ToolFault → ℕ → ℕ
out_failures_after (Err Write) failures = failures + 1
out_failures_after _ failures = failures

-- Bytes were taken, and among all of these no whole command stands at the front: the script goes on so.
pub record StopsAt (left : Option (List ℕ)) (old : Pending) (left' : Option (List ℕ)) (stop : Stop) : Type 0 where
  pub taken : List ℕ
  pub ended : Bool
  pub takes : Takes left taken left'
  pub stays : old.is_ended ≡ true → (taken ≡ []) × (ended ≡ true)
  pub at_end : (old.is_ended ≡ true → AtEnd left) → ended ≡ true → AtEnd left'
  pub none : first_command (script_lines ended (old.bytes ++ taken)) ≡ None
  pub stop_is : stop ≡ stop_at ended (capped (old.lines + 1)) (script_lines ended (old.bytes ++ taken))

-- the lines of a whole command were read
pub record ReadsCommand (left : Option (List ℕ)) (old : Pending) (left' : Option (List ℕ)) (new : Pending) (command : Command) : Type 0 where
  pub lines : List (List ℕ)
  pub reads : Reads left old lines left' new
  pub first : (rest : List (List ℕ)) → first_command (lines ++ rest) ≡ Some (command, length lines)

-- fewer lines than so many were read, and no other stands there
pub record FewLines (left : Option (List ℕ)) (old : Pending) (left' : Option (List ℕ)) (new : Pending) (ended : Bool) (count : ℕ) : Type 0 where
  pub lines : List (List ℕ)
  pub reads : Reads left old lines left' new
  pub few : length lines < count
  pub over : IsOver ended new

-- so many lines were read, and these are their texts
pub record ReadsTexts (left : Option (List ℕ)) (old : Pending) (left' : Option (List ℕ)) (new : Pending) (count : ℕ) (texts : List (List ℕ)) : Type 0 where
  pub lines : List (List ℕ)
  pub reads : Reads left old lines left' new
  pub all : length lines ≡ count
  pub texts_are : texts ≡ map utf8_lossy lines

-- what each end of a reading of so many lines says, for the command in the line of this number; there is no other
abbrev pub NextTexts : Result (List (List ℕ)) ToolFault → (number count : ℕ) → Option (List ℕ) → Pending → Option (List ℕ) → Pending → Type 0
NextTexts (Ok texts) number count left old left' new = ReadsTexts left old left' new count texts
NextTexts (Err Read) number count left old left' new = FewLines left old left' new false count
NextTexts (Err (Truncated line)) number count left old left' new = (line ≡ number) × FewLines left old left' new true count
NextTexts (Err NoMemory) number count left old left' new = Draws left old.is_ended left'
NextTexts (Err Write) number count left old left' new = ⊥
NextTexts (Err (Refused fault)) number count left old left' new = ⊥
NextTexts (Err (BadCommand line)) number count left old left' new = ⊥
NextTexts (Err (Table fault)) number count left old left' new = ⊥

-- what each end of a reading of one command says
abbrev pub NextCommand : Result (Option TheCommand) ToolFault → Option (List ℕ) → Pending → Option (List ℕ) → Pending → Type 0
NextCommand (Ok (Some command)) left old left' new = ReadsCommand left old left' new (command_view command)
NextCommand (Ok None) left old left' new = StopsAt left old left' Done
NextCommand (Err Read) left old left' new = StopsAt left old left' Open
NextCommand (Err (BadCommand line)) left old left' new = StopsAt left old left' (Bad line)
NextCommand (Err (Truncated line)) left old left' new = StopsAt left old left' (Short line)
NextCommand (Err NoMemory) left old left' new = Draws left old.is_ended left'
NextCommand (Err Write) left old left' new = ⊥
NextCommand (Err (Refused fault)) left old left' new = ⊥
NextCommand (Err (Table fault)) left old left' new = ⊥
