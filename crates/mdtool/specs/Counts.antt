-- What a script's commands are said to have read, at each end.
use Rattle.std.specs.Prelude.{◌≡◌, ℕ, ◌≤◌, Bool, List, [], ◌∷◌, ◌++◌, Option, Result, decimal, map}
use Rattle.mdsource.specs.SoonTexts.{texts_soon}
use Rattle.mdsource.specs.Stops.{lines_soon}
use Rattle.mdview.specs.Document.{Document, setting_of, source_of}
use Rattle.mdtool.specs.declared.fault.ToolFault.{ToolFault}
use Rattle.mdtool.specs.Bytes.{Gains, GainsFront}
use Rattle.mdtool.specs.Commands.{Command, Html, Change, Stop}
use Rattle.mdtool.specs.Replies.{ScriptTurn, held_behind}
use Rattle.mdtool.specs.ScriptEnds.{Begins, Ends, EndsBeside}

-- a command, and how many lines and inline texts were read for it
pub record CountedTurn : Type 0 where
  pub turn : ScriptTurn
  pub lines : ℕ
  pub inlines : ℕ

abbrev pub turns_of : List CountedTurn → List ScriptTurn
turns_of counts = map (λ (count : CountedTurn). count.turn) counts

-- what may be read for a command where this is held
abbrev pub IsWithin : Document → Command → (lines inlines : ℕ) → Type 0
IsWithin held Html lines inlines = (lines ≡ 0) × (inlines ≡ 0)
IsWithin held (Change call) lines inlines = (lines ≤ lines_soon (setting_of held) (source_of held) call) × (inlines ≤ texts_soon (setting_of held) (source_of held) call)

-- each of these commands, one after the other, read no more than it may
abbrev pub AreWithin : Document → List CountedTurn → Type 0
AreWithin held [] = Unit {0}
AreWithin held (count ∷ counts) = IsWithin held count.turn.command count.lines count.inlines × AreWithin (held_behind held count.turn.command count.turn.starved) counts

abbrev pub count_line : (lines inlines : ℕ) → List ℕ
count_line lines inlines = decimal lines ++ (32 ∷ (decimal inlines ++ 10 ∷ []))

-- a line for each command
abbrev pub count_lines : List CountedTurn → List ℕ
count_lines [] = []
count_lines (count ∷ counts) = count_line count.lines count.inlines ++ count_lines counts

-- each whole command of the bytes that were taken was carried out, and a line says what was read for it
pub record Counted (document : Document) (left left' written written' : Option (List ℕ)) (stop : Stop) : Type 0 where
  pub counts : List CountedTurn
  pub ends : Ends left left' (turns_of counts) stop
  pub within : AreWithin document counts
  pub said : Gains written (count_lines counts) written'

-- of the lines of some whole commands, at the front of the bytes that were taken, a beginning was written
pub record CountedInPart (document : Document) (left left' written written' : Option (List ℕ)) : Type 0 where
  pub counts : List CountedTurn
  pub begins : Begins left left' (turns_of counts)
  pub within : AreWithin document counts
  pub said : GainsFront written (count_lines counts) written'

-- what each end says where the prelude is read first; there is no other
abbrev pub CountsBeside : {T : Type 0} → Result T ToolFault → Document → List (List ℕ) → (left left' written written' : Option (List ℕ)) → Type 0
CountsBeside answer empty prelude left left' written written' = EndsBeside Counted CountedInPart answer empty prelude left left' written written'

-- a line says what was read for the command, no more than may be
abbrev pub IsCountLine : Document → ScriptTurn → List ℕ → Type 0
IsCountLine held turn bytes = (lines : ℕ) × (inlines : ℕ) × (bytes ≡ count_line lines inlines) × IsWithin held turn.command lines inlines

-- a command was carried out, memory refused for it or not, and this was read for it
pub record Counting (old : Document) (command : Command) (lines inlines : ℕ) (new : Document) : Type 0 where
  pub starved : Bool
  pub within : IsWithin old command lines inlines
  pub holds : new ≡ held_behind old command starved
