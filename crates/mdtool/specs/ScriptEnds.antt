-- How a script ends that is replied to, whatever the replies are.
use Rattle.std.specs.Prelude.{◌≡◌, ◌⊎◌, ℕ, Bool, true, List, [], ◌∷◌, ◌++◌, Option, Result, Ok, Err, map}
use Rattle.mdtool.specs.declared.fault.ToolFault.{ToolFault}
use Rattle.mdtool.specs.declared.fault.ToolFault.TheVariants.{Read, Write, Refused, BadCommand, Truncated, Table, NoMemory}
use Rattle.mdtool.specs.Bytes.{Takes, AtEnd, Gains, GainsFront}
use Rattle.mdview.specs.Document.{Document}
use Rattle.mdtool.specs.Commands.{Command, Stop, Done, Open, Bad, Short, Script, Leads, script_lines}
use Rattle.mdtool.specs.PreludeSet.{Beside, PreludeRefused}
use Rattle.mdtool.specs.Replies.{ScriptTurn, held_behind}

abbrev pub commands_of : List ScriptTurn → List Command
commands_of turns = map (λ (turn : ScriptTurn). turn.command) turns

-- the whole commands of the bytes that were taken are those of these turns, and behind these the script goes on so
pub record Ends (left left' : Option (List ℕ)) (turns : List ScriptTurn) (stop : Stop) : Type 0 where
  pub bytes : List ℕ
  pub ended : Bool
  pub taken : Takes left bytes left'
  pub at_end : ended ≡ true → AtEnd left'
  pub script : Script bytes ended (commands_of turns) stop

-- the commands of these turns stand at the front of the bytes that were taken
pub record Begins (left left' : Option (List ℕ)) (turns : List ScriptTurn) : Type 0 where
  pub bytes : List ℕ
  pub ended : Bool
  pub next : ℕ
  pub rest : List (List ℕ)
  pub taken : Takes left bytes left'
  pub at_end : ended ≡ true → AtEnd left'
  pub leads : Leads 1 (script_lines ended bytes) (commands_of turns) next rest

-- a command was replied to so, memory refused for it or not
pub record Replied (Says : Document → ScriptTurn → List ℕ → Type 0) (old : Document) (command : Command) (bytes : List ℕ) (new : Document) : Type 0 where
  pub starved : Bool
  pub said : Says old (record { command = command; starved = starved }) bytes
  pub holds : new ≡ held_behind old command starved

-- these commands were replied to so, one after the other, by these bytes
abbrev pub AllReplied : (Says : Document → ScriptTurn → List ℕ → Type 0) → Document → List ScriptTurn → List ℕ → Type 0
AllReplied Says held [] bytes = bytes ≡ []
AllReplied Says held (turn ∷ turns) bytes =
    (first : List ℕ) × (rest : List ℕ) × (bytes ≡ first ++ rest) × Says held turn first × AllReplied Says (held_behind held turn.command turn.starved) turns rest

-- each whole command of the bytes that were taken was replied to so, and behind these the script goes on so
pub record RepliedWhole (Says : Document → ScriptTurn → List ℕ → Type 0) (document : Document) (left left' written written' : Option (List ℕ)) (stop : Stop) : Type 0 where
  pub turns : List ScriptTurn
  pub bytes : List ℕ
  pub ends : Ends left left' turns stop
  pub all : AllReplied Says document turns bytes
  pub gained : Gains written bytes written'

-- of such replies to some whole commands, at the front of the bytes that were taken, a beginning was written
pub record RepliedInPart (Says : Document → ScriptTurn → List ℕ → Type 0) (document : Document) (left left' written written' : Option (List ℕ)) : Type 0 where
  pub turns : List ScriptTurn
  pub bytes : List ℕ
  pub begins : Begins left left' turns
  pub all : AllReplied Says document turns bytes
  pub gained : GainsFront written bytes written'

-- what each end says, where this is held at the beginning; there is no other
abbrev pub Served : {T : Type 0} → (Says : Document → ScriptTurn → List ℕ → Type 0) → Result T ToolFault → Document → (left left' written written' : Option (List ℕ)) → Type 0
Served Says (Ok answer) document left left' written written' = RepliedWhole Says document left left' written written' Done
Served Says (Err (BadCommand line)) document left left' written written' = RepliedWhole Says document left left' written written' (Bad line)
Served Says (Err (Truncated line)) document left left' written written' = RepliedWhole Says document left left' written written' (Short line)
Served Says (Err Read) document left left' written written' = RepliedWhole Says document left left' written written' Open
Served Says (Err Write) document left left' written written' = RepliedInPart Says document left left' written written'
Served Says (Err NoMemory) document left left' written written' = RepliedInPart Says document left left' written written'
Served Says (Err (Refused fault)) document left left' written written' = ⊥
Served Says (Err (Table fault)) document left left' written written' = ⊥

-- what each end says where the prelude is read first: of all whole commands, or of a part of the work; there is no other
abbrev pub EndsBeside : {T : Type 0} → (Whole : Document → (left left' written written' : Option (List ℕ)) → Stop → Type 0)
    → (Part : Document → (left left' written written' : Option (List ℕ)) → Type 0)
    → Result T ToolFault → Document → List (List ℕ) → (left left' written written' : Option (List ℕ)) → Type 0
EndsBeside Whole Part (Ok answer) empty prelude left left' written written' = Beside empty prelude (λ held. Whole held left left' written written' Done)
EndsBeside Whole Part (Err (BadCommand line)) empty prelude left left' written written' = Beside empty prelude (λ held. Whole held left left' written written' (Bad line))
EndsBeside Whole Part (Err (Truncated line)) empty prelude left left' written written' = Beside empty prelude (λ held. Whole held left left' written written' (Short line))
EndsBeside Whole Part (Err Read) empty prelude left left' written written' = Beside empty prelude (λ held. Whole held left left' written written' Open)
EndsBeside Whole Part (Err Write) empty prelude left left' written written' = Beside empty prelude (λ held. Part held left left' written written')
EndsBeside Whole Part (Err NoMemory) empty prelude left left' written written' =
    ((left' ≡ left) × (written' ≡ written)) ⊎ Beside empty prelude (λ held. Part held left left' written written')
EndsBeside Whole Part (Err (Refused fault)) empty prelude left left' written written' = PreludeRefused empty prelude fault left left' written written'
EndsBeside Whole Part (Err (Table fault)) empty prelude left left' written written' = ⊥
