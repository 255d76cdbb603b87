-- What a script of edits is answered, at each end.
use Rattle.std.specs.Prelude.{ℕ, List, Option, Result}
use Rattle.mdtool.specs.declared.fault.ToolFault.{ToolFault}
use Rattle.mdwords.specs.declared.reply_forms.ReplyForm.{ReplyForm}
use Rattle.mdtool.specs.Bytes.{Gains, GainsFront}
use Rattle.mdview.specs.Document.{Document}
use Rattle.mdtool.specs.Commands.{Stop}
use Rattle.mdtool.specs.Replies.{ScriptTurn, replies}
use Rattle.mdtool.specs.ScriptEnds.{Begins, Ends, EndsBeside}

-- each whole command of the bytes that were taken was answered, and behind these the script goes on so
pub record Answered (form : ReplyForm) (document : Document) (left left' written written' : Option (List ℕ)) (stop : Stop) : Type 0 where
  pub turns : List ScriptTurn
  pub ends : Ends left left' turns stop
  pub replied : Gains written (replies form document turns) written'

-- of the replies to some whole commands, at the front of the bytes that were taken, a beginning was written
pub record Broken (form : ReplyForm) (document : Document) (left left' written written' : Option (List ℕ)) : Type 0 where
  pub turns : List ScriptTurn
  pub begins : Begins left left' turns
  pub replied : GainsFront written (replies form document turns) written'

-- what each end says where the prelude is read first; there is no other
abbrev pub ServedBeside : {T : Type 0} → ReplyForm → Result T ToolFault → Document → List (List ℕ) → (left left' written written' : Option (List ℕ)) → Type 0
ServedBeside form answer empty prelude left left' written written' = EndsBeside (Answered form) (Broken form) answer empty prelude left left' written written'
