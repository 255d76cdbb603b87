-- The ends of a script that is replied to.
use Rattle.std.proofs.Common.{ℕ, List, Option, Result, Ok, Err, inr}
use Rattle.mdtool.specs.declared.fault.ToolFault.{ToolFault}
use Rattle.mdtool.specs.declared.fault.ToolFault.TheVariants.{Read, Write, BadCommand, Truncated, NoMemory}
use Rattle.mdview.specs.Document.{Document}
use Rattle.mdtool.specs.Commands.{Stop, Done, Open, Bad, Short}
use Rattle.mdtool.specs.Pending.{Pending}
use Rattle.mdtool.specs.PreludeSet.{Sets}
use Rattle.mdtool.specs.Replies.{ScriptTurn}
use Rattle.mdtool.specs.ScriptEnds.{EndsBeside, RepliedInPart, RepliedWhole, Served}
use Rattle.mdtool.specs.Steps.{NextCommand}
use Rattle.mdtool.proofs.ServeRuns.{Run, run_stops, run_starves}

-- the script ends where no further command was read
pub ends_so : (T : Type 0) (Says : Document → ScriptTurn → List ℕ → Type 0) (fault : ToolFault) (old : Document) (a b c : Option (List ℕ)) (script n : Pending) (w w' : Option (List ℕ)) (held : Document)
    → Run Says old a b script w w' held → NextCommand (Err fault) b script c n → Served {T = T} Says (Err fault) old a c w w'
ends_so T Says Read old a b c script n w w' held run next = run_stops old a b c script w w' held Open run next
ends_so T Says (BadCommand line) old a b c script n w w' held run next = run_stops old a b c script w w' held (Bad line) run next
ends_so T Says (Truncated line) old a b c script n w w' held run next = run_stops old a b c script w w' held (Short line) run next
ends_so T Says NoMemory old a b c script n w w' held run next = run_starves old a b c script w w' held run next
ends_so T Says _ old a b c script n w w' held run next = absurd next

-- the end of the script beside a prelude that is held, in the words of such replies
module _ {T : Type 0} (Says : Document → ScriptTurn → List ℕ → Type 0) (Whole : Document → (left left' written written' : Option (List ℕ)) → Stop → Type 0)
    (Part : Document → (left left' written written' : Option (List ℕ)) → Type 0)
    (whole_of : (held : Document) (left left' written written' : Option (List ℕ)) (stop : Stop) → RepliedWhole Says held left left' written written' stop → Whole held left left' written written' stop)
    (part_of : (held : Document) (left left' written written' : Option (List ℕ)) → RepliedInPart Says held left left' written written' → Part held left left' written written') where
  pub served_beside : (r : Result T ToolFault) (old held : Document) (lines : List (List ℕ)) (left left' written written' : Option (List ℕ)) → Sets old lines held
      → Served Says r held left left' written written' → EndsBeside Whole Part r old lines left left' written written'
  served_beside (Ok answer) old held lines left left' written written' set end = (held, set, whole_of held left left' written written' Done end)
  served_beside (Err (BadCommand line)) old held lines left left' written written' set end = (held, set, whole_of held left left' written written' (Bad line) end)
  served_beside (Err (Truncated line)) old held lines left left' written written' set end = (held, set, whole_of held left left' written written' (Short line) end)
  served_beside (Err Read) old held lines left left' written written' set end = (held, set, whole_of held left left' written written' Open end)
  served_beside (Err Write) old held lines left left' written written' set end = (held, set, part_of held left left' written written' end)
  served_beside (Err NoMemory) old held lines left left' written written' set end = inr (held, set, part_of held left left' written written' end)
  served_beside (Err _) old held lines left left' written written' set end = absurd end
