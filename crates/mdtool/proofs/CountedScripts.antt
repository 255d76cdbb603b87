-- Lines of counts: each command was counted, and a line written for it.
use Rattle.std.proofs.Common.{◌≡◌, ℕ, ◌+◌, ◌≤◌, List, [], ◌∷◌, ◌++◌, Option, Result, Ok, Err, IfOk, String, Global, string_bytes, refl, ap, ◌∙◌, subst, arith}
use Rattle.std.specs.declared.alloc.AllocError.{AllocError}
use Rattle.mdsource.specs.SoonTexts.{texts_soon}
use Rattle.mdsource.specs.Stops.{lines_soon}
use Rattle.mdsource.specs.Calls.{Call}
use Rattle.mdsource.specs.ChangedPieces.{ChangedPieces}
use Rattle.mdsource.specs.Outcome.{Answer}
use Rattle.mdsource.specs.declared.fault.EditFault.{EditFault}
use Rattle.mdview.specs.Document.{Document, setting_of, source_of}
use Rattle.mdview.specs.Outcome.{answer_of, is_starved, outcome_of}
use Rattle.mdtool.specs.Bytes.{Gains, GainsFront}
use Rattle.mdtool.specs.Commands.{Change, Command, Stop}
use Rattle.mdtool.specs.Counts.{AreWithin, Counted, CountedInPart, CountedTurn, Counting, IsCountLine, count_line, count_lines, turns_of}
use Rattle.mdtool.specs.Replies.{ScriptTurn, held_behind}
use Rattle.mdtool.specs.ScriptEnds.{AllReplied, Begins, Ends, Replied, RepliedInPart, RepliedWhole}

-- ---- a command

-- a call that was answered so, for which a counter that stood at 0 has counted so much
pub counting : (old new : Document) (call : Call) (answer : Result ChangedPieces EditFault) (lines lines' inlines inlines' : ℕ) → (answer_of answer, new) ≡ outcome_of (is_starved answer) old call
    → lines ≡ 0 → inlines ≡ 0 → lines' ≤ lines + lines_soon (setting_of old) (source_of old) call → inlines' ≤ inlines + texts_soon (setting_of old) (source_of old) call
    → Counting old (Change call) lines' inlines' new
counting old new call answer lines lines' inlines inlines' is none no_text few few_texts = record {
  starved = is_starved answer;
  within = (omega (arith, none, few), omega (arith, no_text, few_texts));
  holds = ap (λ (p : Answer × Document). p.1) is;
}

-- its line
pub count_replied : (r : Result (String Global) AllocError) (old new : Document) (command : Command) (lines inlines : ℕ) → Counting old command lines inlines new
    → IfOk r (λ line. string_bytes line ≡ count_line lines inlines) → IfOk r (λ line. Replied IsCountLine old command (string_bytes line) new)
count_replied (Ok line) old new command lines inlines count is = record { starved = count.starved; said = (lines, inlines, is, count.within); holds = count.holds }
count_replied (Err fault) old new command lines inlines count is = is

-- ---- a script

-- each of these commands with what was read for it, and their lines
record CountsOf (old : Document) (turns : List ScriptTurn) (bytes : List ℕ) : Type 0 where
  counts : List CountedTurn
  turns_are : turns ≡ turns_of counts
  within : AreWithin old counts
  bytes_are : bytes ≡ count_lines counts

counts_of : (old : Document) (turns : List ScriptTurn) (bytes : List ℕ) → AllReplied IsCountLine old turns bytes → CountsOf old turns bytes
counts_of old [] bytes all = record { counts = []; turns_are = refl; within = tt; bytes_are = all }
counts_of old (turn ∷ turns) bytes (first, rest, is, (lines, inlines, line_is, one), others) =
    let behind = counts_of (held_behind old turn.command turn.starved) turns rest others in
    record {
      counts = (record { turn = turn; lines = lines; inlines = inlines }) ∷ behind.counts;
      turns_are = ap (λ (ts : List ScriptTurn). turn ∷ ts) behind.turns_are;
      within = (one, behind.within);
      bytes_are = is ∙ ap (λ bs. bs ++ rest) line_is ∙ ap (λ bs. count_line lines inlines ++ bs) behind.bytes_are;
    }

module _ (old : Document) (left left' written written' : Option (List ℕ)) where
  pub counted : (stop : Stop) → RepliedWhole IsCountLine old left left' written written' stop → Counted old left left' written written' stop
  counted stop whole =
      let found = counts_of old whole.turns whole.bytes whole.all in record {
        counts = found.counts;
        ends = subst (λ (ts : List ScriptTurn). Ends left left' ts stop) found.turns_are whole.ends;
        within = found.within;
        said = subst (λ (bs : List ℕ). Gains written bs written') found.bytes_are whole.gained;
      }

  pub counted_in_part : RepliedInPart IsCountLine old left left' written written' → CountedInPart old left left' written written'
  counted_in_part part =
      let found = counts_of old part.turns part.bytes part.all in record {
        counts = found.counts;
        begins = subst (λ (ts : List ScriptTurn). Begins left left' ts) found.turns_are part.begins;
        within = found.within;
        said = subst (λ (bs : List ℕ). GainsFront written bs written') found.bytes_are part.gained;
      }
