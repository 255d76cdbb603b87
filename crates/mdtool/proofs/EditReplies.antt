-- An edit, or a new prelude, that was answered so is replied to so.
use Rattle.std.proofs.Common.{◌≡◌, ℕ, ap, ◌∙◌, length, Result, Ok, Err, IfOk, String, Global, string_bytes}
use Rattle.std.specs.declared.alloc.AllocError.{AllocError}
use Rattle.mdsource.specs.Calls.{Call}
use Rattle.mdsource.specs.ChangedPieces.{ChangedPieces}
use Rattle.mdsource.specs.Outcome.{Answer}
use Rattle.mdsource.specs.declared.fault.EditFault.{EditFault}
use Rattle.mdview.specs.Document.{Document}
use Rattle.mdview.specs.Outcome.{answer_of, is_starved, outcome_of}
use Rattle.mdtool.specs.Commands.{Change}
use Rattle.mdwords.specs.declared.reply_forms.ReplyForm.{ReplyForm}
use Rattle.mdtool.specs.Replies.{IsReply, edit_reply, told_of}
use Rattle.mdtool.specs.ScriptEnds.{Replied}

pub edit_replied : (r : Result (String Global) AllocError) (form : ReplyForm) (old new : Document) (call : Call) (answer : Result ChangedPieces EditFault) (before : ℕ)
    → before ≡ length old.lines → (answer_of answer, new) ≡ outcome_of (is_starved answer) old call
    → IfOk r (λ reply. string_bytes reply ≡ edit_reply form (answer_of answer) before (told_of new)) → IfOk r (λ reply. Replied (IsReply form) old (Change call) (string_bytes reply) new)
edit_replied (Ok reply) form old new call answer before many is text = record {
  starved = is_starved answer;
  said = text ∙ ap (λ (n : ℕ). edit_reply form (answer_of answer) n (told_of new)) many ∙ ap (λ (p : Answer × Document). edit_reply form p.0 (length old.lines) (told_of p.1)) is;
  holds = ap (λ (p : Answer × Document). p.1) is;
}
edit_replied (Err fault) form old new call answer before many is text = text
