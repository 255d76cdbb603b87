-- Replies of a form, one after the other, are those of the definition.
use Rattle.std.proofs.Common.{◌≡◌, ℕ, List, [], ◌∷◌, ◌++◌, Option, ap, ◌∙◌, subst}
use Rattle.mdwords.specs.declared.reply_forms.ReplyForm.{ReplyForm}
use Rattle.mdview.specs.Document.{Document}
use Rattle.mdtool.specs.Bytes.{Gains, GainsFront}
use Rattle.mdtool.specs.Commands.{Stop}
use Rattle.mdtool.specs.Replies.{IsReply, ScriptTurn, held_behind, replies, reply}
use Rattle.mdtool.specs.ScriptEnds.{AllReplied, RepliedInPart, RepliedWhole}
use Rattle.mdtool.specs.Serve.{Answered, Broken}

replies_of : (form : ReplyForm) (old : Document) (turns : List ScriptTurn) (bytes : List ℕ) → AllReplied (IsReply form) old turns bytes → bytes ≡ replies form old turns
unfolding replies
replies_of form old [] bytes all = all
replies_of form old (turn ∷ turns) bytes (first, rest, is, said, others) =
    is
    ∙ ap (λ bs. bs ++ rest) said
    ∙ ap (λ bs. reply form old turn.command turn.starved ++ bs) (replies_of form (held_behind old turn.command turn.starved) turns rest others)

module _ (form : ReplyForm) (old : Document) (left left' written written' : Option (List ℕ)) where
  pub answered : (stop : Stop) → RepliedWhole (IsReply form) old left left' written written' stop → Answered form old left left' written written' stop
  answered stop whole = record {
    turns = whole.turns;
    ends = whole.ends;
    replied = subst (λ (bs : List ℕ). Gains written bs written') (replies_of form old whole.turns whole.bytes whole.all) whole.gained;
  }

  pub broken : RepliedInPart (IsReply form) old left left' written written' → Broken form old left left' written written'
  broken part = record {
    turns = part.turns;
    begins = part.begins;
    replied = subst (λ (bs : List ℕ). GainsFront written bs written') (replies_of form old part.turns part.bytes part.all) part.gained;
  }
