-- The replies to the commands of a script.
use Rattle.std.specs.Prelude.{◌≡◌, ℕ, ◌+◌, ◌-◌, Bool, List, [], ◌∷◌, ◌++◌, Option, Some, None, length, codes, decimal, nat_lt, slice_get, if◌then◌else◌}
use Rattle.std.specs.List.{concat}
use Rattle.blockspec.specs.BlockUnits.{begins as begins_of}
use Rattle.mdwords.specs.declared.reply_forms.ReplyForm.{ReplyForm}
use Rattle.mdwords.specs.declared.reply_forms.ReplyForm.TheVariants.{Plain, WithLines}
use Rattle.mdtool.specs.RefusalText.{refused_text}
use Rattle.mdsource.specs.ChangedPieces.{ChangedPieces}
use Rattle.mdsource.specs.Outcome.{Answer, accepted, refused}
use Rattle.mdsource.specs.Refusals.{Refusal}
use Rattle.mdsource.specs.Patch.{brought}
use Rattle.mdview.specs.Document.{Document, pieces_of}
use Rattle.mdview.specs.Outcome.{outcome_of}
use Rattle.mdtool.specs.Commands.{Command, Html, Change}

-- what replies tell of a text: how many lines it has, where its units begin, and their HTML
pub record Told : Type 0 where
  pub lines : ℕ
  pub begins : List ℕ
  pub pieces : List (List ℕ)

abbrev pub told_of : Document → Told
told_of held = record {
  lines = length held.lines;
  begins = begins_of held.entities held.lines;
  pieces = pieces_of held;
}

-- the line on which the piece of this number begins, where replies of this form tell it
abbrev pub told_line : ReplyForm → List ℕ → ℕ → Option ℕ
told_line Plain begins number = None
told_line WithLines begins number = slice_get begins number

abbrev pub line_part : Option ℕ → List ℕ
line_part None = []
line_part (Some line) = 32 ∷ decimal line

-- a piece with its number and its length, and its first line where that is told
abbrev pub piece_reply : Option ℕ → ℕ → List ℕ → List ℕ
piece_reply line number piece = codes "piece " ++ decimal number ++ 32 ∷ decimal (length piece) ++ line_part line ++ 10 ∷ piece

-- pieces, each with its number
abbrev pub pieces_reply : ReplyForm → List ℕ → List (ℕ × List ℕ) → List ℕ
pieces_reply form begins [] = []
pieces_reply form begins (piece ∷ pieces) = piece_reply (told_line form begins piece.0) piece.0 piece.1 ++ pieces_reply form begins pieces

abbrev pub patch_line : ChangedPieces → List ℕ
patch_line patch = codes "ok " ++ decimal patch.first ++ 32 ∷ decimal patch.removed ++ 32 ∷ decimal patch.added ++ 32 ∷ decimal (length patch.again) ++ 10 ∷ []

-- how many lines more than before there are, with a sign where there are fewer
abbrev pub moved_by : (before lines : ℕ) → List ℕ
moved_by before lines = if nat_lt lines before then 45 ∷ decimal (before - lines) else decimal (lines - before)

-- the pieces from this number on, behind those that came, begin so many lines later than before
abbrev pub moved_line : ReplyForm → (behind before lines : ℕ) → List ℕ
moved_line Plain behind before lines = []
moved_line WithLines behind before lines = codes "moved " ++ decimal behind ++ 32 ∷ moved_by before lines ++ 10 ∷ []

abbrev pub refused_reply : Refusal → List ℕ
refused_reply reason = refused_text reason ++ 10 ∷ []

-- the reply to an edit, or a new prelude, of a text of so many lines, that left this
abbrev pub edit_reply : ReplyForm → Answer → (before : ℕ) → Told → List ℕ
edit_reply form (accepted patch) before told = patch_line patch ++ moved_line form (patch.first + patch.added) before told.lines ++ pieces_reply form told.begins (brought patch 0 told.pieces)
edit_reply form (refused reason) before told = refused_reply reason

-- the reply to `html`
abbrev pub html_reply : List (List ℕ) → List ℕ
html_reply pieces = codes "html " ++ decimal (length (concat pieces)) ++ 10 ∷ concat pieces

-- a command, and whether memory was refused for it
pub record ScriptTurn : Type 0 where
  pub command : Command
  pub starved : Bool

-- the preview behind a command
abbrev pub held_behind : Document → Command → (starved : Bool) → Document
held_behind old Html starved = old
held_behind old (Change call) starved = (outcome_of starved old call).1

abbrev pub reply : ReplyForm → Document → Command → (starved : Bool) → List ℕ
reply form old Html starved = html_reply (pieces_of old)
reply form old (Change call) starved = edit_reply form ((outcome_of starved old call).0) (length old.lines) (told_of ((outcome_of starved old call).1))

-- the reply of this form to the command
abbrev pub IsReply : ReplyForm → Document → ScriptTurn → List ℕ → Type 0
IsReply form held turn bytes = bytes ≡ reply form held turn.command turn.starved

-- the replies to the commands, one after the other
unfoldable pub replies : ReplyForm → Document → List ScriptTurn → List ℕ
replies form old [] = []
replies form old (turn ∷ turns) = reply form old turn.command turn.starved ++ replies form (held_behind old turn.command turn.starved) turns
