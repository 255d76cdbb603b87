-- Lists of edits and new preludes.
use Rattle.std.specs.Prelude.{Bool, List, [], ◌∷◌}
use Rattle.mdsource.specs.Calls.{Call, put}
use Rattle.mdsource.specs.Outcome.{Answer, accepted, refused, outcome}
use Rattle.mdsource.specs.Setting.{Setting, Source}
use Rattle.mdview.specs.Document.{Document}
use Rattle.mdview.specs.Outcome.{outcome_of}

-- a call of `edit` or `set_prelude`, and whether memory was refused for it
pub record Turn : Type 0 where
  pub call : Call
  pub starved : Bool

-- what a preview holds after these calls, in order
abbrev pub held_after : Document → List Turn → Document
held_after old [] = old
held_after old (turn ∷ turns) = held_after ((outcome_of turn.starved old turn.call).1) turns

-- the lines and the prelude after a call: those that it puts, where it is accepted
abbrev pub source_after : Answer → (old new : Source) → Source
source_after (accepted patch) old new = new
source_after (refused reason) old new = old

-- the lines and the prelude after the accepted calls, in order
abbrev pub after : Setting → Source → List Turn → Source
after setting source [] = source
after setting source (turn ∷ turns) =
    after setting (source_after ((outcome turn.starved setting source turn.call).answer) source (put source turn.call)) turns
