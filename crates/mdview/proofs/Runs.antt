-- What is held after a list of edits and new preludes.
use Rattle.std.proofs.Common.{◌≡◌, Bool, true, false, List, [], ◌∷◌, Option, Some, None, refl, ap, ◌∙◌}
use Rattle.mdsource.specs.Calls.{Call, due_at_once, due_by_reading, put}
use Rattle.mdsource.specs.Outcome.{ends, goes_on, outcome}
use Rattle.mdsource.specs.Refusals.{Refusal}
use Rattle.mdsource.specs.Setting.{Setting, Source}
use Rattle.mdview.specs.Document.{document}
use Rattle.mdview.specs.Run.{Turn, held_after, after, source_after}

read : (setting : Setting) (source : Source) (call : Call) (due : Option Refusal)
    → (ends setting source call due).source ≡ source_after ((ends setting source call due).answer) source (put source call)
read setting source call (Some reason) = refl
read setting source call None = refl

step : (setting : Setting) (source : Source) (call : Call) (starved : Bool) (due : Option Refusal)
    → (goes_on starved setting source call due).source ≡ source_after ((goes_on starved setting source call due).answer) source (put source call)
step setting source call starved (Some reason) = refl
step setting source call true None = refl
step setting source call false None = read setting source call (due_by_reading setting source call)

pub run_is_document : (setting : Setting) (turns : List Turn) (source : Source) → held_after (document setting source) turns ≡ document setting (after setting source turns)
run_is_document setting [] source = refl
run_is_document setting (turn ∷ turns) source =
    ap (λ s. held_after (document setting s) turns) (step setting source turn.call turn.starved (due_at_once source turn.call))
    ∙ run_is_document setting turns (source_after ((outcome turn.starved setting source turn.call).answer) source (put source turn.call))
