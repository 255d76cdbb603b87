-- A paragraph turns into another block by an underline or a delimiter row (CommonMark 4.3; GFM Tables (extension)).
use Rattle.std.proofs.Common.{◌≡◌, ℕ, refl}
use Rattle.blockspec.specs.BlockKinds.{Paragraph}
use Rattle.blockspec.specs.Stretches.{Continues}
use Rattle.mdblock.specs.held.Continuations.{IsOfLeaf, IsTurn, step_view}
use Rattle.mdblock.specs.held.LevelSteps.{IsInside}
use Rattle.mdblock.specs.declared.open_blocks.Continuation.{Continuation}
use Rattle.mdblock.specs.declared.open_blocks.Continuation.TheVariants as continuation

pub turns : (c : Continuation) → IsOfLeaf c → IsInside c → (c ≡ continuation.Matched → ⊥) → IsTurn c
turns continuation.Matched of inside n = absurd (n refl)
turns (continuation.Underlines level) of inside n = tt
turns continuation.Delimits of inside n = tt
turns continuation.Lazy of inside n = absurd of
turns continuation.Between of inside n = absurd of
turns (continuation.Next marker) of inside n = absurd of
turns (continuation.Outside opening) of inside n = absurd inside

-- and then it does not go on as a paragraph
pub turned : (lines : ℕ) (c : Continuation) → IsTurn c → step_view lines c ≡ Continues Paragraph → ⊥
turned lines continuation.Matched turn h = turn
turned lines (continuation.Underlines level) turn h = cc
turned lines continuation.Delimits turn h = cc
turned lines continuation.Lazy turn h = turn
turned lines continuation.Between turn h = turn
turned lines (continuation.Next marker) turn h = turn
turned lines (continuation.Outside opening) turn h = turn
