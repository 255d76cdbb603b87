-- What is kept of a text and not handed out yet, as the definition's pieces so far (CommonMark 6.2, 6.3).
use Rattle.std.specs.Prelude.{◌≡◌, ℕ, ◌+◌, ◌≤◌, Bool, true, false, List, ◌∷◌, ◌++◌, All, drop, length, map, reverse}
use Rattle.mdtext.specs.EntityTable.{EntityTable}
use Rattle.mdpair.specs.Matches.{matches}
use Rattle.inlinespec.specs.InlineEvents.{Event}
use Rattle.inlinespec.specs.Pieces.{Piece, Made, Run}
use Rattle.inlinespec.specs.Emphasis.{runs_of}
use Rattle.mdinline.specs.declared.bracket_stack.Opening as held
use Rattle.mdinline.specs.declared.pending.Pending.{Pending}
use Rattle.mdinline.specs.declared.tokens.Begun.{Begun}
use Rattle.mdinline.specs.declared.tokens.PairedRun.{PairedRun}
use Rattle.mdinline.specs.declared.tokens.Token.{Token}
use Rattle.mdinline.specs.declared.tokens.Token.TheVariants as t
use Rattle.mdinline.specs.held.LeafEvents.{paired_events, token_events}
use Rattle.mdinline.specs.held.PairedRuns.{ArePaired, HasSpans}
use Rattle.mdinline.specs.held.ReadMarks.{AreEventsOf, marked, places_of}
use Rattle.mdinline.specs.held.ReadState.{Shows}

abbrev pub is_leaf : Token → Bool
is_leaf (t.Bracket image) = false
is_leaf (t.Run run) = false
is_leaf (t.Paired run) = false
is_leaf (t.Enter image goal) = false
is_leaf t.Leave = false
is_leaf _ = true

-- A run that is not paired is a run; what else is kept is made.
abbrev pub token_piece : EntityTable → List ℕ → List Begun → Token → Piece
token_piece entities text begun (t.Run run) = Run run
token_piece entities text begun token = Made false (token_events entities text begun token)

abbrev pub paired_piece : List Begun → PairedRun → Piece
paired_piece begun run = Made false (paired_events begun run)

abbrev pub shown_by : EntityTable → List ℕ → List Begun → List Token → List Piece
shown_by entities text begun tokens = map (token_piece entities text begun) tokens

-- what is kept, as pieces
abbrev pub shown_pieces : EntityTable → List ℕ → Pending → List Piece
shown_pieces entities text pending = shown_by entities text pending.begun.items pending.tokens.items

-- the spans that begin at a paired run lie in the list
abbrev pub IsSpanned : List Begun → Token → Type 0
IsSpanned begun (t.Paired run) = HasSpans begun run.begins run.outermost
IsSpanned begun _ = Unit {0}

-- the runs and their places are those of what is kept
pub record IsKept (entities : EntityTable) (text : List ℕ) (pending : Pending) : Type 0 where
  pub runs : pending.runs.items ≡ runs_of (shown_pieces entities text pending)
  pub places : pending.places.items ≡ places_of (shown_pieces entities text pending) 0
  pub spans : All (IsSpanned pending.begun.items) pending.tokens.items

-- what was handed out and what is kept are these pieces
pub record HoldsPieces (entities : EntityTable) (text : List ℕ) (handed : List Event) (pending : Pending) (ps : List Piece) : Type 0 where
  pub kept : IsKept entities text pending
  pub shows : Shows (reverse pending.openings.unused.items) handed (shown_pieces entities text pending) ps

-- these pieces, of which a bracket was taken that still stands among what is kept
abbrev pub HoldsTaken : EntityTable → List ℕ → List Event → held.Opening → Pending → List Piece → Type 0
HoldsTaken entities text handed opening pending ps =
    Shows (opening ∷ reverse pending.openings.unused.items) handed (shown_pieces entities text pending) ps

-- What is kept beside the tokens is as it was.
pub record ChangesTokens (old new : Pending) : Type 0 where
  pub openings : new.openings ≡ old.openings
  pub runs : new.runs ≡ old.runs
  pub places : new.places ≡ old.places
  pub paired : new.paired ≡ old.paired
  pub pairing : new.pairing ≡ old.pairing
  pub begun : new.begun ≡ old.begun

-- It is known what matches leave of the runs from one on, spans may have begun, and what else is kept is as it was.
abbrev pub KnowsPaired : (from : ℕ) → (old new : Pending) → Type 0
KnowsPaired from old new =
    ArePaired new.begun.items (matches (drop from old.runs.items)) (drop from old.runs.items) new.paired.items
    × ((more : List Begun) × (new.begun.items ≡ old.begun.items ++ more))
    × (new.tokens ≡ old.tokens) × (new.runs ≡ old.runs) × (new.places ≡ old.places) × (new.openings ≡ old.openings)

-- The runs from one on are paired, and their places and the list of runs are as they were.
pub record IsPaired (entities : EntityTable) (text : List ℕ) (from : ℕ) (old new : Pending) : Type 0 where
  pub made : List Piece
  pub events : AreEventsOf 0 (matches (drop from old.runs.items)) (drop from old.runs.items) made
  pub shown : shown_pieces entities text new ≡ marked (shown_pieces entities text old) from made
  pub spans : All (IsSpanned new.begun.items) new.tokens.items

-- the runs from one on are paired, and are not pending any more
pub record IsSettled (entities : EntityTable) (text : List ℕ) (from : ℕ) (old new : Pending) : Type 0 where
  pub made : List Piece
  pub events : AreEventsOf 0 (matches (drop from old.runs.items)) (drop from old.runs.items) made
  pub shown : shown_pieces entities text new ≡ marked (shown_pieces entities text old) from made
  pub kept : IsKept entities text new

abbrev pub HasSpansOf : List Begun → PairedRun → Type 0
HasSpansOf begun run = HasSpans begun run.begins run.outermost

-- the runs that are being paired are those from one on, and their places are known
pub record AreRunsAt (entities : EntityTable) (text : List ℕ) (from : ℕ) (pending : Pending) : Type 0 where
  pub places : pending.places.items ≡ places_of (shown_pieces entities text pending) 0
  pub few : from + length pending.paired.items ≤ length (runs_of (shown_pieces entities text pending))
