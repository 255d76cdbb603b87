-- What reading one line more makes of what is held: it stands for the summary of one line more, or the line begins a container too deep.
use Rattle.std.specs.Prelude.{◌≡◌, ℕ, suc, Bool, true, false, not, ◌&&◌, nat_le, List, length, is_some}
use Rattle.mdtext.specs.EntityTable.{EntityTable}
use Rattle.mdleaf.specs.DefinedLinks.{LinkDefinition}
use Rattle.blockspec.specs.BlockLine.{BlockLine, indentation, as_lazy}
use Rattle.blockspec.specs.BlankLines.{is_blank_line}
use Rattle.blockspec.specs.BlockKinds.{Container, Holds, Quote, Item}
use Rattle.blockspec.specs.BlockStart.{begun}
use Rattle.blockspec.specs.ListItems.{item_of}
use Rattle.blockspec.specs.ContainerLines.{inside, matches, taken_off}
use Rattle.blockspec.specs.LineSummary.{Summary, Last, nothing_yet, ended_block, open_leaf, open_container, last_in, line_added, is_apart_after, mark_of}
use Rattle.blockspec.specs.SummaryDepth.{sinks}
use Rattle.blockspec.specs.UnitBegin.{list_mark, same_mark}
use Rattle.mdblock.specs.held.HeldLevel.{StandsFor, HasGathered, IsLazyRight, Fits}
use Rattle.mdblock.specs.held.HeldNodes.{handed_nodes}
use Rattle.mdblock.specs.declared.gathering.Gathering.{Gathering}
use Rattle.mdblock.specs.declared.open_blocks.Continuation.{Continuation}
use Rattle.mdblock.specs.declared.open_blocks.Continuation.TheVariants as continuation
use Rattle.mdblock.specs.declared.open_blocks.Level.{Level}
use Rattle.mdblock.specs.declared.open_blocks.OpenBlock.{OpenBlock}
use Rattle.mdblock.specs.declared.open_blocks.OpenBlock as open_block

-- ---- how a line continues the last block, as the summary of the lines before it tells

abbrev pub InOpen : Last → (Container → Type 0) → Type 0
InOpen (open_container begin gap bare container inner) holds = holds container
InOpen nothing_yet holds = Unit {0}
InOpen (ended_block g) holds = Unit {0}
InOpen (open_leaf begin gap leaf) holds = Unit {0}

-- A line with the marker of a block quote is read before this is asked.
abbrev pub IsTakenOff : BlockLine → Container → Type 0
IsTakenOff l Quote = ⊥
IsTakenOff l (Item marker needed) = inside (Item marker needed) l ≡ taken_off (Item marker needed) l

-- The line is one of the last block, which it matches or not; or it ends the last item; or it begins the next one; or it begins a block of
-- another kind, or is blank where no list stands last.
abbrev pub ContinuesLast : Last → BlockLine → Continuation → Type 0
ContinuesLast last l continuation.Matched = (is_apart_after last l ≡ false) × InOpen last (IsTakenOff l)
ContinuesLast last l (continuation.Underlines level) = (is_apart_after last l ≡ false) × InOpen last (IsTakenOff l)
ContinuesLast last l continuation.Delimits = (is_apart_after last l ≡ false) × InOpen last (IsTakenOff l)
ContinuesLast last l continuation.Lazy = (is_apart_after last l ≡ false) × InOpen last (λ container. inside container l ≡ as_lazy l)
ContinuesLast last l continuation.Between = (is_apart_after last l ≡ true) × (is_blank_line l ≡ true) × (is_some (mark_of last) ≡ true)
ContinuesLast last l (continuation.Next marker) =
    (is_apart_after last l ≡ true) × (is_blank_line l ≡ false) × (begun l ≡ Holds (item_of l marker)) × (same_mark (mark_of last) (list_mark (begun l)) ≡ true)
ContinuesLast last l (continuation.Outside opening) =
    (is_apart_after last l ≡ true) × (same_mark (mark_of last) (list_mark (begun l)) ≡ false) × (is_blank_line l ≡ true → is_some (mark_of last) ≡ false)

-- the line has neither the marker nor the indentation of the open container
abbrev pub IsUnfollowed : OpenBlock → BlockLine → Type 0
IsUnfollowed open_block.Shut l = Unit {0}
IsUnfollowed (open_block.Leaf held) l = Unit {0}
IsUnfollowed (open_block.Quote' p over last in_item begun blank spaced) l = matches Quote l ≡ false
IsUnfollowed (open_block.List' p over last in_item begun blank spaced list) l =
    (list.item_open && not l.lazy && not (is_blank_line l) && nat_le list.needed (indentation l)) ≡ false

-- The line has the marker or the indentation of the open container, so it stands apart from no summary that the level stands for.
abbrev pub IsFollowed : Level → BlockLine → Type 0
IsFollowed level l = (entities : EntityTable) (at : ℕ) (in_item : Bool) (s : Summary) → StandsFor entities at in_item level s → is_apart_after (last_in s) l ≡ false

-- of a level that stands for any summary
abbrev pub ContinuesLevel : Level → BlockLine → Continuation → Type 0
ContinuesLevel level l c =
    (entities : EntityTable) (at : ℕ) (in_item : Bool) (s : Summary) → StandsFor entities at in_item level s → IsLazyRight s l
    → ContinuesLast (last_in s) l c

-- ---- one line more

-- Behind which lines a line is read: the level stands for their summary, what is over has been handed in, a lazy line may stand there,
-- and so many containers may be open.
abbrev pub IsReadBehind : (room : ℕ) → Level → Gathering → (in_item : Bool) → Summary → List (List ℕ) → List LinkDefinition → BlockLine → Type 0
IsReadBehind room level gathering in_item s texts definitions l =
    HasGathered gathering texts definitions (handed_nodes gathering.entities.now in_item s)
    × StandsFor gathering.entities.now (length texts) in_item level s × IsLazyRight s l × Fits room s

-- The line begins no container too deep, and is one line more.
abbrev pub IsAdded : EntityTable → (room : ℕ) → (in_item : Bool) → Summary → List (List ℕ) → List LinkDefinition → BlockLine → Level → Gathering → Type 0
IsAdded entities room in_item s texts definitions l level gathering =
    (sinks room s l ≡ false)
    × HasGathered gathering texts definitions (handed_nodes entities in_item (line_added entities (suc room) s l))
    × StandsFor entities (length texts) in_item level (line_added entities (suc room) s l)

abbrev pub AddsLine : (room : ℕ) → (level : Level) → Gathering → BlockLine → (new : Level) → Gathering → Type 0
AddsLine room level before l new after =
    (in_item : Bool) (s : Summary) (texts : List (List ℕ)) (definitions : List LinkDefinition)
    → IsReadBehind room level before in_item s texts definitions l
    → IsAdded before.entities.now room in_item s texts definitions l new after

-- The line begins a container too deep.
abbrev pub SinksLine : (room : ℕ) → (level : Level) → Gathering → BlockLine → Type 0
SinksLine room level before l =
    (in_item : Bool) (s : Summary) (texts : List (List ℕ)) (definitions : List LinkDefinition)
    → IsReadBehind room level before in_item s texts definitions l
    → sinks room s l ≡ true
