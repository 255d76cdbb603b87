-- The item that is open in a list ends before the next one is read, so that all that stands before that one has been handed in.
use Rattle.std.specs.Prelude.{◌≡◌, ℕ, Bool, true, false, is_some, List, length, Some}
use Rattle.mdtext.specs.EntityTable.{EntityTable}
use Rattle.mdleaf.specs.DefinedLinks.{LinkDefinition}
use Rattle.blockspec.specs.BlockLine.{BlockLine}
use Rattle.blockspec.specs.BlankLines.{is_blank_line}
use Rattle.blockspec.specs.BlockKinds.{Holds}
use Rattle.blockspec.specs.BlockStart.{begun}
use Rattle.blockspec.specs.ListItems.{item_of}
use Rattle.blockspec.specs.LineSummary.{Summary, summary, last_in, ended_last, summary_gap, mark_of}
use Rattle.blockspec.specs.UnitBegin.{list_mark, same_mark}
use Rattle.mdblock.specs.BlockView.{kind_view}
use Rattle.mdblock.specs.held.Continuations.{ContinuesOpen, begins_item}
use Rattle.mdblock.specs.held.HeldLevel.{StandsFor, HasGathered}
use Rattle.mdblock.specs.held.HeldNodes.{handed_nodes, closed_nodes}
use Rattle.mdblock.specs.held.LinesAdded.{ContinuesLevel}
use Rattle.mdblock.specs.declared.container.lists.OpenList.{OpenList}
use Rattle.mdblock.specs.declared.gathering.Gathering.{Gathering}
use Rattle.mdblock.specs.declared.open_blocks.Continuation.{Continuation}
use Rattle.mdblock.specs.declared.open_blocks.Continuation.TheVariants as continuation
use Rattle.mdblock.specs.declared.open_blocks.Level.{Level}
use Rattle.mdblock.specs.declared.open_blocks.OpenBlock.{OpenBlock}
use Rattle.mdblock.specs.declared.open_blocks.OpenBlock as open_block

-- some lines whose last block is over
abbrev pub ended_summary : EntityTable → Summary → Summary
ended_summary entities (summary before last blank lines) = summary before (ended_last entities last) (summary_gap last blank) lines

-- where a list stands last
abbrev pub EndsLastItem : Level → (before : Gathering) → (new : Level) → (after : Gathering) → Type 0
EndsLastItem level before new after =
    (in_item : Bool) (s : Summary) (texts : List (List ℕ)) (definitions : List LinkDefinition)
    → is_some (mark_of (last_in s)) ≡ true
    → HasGathered before texts definitions (handed_nodes before.entities.now in_item s)
    → StandsFor before.entities.now (length texts) in_item level s
    → HasGathered after texts definitions (closed_nodes before.entities.now in_item s)
    × HasGathered after texts definitions (handed_nodes before.entities.now in_item (ended_summary before.entities.now s))
    × StandsFor before.entities.now (length texts) in_item new (ended_summary before.entities.now s)

-- The line begins an item of the list, if it is said to begin one.
abbrev pub IsNextOf : OpenList → BlockLine → Continuation → Type 0
IsNextOf list l (continuation.Next marker) =
    (is_blank_line l ≡ false) × (begun l ≡ Holds (item_of l marker)) × (same_mark (Some (kind_view list.kind)) (list_mark (begun l)) ≡ true)
IsNextOf list l c = Unit {0}

abbrev pub IsNextIn : OpenBlock → BlockLine → Continuation → Type 0
IsNextIn (open_block.List' p over last in_item begun blank spaced list) l c = IsNextOf list l c
IsNextIn held l c = Unit {0}

-- A line that begins the next item begins it behind the one that is over, too.
abbrev pub KeepsNext : (old new : Level) → Type 0
KeepsNext old new =
    (l : BlockLine) (c : Continuation) → begins_item c ≡ true → ContinuesOpen old.last l c → ContinuesLevel old l c → IsNextIn old.last l c
    → ContinuesOpen new.last l c × ContinuesLevel new l c
