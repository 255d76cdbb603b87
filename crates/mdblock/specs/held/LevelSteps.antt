-- What the parts of reading a line make of a level: its blocks end, a block begins behind them, and the next item begins.
use Rattle.std.specs.Prelude.{Result, IfOk, OnOk, ◌++◌, ◌-◌, if◌then◌else◌, take, ◌≡◌, ℕ, suc, Bool, true, false, not, ◌&&◌, ◌||◌, List, [], ◌∷◌, length, Option, None, Some, is_some}
use Rattle.mdtext.specs.EntityTable.{EntityTable}
use Rattle.mdleaf.specs.ParagraphDefinitions.{leading_of}
use Rattle.mdleaf.specs.DefinedLinks.{LinkDefinition}
use Rattle.mdleaf.specs.ParagraphText.{behind_definitions, without_end_blanks}
use Rattle.blockspec.specs.BlockLine.{BlockLine, rest, without_columns, as_lazy}
use Rattle.blockspec.specs.BlankLines.{is_blank_line}
use Rattle.blockspec.specs.BlockKinds.{Inside, Quote, Item, Paragraph, SetextHeading, Table}
use Rattle.blockspec.specs.BlockStart.{start, begun}
use Rattle.blockspec.specs.ListItems.{item_of}
use Rattle.blockspec.specs.Tables.{last_text}
use Rattle.blockspec.specs.ContainerLines.{opened}
use Rattle.blockspec.specs.BlockTree.{ListKind, heading as heading_block, block_quote, item, no_blocks, no_items}
use Rattle.blockspec.specs.BlockTree as tree
use Rattle.mdblock.specs.BlockView.{kind_view, blocks_view, items_view}
use Rattle.mdblock.specs.held.HandedIn.{gathered_texts, gathered_definitions}
use Rattle.mdblock.specs.held.HeldTables.{IsTableBehind, first_rows}
use Rattle.mdblock.specs.held.OpenLeaves.{IsOver}
use Rattle.mdblock.specs.held.ParagraphLines.{HoldsLines}
use Rattle.mdblock.specs.declared.leaf.LeafAfter.{LeafAfter}
use Rattle.mdblock.specs.held.LinesAdded.{IsReadBehind, IsAdded}
use Rattle.mdblock.specs.held.TreesBehind.{blocks_before, placed_before}
use Rattle.mdblock.specs.held.ClosedViews.{list_view, list_view_with}
use Rattle.mdblock.specs.declared.blocks.Block.{Block}
use Rattle.mdblock.specs.held.HeldLevel.{StandsFor, StandsForLast, HasGathered, IsShut, is_begun}
use Rattle.mdblock.specs.held.HeldNodes.{handed_nodes, closed_nodes, tasked}
use Rattle.blockspec.specs.LineSummary.{Summary, summary, Last, nothing_yet, ended_block, open_leaf, open_container, last_in, last_tip, closed, summary_gap, new_last, begin_after, line_added, is_apart_after, mark_of, part_mark}
use Rattle.blockspec.specs.Lists.{Group, is_tight_inside, nodes_of}
use Rattle.blockspec.specs.NodeTree.{Nodes, placed}
use Rattle.blockspec.specs.Laziness.{is_verbatim}
use Rattle.blockspec.specs.Stretches.{Continues, IsLastLine, closes, ends_html, paragraph_step, is_single, first_of}
use Rattle.blockspec.specs.UnitBegin.{list_mark, same_mark}
use Rattle.mdblock.specs.declared.block_starts.BlockStart.{BlockStart}
use Rattle.mdblock.specs.declared.block_starts.BlockStart.TheVariants as o
use Rattle.mdblock.specs.declared.container.lists.OpenList.{OpenList}
use Rattle.mdblock.specs.declared.gathering.Gathering.{Gathering}
use Rattle.mdblock.specs.declared.leaf.Leaf.{Leaf}
use Rattle.mdblock.specs.declared.leaf.Leaf.TheVariants as leaf
use Rattle.mdblock.specs.declared.container.list_items.Entry.{Entry}
use Rattle.mdblock.specs.declared.container.list_items.Entry.TheVariants as entry
use Rattle.mdblock.specs.declared.open_blocks.Continuation.{Continuation}
use Rattle.mdblock.specs.declared.open_blocks.Continuation.TheVariants as continuation
use Rattle.mdscan.specs.declared.list_markers.Marker.{Marker}
use Rattle.mdblock.specs.declared.open_blocks.Level.{Level}
use Rattle.mdblock.specs.declared.open_blocks.OpenBlock.{OpenBlock}
use Rattle.mdblock.specs.declared.open_blocks.OpenBlock as open_block

-- ---- what a level holds

-- the same marks of lines and blocks
abbrev pub HasMarksOf : (old new : Level) → Type 0
HasMarksOf old new = (new.in_item ≡ old.in_item) × (new.begun ≡ old.begun) × (new.blank ≡ old.blank) × (new.spaced ≡ old.spaced)

abbrev pub open_leaf_of : Option Leaf → OpenBlock
open_leaf_of None = open_block.Shut
open_leaf_of (Some held) = open_block.Leaf held

-- a block quote of these blocks, and a list whose last item has them
abbrev pub IsQuoteOf : Level → OpenBlock → Type 0
IsQuoteOf inner (open_block.Quote' p over last in_item begun blank spaced) =
    inner ≡ record { over = over; last = last; in_item = in_item; begun = begun; blank = blank; spaced = spaced }
IsQuoteOf inner held = ⊥

abbrev pub IsListOf : Level → OpenList → OpenBlock → Type 0
IsListOf inner list (open_block.List' p over last in_item begun blank spaced held) =
    (inner ≡ record { over = over; last = last; in_item = in_item; begun = begun; blank = blank; spaced = spaced }) × (list ≡ held)
IsListOf inner list held = ⊥

-- ---- a level whose blocks are all over

-- before the first block there is none
abbrev pub IsFirst : List Group → Last → Type 0
IsFirst before nothing_yet = before ≡ []
IsFirst before (ended_block g) = Unit {0}
IsFirst before (open_leaf begin gap leaf) = Unit {0}
IsFirst before (open_container begin gap bare container inner) = Unit {0}

-- The blocks of some lines, all of which are over, lists too.
abbrev pub IsAllOver : EntityTable → (at : ℕ) → (in_item : Bool) → Level → Summary → Type 0
IsAllOver entities at is_item level (summary before last blank lines) =
    (blocks_view level.over.items ≡ placed at (closed_nodes entities is_item (summary before last blank lines)))
    × (level.in_item ≡ is_item)
    × (level.begun ≡ is_begun last)
    × (level.blank ≡ summary_gap last blank)
    × (level.spaced ≡ not (is_tight_inside (closed entities (summary before last blank lines))))
    × IsShut level.last
    × IsFirst before last

-- Ending all blocks hands in what was not yet.
abbrev pub EndsAll : Level → (before : Gathering) → (new : Level) → (after : Gathering) → Type 0
EndsAll level before new after =
    (in_item : Bool) (s : Summary) (texts : List (List ℕ)) (definitions : List LinkDefinition)
    → HasGathered before texts definitions (handed_nodes before.entities.now in_item s)
    → StandsFor before.entities.now (length texts) in_item level s
    → HasGathered after texts definitions (closed_nodes before.entities.now in_item s)
    × IsAllOver before.entities.now (length texts) in_item new s

-- ---- a line where all blocks are over

-- The line begins no item of the list that stands last, and no list stands last where it is blank.
abbrev pub BeginsApart : Last → BlockLine → Type 0
BeginsApart last l = (same_mark (mark_of last) (list_mark (begun l)) ≡ false) × (is_blank_line l ≡ true → is_some (mark_of last) ≡ false)

abbrev pub BeginsBehind : (room : ℕ) → Level → (before : Gathering) → BlockLine → (new : Level) → (after : Gathering) → Type 0
BeginsBehind room level before l new after =
    (in_item : Bool) (s : Summary) (texts : List (List ℕ)) (definitions : List LinkDefinition)
    → HasGathered before texts definitions (closed_nodes before.entities.now in_item s)
    → IsAllOver before.entities.now (length texts) in_item level s → BeginsApart (last_in s) l
    → HasGathered after texts definitions
    (handed_nodes before.entities.now in_item (begin_after before.entities.now (line_added before.entities.now room) (is_blank_line l) s l))
    × StandsFor before.entities.now (length texts) in_item new
    (begin_after before.entities.now (line_added before.entities.now room) (is_blank_line l) s l)

-- ---- a block that begins behind others

-- no container
abbrev pub IsLeafStart : Option BlockStart → Type 0
IsLeafStart None = Unit {0}
IsLeafStart (Some o.Quote) = ⊥
IsLeafStart (Some (o.Item marker)) = ⊥
IsLeafStart (Some (o.Heading heading)) = Unit {0}
IsLeafStart (Some (o.Fence fence)) = Unit {0}
IsLeafStart (Some (o.Html kind)) = Unit {0}
IsLeafStart (Some o.Break) = Unit {0}
IsLeafStart (Some o.Code) = Unit {0}

-- neither a container nor a heading, which is over with its line
abbrev pub OpensLeaf : BlockStart → Type 0
OpensLeaf o.Quote = ⊥
OpensLeaf (o.Item marker) = ⊥
OpensLeaf (o.Heading heading) = ⊥
OpensLeaf (o.Fence fence) = Unit {0}
OpensLeaf (o.Html kind) = Unit {0}
OpensLeaf o.Break = Unit {0}
OpensLeaf o.Code = Unit {0}

-- the list of the last group, if it is one
abbrev pub last_mark : List Group → Option ListKind
last_mark [] = None
last_mark (g ∷ []) = part_mark g.part
last_mark (g ∷ n ∷ gs) = last_mark (n ∷ gs)

-- whether some groups and one more that is joined to none are tight, where there may be a gap before it
abbrev pub tight_with : List Group → (gap : Bool) → Bool
tight_with [] gap = true
tight_with (g ∷ gs) gap = is_tight_inside (g ∷ gs) && not gap

-- a level whose marks are those of a block that begins
abbrev pub IsReady : EntityTable → (at : ℕ) → (in_item : Bool) → Level → List Group → (gap : Bool) → Type 0
IsReady entities at is_item level groups gap =
    (blocks_view level.over.items ≡ placed at (tasked is_item (nodes_of groups)))
    × (level.in_item ≡ is_item) × (level.begun ≡ true) × (level.blank ≡ false) × (level.spaced ≡ not (tight_with groups gap)) × IsShut level.last

-- some groups, and the block that a line begins, where it has so many lines before it
abbrev pub begun_behind : EntityTable → (room : ℕ) → List Group → (gap : Bool) → (lines : ℕ) → BlockLine → Summary
begun_behind entities room groups gap lines l =
    summary groups (new_last entities (line_added entities room) (is_single (begun l) l) (begun l) (first_of lines gap l)) false (suc lines)

abbrev pub BeginsBlock : (room : ℕ) → Level → (before : Gathering) → BlockLine → (new : Level) → (after : Gathering) → Type 0
BeginsBlock room level before l new after =
    (in_item : Bool) (groups : List Group) (gap : Bool) (lines : ℕ) (texts : List (List ℕ)) (definitions : List LinkDefinition)
    → HasGathered before texts definitions (tasked in_item (nodes_of groups))
    → IsReady before.entities.now (length texts) in_item level groups gap → same_mark (last_mark groups) (list_mark (begun l)) ≡ false
    → HasGathered after texts definitions (handed_nodes before.entities.now in_item (begun_behind before.entities.now room groups gap lines l))
    × StandsFor before.entities.now (length texts) in_item new (begun_behind before.entities.now room groups gap lines l)

-- ---- a line of the last block

-- but for what a blank line does to the level's mark of one
abbrev pub HasRestOf : (old new : Level) → Type 0
HasRestOf old new = (new.in_item ≡ old.in_item) × (new.begun ≡ old.begun) × (new.spaced ≡ old.spaced)

abbrev pub gap_behind : Summary → Bool
gap_behind (summary before last blank lines) = summary_gap last blank

-- The same as `AddsLine` with the right mark of a blank line.
abbrev pub AddsButBlank : (room : ℕ) → Level → (before : Gathering) → BlockLine → (new : Level) → (after : Gathering) → Type 0
AddsButBlank room level before l new after =
    (in_item : Bool) (s : Summary) (texts : List (List ℕ)) (definitions : List LinkDefinition)
    → IsReadBehind room level before in_item s texts definitions l → (blank : Bool)
    → blank ≡ gap_behind (line_added before.entities.now (suc room) s l)
    → IsAdded before.entities.now room in_item s texts definitions l (record new { blank = blank }) after

-- Where an item is open at the end, its last line was blank.
abbrev pub WasBlank : Last → Type 0
WasBlank nothing_yet = Unit {0}
WasBlank (ended_block g) = Unit {0}
WasBlank (open_leaf begin gap leaf) = Unit {0}
WasBlank (open_container begin gap bare Quote inner) = ⊥
WasBlank (open_container begin gap bare (Item marker needed) (summary before last blank lines)) = blank ≡ true

-- whether a blank line that was read last is content of fenced code or an HTML block
abbrev pub IsVerbatim : OpenBlock → Bool → Type 0
IsVerbatim held result =
    (entities : EntityTable) (at : ℕ) (before : List Group) (last : Last) → StandsForLast entities at held before last → WasBlank last
    → result ≡ is_verbatim (last_tip last)

-- ---- the items of a list

-- a level that holds nothing
abbrev pub IsEmpty : (in_item : Bool) → Level → Type 0
IsEmpty in_item level =
    (level.over.items ≡ []) × IsShut level.last × (level.in_item ≡ in_item) × (level.begun ≡ false) × (level.blank ≡ false) × (level.spaced ≡ false)

-- a list with one item more, whose first text has a position
abbrev pub HasItemMore : (at : ℕ) → (old : OpenList) → Nodes → (tight : Bool) → (new : OpenList) → Type 0
HasItemMore at old nodes tight new =
    (new.item_open ≡ false) × (kind_view new.kind ≡ kind_view old.kind) × (new.loose ≡ (old.loose || not tight))
    × (items_view new.items.items ≡ placed_before (items_view old.items.items) (item (placed at nodes) no_items)) × (new.parted ≡ not tight)

-- The item that is open in a list ends.
abbrev pub EndsOpenItem : Level → OpenList → (before : Gathering) → Level → OpenList → (after : Gathering) → Type 0
EndsOpenItem inner list before new new_list after =
    (s : Summary) (texts : List (List ℕ)) (definitions : List LinkDefinition)
    → HasGathered before texts definitions (handed_nodes before.entities.now true s)
    → StandsFor before.entities.now (length texts) true inner s
    → HasGathered after texts definitions (closed_nodes before.entities.now true s)
    × HasItemMore (length texts) list (closed_nodes before.entities.now true s) (is_tight_inside (closed before.entities.now s)) new_list
    × IsEmpty true new

-- and nothing is done where none is open
abbrev pub EndsItem : Level → OpenList → (before : Gathering) → Level → OpenList → (after : Gathering) → Type 0
EndsItem inner list before new new_list after =
    (list.item_open ≡ true → EndsOpenItem inner list before new new_list after)
    × (list.item_open ≡ false → (new ≡ inner) × (new_list ≡ list)
    × (gathered_texts after ≡ gathered_texts before) × (gathered_definitions after ≡ gathered_definitions before))

-- the list that goes on with an item more
abbrev pub goes_on_with : OpenList → (needed : ℕ) → (gap : Bool) → OpenList
goes_on_with list needed gap = record list { item_open = true; needed = needed; loose = list.loose || gap }

-- The next item begins behind the one that ended.
pub record BeginsItem (marker : Marker) (inner : Level) (list : OpenList) (gap : Bool) (before : Gathering) (l : BlockLine) (new : Level)
    (new_list : OpenList) (after : Gathering) (il : BlockLine) : Type 0 where
  pub ended : OpenList
  pub needed : ℕ
  pub ends : EndsItem inner list before new ended after
  pub goes_on : new_list ≡ goes_on_with ended needed gap
  pub item_is : item_of l marker ≡ Item marker needed
  pub line_is : il ≡ opened (Item marker needed) l

abbrev pub IsKept : Level → OpenList → (before : Gathering) → Level → OpenList → (after : Gathering) → Type 0
IsKept inner list before new new_list after = (new ≡ inner) × (new_list ≡ list) × (after ≡ before)

-- what a line of an open list does, by how it continues the list
abbrev pub EntersItem : Continuation → Level → OpenList → (gap : Bool) → (before : Gathering) → BlockLine → (new : Level) → OpenList → (after : Gathering)
    → BlockLine → Entry → Type 0
EntersItem continuation.Matched inner list gap before l new new_list after il made =
    IsKept inner list before new new_list after × (made ≡ entry.Goes) × (il ≡ without_columns l list.needed)
EntersItem (continuation.Underlines level) inner list gap before l new new_list after il made =
    IsKept inner list before new new_list after × (made ≡ entry.Goes) × (il ≡ without_columns l list.needed)
EntersItem continuation.Delimits inner list gap before l new new_list after il made =
    IsKept inner list before new new_list after × (made ≡ entry.Goes) × (il ≡ without_columns l list.needed)
EntersItem continuation.Lazy inner list gap before l new new_list after il made =
    IsKept inner list before new new_list after × (made ≡ entry.Goes) × (il ≡ as_lazy l)
EntersItem continuation.Between inner list gap before l new new_list after il made = EndsItem inner list before new new_list after × (made ≡ entry.Stays)
EntersItem (continuation.Next marker) inner list gap before l new new_list after il made =
    BeginsItem marker inner list gap before l new new_list after il × (made ≡ entry.Begins)
EntersItem (continuation.Outside opening) inner list gap before l new new_list after il made = Unit {0}

-- whether the line is one of the last block, or of its list
abbrev pub IsInside : Continuation → Type 0
IsInside continuation.Matched = Unit {0}
IsInside (continuation.Underlines level) = Unit {0}
IsInside continuation.Delimits = Unit {0}
IsInside continuation.Lazy = Unit {0}
IsInside continuation.Between = Unit {0}
IsInside (continuation.Next marker) = Unit {0}
IsInside (continuation.Outside opening) = ⊥

-- fenced code and an HTML block, whose lines are content whatever they hold
abbrev pub is_content : Leaf → Bool
is_content (leaf.Paragraph p) = false
is_content (leaf.Fence f) = true
is_content (leaf.Html h) = true
is_content (leaf.Code c) = false
is_content (leaf.Table t) = false

-- a container that is open, in which all blocks are over
abbrev pub IsOpenContainer : OpenBlock → Type 0
IsOpenContainer open_block.Shut = ⊥
IsOpenContainer (open_block.Leaf held) = ⊥
IsOpenContainer (open_block.Quote' p over last in_item begun blank spaced) = Unit {0}
IsOpenContainer (open_block.List' p over last in_item begun blank spaced list) = Unit {0}

-- The blocks that are over with the container behind them; the item that is open in a list is its last one.
abbrev pub IsClosedBehind : (before : List Block) → OpenBlock → (all : List Block) → Type 0
IsClosedBehind before open_block.Shut all = ⊥
IsClosedBehind before (open_block.Leaf held) all = ⊥
IsClosedBehind before (open_block.Quote' p over last in_item begun blank spaced) all =
    blocks_view all ≡ blocks_before (blocks_view before) (tree.block (block_quote (blocks_view over.items)) no_blocks)
IsClosedBehind before (open_block.List' p over last in_item begun blank spaced list) all =
    blocks_view all
    ≡ blocks_before (blocks_view before) (tree.block (if list.item_open then list_view_with list over.items spaced else list_view list) no_blocks)

-- ---- an open leaf reads a line

abbrev pub IsOpenLeaf : OpenBlock → Type 0
IsOpenLeaf open_block.Shut = ⊥
IsOpenLeaf (open_block.Leaf held) = Unit {0}
IsOpenLeaf (open_block.Quote' p over last in_item begun blank spaced) = ⊥
IsOpenLeaf (open_block.List' p over last in_item begun blank spaced list) = ⊥

-- the line that ends fenced code or an HTML block
abbrev pub EndsLeaf : OpenBlock → BlockLine → Type 0
EndsLeaf (open_block.Leaf (leaf.Fence f)) l = closes f.mark f.length l ≡ true
EndsLeaf (open_block.Leaf (leaf.Html h)) l = ends_html h.kind l ≡ true
EndsLeaf held l = ⊥

-- a line that does not
abbrev pub KeepsLeaf : OpenBlock → BlockLine → Type 0
KeepsLeaf (open_block.Leaf (leaf.Fence f)) l = closes f.mark f.length l ≡ false
KeepsLeaf (open_block.Leaf (leaf.Html h)) l = ends_html h.kind l ≡ false
KeepsLeaf held l = Unit {0}

abbrev pub HandsInNothing : (old new : Gathering) → Type 0
HandsInNothing old new = (gathered_texts new ≡ gathered_texts old) × (gathered_definitions new ≡ gathered_definitions old)

-- what a leaf hands in with a line that it takes, and what is over then
abbrev pub HandsIn : {E : Type 0} → Leaf → (first : Bool) → BlockLine → (old new : Gathering) → Result LeafAfter E → Type 0
HandsIn (leaf.Paragraph p) first l old new result =
    ((lines : List BlockLine) → HoldsLines lines p → paragraph_step l.lazy (is_blank_line l) (start Inside lines l) ≡ Continues Paragraph
    → OnOk result (HandsInNothing old new))
    × ((lines : List BlockLine) (level : ℕ) → HoldsLines lines p
    → paragraph_step l.lazy (is_blank_line l) (start Inside lines l) ≡ IsLastLine (SetextHeading level)
    → IfOk result (λ step. IsOver (heading_block level (length old.texts.items)) step))
    × ((lines : List BlockLine) (level : ℕ) → HoldsLines lines p
    → paragraph_step l.lazy (is_blank_line l) (start Inside lines l) ≡ IsLastLine (SetextHeading level)
    → OnOk result ((gathered_texts new ≡ gathered_texts old ++ behind_definitions (without_end_blanks p.text) ∷ [])
    × (gathered_definitions new ≡ gathered_definitions old ++ leading_of old.entities.now (without_end_blanks p.text))))
    × ((lines : List BlockLine) (above : ℕ) → HoldsLines lines p → paragraph_step l.lazy (is_blank_line l) (start Inside lines l) ≡ Continues (Table above)
    → IfOk result (IsTableBehind first (take (p.last - 1) p.text) (first_rows (last_text lines) (rest l)) (gathered_texts old) (gathered_texts new)))
    × ((lines : List BlockLine) (above : ℕ) → HoldsLines lines p → paragraph_step l.lazy (is_blank_line l) (start Inside lines l) ≡ Continues (Table above)
    → OnOk result (gathered_definitions new ≡ gathered_definitions old ++ leading_of old.entities.now (without_end_blanks (take (p.last - 1) p.text))))
HandsIn (leaf.Fence f) first l old new result = OnOk result (HandsInNothing old new)
HandsIn (leaf.Html h) first l old new result = OnOk result (HandsInNothing old new)
HandsIn (leaf.Code c) first l old new result = OnOk result (HandsInNothing old new)
HandsIn (leaf.Table t) first l old new result = OnOk result (gathered_definitions new ≡ gathered_definitions old)

-- an open leaf reads a line that it takes
abbrev pub GrowsLeaf : Level → (before : Gathering) → BlockLine → (new : Level) → (after : Gathering) → Type 0
GrowsLeaf level before l new after =
    (room : ℕ) (in_item : Bool) (s : Summary) (texts : List (List ℕ)) (definitions : List LinkDefinition)
    → IsReadBehind room level before in_item s texts definitions l → is_apart_after (last_in s) l ≡ false → (blank : Bool)
    → blank ≡ gap_behind (line_added before.entities.now (suc room) s l)
    → IsAdded before.entities.now room in_item s texts definitions l (record new { blank = blank }) after

-- The level says whether the line that was read last was blank, and no content of fenced code or an HTML block.
abbrev pub MarksBlank : Level → (blank : Bool) → Level → Type 0
MarksBlank old blank new =
    (blank ≡ true → (verbatim : Bool) × IsVerbatim old.last verbatim × (new ≡ record old { blank = not verbatim }))
    × (blank ≡ false → new ≡ record old { blank = false })
