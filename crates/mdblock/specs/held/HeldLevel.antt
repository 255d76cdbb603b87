-- How the blocks that a reader holds stand for the summary of the lines that it read: they name inline texts by position,
-- and the summary has the texts in place.
use Rattle.std.specs.Prelude.{◌≡◌, ℕ, zero, suc, ◌+◌, ◌<◌, Bool, true, false, not, ◌&&◌, List, [], ◌∷◌, ◌++◌, length, map, string_bytes, Option, option_map, ◌-◌, if◌then◌else◌}
use Rattle.mdtext.specs.EntityTable.{EntityTable}
use Rattle.mdleaf.specs.DefinedLinks.{LinkDefinition, definition_of}
use Rattle.blockspec.specs.BlockLine.{BlockLine}
use Rattle.blockspec.specs.BlankLines.{is_blank_line}
use Rattle.blockspec.specs.BlockKinds.{Kind, FencedCode, Quote, Item}
use Rattle.blockspec.specs.Laziness.{Text, is_text}
use Rattle.blockspec.specs.ItemMarks.{ItemMark}
use Rattle.blockspec.specs.SummaryJoins.{is_parted_after}
use Rattle.mdblock.specs.BlockView.{kind_view, blocks_view, items_view}
use Rattle.mdblock.specs.FoundLists.{FoundList, join_mark}
use Rattle.mdblock.specs.held.HeldNodes.{ListSoFar, list_of, over_nodes, handed_nodes, closed_nodes, tasked}
use Rattle.blockspec.specs.LineSummary.{Summary, summary, Last, nothing_yet, ended_block, open_leaf, open_container, closed, summary_gap, summary_tip}
use Rattle.blockspec.specs.Lists.{Part, Leaves, Quoted, Listed, Group, kind_of, items_before, is_tight_inside}
use Rattle.blockspec.specs.NodeTree.{Nodes, texts_in, texts_in_items, definitions_in, placed, placed_items, unit_of}
use Rattle.blockspec.specs.UnitTree.{FoundUnit}
use Rattle.blockspec.specs.OpenLeaf.{OpenLeaf, leaf_from}
pub use Rattle.mdblock.specs.held.HeldTables.{CellsStand}
use Rattle.mdblock.specs.held.OpenLeaves.{IsLeafOf}
use Rattle.mdblock.specs.declared.blocks.Block.{Block}
use Rattle.mdblock.specs.declared.container.lists.OpenList.{OpenList}
use Rattle.mdblock.specs.declared.gathering.Gathering.{Gathering}
use Rattle.mdblock.specs.declared.leaf.Leaf.{Leaf}
use Rattle.mdblock.specs.declared.leaf.Leaf.TheVariants as leaf
use Rattle.mdblock.specs.declared.open_blocks.Level.{Level}
use Rattle.mdblock.specs.declared.open_blocks.OpenBlock.{OpenBlock}
use Rattle.mdblock.specs.declared.open_blocks.OpenBlock as open_block
use Rattle.mdblock.specs.declared.readers.OpenUnit.{OpenUnit}

-- ---- leaves

-- a kind whose leaf has not ended by itself
abbrev pub IsOpenKind : Kind → Type 0
IsOpenKind (FencedCode indentation mark size info closed) = closed ≡ false
IsOpenKind kind = Unit {0}

-- The first line of a paragraph is not blank, so an open one has a text.
abbrev pub HasText : Leaf → Type 0
HasText (leaf.Paragraph p) = 0 < length p.text
HasText held = Unit {0}

-- an open leaf of these lines, where the next text to be handed in behind what is over has a position
pub record StandsForLeaf (entities : EntityTable) (at : ℕ) (held : Leaf) (kept : OpenLeaf) : Type 0 where
  pub kind : Kind
  pub first : BlockLine
  pub later : List BlockLine
  pub is_open : IsOpenKind kind
  pub kept_is : kept ≡ leaf_from kind first later
  pub held_is : IsLeafOf entities held kind first later
  pub cells : CellsStand at held kept
  pub has_text : HasText held

-- ---- lists

abbrev pub StandsForItems : (at : ℕ) → OpenList → ListSoFar → Type 0
StandsForItems at list l =
    (kind_view list.kind ≡ l.kind) × (list.loose ≡ not l.tight) × (items_view list.items.items ≡ placed_items at l.items)

-- with the item that ended last
abbrev pub with_item : ListSoFar → Part → ListSoFar
with_item l (Listed kind tight items) = record { front = l.front; kind = l.kind; tight = l.tight && tight; items = items_before l.items items }
with_item l (Leaves leaves) = l
with_item l (Quoted nodes) = l

abbrev pub StandsForList : (at : ℕ) → OpenList → (before : List Group) → (gap : Bool) → Part → Type 0
StandsForList at list before gap (Listed kind tight items) =
    (list.item_open ≡ false) × StandsForItems at list (with_item (list_of before kind gap) (Listed kind tight items)) × (list.parted ≡ not tight)
StandsForList at list before gap (Leaves leaves) = ⊥
StandsForList at list before gap (Quoted nodes) = ⊥

-- ---- levels

-- whether the next block is the first one of an item
abbrev pub is_front : (in_item : Bool) → List Block → Bool
is_front in_item [] = in_item
is_front in_item (block ∷ over) = false

-- whether no block is open
abbrev pub is_shut : OpenBlock → Bool
is_shut open_block.Shut = true
is_shut (open_block.Leaf held) = false
is_shut (open_block.Quote' p over last in_item begun blank spaced) = false
is_shut (open_block.List' p over last in_item begun blank spaced list) = false

-- the level inside a list between two items: it holds nothing
abbrev pub IsShut : OpenBlock → Type 0
IsShut open_block.Shut = Unit {0}
IsShut (open_block.Leaf held) = ⊥
IsShut (open_block.Quote' p over last in_item begun blank spaced) = ⊥
IsShut (open_block.List' p over last in_item begun blank spaced list) = ⊥

abbrev pub IsFresh : List Block → OpenBlock → (in_item begun blank spaced : Bool) → Type 0
IsFresh over last in_item begun blank spaced =
    (over ≡ []) × IsShut last × (in_item ≡ true) × (begun ≡ false) × (blank ≡ false) × (spaced ≡ false)

abbrev pub is_list : Part → Bool
is_list (Listed kind tight items) = true
is_list (Leaves leaves) = false
is_list (Quoted nodes) = false

abbrev pub is_begun : Last → Bool
is_begun nothing_yet = false
is_begun (ended_block g) = true
is_begun (open_leaf begin gap leaf) = true
is_begun (open_container begin gap bare container inner) = true

-- where the texts behind the blocks that are over begin
abbrev pub behind_over : EntityTable → (at : ℕ) → (in_item : Bool) → (before : List Group) → Last → ℕ
behind_over entities at in_item before last = at + length (texts_in (tasked in_item (over_nodes entities before last)))

-- The blocks that are over, and what is known of the lines. A blank line counts where it may part two blocks.
abbrev pub StandsForOver : EntityTable → (at : ℕ) → (is_item : Bool) → List Block → (in_item begun blank spaced : Bool) → Summary → Type 0
StandsForOver entities at is_item over in_item begun blank spaced (summary before last blank_last lines) =
    (blocks_view over ≡ placed at (tasked is_item (over_nodes entities before last)))
    × (in_item ≡ is_item)
    × (begun ≡ is_begun last)
    × (blank ≡ summary_gap last blank_last)
    × (spaced ≡ not (is_tight_inside (closed entities (summary before last blank_last lines))))

-- the block that may go on, whose first text has a position
abbrev pub StandsForLast : EntityTable → (at : ℕ) → OpenBlock → (before : List Group) → Last → Type 0
StandsForLast entities at open_block.Shut before nothing_yet = before ≡ []
StandsForLast entities at open_block.Shut before (ended_block g) = is_list g.part ≡ false
StandsForLast entities at (open_block.Leaf held) before (open_leaf begin gap kept) = StandsForLeaf entities at held kept
StandsForLast entities at (open_block.Quote' p over last in_item begun blank spaced) before
    (open_container begin gap bare Quote (summary inner kept blank_last lines)) =
    StandsForOver entities at false over.items in_item begun blank spaced (summary inner kept blank_last lines)
    × StandsForLast entities (behind_over entities at false inner kept) last inner kept
StandsForLast entities at (open_block.List' p over last in_item begun blank spaced list) before (ended_block g) =
    StandsForList (at) list before g.gap g.part × IsFresh over.items last in_item begun blank spaced
StandsForLast entities at (open_block.List' p over last in_item begun blank spaced list) before
    (open_container begin gap bare (Item marker needed) (summary inner kept blank_last lines)) =
    let items = list_of before (kind_of marker) gap in
    let from = at + length (texts_in_items items.items) in
    (list.item_open ≡ true) × (list.needed ≡ needed) × (bare ≡ not begun) × StandsForItems at list items
    × StandsForOver entities from true over.items in_item begun blank spaced (summary inner kept blank_last lines)
    × StandsForLast entities (behind_over entities from true inner kept) last inner kept
StandsForLast entities at held before last = ⊥

-- the blocks of some lines, whose first text has a position
abbrev pub StandsFor : EntityTable → (at : ℕ) → (in_item : Bool) → Level → Summary → Type 0
StandsFor entities at in_item level (summary before last blank lines) =
    StandsForOver entities at in_item level.over.items level.in_item level.begun level.blank level.spaced (summary before last blank lines)
    × StandsForLast entities (behind_over entities at in_item before last) level.last before last

-- whether a gap parts two blocks of the last item of a list
abbrev pub is_parted_last : OpenBlock → Bool
is_parted_last open_block.Shut = false
is_parted_last (open_block.Leaf held) = false
is_parted_last (open_block.Quote' p over last in_item begun blank spaced) = false
is_parted_last (open_block.List' p over last in_item begun blank spaced list) = if list.item_open then spaced else list.parted

-- ---- premises of a line, which keep what the blocks stand for

-- A lazy line is not blank, and continues the paragraph that is open at the end.
abbrev pub IsLazyRight : Summary → BlockLine → Type 0
IsLazyRight s l = l.lazy ≡ true → (is_blank_line l ≡ false) × (summary_tip s ≡ Text)

-- At most so many containers are open inside one another, where a list between its items counts as one.
abbrev mutual
  pub Fits : (room : ℕ) → Summary → Type 0
  Fits room (summary before last blank lines) = FitsLast room last

  pub FitsLast : (room : ℕ) → Last → Type 0
  FitsLast room nothing_yet = Unit {0}
  FitsLast room (ended_block g) = is_list g.part ≡ true → 0 < room
  FitsLast room (open_leaf begin gap kept) = Unit {0}
  FitsLast zero (open_container begin gap bare container inner) = ⊥
  FitsLast (suc room) (open_container begin gap bare container inner) = Fits room inner

-- ---- what has been handed in

-- the texts and the definitions of some nodes, behind those that were there
abbrev pub HasGathered : Gathering → (texts : List (List ℕ)) → (definitions : List LinkDefinition) → Nodes → Type 0
HasGathered gathering texts definitions nodes =
    (map string_bytes gathering.texts.items ≡ texts ++ texts_in nodes)
    × (map definition_of gathering.definitions.items ≡ definitions ++ definitions_in nodes)

-- What a reader holds of the unit that it has not handed out yet stands for the summary of its lines.
abbrev pub HoldsSummary : OpenUnit → Summary → Type 0
HoldsSummary held s =
    HasGathered held.gathering [] [] (handed_nodes held.gathering.entities.now false s)
    × StandsFor held.gathering.entities.now 0 false held.level s

-- Closing a level gives the blocks of its lines, and hands in what was not yet.
abbrev pub ClosesAll : Level → (old : Gathering) → List Block → (new : Gathering) → Type 0
ClosesAll level old blocks new =
    (in_item : Bool) (s : Summary) (texts : List (List ℕ)) (definitions : List LinkDefinition)
    → HasGathered old texts definitions (handed_nodes old.entities.now in_item s)
    → StandsFor old.entities.now (length texts) in_item level s
    → HasGathered new texts definitions (closed_nodes old.entities.now in_item s)
    × (blocks_view blocks ≡ placed (length texts) (closed_nodes old.entities.now in_item s))

-- the unit that lines give which begin behind so many and end behind so many
abbrev pub found_between : EntityTable → Summary → (fed begin : ℕ) → FoundUnit
found_between entities s fed begin = record { begin = begin; lines = fed - begin; unit = unit_of (closed_nodes entities false s) }

-- the same with its later items
abbrev pub list_between : EntityTable → Summary → List ItemMark → (fed begin : ℕ) → FoundList
list_between entities s marks fed begin =
    record { begin = begin; lines = fed - begin; unit = unit_of (closed_nodes entities false s); marks = marks; parted = is_parted_after entities s }

-- What a reader holds gives the unit of its lines, if one has begun.
abbrev pub GivesUnit : OpenUnit → (fed : ℕ) → Option FoundList → Type 0
GivesUnit held fed found =
    (s : Summary) → HoldsSummary held s → found ≡ option_map (list_between held.gathering.entities.now s (map join_mark held.joins.items) fed) held.begin

-- whether a paragraph is open at the end
abbrev pub EndsIn : Level → Bool → Type 0
EndsIn level result =
    (entities : EntityTable) (at : ℕ) (in_item : Bool) (s : Summary) → StandsFor entities at in_item level s → result ≡ is_text (summary_tip s)
