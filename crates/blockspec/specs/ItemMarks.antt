-- The later items of a document's lists, with what stands before each: inline texts and link reference definitions (CommonMark 4.7, 5.2, 5.3).
use Rattle.std.specs.Prelude.{ℕ, ◌+◌, ◌-◌, Bool, true, false, not, ◌||◌, List, [], ◌∷◌, ◌++◌, length}
use Rattle.std.specs.List.{flat_map}
use Rattle.mdtext.specs.EntityTable.{EntityTable}
use Rattle.blockspec.specs.BlockLine.{BlockLine}
use Rattle.blockspec.specs.BlockUnits.{groups}
use Rattle.blockspec.specs.Lists.{nodes_of}
use Rattle.blockspec.specs.Meetings.{gap_after}
use Rattle.blockspec.specs.NodeTree.{texts_in, texts_in_items, definitions_in, definitions_in_items}
use Rattle.blockspec.specs.Joins.{Join}
use Rattle.blockspec.specs.TopBlocks.{ListItem, TopBlock, Other, ItemList, top_blocks}

-- A later item of a list: its line, counted from the list's first one, how many inline texts and definitions the items before it give, and whether the list
-- is loose by a gap before it or inside the item before it.
pub record ItemMark : Type 0 where
  pub line : ℕ
  pub texts : ℕ
  pub definitions : ℕ
  pub loose : Bool

-- those behind an item, before which there are so many texts and definitions
unfoldable pub item_marks : (begin texts definitions : ℕ) → (item : ListItem) → (later : List ListItem) → List ItemMark
item_marks begin texts definitions item [] = []
item_marks begin texts definitions item (next ∷ later) =
    let before = texts + length (texts_in_items item.nodes) in
    let defined = definitions + length (definitions_in_items item.nodes) in
    record { line = next.line - begin; texts = before; definitions = defined; loose = not item.tight || next.gap } ∷ item_marks begin before defined next later

-- those of a top-level block; none but a list has any
abbrev pub block_marks : TopBlock → List ItemMark
block_marks (Other g) = []
block_marks (ItemList kind first later) = item_marks first.line 0 0 first later

-- those of all lists of some lines
abbrev pub list_marks : EntityTable → List BlockLine → List ItemMark
list_marks entities ls = flat_map block_marks (top_blocks entities ls)

abbrev pub last_item : (item : ListItem) → (later : List ListItem) → ListItem
last_item item [] = item
last_item item (next ∷ later) = last_item next later

-- whether a gap parts two blocks of the last item of a list
abbrev pub is_parted_block : TopBlock → Bool
is_parted_block (Other g) = false
is_parted_block (ItemList kind first later) = not (last_item first later).tight

-- the same of the block that stands last
abbrev pub is_parted : List TopBlock → Bool
is_parted [] = false
is_parted (block ∷ []) = is_parted_block block
is_parted (block ∷ next ∷ blocks) = is_parted (next ∷ blocks)

-- an item that begins behind some lines, which give all that stands before it
abbrev pub mark_behind : EntityTable → List BlockLine → ItemMark
mark_behind entities ls =
    let nodes = nodes_of (groups entities ls) in
    record {
      line = length ls;
      texts = length (texts_in nodes);
      definitions = length (definitions_in nodes);
      loose = is_parted (top_blocks entities ls) || gap_after ls;
    }

-- those of the unit that a reader holds, with one line more, which begins a unit, or the next item, or neither
abbrev pub marks_next : (begins joins : Bool) → List ItemMark → ItemMark → List ItemMark
marks_next true joins marks mark = []
marks_next false true marks mark = marks ++ mark ∷ []
marks_next false false marks mark = marks

-- what is told of it
abbrev pub join_of : ItemMark → Join
join_of mark = record { line = mark.line; texts = mark.texts }
