-- A list that goes on with the later items of another.
use Rattle.std.specs.Prelude.{ℕ, ◌≡◌, zero, suc, ◌+◌, ◌-◌, ◌^◌, Bool, false, not, ◌||◌, min, List, [], ◌∷◌, ◌++◌, Option, Some, None, drop, length, map, slice_get, take, unwrap_or}
use Rattle.std.specs.List.{list_any}
use Rattle.mdtext.specs.EntityTable.{EntityTable}
use Rattle.blockspec.specs.BlockTree.{ListKind, paragraph, heading, thematic_break, code_block, html_block, block_quote, list, table, Blocks, no_blocks, block, Items, no_items, item}
use Rattle.mdleaf.specs.DefinedLinks.{LinkDefinition}
use Rattle.blockspec.specs.BlockLine.{BlockLine, document_line}
use Rattle.blockspec.specs.NodeTree.{ItemNodes, definitions_in_items, placed_items, texts_in_items}
use Rattle.blockspec.specs.TopBlocks.{ListItem, ItemList, nodes_of_items, top_blocks}
use Rattle.blockspec.specs.UnitReader.{lines_held}
use Rattle.blockspec.specs.UnitTree.{UnitTree}
use Rattle.blockspec.specs.ItemMarks.{ItemMark, list_marks}
use Rattle.mdblock.specs.Copies.{copied_items, items_positions, texts_at}
use Rattle.mdblock.specs.FoundLists.{FoundList, StandsForUnit}
use Rattle.mdblock.specs.held.ReaderState.{ReaderState}
use Rattle.mdblock.specs.held.Reads.{Reads, open_begin}
use Rattle.mdblock.specs.held.TreesBehind.{placed_before}

-- the items of a list that stands first
abbrev pub first_items : Blocks → Items
first_items no_blocks = no_items
first_items (block (paragraph text task) rest) = no_items
first_items (block (heading level text) rest) = no_items
first_items (block thematic_break rest) = no_items
first_items (block (code_block lang meta body) rest) = no_items
first_items (block (html_block lines) rest) = no_items
first_items (block (block_quote inner) rest) = no_items
first_items (block (list kind tight items) rest) = items
first_items (block (table aligns head rows) rest) = no_items

-- items as a list of the kind of the one that stands first
abbrev pub as_first_list : Bool → Items → Blocks → Blocks
as_first_list tight items no_blocks = no_blocks
as_first_list tight items (block (paragraph text task) rest) = no_blocks
as_first_list tight items (block (heading level text) rest) = no_blocks
as_first_list tight items (block thematic_break rest) = no_blocks
as_first_list tight items (block (code_block lang meta body) rest) = no_blocks
as_first_list tight items (block (html_block lines) rest) = no_blocks
as_first_list tight items (block (block_quote inner) rest) = no_blocks
as_first_list tight items (block (list kind was inside) rest) = block (list kind tight items) no_blocks
as_first_list tight items (block (table aligns head rows) rest) = no_blocks

-- its kind
abbrev pub first_kind : Blocks → Option ListKind
first_kind no_blocks = None
first_kind (block (paragraph text task) rest) = None
first_kind (block (heading level text) rest) = None
first_kind (block thematic_break rest) = None
first_kind (block (code_block lang meta body) rest) = None
first_kind (block (html_block lines) rest) = None
first_kind (block (block_quote inner) rest) = None
first_kind (block (list kind tight items) rest) = Some kind
first_kind (block (table aligns head rows) rest) = None

-- items as a list of a kind
abbrev pub list_of_kind : Bool → Items → Option ListKind → Blocks
list_of_kind tight items None = no_blocks
list_of_kind tight items (Some kind) = block (list kind tight items) no_blocks

-- as far behind one number as another is behind `from`, as far as numbers reach
abbrev pub further_on : (at from to : ℕ) → ℕ
further_on at from to = min (to + (at - from)) (2 ^ 64 - 1)

-- an item behind `to` that stood behind `from`
abbrev pub mark_further : (from to : ItemMark) → ItemMark → ItemMark
mark_further from to mark = record {
  line = further_on mark.line from.line to.line;
  texts = further_on mark.texts from.texts to.texts;
  definitions = further_on mark.definitions from.definitions to.definitions;
  loose = mark.loose;
}

-- so many items from the front on, and those behind so many
abbrev pub take_items : ℕ → Items → Items
take_items zero items = no_items
take_items (suc n) no_items = no_items
take_items (suc n) (item first items) = item first (take_items n items)

abbrev pub drop_items : ℕ → Items → Items
drop_items zero items = items
drop_items (suc n) no_items = no_items
drop_items (suc n) (item first items) = drop_items n items

-- what stands before a list's first item
abbrev pub no_mark : ItemMark
no_mark = record { line = 0; texts = 0; definitions = 0; loose = false }

-- the later item of that number, if there is one
abbrev pub mark_at : List ItemMark → (k : ℕ) → ItemMark
mark_at marks k = unwrap_or (slice_get marks k) no_mark

-- So many items of a list and all but so many of an old one, so many definitions of the first and all but so many of the old one, and the texts that the
-- items name.
abbrev pub spliced_unit : (tight : Bool) → (kept left_out : ℕ) → (defined from : ℕ) → (front old : UnitTree) → UnitTree
spliced_unit tight kept left_out defined from front old =
    let items = take_items kept (first_items front.blocks) in
    let later = drop_items left_out (first_items old.blocks) in
    record {
      blocks = as_first_list tight (placed_before (copied_items 0 items) (copied_items (length (items_positions items)) later)) front.blocks;
      definitions = take defined front.definitions ++ drop from old.definitions;
      texts = texts_at front.texts (items_positions items) ++ texts_at old.texts (items_positions later);
    }

-- the later items of a list, and behind them those of an old one behind its item k + 1, which begins as the last one in front does
abbrev pub spliced_marks : (front old : List ItemMark) → (k : ℕ) → List ItemMark
spliced_marks front old k = front ++ map (mark_further (mark_at old k) (mark_at front (length front - 1))) (drop (k + 1) old)

-- whether a list is tight, by its later items, and by whether a gap parts two blocks of its last one
abbrev pub tight_list : (parted : Bool) → List ItemMark → Bool
tight_list parted marks = not (parted || list_any (λ (mark : ItemMark). mark.loose) marks)

-- A list without the item of its last mark, and behind it the items of an old one from its item k + 1 on.
abbrev pub spliced_list : (front old : FoundList) → (k : ℕ) → FoundList
spliced_list front old k =
    let from = mark_at old.marks k in
    let to = mark_at front.marks (length front.marks - 1) in
    let marks = spliced_marks front.marks old.marks k in
    record {
      begin = front.begin;
      lines = min (front.lines + (old.lines - from.line - 1)) (2 ^ 64 - 1);
      unit = spliced_unit (tight_list old.parted marks) (length front.marks) (k + 1) to.definitions from.definitions front.unit old.unit;
      marks = marks;
      parted = old.parted;
    }

-- a list of these items alone, with other definitions and texts behind those of the items
abbrev pub front_unit : ListKind → (tight : Bool) → ItemNodes → List LinkDefinition → List (List ℕ) → UnitTree
front_unit kind tight items definitions texts = record {
  blocks = block (list kind tight (placed_items 0 items)) no_blocks;
  definitions = definitions_in_items items ++ definitions;
  texts = texts_in_items items ++ texts;
}

-- the list of these lines, tight or not, with other definitions and texts behind its own
pub record IsListFront (e : EntityTable) (unit : UnitTree) (lines : List BlockLine) : Type 0 where
  pub kind : ListKind
  pub first : ListItem
  pub later : List ListItem
  pub tight : Bool
  pub definitions : List LinkDefinition
  pub texts : List (List ℕ)
  pub top : top_blocks e lines ≡ ItemList kind first later ∷ []
  pub is : unit ≡ front_unit kind tight (nodes_of_items first later) definitions texts

-- Of some lines and one more, in which a later item of the last list begins, that list without the item.
abbrev pub IsFrontOf : EntityTable → FoundList → (xs : List (List ℕ)) → (l : List ℕ) → Type 0
IsFrontOf entities front xs l =
    let held = lines_held [] (map document_line xs) in
    (open_begin entities (xs ++ l ∷ []) ≡ Some front.begin) × (front.lines ≡ length (held ++ document_line l ∷ []))
    × (front.marks ≡ list_marks entities (held ++ document_line l ∷ [])) × IsListFront entities front.unit held

-- A reader has read some lines and one more, and in that one the later item k of an old list begins, which stands for its lines.
abbrev pub MeetsAt : (limit : ℕ) → EntityTable → (front : ReaderState) → (old : FoundList) → (k : ℕ) → (xs : List (List ℕ)) → (l : List ℕ)
    → (zs ys : List (List ℕ)) → Type 0
MeetsAt limit entities front old k xs l zs ys =
    Reads limit entities front (xs ++ l ∷ []) × StandsForUnit entities old (zs ++ l ∷ ys) × ((mark_at old.marks k).line ≡ length zs)
