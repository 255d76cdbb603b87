-- What an open table holds of its lines, and what it hands in (GFM Tables (extension)). Its cells are handed in as they are
-- read, row behind row, so it holds their positions.
use Rattle.std.specs.Prelude.{◌≡◌, ℕ, ◌+◌, List, [], ◌∷◌, ◌++◌, Bool, length, map, Option}
use Rattle.std.specs.Option.{MatchOption}
use Rattle.std.specs.List.{range_with_len}
use Rattle.mdleaf.specs.DefinedLinks.{LinkDefinition}
use Rattle.mdleaf.specs.ParagraphText.{behind_definitions, without_end_blanks}
use Rattle.mdleaf.specs.Tables.{TableHeader, row_aligns, row_texts}
use Rattle.mdscan.specs.declared.delimiter_rows.Align.{Align}
use Rattle.blockspec.specs.BlockTree.{table, Blocks, block, no_blocks}
use Rattle.blockspec.specs.NodeTree.{row_positions}
use Rattle.blockspec.specs.OpenLeaf.{OpenLeaf, open_table}
use Rattle.mdblock.specs.held.ClosedViews.{found_view}
use Rattle.mdblock.specs.held.HandedIn.{left_behind, IsHandedIn}
use Rattle.mdblock.specs.declared.blocks.Block.{Block}
use Rattle.mdblock.specs.declared.leaf.Leaf.{Leaf}
use Rattle.mdblock.specs.declared.leaf.Leaf.TheVariants as leaf
use Rattle.mdblock.specs.declared.leaf.LeafAfter.{LeafAfter}
use Rattle.mdblock.specs.declared.leaf.tables.Table.{Table}

abbrev pub held_rows : Table → List (List ℕ)
held_rows t = map (λ row. row.items) t.rows.items

-- as many columns and rows as is kept of the lines, and their alignments
abbrev pub IsTableOf : OpenLeaf → Leaf → Type 0
IsTableOf (open_table above aligns head rows) (leaf.Table t) =
    (t.aligns.items ≡ aligns) × (length t.head.items ≡ length head) × (map length (held_rows t) ≡ map length rows)
IsTableOf kept held = ⊥

-- The cells have been handed in, from a position on.
abbrev pub CellsStand : (at : ℕ) → Leaf → OpenLeaf → Type 0
CellsStand at (leaf.Table t) (open_table above aligns head rows) =
    (t.aligns.items ≡ aligns) × (t.head.items ≡ range_with_len at (length head)) × (held_rows t ≡ row_positions (at + length head) rows)
CellsStand at (leaf.Table t) kept = ⊥
CellsStand at held kept = Unit {0}

-- a table of a header row, whose cells are the first texts behind so many
abbrev pub IsHeaderRow : (texts : ℕ) → TableHeader → Table → Type 0
IsHeaderRow texts header t = (t.aligns.items ≡ header.aligns) × (t.head.items ≡ range_with_len texts (length header.cells)) × (t.rows.items ≡ [])

abbrev pub IsHeaderLeaf : (texts : ℕ) → TableHeader → Leaf → Type 0
IsHeaderLeaf texts header (leaf.Table t) = IsHeaderRow texts header t
IsHeaderLeaf texts header held = ⊥

-- what the first two rows say
abbrev pub first_rows : (head delimiters : List ℕ) → TableHeader
first_rows head delimiters = record { aligns = row_aligns delimiters; cells = row_texts head }

-- a table behind a paragraph of the text above it, which is over and has been handed in first
pub record IsTableBehind (at_front : Bool) (above : List ℕ) (header : TableHeader) (old new : List (List ℕ)) (s : LeafAfter) : Type 0 where
  pub between : List (List ℕ)
  pub paragraph : IsHandedIn (left_behind at_front (behind_definitions (without_end_blanks above))) old between s.over
  pub begun : MatchOption s.going ⊥ (IsHeaderLeaf (length between) header)
  pub texts : new ≡ between ++ header.cells

-- the same table with a data row more, whose cells are the first texts behind so many
abbrev pub IsRowMore : (texts : ℕ) → (old : Table) → Leaf → Type 0
IsRowMore texts old (leaf.Table t) =
    (t.aligns.items ≡ old.aligns.items) × (t.head.items ≡ old.head.items)
    × (held_rows t ≡ held_rows old ++ range_with_len texts (length old.aligns.items) ∷ [])
IsRowMore texts old leaf = ⊥

-- a block of a table with such columns and rows
pub record IsTableBlock (aligns : List Align) (head : List (List ℕ)) (rows : List (List (List ℕ))) (found : Blocks) : Type 0 where
  pub head_cells : List ℕ
  pub row_cells : List (List ℕ)
  pub found_is : found ≡ block (table aligns head_cells row_cells) no_blocks
  pub columns : length head_cells ≡ length head
  pub rows_are : map length row_cells ≡ map length rows

abbrev pub IsBlockOf : OpenLeaf → Blocks → Type 0
IsBlockOf (open_table above aligns head rows) found = IsTableBlock aligns head rows found
IsBlockOf kept found = ⊥

-- at its end: its rows as they are held, and nothing is handed in
abbrev pub IsTableEnd : Leaf → (old new : List (List ℕ)) → (known all : List LinkDefinition) → Option Block → Type 0
IsTableEnd (leaf.Table t) old new known all found =
    (found_view found ≡ block (table t.aligns.items t.head.items (held_rows t)) no_blocks) × (new ≡ old) × (all ≡ known)
IsTableEnd held old new known all found = Unit {0}
