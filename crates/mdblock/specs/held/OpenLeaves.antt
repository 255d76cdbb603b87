-- What an open leaf holds of its lines (CommonMark 4.4, 4.5, 4.6, 4.8; GFM Tables (extension)).
use Rattle.std.specs.Prelude.{◌≡◌, ◌≤◌, ℕ, Bool, true, false, List, [], ◌∷◌, ◌++◌, length, map, None, string_bytes}
use Rattle.std.specs.Option.{MatchOption}
use Rattle.mdtext.specs.EntityTable.{EntityTable}
use Rattle.mdleaf.specs.CodeLanguage.{code_language, code_meta}
use Rattle.mdleaf.specs.ParagraphText.{joined_lines}
use Rattle.blockspec.specs.BlockLine.{BlockLine, without_last}
use Rattle.blockspec.specs.BlockKinds.{Kind, Paragraph, AtxHeading, ThematicBreak, FencedCode, IndentedCode, HtmlBlock, Table}
use Rattle.blockspec.specs.BlockTree.{Block, heading, thematic_break, code_block, html_block}
use Rattle.mdblock.specs.BlockView.{block_view}
use Rattle.blockspec.specs.LeafContents.{code_text}
use Rattle.blockspec.specs.IndentedCode.{without_end_blank_lines}
use Rattle.blockspec.specs.OpenLeaf.{end_blank_lines, leaf_from, row_of}
use Rattle.mdblock.specs.held.HeldTables.{IsTableOf, IsRowMore}
use Rattle.mdblock.specs.held.ParagraphLines.{HoldsLines}
use Rattle.blockspec.specs.Stretches.{Step as LineStep, Continues, IsLastLine, IsOverBefore, ends_html}
use Rattle.mdblock.specs.declared.leaf.fenced_code.Fence.{Fence}
use Rattle.mdblock.specs.declared.leaf.html_blocks.HtmlBlock as html
use Rattle.mdblock.specs.declared.leaf.indented_code.IndentedCode as code
use Rattle.mdblock.specs.declared.leaf.Leaf.{Leaf}
use Rattle.mdblock.specs.declared.leaf.Leaf.TheVariants as leaf
use Rattle.mdblock.specs.declared.leaf.LeafAfter.{LeafAfter}

pub record IsFenceOf (entities : EntityTable) (indentation mark length : ℕ) (info : List ℕ) (later : List BlockLine) (f : Fence) : Type 0 where
  pub mark_is : f.mark ≡ mark
  pub length_is : f.length ≡ length
  pub indentation_is : f.indent ≡ indentation
  pub language : string_bytes f.info.value.lang ≡ code_language entities info
  pub meta : string_bytes f.info.value.meta ≡ code_meta entities info
  pub body : string_bytes f.body ≡ code_text indentation later

pub record IsHtmlOf (kind : ℕ) (lines : List BlockLine) (h : html.HtmlBlock) : Type 0 where
  pub kind_is : h.kind ≡ kind
  pub body : string_bytes h.body ≡ joined_lines (map (λ l. l.line.text) lines)

pub record IsCodeOf (lines : List BlockLine) (c : code.IndentedCode) : Type 0 where
  pub body : string_bytes c.body ≡ code_text 4 (without_end_blank_lines lines)
  pub blanks : string_bytes c.blanks ≡ code_text 4 (end_blank_lines lines)

-- a table of these lines, of which so many stand above its delimiter row
abbrev pub IsTableIn : (above : ℕ) → (first : BlockLine) → (later : List BlockLine) → Leaf → Type 0
IsTableIn above first later held = (1 ≤ above) × (above ≤ length later) × IsTableOf (leaf_from (Table above) first later) held

-- A table's cells are handed in as they are read (`CellsStand`), so of one only its columns and rows are told here.
abbrev pub IsLeafOf : EntityTable → Leaf → Kind → (first : BlockLine) → (later : List BlockLine) → Type 0
IsLeafOf entities (leaf.Paragraph p) Paragraph first later = HoldsLines (first ∷ later) p
IsLeafOf entities (leaf.Fence f) (FencedCode indentation mark length info closed) first later = IsFenceOf entities indentation mark length info later f
IsLeafOf entities (leaf.Html h) (HtmlBlock kind) first later = IsHtmlOf kind (first ∷ later) h
IsLeafOf entities (leaf.Code c) IndentedCode first later = IsCodeOf (first ∷ later) c
IsLeafOf entities (leaf.Table t) (Table above) first later = IsTableIn above first later (leaf.Table t)
IsLeafOf entities leaf kind first later = ⊥

-- a line leaves an open leaf, and nothing that is over
pub record IsGoing (P : Leaf → Type 0) (s : LeafAfter) : Type 0 where
  pub nothing_over : s.over ≡ None
  pub going : MatchOption s.going ⊥ P

-- a line leaves a block that is over, and nothing that is open
pub record IsOver (block : Block) (s : LeafAfter) : Type 0 where
  pub over : MatchOption s.over ⊥ (λ found. block_view found ≡ block)
  pub nothing_going : s.going ≡ None

abbrev pub IsHtmlLeaf : (kind : ℕ) → (lines : List BlockLine) → Leaf → Type 0
IsHtmlLeaf kind lines (leaf.Html h) = IsHtmlOf kind lines h
IsHtmlLeaf kind lines leaf = ⊥

abbrev pub IsHtmlStep : (ends : Bool) → (kind : ℕ) → (lines : List BlockLine) → LeafAfter → Type 0
IsHtmlStep true kind lines s = IsOver (html_block (joined_lines (map (λ l. l.line.text) lines))) s
IsHtmlStep false kind lines s = IsGoing (IsHtmlLeaf kind lines) s

abbrev pub IsCodeLeaf : (lines : List BlockLine) → Leaf → Type 0
IsCodeLeaf lines (leaf.Code c) = IsCodeOf lines c
IsCodeLeaf lines leaf = ⊥

abbrev pub IsFenceLeaf : EntityTable → (indentation mark length : ℕ) → (info : List ℕ) → (later : List BlockLine) → Leaf → Type 0
IsFenceLeaf entities indentation mark length info later (leaf.Fence f) = IsFenceOf entities indentation mark length info later f
IsFenceLeaf entities indentation mark length info later leaf = ⊥

abbrev pub IsFenceStep : (closed : Bool) → EntityTable → (indentation mark length : ℕ) → (info : List ℕ) → (later : List BlockLine) → BlockLine → LeafAfter
    → Type 0
IsFenceStep true entities indentation mark length info later l s =
    IsOver (code_block (code_language entities info) (code_meta entities info) (code_text indentation later)) s
IsFenceStep false entities indentation mark length info later l s = IsGoing (IsFenceLeaf entities indentation mark length info (later ++ l ∷ [])) s

abbrev pub IsParagraphLeaf : (lines : List BlockLine) → Leaf → Type 0
IsParagraphLeaf lines (leaf.Paragraph p) = HoldsLines lines p
IsParagraphLeaf lines leaf = ⊥

-- What the first line of a leaf leaves, where so many texts are handed in before it.
abbrev pub IsBegun : EntityTable → (texts : ℕ) → Kind → (first : BlockLine) → LeafAfter → Type 0
IsBegun entities texts Paragraph first s = IsGoing (IsParagraphLeaf (first ∷ [])) s
IsBegun entities texts (AtxHeading level content) first s = IsOver (heading level texts) s
IsBegun entities texts ThematicBreak first s = IsOver thematic_break s
IsBegun entities texts (FencedCode indentation mark length info closed) first s = IsGoing (IsFenceLeaf entities indentation mark length info []) s
IsBegun entities texts IndentedCode first s = IsGoing (IsCodeLeaf (first ∷ [])) s
IsBegun entities texts (HtmlBlock kind) first s = IsHtmlStep (ends_html kind first) kind (first ∷ []) s
IsBegun entities texts kind first s = Unit {0}

-- and the texts that are handed in with it
abbrev pub begun_texts : Kind → List (List ℕ)
begun_texts (AtxHeading level content) = content ∷ []
begun_texts kind = []

-- What a later line leaves of a leaf: a kind that takes it goes on, and one that it ends is over. Of headings nothing is said
-- here, since a text is handed in with them, and of tables not where their cells stand (`IsRowIn`, `IsTableBehind`).
abbrev pub IsGrown : EntityTable → Kind → (first : BlockLine) → (later : List BlockLine) → LeafAfter → Type 0
IsGrown entities Paragraph first later s = IsGoing (IsParagraphLeaf (first ∷ later)) s
IsGrown entities (FencedCode indentation mark length info closed) first later s = IsGoing (IsFenceLeaf entities indentation mark length info later) s
IsGrown entities IndentedCode first later s = IsGoing (IsCodeLeaf (first ∷ later)) s
IsGrown entities (HtmlBlock kind) first later s = IsGoing (IsHtmlLeaf kind (first ∷ later)) s
IsGrown entities (Table above) first later s = MatchOption s.going ⊥ (IsTableIn above first later)
IsGrown entities kind first later s = Unit {0}

abbrev pub IsEnded : EntityTable → Kind → (first : BlockLine) → (later : List BlockLine) → LeafAfter → Type 0
IsEnded entities (FencedCode indentation mark length info closed) first later s =
    IsOver (code_block (code_language entities info) (code_meta entities info) (code_text indentation (without_last later))) s
IsEnded entities (HtmlBlock kind) first later s = IsOver (html_block (joined_lines (map (λ l. l.line.text) (first ∷ later)))) s
IsEnded entities kind first later s = Unit {0}

-- a line that the leaf does not take is not read by it
abbrev pub IsLeft : EntityTable → LineStep → (first : BlockLine) → (later : List BlockLine) → LeafAfter → Type 0
IsLeft entities (Continues kind) first later s = IsGrown entities kind first later s
IsLeft entities (IsLastLine kind) first later s = IsEnded entities kind first later s
IsLeft entities IsOverBefore first later s = Unit {0}

-- what a data row leaves of a table, and the texts of its cells, which are handed in
abbrev pub IsRowIn : Leaf → (row : List ℕ) → (old new : List (List ℕ)) → LeafAfter → Type 0
IsRowIn (leaf.Table t) row old new s = IsGoing (IsRowMore (length old) t) s × (new ≡ old ++ row_of t.aligns.items row)
IsRowIn held row old new s = Unit {0}
