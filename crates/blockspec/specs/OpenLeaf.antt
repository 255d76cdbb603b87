-- What has to be kept of the lines of an open leaf, and what one line more makes of it (CommonMark 4; GFM Tables (extension)).
use Rattle.std.specs.Prelude.{ℕ, ◌-◌, Bool, true, false, not, nat_lt, nat_le, List, [], ◌∷◌, ◌++◌, length, map, take, drop, Option, Some, None, if◌then◌else◌}
use Rattle.std.specs.List.{suffix_len}
use Rattle.std.specs.Option.{option_or}
use Rattle.mdtext.specs.EntityTable.{EntityTable}
use Rattle.mdscan.specs.declared.delimiter_rows.Align.{Align}
use Rattle.mdscan.specs.SetextHeading.{underline_level}
use Rattle.mdleaf.specs.CodeLanguage.{code_language, code_meta}
use Rattle.mdleaf.specs.ParagraphText.{joined_lines, without_end_blanks, behind_definitions, is_definitions_alone}
use Rattle.mdleaf.specs.Tables.{filled, row_aligns, row_texts, begins_table}
use Rattle.blockspec.specs.BlockLine.{BlockLine, indentation, rest, without_columns, without_last}
use Rattle.blockspec.specs.BlankLines.{is_blank_line}
use Rattle.blockspec.specs.BlockKinds.{Inside, Kind, Paragraph, SetextHeading, Table, AtxHeading, ThematicBreak, FencedCode, IndentedCode, HtmlBlock, Holds}
use Rattle.blockspec.specs.BlockQuotes.{begins_quote}
use Rattle.blockspec.specs.AtxHeadings.{begins_atx}
use Rattle.blockspec.specs.FencedCode.{begins_fence, fenced_lines}
use Rattle.blockspec.specs.HtmlBlocks.{begins_html}
use Rattle.blockspec.specs.ThematicBreaks.{begins_break}
use Rattle.blockspec.specs.ListItems.{begins_item}
use Rattle.blockspec.specs.Tables.{last_text}
use Rattle.blockspec.specs.Laziness.{Tip, Text, Verbatim, Closed}
use Rattle.blockspec.specs.LeafContents.{code_text}
use Rattle.blockspec.specs.IndentedCode.{without_end_blank_lines}
use Rattle.blockspec.specs.NodeTree.{Leaf, heading_leaf, break_leaf, code_leaf, html_leaf, table_leaf}
use Rattle.blockspec.specs.LinkDefinitions.{definitions_at}
use Rattle.blockspec.specs.Paragraphs.{paragraph_if_any}
use Rattle.blockspec.specs.Stretches.{closes, ends_html, is_row, is_code}

pub data OpenLeaf : Type 0 where
  -- a paragraph: the text of its lines without their indentation, joined; its last line; the text of those above that
  open_text : (text last above : List ℕ) → OpenLeaf
  -- a table: the text that stands above it; its alignments, header cells and data rows
  open_table : (above : List ℕ) → List Align → (head : List (List ℕ)) → (rows : List (List (List ℕ))) → OpenLeaf
  open_fence : (indentation mark length : ℕ) → (info body : List ℕ) → OpenLeaf
  -- indented code: up to its last line that is not blank, and the blank lines behind it
  open_code : (body blanks : List ℕ) → OpenLeaf
  open_html : (kind : ℕ) → (text : List ℕ) → OpenLeaf
  -- a setext heading with its underline, or a block of one line: no line goes on with it
  done_heading : (level : ℕ) → (text : List ℕ) → OpenLeaf
  done_leaf : List Leaf → OpenLeaf

-- what is open at its end
abbrev pub open_tip : OpenLeaf → Tip
open_tip (open_text text last above) = Text
open_tip (open_fence indentation mark length info body) = Verbatim
open_tip (open_html kind text) = Verbatim
open_tip (open_table above aligns head rows) = Closed
open_tip (open_code body blanks) = Closed
open_tip (done_heading level text) = Closed
open_tip (done_leaf leaves) = Closed

-- what the text of a paragraph gives (CommonMark 4.7, 4.8), and that of a setext heading (CommonMark 4.3)
abbrev pub text_leaves : EntityTable → List ℕ → List Leaf
text_leaves entities text = definitions_at entities (without_end_blanks text) ++ paragraph_if_any (behind_definitions (without_end_blanks text))

abbrev pub heading_leaves : EntityTable → (level : ℕ) → List ℕ → List Leaf
heading_leaves entities level text =
    definitions_at entities (without_end_blanks text) ++ heading_leaf level (behind_definitions (without_end_blanks text)) ∷ []

-- what it gives at its end
unfoldable pub open_leaves : EntityTable → OpenLeaf → List Leaf
open_leaves entities (open_text text last above) = text_leaves entities text
open_leaves entities (open_table above aligns head rows) = text_leaves entities above ++ table_leaf aligns head rows ∷ []
open_leaves entities (open_fence indentation mark length info body) = code_leaf (code_language entities info) (code_meta entities info) body ∷ []
open_leaves entities (open_code body blanks) = code_leaf [] [] body ∷ []
open_leaves entities (open_html kind text) = html_leaf text ∷ []
open_leaves entities (done_heading level text) = heading_leaves entities level text
open_leaves entities (done_leaf leaves) = leaves

-- ---- of some lines

abbrev pub row_of : List Align → List ℕ → List (List ℕ)
row_of aligns row = filled (length aligns) (row_texts row)

-- A table of its header row, its delimiter row and its data rows. Without the first two there is only the text above it.
abbrev pub table_from : (above : List ℕ) → (rows : List (List ℕ)) → OpenLeaf
table_from above (head ∷ delimiters ∷ rows) = open_table above (row_aligns delimiters) (row_texts head) (map (row_of (row_aligns delimiters)) rows)
table_from above rows = open_text above [] []

abbrev pub end_blank_lines : List BlockLine → List BlockLine
end_blank_lines ls = drop (length ls - suffix_len is_blank_line ls) ls

-- what has to be kept of the lines of a leaf
unfoldable pub leaf_from : Kind → (first : BlockLine) → (later : List BlockLine) → OpenLeaf
leaf_from Paragraph first later =
    open_text (joined_lines (map rest (first ∷ later))) (last_text (first ∷ later)) (joined_lines (map rest (without_last (first ∷ later))))
leaf_from (SetextHeading level) first later = done_heading level (joined_lines (map rest (without_last (first ∷ later))))
leaf_from (Table above) first later = table_from (joined_lines (take (above - 1) (map rest (first ∷ later)))) (drop (above - 1) (map rest (first ∷ later)))
leaf_from (AtxHeading level content) first later = done_leaf (heading_leaf level content ∷ [])
leaf_from ThematicBreak first later = done_leaf (break_leaf ∷ [])
leaf_from (FencedCode indentation mark length info closed) first later =
    open_fence indentation mark length info (code_text indentation (fenced_lines closed later))
leaf_from IndentedCode first later =
    open_code (code_text 4 (without_end_blank_lines (first ∷ later))) (code_text 4 (end_blank_lines (first ∷ later)))
leaf_from (HtmlBlock kind) first later = open_html kind (joined_lines (map (λ l. l.line.text) (first ∷ later)))
leaf_from (Holds container) first later = done_leaf []

-- ---- one line more

-- The line is one of the leaf's lines; its last one; the leaf is over before it.
pub data NextLeaf : Type 0 where
  ContinuesAs : OpenLeaf → NextLeaf
  EndsAs : OpenLeaf → NextLeaf
  EndedBefore : NextLeaf

abbrev pub continues_as_if : Bool → OpenLeaf → NextLeaf
continues_as_if true leaf = ContinuesAs leaf
continues_as_if false leaf = EndedBefore

abbrev pub text_more : (text : List ℕ) → BlockLine → OpenLeaf
text_more text l = open_text (text ++ 10 ∷ rest l) (rest l) text

-- the blocks that are tried before a setext underline, and those that are tried after it
abbrev pub before_underline : BlockLine → Option Kind
before_underline l = option_or (begins_quote l) (option_or (begins_atx l) (option_or (begins_fence l) (begins_html Inside l)))

abbrev pub after_underline : BlockLine → Option Kind
after_underline l = option_or (begins_break l) (begins_item Inside l)

-- the level of an underline below a text that is more than definitions
abbrev pub level_under : (text : List ℕ) → BlockLine → Option ℕ
level_under text l = if not (is_definitions_alone (without_end_blanks text)) then underline_level (rest l) else None

-- A line behind a paragraph with an indentation of at most three columns, by the first start that fits: an underline makes a
-- heading of it (CommonMark 4.3), a delimiter row a table of its last line (GFM Tables (extension)), any other ends it, and with none it
-- goes on (CommonMark 4.8).
abbrev pub next_near : (text last above : List ℕ) → (before : Option Kind) → (level : Option ℕ) → (after : Option Kind) → (delimits : Bool) → BlockLine
    → NextLeaf
next_near text last above (Some kind) level after delimits l = EndedBefore
next_near text last above None (Some level) after delimits l = EndsAs (done_heading level text)
next_near text last above None None (Some kind) delimits l = EndedBefore
next_near text last above None None None true l = ContinuesAs (open_table above (row_aligns (rest l)) (row_texts last) [])
next_near text last above None None None false l = ContinuesAs (text_more text l)

-- a line behind a paragraph, lazy or blank or with an indentation of at most three columns or none of these
abbrev pub next_text : (text last above : List ℕ) → (lazy blank near : Bool) → BlockLine → NextLeaf
next_text text last above true blank near l = ContinuesAs (text_more text l)
next_text text last above false true near l = EndedBefore
next_text text last above false false true l =
    next_near text last above (before_underline l) (level_under text l) (after_underline l) (begins_table last (rest l)) l
next_text text last above false false false l = ContinuesAs (text_more text l)

-- HTML block (CommonMark 4.6)
abbrev pub next_html : (blank ends : Bool) → (kind : ℕ) → (text : List ℕ) → NextLeaf
next_html true ends kind text = continues_as_if (nat_lt kind 6) (open_html kind text)
next_html false true kind text = EndsAs (open_html kind text)
next_html false false kind text = ContinuesAs (open_html kind text)

abbrev pub code_line : (columns : ℕ) → BlockLine → List ℕ
code_line columns l = (without_columns l columns).line.text ++ 10 ∷ []

-- Indented code (CommonMark 4.4): blank lines are part of it where another line follows.
abbrev pub code_more : (blank : Bool) → (body blanks line : List ℕ) → OpenLeaf
code_more true body blanks line = open_code body (blanks ++ line)
code_more false body blanks line = open_code (body ++ blanks ++ line) []

-- Fenced code (CommonMark 4.5)
abbrev pub next_fence : (closed : Bool) → (indentation mark length : ℕ) → (info body line : List ℕ) → NextLeaf
next_fence true indentation mark length info body line = EndsAs (open_fence indentation mark length info body)
next_fence false indentation mark length info body line = ContinuesAs (open_fence indentation mark length info (body ++ line))

-- what one line more makes of an open leaf
unfoldable pub next_leaf : OpenLeaf → BlockLine → NextLeaf
next_leaf (open_text text last above) l = next_text text last above l.lazy (is_blank_line l) (nat_le (indentation l) 3) l
next_leaf (open_table above aligns head rows) l = continues_as_if (is_row l) (open_table above aligns head (rows ++ row_of aligns (rest l) ∷ []))
next_leaf (open_fence indentation mark length info body) l = next_fence (closes mark length l) indentation mark length info body (code_line indentation l)
next_leaf (open_code body blanks) l = continues_as_if (is_code l) (code_more (is_blank_line l) body blanks (code_line 4 l))
next_leaf (open_html kind text) l = next_html (is_blank_line l) (ends_html kind l) kind (text ++ 10 ∷ l.line.text)
next_leaf (done_heading level text) l = EndedBefore
next_leaf (done_leaf leaves) l = EndedBefore

-- the leaf is over before the line
abbrev pub is_parted : NextLeaf → Bool
is_parted (ContinuesAs leaf) = false
is_parted (EndsAs leaf) = false
is_parted EndedBefore = true
