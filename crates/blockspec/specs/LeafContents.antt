-- What the lines of a leaf block give (CommonMark 4; GFM Tables (extension)).
use Rattle.std.specs.Prelude.{ℕ, List, [], ◌∷◌, ◌++◌, map}
use Rattle.std.specs.List.{flat_map}
use Rattle.mdtext.specs.EntityTable.{EntityTable}
use Rattle.mdleaf.specs.CodeLanguage.{code_language, code_meta}
use Rattle.mdleaf.specs.ParagraphText.{joined_lines}
use Rattle.blockspec.specs.BlockLine.{BlockLine, rest, without_columns, without_last}
use Rattle.blockspec.specs.BlockKinds.{Kind, Paragraph, SetextHeading, Table, AtxHeading, ThematicBreak, FencedCode, IndentedCode, HtmlBlock, Holds}
use Rattle.blockspec.specs.NodeTree.{Leaf, heading_leaf, break_leaf, code_leaf, html_leaf}
use Rattle.blockspec.specs.Paragraphs.{paragraph_end}
use Rattle.blockspec.specs.SetextHeadings.{heading_end}
use Rattle.blockspec.specs.Tables.{table_end}
use Rattle.blockspec.specs.FencedCode.{fenced_lines}
use Rattle.blockspec.specs.IndentedCode.{without_end_blank_lines}

-- the lines of code without their indentation of so many columns, or without as much of it as they have; each with a line ending
abbrev pub code_text : (columns : ℕ) → List BlockLine → List ℕ
code_text columns ls = flat_map (λ l. (without_columns l columns).line.text ++ 10 ∷ []) ls

-- the leaf blocks and definitions that a stretch of a kind gives; a container is none
unfoldable pub leaves_of : EntityTable → Kind → (first : BlockLine) → (later : List BlockLine) → List Leaf
leaves_of entities Paragraph first later = paragraph_end entities (map rest (first ∷ later))
leaves_of entities (SetextHeading level) first later = heading_end entities level (map rest (without_last (first ∷ later)))
leaves_of entities (Table above) first later = table_end entities above (map rest (first ∷ later))
leaves_of entities (AtxHeading level content) first later = heading_leaf level content ∷ []
leaves_of entities ThematicBreak first later = break_leaf ∷ []
leaves_of entities (FencedCode indentation mark length info closed) first later =
    code_leaf (code_language entities info) (code_meta entities info) (code_text indentation (fenced_lines closed later)) ∷ []
leaves_of entities IndentedCode first later = code_leaf [] [] (code_text 4 (without_end_blank_lines (first ∷ later))) ∷ []
leaves_of entities (HtmlBlock kind) first later = html_leaf (joined_lines (map (λ l. l.line.text) (first ∷ later))) ∷ []
leaves_of entities (Holds container) first later = []
