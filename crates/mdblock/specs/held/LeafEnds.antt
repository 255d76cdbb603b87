-- What an open leaf hands in where it ends without a line of its own (CommonMark 4.4, 4.5, 4.6, 4.7, 4.8).
use Rattle.std.specs.Prelude.{◌≡◌, ℕ, Bool, true, false, List, [], ◌∷◌, map, Option}
use Rattle.mdtext.specs.EntityTable.{EntityTable}
use Rattle.mdleaf.specs.CodeLanguage.{code_language, code_meta}
use Rattle.mdleaf.specs.ParagraphDefinitions.{leading_of}
use Rattle.mdleaf.specs.DefinedLinks.{LinkDefinition}
use Rattle.mdleaf.specs.ParagraphText.{joined_lines, paragraph_text, behind_definitions}
use Rattle.blockspec.specs.BlockLine.{BlockLine, rest}
use Rattle.blockspec.specs.BlockKinds.{Kind, Paragraph, FencedCode, IndentedCode, HtmlBlock, Table}
use Rattle.mdblock.specs.held.HandedIn.{left_behind, IsLeafIn, IsHandedIn}
use Rattle.mdblock.specs.held.HeldTables.{IsBlockOf}
pub use Rattle.mdblock.specs.held.HeldTables.{IsTableEnd}
use Rattle.blockspec.specs.LeafContents.{code_text}
use Rattle.blockspec.specs.IndentedCode.{without_end_blank_lines}
use Rattle.blockspec.specs.NodeTree.{code_leaf, html_leaf}
use Rattle.blockspec.specs.OpenLeaf.{leaf_from}
use Rattle.mdblock.specs.held.ClosedViews.{found_view}
use Rattle.mdblock.specs.declared.blocks.Block.{Block}
use Rattle.mdblock.specs.declared.leaf.Leaf as held
use Rattle.mdblock.specs.declared.leaf.Leaf.TheVariants as leaf

-- Its block and its texts. Those of a table have been handed in; where its cells stand `IsTableEnd` says.
abbrev pub IsEndOf : EntityTable → (at_front : Bool) → Kind → (first : BlockLine) → (later : List BlockLine) → (old new : List (List ℕ)) → Option Block → Type 0
IsEndOf entities at_front Paragraph first later old new found =
    IsHandedIn (left_behind at_front (behind_definitions (paragraph_text (map rest (first ∷ later))))) old new found
IsEndOf entities at_front (FencedCode indentation mark length info closed) first later old new found =
    IsLeafIn (code_leaf (code_language entities info) (code_meta entities info) (code_text indentation later)) old new found
IsEndOf entities at_front IndentedCode first later old new found =
    IsLeafIn (code_leaf [] [] (code_text 4 (without_end_blank_lines (first ∷ later)))) old new found
IsEndOf entities at_front (HtmlBlock kind) first later old new found =
    IsLeafIn (html_leaf (joined_lines (map (λ l. l.line.text) (first ∷ later)))) old new found
IsEndOf entities at_front (Table above) first later old new found = IsBlockOf (leaf_from (Table above) first later) (found_view found) × (new ≡ old)
IsEndOf entities at_front kind first later old new found = Unit {0}

-- and its definitions
abbrev pub end_definitions : EntityTable → Kind → (first : BlockLine) → (later : List BlockLine) → List LinkDefinition
end_definitions entities Paragraph first later = leading_of entities (paragraph_text (map rest (first ∷ later)))
end_definitions entities kind first later = []

abbrev pub is_paragraph : held.Leaf → Bool
is_paragraph (leaf.Paragraph p) = true
is_paragraph (leaf.Fence f) = false
is_paragraph (leaf.Html h) = false
is_paragraph (leaf.Code c) = false
is_paragraph (leaf.Table t) = false
