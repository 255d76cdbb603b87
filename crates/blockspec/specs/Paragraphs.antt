-- Paragraphs (CommonMark 4.8): first the link reference definitions at the front of the lines' text, and then what is left, if anything is.
use Rattle.std.specs.Prelude.{ℕ, List, [], ◌∷◌, ◌++◌, None}
use Rattle.mdtext.specs.EntityTable.{EntityTable}
use Rattle.mdleaf.specs.ParagraphText.{paragraph_text, behind_definitions}
use Rattle.blockspec.specs.NodeTree.{Leaf, paragraph_leaf}
use Rattle.blockspec.specs.LinkDefinitions.{definitions_at}

abbrev pub paragraph_if_any : List ℕ → List Leaf
paragraph_if_any [] = []
paragraph_if_any (b ∷ text) = paragraph_leaf None (b ∷ text) ∷ []

-- Here and below a line is its text without its indentation.
unfoldable pub paragraph_end : EntityTable → (lines : List (List ℕ)) → List Leaf
paragraph_end entities lines =
    let text = paragraph_text lines in
    definitions_at entities text ++ paragraph_if_any (behind_definitions text)
