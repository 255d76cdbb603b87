-- Setext headings (CommonMark 4.3).
use Rattle.std.specs.Prelude.{ℕ, Bool, not, ◌&&◌, List, [], ◌∷◌, map, Option, None, if◌then◌else◌, ◌++◌}
use Rattle.std.specs.Option.{option_map}
use Rattle.mdscan.specs.SetextHeading.{underline_level}
use Rattle.mdleaf.specs.ParagraphText.{paragraph_text, is_definitions_alone, behind_definitions}
use Rattle.blockspec.specs.BlockLine.{BlockLine, rest}
use Rattle.blockspec.specs.BlockKinds.{Mode, Kind, SetextHeading, is_inside}
use Rattle.mdtext.specs.EntityTable.{EntityTable}
use Rattle.blockspec.specs.NodeTree.{Leaf, heading_leaf}
use Rattle.blockspec.specs.LinkDefinitions.{definitions_at}

-- The underline makes a heading of the open paragraph, where that is more than link
-- reference definitions.
abbrev pub underlines : Mode → List BlockLine → Bool
underlines mode paragraph = is_inside mode && not (is_definitions_alone (paragraph_text (map rest paragraph)))

abbrev pub begins_underline : Mode → List BlockLine → BlockLine → Option Kind
begins_underline mode paragraph l =
    if underlines mode paragraph then option_map SetextHeading (underline_level (rest l)) else None

-- the lines before a setext underline
unfoldable pub heading_end : EntityTable → (level : ℕ) → (lines : List (List ℕ)) → List Leaf
heading_end entities level lines =
    let text = paragraph_text lines in
    definitions_at entities text ++ heading_leaf level (behind_definitions text) ∷ []
