-- Which block a line begins (CommonMark 4, 5; GFM Tables (extension)): the constructs in the order in which they are tried.
use Rattle.std.specs.Prelude.{Bool, true, false, nat_le, List, [], ◌∷◌, unwrap_or, Option, None}
use Rattle.std.specs.Option.{option_or}
use Rattle.blockspec.specs.BlockLine.{BlockLine, indentation, rest}
use Rattle.blockspec.specs.BlankLines.{is_blank_line}
use Rattle.blockspec.specs.BlockKinds.{Mode, Free, Kind, Paragraph}
use Rattle.blockspec.specs.BlockQuotes.{begins_quote}
use Rattle.blockspec.specs.AtxHeadings.{begins_atx}
use Rattle.blockspec.specs.FencedCode.{begins_fence}
use Rattle.blockspec.specs.HtmlBlocks.{begins_html}
use Rattle.blockspec.specs.SetextHeadings.{begins_underline}
use Rattle.blockspec.specs.ThematicBreaks.{begins_break}
use Rattle.blockspec.specs.ListItems.{begins_item}
use Rattle.blockspec.specs.Tables.{begins_rows}
use Rattle.blockspec.specs.IndentedCode.{start_far}

abbrev pub first_that_fits : Option Kind → List (Option Kind) → Option Kind
first_that_fits one [] = one
first_that_fits one (other ∷ rest) = option_or one (first_that_fits other rest)

-- a line with an indentation of at most three columns
unfoldable pub start_near : Mode → (paragraph : List BlockLine) → BlockLine → Option Kind
start_near mode paragraph l =
    first_that_fits (begins_quote l) (begins_atx l ∷ begins_fence l ∷ begins_html mode l ∷ begins_underline mode paragraph l
    ∷ begins_break l ∷ begins_item mode l ∷ begins_rows mode paragraph l ∷ [])

abbrev pub start_at : (near : Bool) → Mode → List BlockLine → BlockLine → Option Kind
start_at true mode paragraph l = start_near mode paragraph l
start_at false mode paragraph l = start_far mode

abbrev pub start_where : (blank : Bool) → Mode → List BlockLine → BlockLine → Option Kind
start_where true mode paragraph l = None
start_where false mode paragraph l = start_at (nat_le (indentation l) 3) mode paragraph l

-- The block that a line begins, by the first case that fits. The lines of the open paragraph matter to a setext
-- underline and to a delimiter row alone.
unfoldable pub start : Mode → (paragraph : List BlockLine) → BlockLine → Option Kind
start mode paragraph l = start_where (is_blank_line l) mode paragraph l

-- the block that a line begins where none is open: a line that begins no other block begins a paragraph
abbrev pub begun : BlockLine → Kind
begun l = unwrap_or (start Free [] l) Paragraph
