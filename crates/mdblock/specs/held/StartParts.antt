-- What a line begins by itself, in two parts: a setext underline is tried between them, and a delimiter row after them
-- (CommonMark 4, 5; GFM Tables (extension)).
use Rattle.std.specs.Prelude.{ℕ, Bool, true, false, ◌||◌, nat_le, List, Option, None}
use Rattle.std.specs.Char.{is_ascii_digit}
use Rattle.std.specs.Option.{option_or}
use Rattle.mdscan.specs.Blanks.{begins_with}
use Rattle.mdscan.specs.Tag.{first_is}
use Rattle.blockspec.specs.BlockLine.{BlockLine, indentation}
use Rattle.blockspec.specs.BlankLines.{is_blank_line}
use Rattle.blockspec.specs.BlockKinds.{Mode, Kind}
use Rattle.blockspec.specs.BlockQuotes.{begins_quote}
use Rattle.blockspec.specs.AtxHeadings.{begins_atx}
use Rattle.blockspec.specs.FencedCode.{begins_fence}
use Rattle.blockspec.specs.HtmlBlocks.{begins_html}
use Rattle.blockspec.specs.ThematicBreaks.{begins_break}
use Rattle.blockspec.specs.ListItems.{begins_item}
use Rattle.blockspec.specs.IndentedCode.{start_far}

unfoldable pub start_before_underline : Mode → BlockLine → Option Kind
start_before_underline mode l = option_or (begins_quote l) (option_or (begins_atx l) (option_or (begins_fence l) (begins_html mode l)))

unfoldable pub start_after_underline : Mode → BlockLine → Option Kind
start_after_underline mode l = option_or (begins_break l) (begins_item mode l)

-- a mark of a list item or of a thematic break first
abbrev pub begins_marker : List ℕ → Bool
begins_marker text = begins_with 42 text || begins_with 45 text || begins_with 95 text || begins_with 43 text || first_is is_ascii_digit text

-- with an indentation of at most three columns
unfoldable pub start_alone_near : Mode → BlockLine → Option Kind
start_alone_near mode l = option_or (start_before_underline mode l) (start_after_underline mode l)

abbrev pub start_alone_at : (near : Bool) → Mode → BlockLine → Option Kind
start_alone_at true mode l = start_alone_near mode l
start_alone_at false mode l = start_far mode

abbrev pub start_alone_where : (blank : Bool) → Mode → BlockLine → Option Kind
start_alone_where true mode l = None
start_alone_where false mode l = start_alone_at (nat_le (indentation l) 3) mode l

-- but for setext underlines and delimiter rows
unfoldable pub start_alone : Mode → BlockLine → Option Kind
start_alone mode l = start_alone_where (is_blank_line l) mode l
