-- Lazy continuation lines (CommonMark 5.1, 5.2).
use Rattle.std.specs.Prelude.{Bool, true, false, not, ◌||◌, ◌&&◌, is_none, []}
use Rattle.blockspec.specs.BlockLine.{BlockLine}
use Rattle.blockspec.specs.BlankLines.{is_blank_line}
use Rattle.blockspec.specs.BlockKinds.{Lazy}
use Rattle.blockspec.specs.BlockStart.{start}

-- The innermost block that is open at the end of some lines: a paragraph; fenced code or an HTML block, whose lines are
-- content whatever they hold; or another, or none.
pub data Tip : Type 0 where
  Text : Tip
  Verbatim : Tip
  Closed : Tip

abbrev pub is_text : Tip → Bool
is_text Text = true
is_text Verbatim = false
is_text Closed = false

abbrev pub is_verbatim : Tip → Bool
is_verbatim Text = false
is_verbatim Verbatim = true
is_verbatim Closed = false

-- A line that does not match a container goes on with a paragraph that is open in it, if it is not blank and begins no
-- block; so does a line that is lazy in a container around it.
unfoldable pub continues_lazily : Tip → BlockLine → Bool
continues_lazily tip l = l.lazy || (is_text tip && not (is_blank_line l) && is_none (start Lazy [] l))
