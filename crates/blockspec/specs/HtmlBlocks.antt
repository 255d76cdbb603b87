-- HTML blocks (CommonMark 4.6).
use Rattle.std.specs.Prelude.{ℕ, Bool, ◌||◌, nat_lt, Option, Some, None, if◌then◌else◌}
use Rattle.mdscan.specs.HtmlBlock.{html_kind}
use Rattle.blockspec.specs.BlockLine.{BlockLine, rest}
use Rattle.blockspec.specs.BlockKinds.{Mode, Kind, HtmlBlock, is_free}

-- The seventh kind can't interrupt a paragraph; here not lazily either.
abbrev pub html_where : (free : Bool) → (kind : ℕ) → Option Kind
html_where free kind = if nat_lt kind 7 || free then Some (HtmlBlock kind) else None

abbrev pub html_by : (free : Bool) → Option ℕ → Option Kind
html_by free None = None
html_by free (Some kind) = html_where free kind

abbrev pub begins_html : Mode → BlockLine → Option Kind
begins_html mode l = html_by (is_free mode) (html_kind (rest l))
