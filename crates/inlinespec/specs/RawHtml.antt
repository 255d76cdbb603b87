-- Raw HTML (CommonMark 6.6).
use Rattle.std.specs.Prelude.{ℕ, List, [], ◌∷◌, take, drop, Option, Some, None}
use Rattle.mdtext.specs.EntityTable.{EntityTable}
use Rattle.mdscan.specs.declared.autolinks.Auto.{Auto}
use Rattle.inlinespec.specs.InlineEvents.{RawHtml}
use Rattle.inlinespec.specs.Lexemes.{Lexeme, leaf, as_written}
use Rattle.inlinespec.specs.Autolinks.{autolink_lexeme}

-- An autolink (CommonMark 6.5) comes before raw HTML.
abbrev pub angle_lexeme : EntityTable → List ℕ → ℕ → Option Auto → Option ℕ → Lexeme
angle_lexeme entities text at (Some auto) tag = autolink_lexeme entities text at auto
angle_lexeme entities text at None (Some size) = leaf size (RawHtml (take size (drop at text)) ∷ [])
angle_lexeme entities text at None None = as_written 1 (drop at text)
