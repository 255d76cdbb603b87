-- The lines that an edit would leave.
use Rattle.std.specs.Prelude.{ℕ, List, map, string_bytes}
use Rattle.mdview.specs.Lists.{replaced}
use Rattle.mdview.specs.declared.source.new_text.NewText.{NewText}

-- those before the edit, those that it adds, and those behind it
abbrev pub lines_of : NewText → List (List ℕ)
lines_of text = replaced (map string_bytes text.lines.now.items) text.at text.gone (map string_bytes text.added.now)
