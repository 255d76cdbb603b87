-- Emphasis, strong emphasis (CommonMark 6.2) and strikethrough (GFM Strikethrough (extension)): what pieces make once their delimiter runs are paired.
use Rattle.std.specs.Prelude.{ℕ, ◌+◌, ◌-◌, ◌||◌, ◌==◌, List, [], ◌∷◌, ◌++◌, replicate, if◌then◌else◌}
use Rattle.mdpair.specs.declared.delimiter_runs.DelimiterChar.{DelimiterChar}
use Rattle.mdpair.specs.declared.delimiter_runs.DelimiterChar.TheVariants.{Tilde}
use Rattle.mdpair.specs.declared.delimiter_runs.DelimiterRun.{DelimiterRun}
use Rattle.mdpair.specs.declared.emphasis.Match.{Match}
use Rattle.mdpair.specs.Neighbours.{byte_of}
use Rattle.mdpair.specs.Matches.{matches}
use Rattle.inlinespec.specs.InlineEvents.{InlineSpan, Emphasis, StrongEmphasis, Strikethrough, Event, Enter, Leave, written}
use Rattle.inlinespec.specs.Pieces.{Piece, Made, Run, Opening, bracket_text}

abbrev pub runs_of : List Piece → List DelimiterRun
runs_of [] = []
runs_of (Run r ∷ ps) = r ∷ runs_of ps
runs_of (_ ∷ ps) = runs_of ps

-- One delimiter character makes emphasis, two make strong emphasis, tildes a strikethrough.
abbrev pub span_by : DelimiterChar → ℕ → InlineSpan
span_by Tilde width = Strikethrough
span_by _ width = if width == 2 then StrongEmphasis else Emphasis

-- how many characters of the nth run are taken
abbrev pub taken : ℕ → List Match → ℕ
taken n [] = 0
taken n (t ∷ ts) = if (t.opener == n) || (t.closer == n) then t.width + taken n ts else taken n ts

-- a span ends at the nth run for each time that it closes one
abbrev pub ends : ℕ → List Match → List Event
ends n [] = []
ends n (t ∷ ts) = if t.closer == n then Leave ∷ ends n ts else ends n ts

-- and begins for each time that it opens one: what is taken first is the innermost
abbrev pub begins : ℕ → DelimiterChar → List Match → List Event
begins n d [] = []
begins n d (t ∷ ts) = if t.opener == n then begins n d ts ++ Enter (span_by d t.width) ∷ [] else begins n d ts

-- the nth run: the spans that it closes, the characters that are left as text, the spans that it opens
abbrev pub run_events : ℕ → List Match → DelimiterRun → List Event
run_events n ts r = ends n ts ++ written (replicate (r.length - taken n ts) (byte_of r.delimiter)) ++ begins n r.delimiter ts

-- the pieces from the nth run on, after these matches
abbrev pub settled_from : ℕ → List Match → List Piece → List Event
settled_from n ts [] = []
settled_from n ts (Made has_link es ∷ ps) = es ++ settled_from n ts ps
settled_from n ts (Opening image begin ∷ ps) = bracket_text image ++ settled_from n ts ps
settled_from n ts (Run r ∷ ps) = run_events n ts r ++ settled_from (n + 1) ts ps

-- the pieces with their delimiter runs paired
unfoldable pub settled : List Piece → List Event
settled ps = settled_from 0 (matches (runs_of ps)) ps
