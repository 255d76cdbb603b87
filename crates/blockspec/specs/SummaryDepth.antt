-- Whether a line begins a container too many, as the summary of the lines before it tells. The limit is ours, since the
-- standard has none.
use Rattle.std.specs.Prelude.{ℕ, zero, suc, Bool, true, false, List, [], ◌∷◌, Option, Some, None, if◌then◌else◌}
use Rattle.mdtext.specs.EntityTable.{EntityTable}
use Rattle.blockspec.specs.BlockLine.{BlockLine}
use Rattle.blockspec.specs.BlockKinds.{Kind, Holds}
use Rattle.blockspec.specs.BlockStart.{begun}
use Rattle.blockspec.specs.ContainerLines.{opened, inside}
use Rattle.blockspec.specs.LineSummary.{Summary, summary, Last, open_container, no_summary, line_added, is_apart_after}

-- a line that begins a block, where `first` tells it of what the first line of a container holds
unfoldable pub sinks_first : (first : BlockLine → Bool) → Kind → BlockLine → Bool
sinks_first first (Holds container) l = first (opened container l)
sinks_first first kind l = false

-- a line that goes on with a block, where `later` tells it of what a later line of a container holds
unfoldable pub sinks_later : (later : Summary → BlockLine → Bool) → Last → BlockLine → Bool
sinks_later later (open_container begin gap bare container inner) l = later inner (inside container l)
sinks_later later last l = false

unfoldable pub sinks_at : (later : Summary → BlockLine → Bool) → (first : BlockLine → Bool) → (apart : Bool) → Last → BlockLine → Bool
sinks_at later first true last l = sinks_first first (begun l) l
sinks_at later first false last l = sinks_later later last l

unfoldable pub sinks_by : (later : Summary → BlockLine → Bool) → (first : BlockLine → Bool) → Summary → BlockLine → Bool
sinks_by later first (summary before last blank lines) l = sinks_at later first (is_apart_after last l) last l

-- Whether a line begins a container that lies in `limit` others, behind the lines of a summary.
unfoldable pub sinks : (limit : ℕ) → Summary → BlockLine → Bool
sinks zero s l = sinks_by (λ inner inside. false) (λ inside. true) s l
sinks (suc limit) s l = sinks_by (sinks limit) (sinks limit no_summary) s l

-- Some lines more, read by a reader that allows so many containers to be open.
unfoldable pub lines_added : EntityTable → (limit : ℕ) → Summary → List BlockLine → Summary
lines_added entities limit s [] = s
lines_added entities limit s (l ∷ ls) = lines_added entities limit (line_added entities (suc limit) s l) ls

-- The first of these lines that it refuses, where so many stand before them.
unfoldable pub refused_line : EntityTable → (limit : ℕ) → Summary → (lines : ℕ) → List BlockLine → Option ℕ
refused_line entities limit s lines [] = None
refused_line entities limit s lines (l ∷ ls) =
    if sinks limit s l then Some lines else refused_line entities limit (line_added entities (suc limit) s l) (suc lines) ls
