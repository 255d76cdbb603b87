-- One edit or a new prelude: the lines that it would leave, and when it is refused.
use Rattle.std.specs.Prelude.{ℕ, ◌-◌, ◌||◌, List, length, map, Option, Some, if◌then◌else◌, nat_lt}
use Rattle.mdsource.specs.declared.fault.EditFault.{EditFault}
use Rattle.mdsource.specs.declared.fault.EditFault.TheVariants.{OutOfRange}
use Rattle.mdtext.specs.Lines.{without_nul}
use Rattle.mdview.specs.Lists.{replaced}
use Rattle.mdsource.specs.Calls.{Call, edit, set_prelude}
use Rattle.mdsource.specs.Setting.{Source}
use Rattle.mdsource.specs.SourceLimits.{due_of_prelude, due_of_text, first_with_ending}

abbrev pub call_of : ℕ → ℕ → List (List ℕ) → Call
call_of at del add = edit at del add

-- the lines after the call; U+0000 is replaced in the added ones (CommonMark 2.3)
abbrev pub put : List (List ℕ) → Call → List (List ℕ)
put lines (edit at del add) = replaced lines at del (map without_nul add)
put lines (set_prelude new) = lines

-- the prelude after it
abbrev pub put_prelude : List (List ℕ) → Call → List (List ℕ)
put_prelude prelude (edit at del add) = prelude
put_prelude prelude (set_prelude new) = map without_nul new

abbrev pub put_source : Source → Call → Source
put_source source call = record { lines = put source.lines call; prelude = put_prelude source.prelude call }

-- why the call is refused, whatever the memory
abbrev pub due : List (List ℕ) → Call → Option EditFault
due lines (edit at del add) =
    if nat_lt (length lines) at || nat_lt (length lines - at) del then Some (OutOfRange (length lines))
    else due_of_text (first_with_ending 0 add) (put lines (edit at del add))
due lines (set_prelude new) = due_of_prelude new
