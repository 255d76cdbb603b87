-- Why a text is refused. The limits are ours, since the standards have none.
use Rattle.std.specs.Prelude.{ℕ, ◌+◌, Bool, true, false, List, length, nat_lt, Option, Some, None, option_map, if◌then◌else◌}
use Rattle.std.specs.List.{find, list_any, sum_by}
use Rattle.std.specs.Option.{option_or}
use Rattle.blockspec.specs.BlockTree.{Blocks, no_blocks, block}
use Rattle.blockspec.specs.BlockUnits.{units}
use Rattle.blockspec.specs.Nesting.{first_too_deep}
use Rattle.blockspec.specs.UnitTree.{FoundUnit}
use Rattle.inlinespec.specs.Nesting.{nest}
use Rattle.inlinespec.specs.ParsedText.{ParsedText}
use Rattle.mdsource.specs.Setting.{Setting, Source}
use Rattle.mdsource.specs.View.{ViewedUnit, view}

-- why a call is refused, with the number that says where
pub data Refusal : Type 0 where
  out_of_range : (lines : ℕ) → Refusal
  break_in_line : (index : ℕ) → Refusal
  too_many_lines : Refusal
  too_large : Refusal
  nested_too_deep : (line : ℕ) → Refusal
  inline_too_deep : (line : ℕ) → Refusal
  no_memory : Refusal
  not_definitions : (line : ℕ) → Refusal

-- the bytes of a text, with one counted for each line's end
abbrev pub size_of : List (List ℕ) → ℕ
size_of lines = sum_by (λ line. length line + 1) lines

-- a text has more lines or bytes than one may have
abbrev pub size_refusal : List (List ℕ) → Option Refusal
size_refusal lines =
    if nat_lt 1000000 (length lines) then Some too_many_lines
    else if nat_lt 16777216 (size_of lines) then Some too_large
    else None

-- the tree of a text has more spans in one another than the limit
abbrev pub is_deep : (limit : ℕ) → ParsedText → Bool
is_deep limit reading = nat_lt limit (nest reading.tree)

-- a text of the unit has
abbrev pub is_too_deep : (limit : ℕ) → ViewedUnit → Bool
is_too_deep limit one = list_any (is_deep limit) one.readings

-- the first line of the first unit that has such a text
abbrev pub inline_refusal : Setting → Source → Option Refusal
inline_refusal setting source = option_map (λ one. inline_too_deep one.begin) (find (is_too_deep setting.options.max_spans) (view setting source))

-- why a text that is not too large is refused, the first reason of: containers in one another, spans in one another
abbrev pub nesting_refusal : Setting → Source → Option Refusal
nesting_refusal setting source = option_or (option_map nested_too_deep (first_too_deep setting.options.max_containers source.lines)) (inline_refusal setting source)

-- why these lines are no document
abbrev pub refusal : Setting → Source → Option Refusal
refusal setting source = option_or (size_refusal source.lines) (nesting_refusal setting source)

-- a unit that is more than definitions
abbrev pub is_more : Blocks → Bool
is_more no_blocks = false
is_more (block first later) = true

-- the line for which a text is no prelude: one with a container too many, or else the first line of the first unit that is more than definitions
abbrev pub undefining_line : Setting → List (List ℕ) → Option ℕ
undefining_line setting prelude =
    option_or (first_too_deep setting.options.max_containers prelude)
    (option_map (λ (found : FoundUnit). found.begin) (find (λ (found : FoundUnit). is_more found.unit.blocks) (units setting.entities prelude)))

-- why the prelude of a source that is not too large is none, the first reason of: other blocks than definitions, spans in one another in the document
abbrev pub prelude_refusal : Setting → Source → Option Refusal
prelude_refusal setting source = option_or (option_map not_definitions (undefining_line setting source.prelude)) (inline_refusal setting source)
