-- The commands of a script.
use Rattle.std.specs.Prelude.{◌≡◌, ℕ, ◌+◌, ◌-◌, ◌^◌, Bool, true, false, List, [], ◌∷◌, ◌++◌, Option, Some, None, option_map, option_and_then, if◌then◌else◌, ◌==◌, nat_lt, nat_le, nat_eq, length, take, drop, map, min, codes}
use Rattle.std.specs.List.{list_any, before_first, after_first, position_or_len}
use Rattle.std.specs.Cmp.Lexicographic.{pointwise}
use Rattle.std.specs.Str.Lossy.{utf8_lossy}
use Rattle.mdsource.specs.Calls.{Call, edit, set_prelude}
use Rattle.mdwords.specs.Numbers.{number}

pub data Command : Type 0 where
  Html : Command
  Change : Call → Command

-- what the first line of a command says
pub data Head : Type 0 where
  HtmlHead : Head
  PreludeHead : ℕ → Head
  EditHead : ℕ → ℕ → ℕ → Head

abbrev pub is_space : ℕ → Bool
is_space byte = byte == 32

-- the number before the first space, and what stands behind it
unfoldable pub split_number : List ℕ → Option (ℕ × List ℕ)
split_number text =
    if nat_lt (position_or_len is_space text) (length text)
    then option_map (λ value. (value, after_first is_space text)) (number (before_first is_space text)) else None

-- the three numbers of an edit
abbrev pub edit_head_of : List ℕ → Option Head
edit_head_of words =
    option_and_then (λ (at : ℕ × List ℕ). option_and_then (λ (del : ℕ × List ℕ). option_map (EditHead at.0 del.0) (number del.1)) (split_number at.1)) (split_number words)

-- whether the bytes are the same
abbrev pub is_text : List ℕ → List ℕ → Bool
is_text bytes text = pointwise nat_eq bytes text

-- `html` alone, or `prelude ADD` or `edit AT DEL ADD` with single spaces
unfoldable pub head_of : List ℕ → Option Head
head_of line =
    if is_text line (codes "html") then Some HtmlHead
    else if is_text (take 8 line) (codes "prelude ") then option_map PreludeHead (number (drop 8 line))
    else if is_text (take 5 line) (codes "edit ") then edit_head_of (drop 5 line) else None

-- a command whose first line asks for so many lines below it, where there are so many, and of how many lines it is
abbrev pub with_texts : ℕ → (List (List ℕ) → Call) → List (List ℕ) → Option (Command × ℕ)
with_texts add call lines = if nat_le add (length lines) then Some (Change (call (map utf8_lossy (take add lines))), add + 1) else None

-- the command that a line with this head and the lines below make, and of how many lines it is
abbrev pub command_of : Option Head → List (List ℕ) → Option (Command × ℕ)
command_of None lines = None
command_of (Some HtmlHead) lines = Some (Html, 1)
command_of (Some (PreludeHead add)) lines = with_texts add set_prelude lines
command_of (Some (EditHead at del add)) lines = with_texts add (edit at del) lines

-- the whole command at the front of these lines; bytes of its texts that are no UTF-8 are read as U+FFFD
abbrev pub first_command : List (List ℕ) → Option (Command × ℕ)
first_command [] = None
first_command (line ∷ lines) = command_of (head_of line) lines

-- the count of lines stays at its greatest value
abbrev pub capped : ℕ → ℕ
capped n = min n (2 ^ 64 - 1)

-- These commands stand at the front of the lines, of which the first has number n; behind them others stand.
unfoldable pub Leads : ℕ → List (List ℕ) → List Command → ℕ → List (List ℕ) → Type 0
Leads n lines [] n' lines' = (n' ≡ n) × (lines' ≡ lines)
Leads n lines (command ∷ commands) n' lines' =
    (size : ℕ) × (first_command lines ≡ Some (command, size)) × Leads (capped (n + size)) (drop size lines) commands n' lines'

-- how a script goes on where no whole command stands
pub data Stop : Type 0 where
  Done : Stop
  Open : Stop
  Bad : ℕ → Stop
  Short : ℕ → Stop

abbrev pub stop_of : Option Head → Bool → ℕ → Stop
stop_of None ended n = Bad n
stop_of (Some head) true n = Short n
stop_of (Some head) false n = Open

abbrev pub stop_at : Bool → ℕ → List (List ℕ) → Stop
stop_at true n [] = Done
stop_at false n [] = Open
stop_at ended n (line ∷ lines) = stop_of (head_of line) ended n

-- the lines that end with LF
abbrev pub with_byte : ℕ → List (List ℕ) → List (List ℕ)
with_byte byte [] = []
with_byte byte (line ∷ lines) = (byte ∷ line) ∷ lines

unfoldable pub whole_lines : List ℕ → List (List ℕ)
whole_lines [] = []
whole_lines (byte ∷ bytes) = if byte == 10 then [] ∷ whole_lines bytes else with_byte byte (whole_lines bytes)

abbrev pub has_break : List ℕ → Bool
has_break bytes = list_any (λ byte. byte == 10) bytes

-- what follows the last LF
unfoldable pub last_line : List ℕ → List ℕ
last_line [] = []
last_line (byte ∷ bytes) = if has_break (byte ∷ bytes) then last_line bytes else byte ∷ bytes

-- the last line counts without LF where the script has ended, if it is not empty
abbrev pub unended : Bool → List ℕ → List (List ℕ)
unended false line = []
unended true [] = []
unended true (byte ∷ bytes) = (byte ∷ bytes) ∷ []

abbrev pub script_lines : Bool → List ℕ → List (List ℕ)
script_lines ended bytes = whole_lines bytes ++ unended ended (last_line bytes)

-- The whole commands of a script of these bytes, which has ended or not, and how it goes on behind them.
abbrev pub Script : List ℕ → Bool → List Command → Stop → Type 0
Script bytes ended commands stop =
    (n : ℕ) × (lines : List (List ℕ)) × Leads 1 (script_lines ended bytes) commands n lines × (first_command lines ≡ None) × (stop ≡ stop_at ended n lines)
