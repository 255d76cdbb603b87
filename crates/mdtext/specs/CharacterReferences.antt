-- Entity and numeric character references (CommonMark 2.5).
use Rattle.std.specs.Prelude.{ℕ, ◌+◌, ◌-◌, Bool, List, [], ◌∷◌, Option, Some, None, take, drop, slice_index, nat_lt, nat_le, encode_utf8, option_map, ◌==◌, ◌&&◌, ◌||◌, if◌then◌else◌}
use Rattle.std.specs.Char.{is_digit, is_ascii_alphanumeric}
use Rattle.std.specs.List.{prefix_len}
use Rattle.std.specs.Str.Parse.{digits_value}
use Rattle.mdtext.specs.EntityTable.{EntityTable, entity_text}

abbrev pub is_between : ℕ → ℕ → ℕ → Bool
is_between low high b = nat_le low b && nat_le b high

-- the character with a code point: U+FFFD for zero, surrogates and numbers past the last one
abbrev pub character_at : ℕ → ℕ
character_at n = if n == 0 || is_between 0xD800 0xDFFF n || nat_lt 0x10FFFF n then 0xFFFD else n

-- how many bytes a reference has, and the text that it stands for
abbrev pub Meaning : Type 0
Meaning = ℕ × List ℕ

-- 1 to `most` digits of a base stand at the front, and `;` after them
abbrev pub is_closed : ℕ → ℕ → List ℕ → Bool
is_closed digits most text = nat_lt 0 digits && nat_le digits most && slice_index text digits == 59

-- after a front of some bytes, a number in a base, and `;`
abbrev pub numeric : ℕ → ℕ → ℕ → List ℕ → Option Meaning
numeric front base most text =
    let digits = prefix_len (λ b. is_digit b base) text in
    if is_closed digits most text then Some (front + digits + 1, encode_utf8 (character_at (digits_value base (take digits text)))) else None

-- after `&`, a name of the table, and `;`
abbrev pub named : EntityTable → List ℕ → Option Meaning
named table text =
    let name = prefix_len is_ascii_alphanumeric text in
    if slice_index text name == 59 then option_map (λ t. (name + 2, t)) (entity_text table (take name text)) else None

-- the reference that stands at a `&`, by the text after it: decimal with at most 7 digits, hexadecimal with at most 6, or a name
unfoldable pub reference : EntityTable → List ℕ → Option Meaning
reference table text =
    if slice_index text 0 == 35 then
    (if slice_index text 1 == 120 || slice_index text 1 == 88 then numeric 3 16 6 (drop 2 text) else numeric 2 10 7 (drop 1 text))
    else named table text

abbrev pub reference_or : ℕ → Option Meaning → ℕ × List ℕ
reference_or b None = (0, b ∷ [])
reference_or b (Some m) = (m.0 - 1, m.1)
