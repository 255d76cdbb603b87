-- What a delimiter run can do, by the characters beside it (CommonMark 6.2).
use Rattle.std.specs.Prelude.{ℕ, ◌+◌, ◌-◌, Bool, true, false, ◌&&◌, ◌||◌, not, eqb, nat_lt, cond, length, take, drop, List, Option, Some, None, slice_get}
use Rattle.std.specs.List.{prefix_len}
use Rattle.std.specs.Option.{option_and_then}
use Rattle.std.specs.Str.{chars}
use Rattle.mdtext.specs.Characters.{is_unicode_white, is_unicode_punct}
use Rattle.mdpair.specs.declared.delimiter_runs.DelimiterChar.{DelimiterChar}
use Rattle.mdpair.specs.declared.delimiter_runs.DelimiterChar.TheVariants.{Asterisk, Underscore, Tilde}
use Rattle.mdpair.specs.declared.delimiter_runs.DelimiterRun.{DelimiterRun}

-- The beginning and the end of the text count as Unicode whitespace.
abbrev pub white_at : Option ℕ → Bool
white_at None = true
white_at (Some c) = is_unicode_white c

abbrev pub punct_at : Option ℕ → Bool
punct_at None = false
punct_at (Some c) = is_unicode_punct c

-- A left-flanking delimiter run is not followed by Unicode whitespace, and either not followed by a Unicode punctuation character,
-- or preceded by Unicode whitespace or a Unicode punctuation character.
unfoldable pub left_flanking : Option ℕ → Option ℕ → Bool
left_flanking before after = not (white_at after) && (not (punct_at after) || white_at before || punct_at before)

-- A right-flanking one is not preceded by Unicode whitespace, and either not preceded by a Unicode punctuation character,
-- or followed by Unicode whitespace or a Unicode punctuation character.
unfoldable pub right_flanking : Option ℕ → Option ℕ → Bool
right_flanking before after = not (white_at before) && (not (punct_at before) || white_at after || punct_at after)

-- Rules 1, 2, 5 and 6 on what can open. Of tildes (GFM Strikethrough (extension)), three or more make no strikethrough.
unfoldable pub opens_between : DelimiterChar → ℕ → Option ℕ → Option ℕ → Bool
opens_between Asterisk n before after = left_flanking before after
opens_between Underscore n before after = left_flanking before after && (not (right_flanking before after) || punct_at before)
opens_between Tilde n before after = left_flanking before after && nat_lt n 3

-- Rules 3, 4, 7 and 8 on what can close.
unfoldable pub closes_between : DelimiterChar → ℕ → Option ℕ → Option ℕ → Bool
closes_between Asterisk n before after = right_flanking before after
closes_between Underscore n before after = right_flanking before after && (not (left_flanking before after) || punct_at after)
closes_between Tilde n before after = right_flanking before after && nat_lt n 3

-- a run of n delimiter characters between its neighbours
abbrev pub run_between : DelimiterChar → ℕ → Option ℕ → Option ℕ → DelimiterRun
run_between d n before after =
    record { delimiter = d; length = n; can_open = opens_between d n before after; can_close = closes_between d n before after }

-- the last character before a place of a text, and the first one from it on
abbrev pub char_before : List ℕ → ℕ → Option ℕ
char_before text at = slice_get (chars (take at text)) (length (chars (take at text)) - 1)

abbrev pub char_after : List ℕ → ℕ → Option ℕ
char_after text at = slice_get (chars (drop at text)) 0

abbrev pub delimiter_of : ℕ → Option DelimiterChar
delimiter_of b = cond (eqb b 42) (Some Asterisk) (cond (eqb b 95) (Some Underscore) (cond (eqb b 126) (Some Tilde) None))

abbrev pub byte_of : DelimiterChar → ℕ
byte_of Asterisk = 42
byte_of Underscore = 95
byte_of Tilde = 126

-- how many of these delimiter characters stand in a row
abbrev pub run_length : DelimiterChar → List ℕ → ℕ
run_length d = prefix_len (λ b. eqb b (byte_of d))

abbrev pub run_of : List ℕ → ℕ → Option DelimiterChar → Option DelimiterRun
run_of text at None = None
run_of text at (Some d) =
    Some (run_between d (run_length d (drop at text)) (char_before text at) (char_after text (at + run_length d (drop at text))))

-- the delimiter run that begins at a byte of a text, if a delimiter character stands there
unfoldable pub run_at : List ℕ → ℕ → Option DelimiterRun
run_at text at = run_of text at (option_and_then delimiter_of (slice_get text at))
