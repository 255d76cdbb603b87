-- Hard and soft line breaks (CommonMark 6.7, 6.8).
use Rattle.std.specs.Prelude.{ℕ, ◌+◌, Bool, true, ◌&&◌, ◌==◌, List, [], ◌∷◌, drop, Option, Some, None, if◌then◌else◌, nat_le}
use Rattle.std.specs.List.{prefix_len}
use Rattle.mdscan.specs.Blanks.{begins_with}
use Rattle.inlinespec.specs.InlineEvents.{SoftBreak, HardBreak}
use Rattle.inlinespec.specs.Lexemes.{Lexeme, leaf, as_written}

-- how many spaces a text begins with
abbrev pub spaces : List ℕ → ℕ
spaces text = prefix_len (λ b. b == 32) text

-- a line break: how many bytes it takes, and whether it is a hard one
pub record LineBreak : Type 0 where
  pub size : ℕ
  pub is_hard : Bool

-- a line ending after so many bytes, with the spaces at the beginning of the next line
abbrev pub break_after : ℕ → List ℕ → Bool → LineBreak
break_after before text is_hard = record { size = before + 1 + spaces (drop (before + 1) text); is_hard = is_hard }

-- Spaces and the line ending behind them: two or more spaces make it a hard break.
unfoldable pub spaced_break : List ℕ → Option LineBreak
spaced_break text =
    let n = spaces text in
    if begins_with 10 (drop n text) then Some (break_after n text (nat_le 2 n)) else None

-- A backslash before a line ending makes it a hard break.
unfoldable pub backslash_break : List ℕ → Option LineBreak
backslash_break text =
    if begins_with 92 text && begins_with 10 (drop 1 text) then Some (break_after 1 text true) else None

-- a line break, or a text as it is written (CommonMark 6.7, 6.8)
abbrev pub break_or_written : List ℕ → Option LineBreak → Lexeme
break_or_written text None = as_written 1 text
break_or_written text (Some b) = leaf b.size ((if b.is_hard then HardBreak else SoftBreak) ∷ [])
