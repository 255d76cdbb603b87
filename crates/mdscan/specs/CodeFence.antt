-- Code fences (CommonMark 4.5).
use Rattle.std.specs.Prelude.{ℕ, Bool, not, ◌&&◌, ◌==◌, nat_le, List, drop, Option, Some, None, if◌then◌else◌}
use Rattle.std.specs.List.{prefix_len, list_any}
use Rattle.mdscan.specs.declared.code_fences.FenceLine.{FenceLine}
use Rattle.mdscan.specs.Blanks.{is_blank_text}
use Rattle.mdscan.specs.Spans.{trimmed_from}

-- how long the run of the mark is that a line begins with
abbrev pub fence_length : ℕ → List ℕ → ℕ
fence_length mark line = prefix_len (λ b. b == mark) line

-- A fence of a mark is at least three of it.
abbrev pub is_fence_of : ℕ → List ℕ → Bool
is_fence_of mark line = nat_le 3 (fence_length mark line)

-- The info string is what follows the fence, without the spaces and tabs at its ends.
abbrev pub fence_of : ℕ → List ℕ → FenceLine
fence_of mark line =
    record { mark = mark; length = fence_length mark line; info = trimmed_from line (fence_length mark line) }

abbrev pub has_backtick : List ℕ → Bool
has_backtick text = list_any (λ b. b == 96) text

-- The info string of a fence of backticks holds no backtick.
unfoldable pub opening_backticks : List ℕ → Option FenceLine
opening_backticks line =
    if is_fence_of 96 line && not (has_backtick (drop (fence_length 96 line) line)) then Some (fence_of 96 line) else None

-- An opening fence is of tildes or of backticks.
unfoldable pub opening_fence : List ℕ → Option FenceLine
opening_fence line = if is_fence_of 126 line then Some (fence_of 126 line) else opening_backticks line

-- A closing fence has the opening one's mark, is at least as long, and only spaces and tabs follow.
unfoldable pub is_closing_fence : ℕ → ℕ → List ℕ → Bool
is_closing_fence mark opened line = nat_le opened (fence_length mark line) && is_blank_text (drop (fence_length mark line) line)
