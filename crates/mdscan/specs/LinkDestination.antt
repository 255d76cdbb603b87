-- Link destinations (CommonMark 6.3).
use Rattle.std.specs.Prelude.{ℕ, ◌+◌, ◌-◌, Bool, true, false, ◌||◌, ◌==◌, nat_lt, List, [], ◌∷◌, drop, Option, Some, None, if◌then◌else◌}
use Rattle.std.specs.Char.{is_ascii_control}
use Rattle.mdscan.specs.declared.link_destinations.Dest.{Dest}
use Rattle.mdscan.specs.Blanks.{begins_with}
use Rattle.mdscan.specs.BackslashEscapes.{begins_escape, run_before}

-- between `<` and `>`, without line ending and without `<` and `>` that are not escaped
unfoldable pub angle_destination : List ℕ → ℕ → Option Dest
angle_destination text at =
    let inside = run_before (10 ∷ 60 ∷ 62 ∷ []) (drop (at + 1) text) in
    if begins_with 62 (drop (at + 1 + inside) text)
    then Some (record { span = record { start = at + 1; end = at + 1 + inside }; end = at + 1 + inside + 1 }) else None

-- the place where no parenthesis is open, and none where one is
abbrev pub if_closed : ℕ → ℕ → Option ℕ
if_closed at depth = if depth == 0 then Some at else None

-- a space or an ASCII control character
abbrev pub ends_bare : ℕ → Bool
ends_bare b = is_ascii_control b || (b == 32)

-- Where a bare destination ends, from a place with so many parentheses open on: before the first space or ASCII control
-- character, or at the text's end, where none is open then; before the first `)` that closes none, if that comes earlier. An
-- escaped parenthesis does not count. There is none if a parenthesis stays open, or if more than 32 are open at once.
abbrev pub bare_from : (escaped : Bool) → ℕ → ℕ → List ℕ → Option ℕ
bare_from escaped at depth [] = if_closed at depth
bare_from true at depth (b ∷ rest) = bare_from false (at + 1) depth rest
bare_from false at depth (b ∷ rest) =
    elim (begins_escape (b ∷ rest)) [
      | true ↦ bare_from true (at + 1) depth rest
      | false ↦ elim (ends_bare b) [
        | true ↦ if_closed at depth
        | false ↦ elim (b == 40) [
          | true ↦ elim (nat_lt depth 32) [ true ↦ bare_from false (at + 1) (depth + 1) rest | false ↦ None ]
          | false ↦ elim (b == 41) [
            | true ↦ elim (nat_lt 0 depth) [ true ↦ bare_from false (at + 1) (depth - 1) rest | false ↦ Some at ]
            | false ↦ bare_from false (at + 1) depth rest
          ]
        ]
      ]
    ]

unfoldable pub bare_end : List ℕ → ℕ → Option ℕ
bare_end text at = bare_from false at 0 (drop at text)

-- a bare destination is not empty
abbrev pub bare_dest : ℕ → Option ℕ → Option Dest
bare_dest at None = None
bare_dest at (Some end) = if nat_lt at end then Some (record { span = record { start = at; end = end }; end = end }) else None

unfoldable pub destination_at : List ℕ → ℕ → Option Dest
destination_at text at = if begins_with 60 (drop at text) then angle_destination text at else bare_dest at (bare_end text at)
