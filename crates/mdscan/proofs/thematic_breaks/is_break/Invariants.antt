use Rattle.std.proofs.Common.{◌≡◌, ◌≤◌, true, take, ◌==◌, ◌||◌, count_by}
use Rattle.std.specs.List.{list_all}
use Rattle.mdscan.specs.Blanks.{is_blank}
use Rattle.mdscan.proofs.thematic_breaks.is_break.Given as goal

-- the line so far: only marks, spaces and tabs, and so many marks
abbrev pub invariant-loop-byte : goal.invariant-loop-byte
invariant-loop-byte l =
    (l.marks ≤ l.byte-index)
    × (list_all (λ b. (b == l.mark) || is_blank b) (take l.byte-index l.line) ≡ true)
    × (l.marks ≡ count_by (λ b. b == l.mark) (take l.byte-index l.line))
