-- The later items of the lists of a document, unit by unit, as each unit's own lines give them (CommonMark 5.2).
use Rattle.std.specs.Prelude.{ℕ, ◌+◌, List, map, take, drop}
use Rattle.mdtext.specs.EntityTable.{EntityTable}
use Rattle.blockspec.specs.BlockLine.{document_line}
use Rattle.blockspec.specs.UnitTree.{FoundUnit}
use Rattle.blockspec.specs.ItemMarks.{list_marks}

-- the lines of a unit alone
abbrev pub own_lines : (lines : List (List ℕ)) → FoundUnit → List (List ℕ)
own_lines lines one = drop one.begin (take (one.begin + one.lines) lines)

-- the lines of a unit at which it may be parted, counted from its first one
abbrev pub own_joins : EntityTable → (lines : List (List ℕ)) → FoundUnit → List ℕ
own_joins entities lines one = map (λ mark. mark.line) (list_marks entities (map document_line (own_lines lines one)))
