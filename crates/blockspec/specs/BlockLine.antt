-- The lines of a container, as blocks are looked for in them (CommonMark 2.2, 3).
use Rattle.std.specs.Prelude.{ℕ, ◌+◌, ◌-◌, Bool, true, false, List, drop, length, take}
use Rattle.mdtext.specs.Columns.{Line, indent, strip, unindented}

-- What is left of a line where the markers and the indentation of the containers around it are taken off. It is lazy
-- if it goes on with a paragraph in a container around it that it does not match (CommonMark 5.1): such a line is whole.
pub record BlockLine : Type 0 where
  pub line : Line
  pub lazy : Bool

-- a line of the document
abbrev pub document_line : List ℕ → BlockLine
document_line text = record { line = record { column = 0; text = text }; lazy = false }

abbrev pub indentation : BlockLine → ℕ
indentation l = indent l.line

-- the line's text without its indentation
abbrev pub rest : BlockLine → List ℕ
rest l = unindented l.line.text

-- the line without its first columns of indentation, or without as many as it has
abbrev pub without_columns : BlockLine → ℕ → BlockLine
without_columns l columns = record { line = strip l.line columns; lazy = l.lazy }

abbrev pub as_lazy : BlockLine → BlockLine
as_lazy l = record { line = l.line; lazy = true }

-- the line behind its indentation and a marker of so many characters
abbrev pub behind_marker : BlockLine → ℕ → BlockLine
behind_marker l width =
    record { line = record { column = l.line.column + indentation l + width; text = drop width (rest l) }; lazy = false }

-- all but the last of some lines
abbrev pub without_last : {A : Type 0} → List A → List A
without_last xs = take (length xs - 1) xs
