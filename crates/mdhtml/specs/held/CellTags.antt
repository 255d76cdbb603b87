-- The tags of a table's cells.
use Rattle.std.specs.Prelude.{ℕ, List, codes}
use Rattle.mdhtml.specs.declared.tables.CellKind.{CellKind}
use Rattle.mdhtml.specs.declared.tables.CellKind.TheVariants.{Head, Data}

-- a cell of the header row is a header cell
abbrev pub tag_of : CellKind → List ℕ
tag_of Head = codes "th"
tag_of Data = codes "td"
