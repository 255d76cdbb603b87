-- What a unit that was found is seen as: where it stands, and the later items of a list.
use Rattle.std.specs.Prelude.{◌≡◌, ℕ, Bool, List, [], ◌∷◌, drop, map, refl}
use Rattle.std.specs.List.{flat_map}
use Rattle.std.specs.Coded.{Coded, code_by, coded×, coded_ℕ, coded_bool, coded_list}
use Rattle.mdtext.specs.EntityTable.{EntityTable}
use Rattle.blockspec.specs.BlockLine.{document_line}
use Rattle.blockspec.specs.BlockUnits.{units}
use Rattle.blockspec.specs.UnitTree.{UnitTree, FoundUnit, unit_code}
use Rattle.blockspec.specs.ItemMarks.{ItemMark, is_parted, list_marks, join_of}
use Rattle.blockspec.specs.Joins.{block_joins}
use Rattle.blockspec.specs.TopBlocks.{top_blocks}
use Rattle.mdblock.specs.declared.units.Join as declared

-- a unit with the number of lines before it and its own, and where it is a list its later items, and whether a gap parts two blocks of its last one
pub record FoundList : Type 0 where
  pub begin : ℕ
  pub lines : ℕ
  pub unit : UnitTree
  pub marks : List ItemMark
  pub parted : Bool

abbrev pub found_unit : FoundList → FoundUnit
found_unit f = record { begin = f.begin; lines = f.lines; unit = f.unit }

abbrev pub join_mark : declared.Join → ItemMark
join_mark join = record { line = join.line; texts = join.texts; definitions = join.definitions; loose = join.loose }

-- Of some lines the later items of a unit, which stands last, are those that the lines from its first one on give.
abbrev pub AreJoinsOf : EntityTable → (lines : List (List ℕ)) → FoundList → Type 0
AreJoinsOf entities lines f = map join_of f.marks ≡ flat_map block_joins (top_blocks entities (map document_line (drop f.begin lines)))

-- A unit that was found is that of these lines alone, wherever they stand: the one unit that they give, with its later items.
unfoldable pub StandsForUnit : EntityTable → FoundList → (lines : List (List ℕ)) → Type 0
StandsForUnit entities f lines =
    let ls = map document_line lines in
    (units entities lines ≡ record { begin = 0; lines = f.lines; unit = f.unit } ∷ []) × (f.marks ≡ list_marks entities ls)
    × (f.parted ≡ is_parted (top_blocks entities ls))

abbrev pub mark_code : Coded ItemMark
mark_code =
    code_by (ℕ × (ℕ × (ℕ × Bool))) (coded× coded_ℕ (coded× coded_ℕ (coded× coded_ℕ coded_bool)))
    (λ m. (m.line, (m.texts, (m.definitions, m.loose)))) (λ p. record { line = p.0; texts = p.1.0; definitions = p.1.1.0; loose = p.1.1.1 }) (λ _. refl)

abbrev pub list_code : Coded FoundList
list_code =
    code_by (ℕ × (ℕ × (UnitTree × (List ItemMark × Bool)))) (coded× coded_ℕ (coded× coded_ℕ (coded× unit_code (coded× (coded_list mark_code) coded_bool))))
    (λ f. (f.begin, (f.lines, (f.unit, (f.marks, f.parted)))))
    (λ p. record { begin = p.0; lines = p.1.0; unit = p.1.1.0; marks = p.1.1.1.0; parted = p.1.1.1.1 }) (λ _. refl)
