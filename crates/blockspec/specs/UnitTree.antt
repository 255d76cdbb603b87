-- What a unit is seen as.
use Rattle.std.specs.Prelude.{ℕ, List, refl}
use Rattle.std.specs.Coded.{Coded, code_by, coded×, coded_ℕ, coded_list}
use Rattle.mdleaf.specs.DefinedLinks.{LinkDefinition, definition_code}
use Rattle.blockspec.specs.BlockTree.{Blocks}
use Rattle.blockspec.specs.StoredBlocks.{blocks_code}

-- the blocks, and the definitions and inline texts in document order
pub record UnitTree : Type 0 where
  pub blocks : Blocks
  pub definitions : List LinkDefinition
  pub texts : List (List ℕ)

-- a unit with the number of lines before it and its own
pub record FoundUnit : Type 0 where
  pub begin : ℕ
  pub lines : ℕ
  pub unit : UnitTree

abbrev pub unit_code : Coded UnitTree
unit_code =
    code_by (Blocks × (List LinkDefinition × List (List ℕ))) (coded× blocks_code (coded× (coded_list definition_code) (coded_list (coded_list coded_ℕ))))
    (λ u. (u.blocks, (u.definitions, u.texts))) (λ p. record { blocks = p.0; definitions = p.1.0; texts = p.1.1 }) (λ _. refl)

abbrev pub found_code : Coded FoundUnit
found_code =
    code_by (ℕ × (ℕ × UnitTree)) (coded× coded_ℕ (coded× coded_ℕ unit_code))
    (λ f. (f.begin, (f.lines, f.unit))) (λ p. record { begin = p.0; lines = p.1.0; unit = p.1.1 }) (λ _. refl)
