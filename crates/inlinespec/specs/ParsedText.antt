-- What the reading of a text is seen as.
use Rattle.std.specs.Prelude.{ℕ, List, refl}
use Rattle.std.specs.Coded.{Coded, code_by, coded×, coded_ℕ, coded_list}
use Rattle.inlinespec.specs.InlineTree.{Inlines}
use Rattle.inlinespec.specs.StoredTree.{inlines_code}

-- the tree, and the labels that were looked up
pub record ParsedText : Type 0 where
  pub tree : Inlines
  pub asked : List (List ℕ)

abbrev pub parsed_code : Coded ParsedText
parsed_code =
    code_by (Inlines × List (List ℕ)) (coded× inlines_code (coded_list (coded_list coded_ℕ)))
    (λ p. (p.tree, p.asked)) (λ p. record { tree = p.0; asked = p.1 }) (λ _. refl)
