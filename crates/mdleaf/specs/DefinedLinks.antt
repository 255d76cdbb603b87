-- What a link reference definition defines (CommonMark 4.7).
use Rattle.std.specs.Prelude.{ℕ, List, string_bytes, refl}
use Rattle.std.specs.Coded.{Coded, code_by, coded×, coded_ℕ, coded_list}
use Rattle.mdleaf.specs.declared.paragraph_definitions.Definition.{Definition}

-- a folded label, and the destination and the title of its links
pub record LinkDefinition : Type 0 where
  pub label : List ℕ
  pub url : List ℕ
  pub title : List ℕ

abbrev pub definition_of : Definition → LinkDefinition
definition_of d = record { label = d.label; url = string_bytes d.target.url; title = string_bytes d.target.title }

abbrev pub definition_code : Coded LinkDefinition
definition_code =
    code_by (List ℕ × (List ℕ × List ℕ)) (coded× (coded_list coded_ℕ) (coded× (coded_list coded_ℕ) (coded_list coded_ℕ)))
    (λ d. (d.label, (d.url, d.title))) (λ p. record { label = p.0; url = p.1.0; title = p.1.1 }) (λ _. refl)
