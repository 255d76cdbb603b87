-- The link reference definitions at the front of a paragraph's text (CommonMark 4.7): they are taken off one after
-- the other.
use Rattle.std.specs.Prelude.{ℕ, List, zero, suc, ◌-◌, [], ◌∷◌, map, Option, Some, None}
use Rattle.std.specs.List.{sum_by}
use Rattle.mdleaf.specs.DefinedLinks.{LinkDefinition}
use Rattle.mdscan.specs.LinkDefinition.{definition_of}
use Rattle.mdtext.specs.EntityTable.{EntityTable}
use Rattle.mdtext.specs.Labels.{collapsed, folded}
use Rattle.mdtext.specs.Unescaped.{unescaped}
use Rattle.mdscan.specs.declared.link_definitions.Def.{Def}
use Rattle.mdscan.specs.declared.spans.Span.{Span}
use Rattle.mdscan.specs.Spans.{part}

-- a text, and the definition that it begins with
pub record Front : Type 0 where
  pub text : List ℕ
  pub def : Def

-- the definition that a text begins with, if there is one, and those after it
abbrev pub front_then : List ℕ → Option Def → (ℕ → List Front) → List Front
front_then text None later = []
front_then text (Some def) later = (record { text = text; def = def }) ∷ later (def.end - 1)

-- the definitions that follow so many bytes of one
abbrev pub fronts_after : ℕ → List ℕ → List Front
fronts_after inside [] = []
fronts_after (suc inside) (_ ∷ rest) = fronts_after inside rest
fronts_after zero (b ∷ rest) = front_then (b ∷ rest) (definition_of (b ∷ rest)) (λ inside. fronts_after inside rest)

-- the definitions that a text begins with, each with the text from there on
unfoldable pub fronts : List ℕ → List Front
fronts text = fronts_after 0 text

-- A missing title is the empty one.
abbrev pub title_text : List ℕ → Option Span → List ℕ
title_text text None = []
title_text text (Some span) = part text span

-- what a definition defines: a label, folded, and a destination and a title after escapes and references
abbrev pub defined : EntityTable → List ℕ → Def → LinkDefinition
defined table text def = record {
  label = folded (collapsed (part text def.label));
  url = unescaped table (part text def.destination);
  title = unescaped table (title_text text def.title);
}

-- what the definitions at the front of a text define
unfoldable pub leading_of : EntityTable → List ℕ → List LinkDefinition
leading_of table text = map (λ front. defined table front.text front.def) (fronts text)

-- how many bytes they take
unfoldable pub leading_end : List ℕ → ℕ
leading_end text = sum_by (λ front. front.def.end) (fronts text)
