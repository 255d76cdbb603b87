-- Where labels lead.
use Rattle.std.specs.Prelude.{ℕ, List, Option, string_bytes, is_some, if◌then◌else◌, refl}
use Rattle.std.specs.BTreeMap.{insert_entry}
use Rattle.std.specs.Cmp.Lexicographic.{slice_cmp}
use Rattle.std.specs.Coded.{Coded, code_by, coded×, coded_ℕ, coded_list}
use Rattle.std.specs.Map.{lookup}
use Rattle.std.specs.Ordering.{nat_cmp}
use Rattle.std.specs.Str.{bytes_eq}
use Rattle.mdtext.specs.declared.labels.Target.{Target}

-- a link's destination and title
pub record LinkTarget : Type 0 where
  pub url : List ℕ
  pub title : List ℕ

abbrev pub target_of : Target → LinkTarget
target_of t = record { url = string_bytes t.url; title = string_bytes t.title }

-- labels in ascending order, each once with its target
abbrev pub LabelMap : Type 0
LabelMap = List (List ℕ × LinkTarget)

-- the target of a label
abbrev pub target_in : LabelMap → List ℕ → Option LinkTarget
target_in map label = lookup (bytes_eq label) map

-- A label keeps its first target: where several definitions match, the first in the document counts (CommonMark 4.7).
abbrev pub put_first : LabelMap → List ℕ → LinkTarget → LabelMap
put_first map label target = if is_some (target_in map label) then map else insert_entry (slice_cmp nat_cmp) map label target

abbrev pub target_code : Coded LinkTarget
target_code = code_by (List ℕ × List ℕ) (coded× (coded_list coded_ℕ) (coded_list coded_ℕ)) (λ t. (t.url, t.title)) (λ p. record { url = p.0; title = p.1 }) (λ _. refl)

abbrev pub map_code : Coded LabelMap
map_code = coded_list (coded× (coded_list coded_ℕ) target_code)
