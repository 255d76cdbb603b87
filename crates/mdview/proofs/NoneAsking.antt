-- Where no label leads elsewhere no unit asked for one that does, and spans lie where they lay.
use Rattle.std.proofs.Common.{◌≡◌, ℕ, ◌+◌, Bool, false, ◌||◌, List, [], ◌∷◌, Some, None, map, get_or, cond, if◌then◌else◌, refl, ap, ◌∙◌, sym}
use Rattle.std.specs.Option.{is_some}
use Rattle.std.specs.List.{All, list_any}
use Rattle.mdtext.specs.EntityTable.{EntityTable}
use Rattle.blockspec.specs.UnitTree.{UnitTree}
use Rattle.inlinespec.specs.LinkTails.{Table}
use Rattle.inlinespec.specs.ParsedText.{ParsedText}
use Rattle.mdsource.specs.Changes.{asks_changed, leads_elsewhere}
use Rattle.mdsource.specs.Refusals.{is_deep}
use Rattle.mdsource.specs.UnitTexts.{asking_units, asks_again, deep_from, readings_under}
use Rattle.mdsource.proofs.ReadingsUnder.{unasked_stays}
use Rattle.mdview.specs.HeldBlocks.{held_tile}
use Rattle.mdview.specs.ReadUnits.{IsShallow}
use Rattle.mdview.specs.HeldTexts.{labels_before, labels_behind}
use Rattle.mdview.specs.HeldUnit.{HeldUnit}
use Rattle.mdview.specs.LabelTargets.{IsElsewhere, at}
use Rattle.mdview.specs.declared.inlines.UnitTextReader.{UnitTextReader}
use Rattle.mdview.proofs.MemberChanges.{all_first, all_rest}

any_none : {A : Type 0} (p : A → Bool) → ((x : A) → p x ≡ false) → (xs : List A) → list_any p xs ≡ false
any_none p none [] = refl
any_none p none (x ∷ xs) = ap (λ b. b || list_any p xs) (none x) ∙ any_none p none xs

-- spans lie too deep in none of these
pub none_deep_in : (limit : ℕ) (e : EntityTable) (labels : Table) (begin : ℕ) (units : List HeldUnit) → All (IsShallow limit e labels) units → deep_from limit e labels begin (map held_tile units) ≡ None
none_deep_in limit e labels begin [] all = refl
none_deep_in limit e labels begin (u ∷ units) all =
    ap (λ b. cond b (Some begin) (deep_from limit e labels (begin + u.read.lines) (map held_tile units))) (all_first (IsShallow limit e labels) u units all)
    ∙ none_deep_in limit e labels (begin + u.read.lines) units (all_rest (IsShallow limit e labels) u units all)

module _ (reader : UnitTextReader) (elsewhere : IsElsewhere reader.labels.now.held.now reader.labels.now.changes.now) (none : (label : List ℕ) → at label reader.labels.now.changes.now.targets.entries ≡ None) where
  none_leads : (label : List ℕ) → leads_elsewhere (labels_before reader) (labels_behind reader) label ≡ false
  none_leads label = sym (elsewhere label) ∙ ap is_some (none label)

  pub none_asks : (e : EntityTable) (unit : UnitTree) → asks_again e (labels_before reader) (labels_behind reader) unit ≡ false
  none_asks e unit =
      any_none (asks_changed (labels_before reader) (labels_behind reader))
      (λ (r : ParsedText). any_none (leads_elsewhere (labels_before reader) (labels_behind reader)) none_leads r.asked)
      (readings_under e (labels_before reader) unit)

  pub none_asking : (e : EntityTable) (number : ℕ) (units : List UnitTree) → asking_units e (labels_before reader) (labels_behind reader) number units ≡ []
  none_asking e number [] = refl
  none_asking e number (unit ∷ units) =
      ap (λ b. if b then number ∷ asking_units e (labels_before reader) (labels_behind reader) (number + 1) units else asking_units e (labels_before reader) (labels_behind reader) (number + 1) units) (none_asks e unit)
      ∙ none_asking e (number + 1) units

  pub shallow_behind : (limit : ℕ) (e : EntityTable) (units : List HeldUnit) → All (IsShallow limit e (labels_before reader)) units → All (IsShallow limit e (labels_behind reader)) units
  shallow_behind limit e units all k d below =
      ap (list_any (is_deep limit)) (sym (unasked_stays e (labels_before reader) (labels_behind reader) (get_or units k d).read.unit (none_asks e (get_or units k d).read.unit))) ∙ all k d below
