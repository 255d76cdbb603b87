-- Units that are passed by their marks: they asked for no label that leads elsewhere, and define none that is touched.
use Rattle.std.proofs.Common.{◌≡◌, ℕ, ◌+◌, ◌-◌, ◌≤◌, Bool, true, false, List, [], ◌∷◌, ◌++◌, Option, Some, None, length, map, take, drop, get_or, if◌then◌else◌, is_some, option_map, refl, ap, sym, ◌∙◌, arith}
use Rattle.std.specs.Prelude.{sum_by}
use Rattle.std.specs.Int.RustNames.{bit_and, bit_or}
use Rattle.std.specs.List.{All, list_any}
use Rattle.std.specs.Option.{option_or}
use Rattle.std.specs.Str.{bytes_eq}
use Rattle.std.proofs.Math.Seq.{take-add}
use Rattle.std.proofs.lemmas.List.{append-nil, drop-drop, map-append}
use Rattle.std.proofs.lemmas.List.Elements.{All-drop, All-take}
use Rattle.std.proofs.lemmas.List.Sums.{sum_by-append}
use Rattle.std.proofs.lemmas.Slice.Eq.{bytes_eq-Decides}
use Rattle.mdtext.specs.EntityTable.{EntityTable}
use Rattle.blockspec.specs.UnitTree.{UnitTree}
use Rattle.inlinespec.specs.LabelMap.{LinkTarget}
use Rattle.inlinespec.specs.LinkTails.{Table}
use Rattle.mdchunks.specs.Marks.{IsApart}
use Rattle.mdleaf.specs.DefinedLinks.{LinkDefinition}
use Rattle.mdsource.specs.Changes.{asks_changed, leads_elsewhere}
use Rattle.mdsource.specs.LabelTable.{target_defined}
use Rattle.mdsource.specs.Refusals.{is_deep}
use Rattle.mdsource.specs.UnitTexts.{asking_in, asking_texts, asking_units, asks_again, deep_from}
use Rattle.mdsource.proofs.AskingUnits.{asking_append}
use Rattle.mdsource.proofs.DeepUnits.{deep_append}
use Rattle.mdsource.proofs.ReadingsUnder.{unasked_stays}
use Rattle.mdview.specs.HeldBlocks.{held_tile, lines_in}
use Rattle.mdview.specs.ReadUnits.{IsReadUnder, IsShallow}
use Rattle.mdview.specs.HeldTexts.{between, labels_before, labels_behind}
use Rattle.mdview.specs.HeldUnit.{HeldUnit, unit_in}
use Rattle.mdview.specs.LabelMarks.{held_marks, label_mark, marks_after}
use Rattle.mdview.specs.LabelTargets.{IsElsewhere, at, definitions_by}
use Rattle.mdview.specs.ToldLabels.{first_led, labels_in, told_by}
use Rattle.mdview.specs.declared.inlines.UnitTextReader.{UnitTextReader}
use Rattle.mdchunks.proofs.MarkSums.{apart_right}
use Rattle.mdview.proofs.LabelMarkLaws.{asked_apart, kept_apart, none_of_readings}
use Rattle.mdview.proofs.MemberChanges.{all_first, all_rest}
use Rattle.mdview.proofs.NoneAsking.{none_deep_in}
use Rattle.mdview.proofs.ToldLaws.{definitions_append, map_same, or_none, told_append, told_unit}

-- ---- lists

pub between_join : {A : Type 0} (first i j : ℕ) (xs : List A) → first ≤ i → i ≤ j → between first j xs ≡ between first i xs ++ between i j xs
between_join first i j xs low high =
    ap (λ n. take n (drop first xs)) parts ∙ take-add (i - first) (j - i) (drop first xs)
    ∙ ap (λ l. between first i xs ++ take (j - i) l) (drop-drop (i - first) first xs ∙ ap (λ n. drop n xs) same)
  where
    parts : j - first ≡ (i - first) + (j - i)
    parts = omega (arith, low, high)

    same : first + (i - first) ≡ i
    same = omega (arith, low)

pub all_between : {A : Type 0} (P : A → Type 0) (i j : ℕ) (xs : List A) → All P xs → All P (between i j xs)
all_between P i j xs all = All-take P (j - i) (drop i xs) (All-drop P i xs all)

-- ---- units that asked for no label that leads elsewhere

abbrev pub IsQuiet : EntityTable → (old new : Table) → HeldUnit → Type 0
IsQuiet e old new u = asks_again e old new u.read.unit ≡ false

pub quiet_numbers : (e : EntityTable) (old new : Table) (number : ℕ) (units : List HeldUnit) → All (IsQuiet e old new) units → asking_units e old new number (map unit_in units) ≡ []
quiet_numbers e old new number [] all = refl
quiet_numbers e old new number (u ∷ units) all =
    ap (λ b. if b then number ∷ asking_units e old new (number + 1) (map unit_in units) else asking_units e old new (number + 1) (map unit_in units)) (all_first (IsQuiet e old new) u units all)
    ∙ quiet_numbers e old new (number + 1) units (all_rest (IsQuiet e old new) u units all)

module _ (reader : UnitTextReader) (elsewhere : IsElsewhere reader.labels.now.held.now reader.labels.now.changes.now) (marks : ℕ)
    (marked : (label : List ℕ) → bit_and (label_mark label) marks ≡ 0 → is_some (at label reader.labels.now.changes.now.targets.entries) ≡ false)
    (e : EntityTable) (units : List HeldUnit) (read : All (IsReadUnder e (labels_before reader)) units) (i j : ℕ) (apart : All (IsApart held_marks marks) (between i j units)) where
  pub all_quiet : All (IsQuiet e (labels_before reader) (labels_behind reader)) (between i j units)
  all_quiet k d below =
      let u : HeldUnit = get_or (between i j units) k d in
      ap (list_any (asks_changed (labels_before reader) (labels_behind reader))) (sym (all_between (IsReadUnder e (labels_before reader)) i j units read k d below))
      ∙ none_of_readings (leads_elsewhere (labels_before reader) (labels_behind reader)) marks (λ label far. sym (elsewhere label) ∙ marked label far)
      (marks_after 0 (labels_in u.read.unit.definitions)) u.read.readings (apart k d below)

  pub shallow_between : (limit : ℕ) → All (IsShallow limit e (labels_before reader)) units → All (IsShallow limit e (labels_behind reader)) (between i j units)
  shallow_between limit shallow k d below =
      ap (list_any (is_deep limit)) (sym (unasked_stays e (labels_before reader) (labels_behind reader) (get_or (between i j units) k d).read.unit (all_quiet k d below)))
      ∙ all_between (IsShallow limit e (labels_before reader)) i j units shallow k d below

-- the units up to a number, and more that are passed
module _ (e : EntityTable) (old new : Table) (first i j : ℕ) (units : List HeldUnit) (low : first ≤ i) (high : i ≤ j) where
  front : List HeldUnit
  front = between first i units

  back : List HeldUnit
  back = between i j units

  both : between first j units ≡ front ++ back
  unfolding front back
  both = between_join first i j units low high

  pub numbers_past : All (IsQuiet e old new) (between i j units) → asking_units e old new first (map unit_in (between first j units)) ≡ asking_units e old new first (map unit_in (between first i units))
  unfolding front back
  numbers_past quiet =
      ap (λ l. asking_units e old new first (map unit_in l)) both ∙ ap (asking_units e old new first) (map-append unit_in front back)
      ∙ asking_append e old new first (map unit_in front) (map unit_in back)
      ∙ ap (λ l. asking_units e old new first (map unit_in front) ++ l) (quiet_numbers e old new (first + length (map unit_in front)) back quiet) ∙ append-nil (asking_units e old new first (map unit_in front))

  pub texts_past : asking_texts e old new (map unit_in (between first i units)) ≤ asking_texts e old new (map unit_in (between first j units))
  unfolding front back
  texts_past =
      let parts = ap (λ l. asking_texts e old new (map unit_in l)) both ∙ ap (asking_texts e old new) (map-append unit_in front back) ∙ sum_by-append (asking_in e old new) (map unit_in front) (map unit_in back) in
      omega (arith, parts)

  pub lines_past : sum_by lines_in (between first i units) ≤ sum_by lines_in (between first j units)
  unfolding front back
  lines_past = let parts = ap (sum_by lines_in) both ∙ sum_by-append lines_in front back in omega (arith, parts)

  pub shallow_past : (limit begin : ℕ) → deep_from limit e new begin (map held_tile (between first i units)) ≡ None → All (IsShallow limit e new) (between i j units)
      → deep_from limit e new begin (map held_tile (between first j units)) ≡ None
  unfolding front back
  shallow_past limit begin none shallow =
      ap (λ l. deep_from limit e new begin (map held_tile l)) both ∙ ap (deep_from limit e new begin) (map-append held_tile front back)
      ∙ deep_append limit e new begin (map held_tile front) (map held_tile back)
      ∙ ap (λ o. option_or o (deep_from limit e new (begin + sum_by (λ (t : ℕ × UnitTree). t.0) (map held_tile front)) (map held_tile back))) none
      ∙ none_deep_in limit e new (begin + sum_by (λ (t : ℕ × UnitTree). t.0) (map held_tile front)) back shallow

-- ---- units that define no label of which something is told

module _ (said : List ℕ → Option (Option LinkTarget)) (marks : ℕ) (marked : (label : List ℕ) → bit_and (label_mark label) marks ≡ 0 → said label ≡ None) (q : List ℕ) where
  untold : (d : LinkDefinition) → said d.label ≡ None → option_map (first_led d q) (said q) ≡ said q
  untold d none = by (bytes_eq d.label q) refl
    where
      by : (b : Bool) → bytes_eq d.label q ≡ b → option_map (λ led. option_or led (if b then Some (target_defined d) else None)) (said q) ≡ said q
      by true e = let nothing = ap said (sym ((bytes_eq-Decides d.label q).0 e)) ∙ none in ap (option_map (λ led. option_or led (Some (target_defined d)))) nothing ∙ sym nothing
      by false e = map_same (λ led. option_or led None) or_none (said q)

  untold_all : (ds : List LinkDefinition) (before : ℕ) → bit_and (marks_after before (labels_in ds)) marks ≡ 0 → told_by ds q (said q) ≡ said q
  untold_all [] before apart = refl
  untold_all (d ∷ ds) before apart =
      let here = apart_right before (label_mark d.label) marks (kept_apart (bit_or before (label_mark d.label)) marks (labels_in ds) apart) in
      ap (told_by ds q) (untold d (marked d.label here)) ∙ untold_all ds (bit_or before (label_mark d.label)) apart

  untold_units : (units : List HeldUnit) → All (IsApart held_marks marks) units → told_by (definitions_by (map unit_in units)) q (said q) ≡ said q
  untold_units [] all = refl
  untold_units (u ∷ units) all =
      let here = asked_apart (marks_after 0 (labels_in u.read.unit.definitions)) marks u.read.readings (all_first (IsApart held_marks marks) u units all) in
      told_unit u.read.unit (map unit_in units) q (said q) ∙ ap (told_by (definitions_by (map unit_in units)) q) (untold_all u.read.unit.definitions 0 here)
      ∙ untold_units units (all_rest (IsApart held_marks marks) u units all)

  pub told_past : (i j next : ℕ) (units : List HeldUnit) → i ≤ j → j ≤ next → All (IsApart held_marks marks) (between i j units)
      → told_by (definitions_by (map unit_in (between j next units))) q (said q) ≡ told_by (definitions_by (map unit_in (between i next units))) q (said q)
  told_past i j next units low high apart =
      let front : List UnitTree = map unit_in (between i j units) in
      let back : List UnitTree = map unit_in (between j next units) in
      sym (ap (λ l. told_by (definitions_by (map unit_in l)) q (said q)) (between_join i j next units low high)
      ∙ ap (λ us. told_by (definitions_by us) q (said q)) (map-append unit_in (between i j units) (between j next units))
      ∙ ap (λ ds. told_by ds q (said q)) (definitions_append front back)
      ∙ told_append (definitions_by front) (definitions_by back) q (said q)
      ∙ ap (told_by (definitions_by back) q) (untold_units (between i j units) apart))
