-- What is told of a label after it was touched, and after definitions were seen.
use Rattle.std.proofs.Common.{◌≡◌, ◌+◌, ◌<◌, ℕ, Bool, true, false, List, [], ◌∷◌, ◌++◌, Option, Some, None, append_assoc, cond, drop, get_or, if◌then◌else◌, is_some, length, map, option_map, refl, ap, sym, ◌∙◌}
use Rattle.std.specs.BTreeMap.{is_at}
use Rattle.std.specs.Cmp.Lexicographic.{slice_cmp}
use Rattle.std.specs.Option.{option_or}
use Rattle.std.specs.Ordering.{nat_cmp}
use Rattle.std.specs.Str.{bytes_eq}
use Rattle.std.proofs.lemmas.List.{drop_more, map-append}
use Rattle.std.proofs.lemmas.Map.Text.{is_eq-slice_cmp}
use Rattle.std.proofs.lemmas.Slice.Eq.{bytes_eq-Decides}
use Rattle.blockspec.specs.UnitTree.{UnitTree}
use Rattle.inlinespec.specs.LabelMap.{LinkTarget, target_of}
use Rattle.mdleaf.specs.DefinedLinks.{LinkDefinition}
use Rattle.mdtext.specs.declared.labels.Target.{Target}
use Rattle.mdsource.specs.LabelTable.{target_defined}
use Rattle.mdview.specs.LabelTargets.{at, definitions_by}
use Rattle.mdview.specs.ToldLabels.{first_led, labels_by, labels_in, told_by, told_in, touched_by}

abbrev Entries : Type 0
Entries = List (List ℕ × Option Target)

pub or_none : {X : Type 0} (o : Option X) → option_or o None ≡ o
or_none None = refl
or_none (Some x) = refl

pub or_assoc : {X : Type 0} (a b c : Option X) → option_or (option_or a b) c ≡ option_or a (option_or b c)
or_assoc None b c = refl
or_assoc (Some x) b c = refl

pub map_same : {X : Type 0} (f : X → X) → ((x : X) → f x ≡ x) → (o : Option X) → option_map f o ≡ o
map_same f same None = refl
map_same f same (Some x) = ap Some (same x)

pub no_one : {X : Type 0} (o : Option X) → is_some o ≡ false → o ≡ None
no_one None h = refl
no_one (Some x) h = cc

-- ---- one label in a map

module _ (old new : Entries) (key q : List ℕ) (w : Option Target) (is : at q new ≡ cond (is_at (slice_cmp nat_cmp key) q) (Some w) (at q old)) where
  told_here : bytes_eq key q ≡ true → told_in new q ≡ Some (option_map target_of w)
  told_here e = ap (option_map (option_map target_of)) (is ∙ ap (λ b. cond b (Some w) (at q old)) (is_eq-slice_cmp key q ∙ e))

  told_there : bytes_eq key q ≡ false → told_in new q ≡ told_in old q
  told_there e = ap (option_map (option_map target_of)) (is ∙ ap (λ b. cond b (Some w) (at q old)) (is_eq-slice_cmp key q ∙ e))

  told_before : (o : Option (Option Target)) → at key old ≡ o → bytes_eq key q ≡ true → told_in old q ≡ option_map (option_map target_of) o
  told_before o was e = ap (told_in old) (sym ((bytes_eq-Decides key q).0 e)) ∙ ap (option_map (option_map target_of)) was

-- a label is touched for the first time
pub touched_first : (old new : Entries) (key q : List ℕ) → is_some (at key old) ≡ false → at q new ≡ cond (is_at (slice_cmp nat_cmp key) q) (Some None) (at q old)
    → told_in new q ≡ touched_by (key ∷ []) q (told_in old q)
touched_first old new key q none is = by (bytes_eq key q) refl
  where
    by : (b : Bool) → bytes_eq key q ≡ b → told_in new q ≡ (if b then option_or (told_in old q) (Some None) else told_in old q)
    by true e = told_here old new key q None is e ∙ sym (ap (λ o. option_or o (Some None)) (told_before old new key q None is None (no_one (at key old) none) e))
    by false e = told_there old new key q None is e

-- a definition of a label is seen
pub seen_once : (old new : Entries) (definition : LinkDefinition) (q : List ℕ) (was w : Option Target) → at definition.label old ≡ Some was
    → at q new ≡ cond (is_at (slice_cmp nat_cmp definition.label) q) (Some w) (at q old) → option_map target_of w ≡ option_or (option_map target_of was) (Some (target_defined definition))
    → told_in new q ≡ option_map (first_led definition q) (told_in old q)
seen_once old new definition q was w before is first = by (bytes_eq definition.label q) refl
  where
    by : (b : Bool) → bytes_eq definition.label q ≡ b → told_in new q ≡ option_map (λ led. option_or led (if b then Some (target_defined definition) else None)) (told_in old q)
    by true e =
        told_here old new definition.label q w is e ∙ ap Some first
        ∙ sym (ap (option_map (λ led. option_or led (Some (target_defined definition)))) (told_before old new definition.label q w is (Some was) before e))
    by false e = told_there old new definition.label q w is e ∙ sym (map_same (λ led. option_or led None) or_none (told_in old q))

-- a label that leads somewhere keeps it
pub first_stays : (o : Option Target) (t : LinkTarget) → is_some o ≡ true → option_map target_of o ≡ option_or (option_map target_of o) (Some t)
first_stays None t h = cc
first_stays (Some u) t h = refl

-- one that leads nowhere leads where it is defined
pub first_counts : (o : Option Target) (t : LinkTarget) → is_some o ≡ false → Some t ≡ option_or (option_map target_of o) (Some t)
first_counts None t h = refl
first_counts (Some u) t h = cc

-- ---- labels and definitions in order

pub told_of_none : (ds : List LinkDefinition) (q : List ℕ) → told_by ds q None ≡ None
told_of_none [] q = refl
told_of_none (d ∷ ds) q = told_of_none ds q

pub touched_append : (xs ys : List (List ℕ)) (q : List ℕ) (before : Option (Option LinkTarget)) → touched_by (xs ++ ys) q before ≡ touched_by ys q (touched_by xs q before)
touched_append [] ys q before = refl
touched_append (x ∷ xs) ys q before = touched_append xs ys q (if bytes_eq x q then option_or before (Some None) else before)

pub told_append : (xs ys : List LinkDefinition) (q : List ℕ) (before : Option (Option LinkTarget)) → told_by (xs ++ ys) q before ≡ told_by ys q (told_by xs q before)
told_append [] ys q before = refl
told_append (x ∷ xs) ys q before = told_append xs ys q (option_map (first_led x q) before)

-- the first unit, and the others
pub touched_unit : (unit : UnitTree) (units : List UnitTree) (q : List ℕ) (before : Option (Option LinkTarget))
    → touched_by (labels_by (unit ∷ units)) q before ≡ touched_by (labels_by units) q (touched_by (labels_in unit.definitions) q before)
touched_unit unit units q before =
    ap (λ ls. touched_by ls q before) (map-append (λ (d : LinkDefinition). d.label) unit.definitions (definitions_by units))
    ∙ touched_append (labels_in unit.definitions) (labels_by units) q before

pub told_unit : (unit : UnitTree) (units : List UnitTree) (q : List ℕ) (before : Option (Option LinkTarget))
    → told_by (definitions_by (unit ∷ units)) q before ≡ told_by (definitions_by units) q (told_by unit.definitions q before)
told_unit unit units q before = told_append unit.definitions (definitions_by units) q before

pub definitions_append : (us vs : List UnitTree) → definitions_by (us ++ vs) ≡ definitions_by us ++ definitions_by vs
definitions_append [] vs = refl
definitions_append (u ∷ us) vs =
    ap (λ ds. u.definitions ++ ds) (definitions_append us vs) ∙ sym (append_assoc u.definitions (definitions_by us) (definitions_by vs))

-- three lists of units
pub told_in_turn : (front found back : List UnitTree) (q : List ℕ) (before : Option (Option LinkTarget))
    → told_by (definitions_by (front ++ found ++ back)) q before ≡ told_by (definitions_by back) q (told_by (definitions_by found) q (told_by (definitions_by front) q before))
told_in_turn front found back q before =
    ap (λ ds. told_by ds q before) (definitions_append (front ++ found) back ∙ ap (λ ds. ds ++ definitions_by back) (definitions_append front found))
    ∙ told_append (definitions_by front ++ definitions_by found) (definitions_by back) q before
    ∙ ap (told_by (definitions_by back) q) (told_append (definitions_by front) (definitions_by found) q before)

-- the units from a place on, and those behind its unit
module _ {A : Type 0} (unit_of : A → UnitTree) (items : List A) (i : ℕ) (item : A) (below : i < length items) (is : item ≡ get_or items i item) (q : List ℕ) where
  rest_is : map unit_of (drop i items) ≡ unit_of item ∷ map unit_of (drop (i + 1) items)
  rest_is = ap (map unit_of) (drop_more items i item below ∙ ap (λ x. x ∷ drop (i + 1) items) (sym is))

  pub touched_more : (old new all : Option (Option LinkTarget)) → new ≡ touched_by (labels_in (unit_of item).definitions) q old
      → touched_by (labels_by (map unit_of (drop i items))) q old ≡ all → touched_by (labels_by (map unit_of (drop (i + 1) items))) q new ≡ all
  touched_more old new all now before =
      let later = map unit_of (drop (i + 1) items) in
      ap (touched_by (labels_by later) q) now ∙ sym (touched_unit (unit_of item) later q old) ∙ sym (ap (λ us. touched_by (labels_by us) q old) rest_is) ∙ before

  pub told_more : (old new all : Option (Option LinkTarget)) → new ≡ told_by (unit_of item).definitions q old
      → told_by (definitions_by (map unit_of (drop i items))) q old ≡ all → told_by (definitions_by (map unit_of (drop (i + 1) items))) q new ≡ all
  told_more old new all now before =
      let later = map unit_of (drop (i + 1) items) in
      ap (told_by (definitions_by later) q) now ∙ sym (told_unit (unit_of item) later q old) ∙ sym (ap (λ us. told_by (definitions_by us) q old) rest_is) ∙ before
