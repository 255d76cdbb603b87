-- Where a map of labels leads to which definitions were added in order: to the first of each label.
use Rattle.std.proofs.Common.{◌≡◌, ℕ, Bool, true, false, List, [], ◌∷◌, ◌++◌, Option, Some, None, Ordering, Less, Equal, Greater, cond, is_some, option_map, refl, ap, sym, ◌∙◌, if◌then◌else◌}
use Rattle.std.specs.BTreeMap.{insert_entry}
use Rattle.std.specs.Cmp.Lexicographic.{slice_cmp}
use Rattle.std.specs.Option.{option_or}
use Rattle.std.specs.Ordering.{is_eq, match_ordering, nat_cmp}
use Rattle.std.specs.Str.{bytes_eq}
use Rattle.std.proofs.lemmas.Map.Text.{is_eq-slice_cmp}
use Rattle.std.proofs.lemmas.Slice.Eq.{bytes_eq-Decides}
use Rattle.mdleaf.specs.DefinedLinks.{LinkDefinition}
use Rattle.blockspec.specs.BlockUnits.{definitions_of}
use Rattle.blockspec.specs.LinkDefinitions.{first_definition}
use Rattle.blockspec.specs.UnitTree.{FoundUnit}
use Rattle.blockspec.proofs.DocumentLaws.{first_of_both}
use Rattle.inlinespec.specs.LabelMap.{LabelMap, LinkTarget, put_first, target_in}
use Rattle.mdsource.specs.LabelTable.{table_of, target_defined, with_definitions, with_units}

or_none : {X : Type 0} (o : Option X) → option_or o None ≡ o
or_none None = refl
or_none (Some x) = refl

or_assoc : {X : Type 0} (a b c : Option X) → option_or (option_or a b) c ≡ option_or a (option_or b c)
or_assoc None b c = refl
or_assoc (Some x) b c = refl

-- ---- one label more

same_label : (label q : List ℕ) → bytes_eq label q ≡ bytes_eq q label
same_label label q = by (bytes_eq label q) (bytes_eq q label) refl refl
  where
    by : (a b : Bool) → bytes_eq label q ≡ a → bytes_eq q label ≡ b → a ≡ b
    by true true e h = refl
    by false false e h = refl
    by true false e h = sym ((bytes_eq-Decides q label).1 (sym ((bytes_eq-Decides label q).0 e))) ∙ h
    by false true e h = sym e ∙ (bytes_eq-Decides label q).1 (sym ((bytes_eq-Decides q label).0 h))

module _ (label : List ℕ) (t : LinkTarget) (q : List ℕ) where
  -- in front of a map that does not have the label
  put_in_front : (map : LabelMap) → target_in map label ≡ None → cond (bytes_eq q label) (Some t) (target_in map q) ≡ option_or (target_in map q) (cond (bytes_eq label q) (Some t) None)
  put_in_front map none = by (bytes_eq label q) refl
    where
      by : (b : Bool) → bytes_eq label q ≡ b → cond (bytes_eq q label) (Some t) (target_in map q) ≡ option_or (target_in map q) (cond (bytes_eq label q) (Some t) None)
      by true e =
          let is : label ≡ q = (bytes_eq-Decides label q).0 e in
          ap (λ c. cond c (Some t) (target_in map q)) (sym (same_label label q) ∙ e)
          ∙ ap (λ o. option_or o (Some t)) (sym none ∙ ap (target_in map) is)
          ∙ ap (λ c. option_or (target_in map q) (cond c (Some t) None)) (sym e)
      by false e =
          ap (λ c. cond c (Some t) (target_in map q)) (sym (same_label label q) ∙ e)
          ∙ sym (or_none (target_in map q))
          ∙ ap (λ c. option_or (target_in map q) (cond c (Some t) None)) (sym e)

  later : (c : Bool) (u : LinkTarget) (o : Option LinkTarget) → cond c (Some u) o ≡ None → (c ≡ false) × (o ≡ None)
  later true u o h = cc
  later false u o h = (refl, h)

  behind : (c : Bool) (u : LinkTarget) (new old r : Option LinkTarget) → new ≡ option_or old r → cond c (Some u) new ≡ option_or (cond c (Some u) old) r
  behind true u new old r h = refl
  behind false u new old r h = h

  never : {A : Type 0} → true ≡ false → A
  never h = cc

  -- beside the first entry
  put_beside : (e : List ℕ × LinkTarget) (map new : LabelMap) (o : Ordering) → slice_cmp nat_cmp label e.0 ≡ o → target_in (e ∷ map) label ≡ None
      → target_in new q ≡ option_or (target_in map q) (cond (bytes_eq label q) (Some t) None)
      → target_in (match_ordering o ((label, t) ∷ e ∷ map) ((e.0, t) ∷ map) (e ∷ new)) q ≡ option_or (target_in (e ∷ map) q) (cond (bytes_eq label q) (Some t) None)
  put_beside e map new Less h none rest = put_in_front (e ∷ map) none
  put_beside e map new Equal h none rest =
      never (sym (sym (is_eq-slice_cmp label e.0) ∙ ap is_eq h) ∙ (later (bytes_eq label e.0) e.1 (target_in map label) none).0)
  put_beside e map new Greater h none rest = behind (bytes_eq q e.0) e.1 (target_in new q) (target_in map q) (cond (bytes_eq label q) (Some t) None) rest

  put_leads : (map : LabelMap) → target_in map label ≡ None
      → target_in (insert_entry (slice_cmp nat_cmp) map label t) q ≡ option_or (target_in map q) (cond (bytes_eq label q) (Some t) None)
  put_leads [] none = put_in_front [] refl
  put_leads (e ∷ map) none =
      put_beside e map (insert_entry (slice_cmp nat_cmp) map label t) (slice_cmp nat_cmp label e.0) refl none
      (put_leads map (later (bytes_eq label e.0) e.1 (target_in map label) none).1)

  kept_leads : (map : LabelMap) → is_some (target_in map label) ≡ true → target_in map q ≡ option_or (target_in map q) (cond (bytes_eq label q) (Some t) None)
  kept_leads map some = by (bytes_eq label q) refl
    where
      has : (o : Option LinkTarget) (r : Option LinkTarget) → is_some o ≡ true → o ≡ option_or o r
      has None r h = cc
      has (Some u) r h = refl

      by : (b : Bool) → bytes_eq label q ≡ b → target_in map q ≡ option_or (target_in map q) (cond (bytes_eq label q) (Some t) None)
      by true e = has (target_in map q) _ (ap (λ l. is_some (target_in map l)) (sym ((bytes_eq-Decides label q).0 e)) ∙ some)
      by false e = sym (or_none (target_in map q)) ∙ ap (λ c. option_or (target_in map q) (cond c (Some t) None)) (sym e)

  no_target : (o : Option LinkTarget) → is_some o ≡ false → o ≡ None
  no_target None h = refl
  no_target (Some u) h = cc

  -- A label that has a target keeps it.
  pub first_leads : (map : LabelMap) → target_in (put_first map label t) q ≡ option_or (target_in map q) (cond (bytes_eq label q) (Some t) None)
  first_leads map = by (is_some (target_in map label)) refl
    where
      by : (b : Bool) → is_some (target_in map label) ≡ b
          → target_in (if b then map else insert_entry (slice_cmp nat_cmp) map label t) q ≡ option_or (target_in map q) (cond (bytes_eq label q) (Some t) None)
      by true e = kept_leads map e
      by false e = put_leads map (no_target (target_in map label) e)

-- ---- definitions in order

first_seen : (b : Bool) (d : LinkDefinition) (o : Option LinkDefinition) →
    option_or (cond b (Some (target_defined d)) None) (option_map target_defined o) ≡ option_map target_defined (cond b (Some d) o)
first_seen true d o = refl
first_seen false d o = refl

definitions_lead : (definitions : List LinkDefinition) (labels : LabelMap) (q : List ℕ) →
    target_in (with_definitions labels definitions) q ≡ option_or (target_in labels q) (table_of definitions q)
definitions_lead [] labels q = sym (or_none (target_in labels q))
definitions_lead (d ∷ definitions) labels q =
    definitions_lead definitions (put_first labels d.label (target_defined d)) q
    ∙ ap (λ o. option_or o (table_of definitions q)) (first_leads d.label (target_defined d) q labels)
    ∙ or_assoc (target_in labels q) (cond (bytes_eq d.label q) (Some (target_defined d)) None) (table_of definitions q)
    ∙ ap (option_or (target_in labels q)) (first_seen (bytes_eq d.label q) d (first_definition definitions q))

both_defined : (a b : Option LinkDefinition) → option_or (option_map target_defined a) (option_map target_defined b) ≡ option_map target_defined (option_or a b)
both_defined None b = refl
both_defined (Some d) b = refl

-- A map with the definitions of some units leads where the first definition of a label says.
pub units_lead : (found : List FoundUnit) (labels : LabelMap) (q : List ℕ) → target_in (with_units labels found) q ≡ option_or (target_in labels q) (table_of (definitions_of found) q)
units_lead [] labels q = sym (or_none (target_in labels q))
units_lead (one ∷ found) labels q =
    let own = one.unit.definitions in
    units_lead found (with_definitions labels own) q
    ∙ ap (λ o. option_or o (table_of (definitions_of found) q)) (definitions_lead own labels q)
    ∙ or_assoc (target_in labels q) (table_of own q) (table_of (definitions_of found) q)
    ∙ ap (option_or (target_in labels q)) (both_defined (first_definition own q) (first_definition (definitions_of found) q)
    ∙ ap (option_map target_defined) (sym (first_of_both own (definitions_of found) q)))

labels_behind : (units : List FoundUnit) (labels : LabelMap) (more : List FoundUnit) → with_units labels (units ++ more) ≡ with_units (with_units labels units) more
labels_behind [] labels more = refl
labels_behind (found ∷ units) labels more = labels_behind units (with_definitions labels found.unit.definitions) more

-- the labels of all units with one more
pub labels_more : (all : List FoundUnit) (found : FoundUnit) (old new : LabelMap) → old ≡ with_units [] all → new ≡ with_definitions old found.unit.definitions
    → new ≡ with_units [] (all ++ found ∷ [])
labels_more all found old new before adds =
    adds ∙ ap (λ labels. with_definitions labels found.unit.definitions) before ∙ sym (labels_behind all [] (found ∷ []))
