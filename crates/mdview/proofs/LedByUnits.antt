-- Where labels lead by the units and the prelude, before and after some of them go and others come.
use Rattle.std.proofs.Common.{◌≡◌, ◌≤◌, ◌-◌, ◌||◌, ◌&&◌, ℕ, Bool, true, false, not, List, [], ◌∷◌, ◌++◌, Option, Some, None, append_assoc, arith, cond, drop, if◌then◌else◌, is_some, map, option_map, refl, ap, sym, take, ◌∙◌}
use Rattle.std.specs.List.{list_any}
use Rattle.std.specs.Option.{option_or, unwrap_or}
use Rattle.std.specs.Str.{bytes_eq}
use Rattle.std.specs.Cmp.Lexicographic.{nat_list_eq_equiv}
use Rattle.std.proofs.lemmas.List.{drop-drop, map-append, take-append-drop}
use Rattle.std.proofs.lemmas.Slice.Eq.{bytes_eq-Decides}
use Rattle.blockspec.specs.LinkDefinitions.{first_definition}
use Rattle.blockspec.specs.UnitTree.{UnitTree}
use Rattle.blockspec.proofs.DocumentLaws.{first_of_both}
use Rattle.inlinespec.specs.LabelMap.{LabelMap, LinkTarget, target_in, target_of}
use Rattle.mdleaf.specs.DefinedLinks.{LinkDefinition}
use Rattle.mdtext.specs.declared.labels.Target.{Target}
use Rattle.mdsource.specs.Changes.{is_same_target}
use Rattle.mdsource.specs.LabelTable.{table_of, target_defined}
use Rattle.mdview.specs.LabelTargets.{changed, definitions_by}
use Rattle.mdview.specs.ToldLabels.{first_led, labels_by, labels_in, said, told_by, touched_by}
use Rattle.mdview.proofs.ToldLaws.{definitions_append, map_same, or_assoc, or_none}

-- ---- two targets are the same

same_itself : (o : Option LinkTarget) → is_same_target o o ≡ true
same_itself None = refl
same_itself (Some t) = rw ((bytes_eq-Decides t.url t.url).1 refl, (bytes_eq-Decides t.title t.title).1 refl) refl

both_true : (a b : Bool) → (a && b) ≡ true → (a ≡ true) × (b ≡ true)
both_true true true h = (refl, refl)
both_true true false h = cc
both_true false b h = cc

same_is : (one other : Option LinkTarget) → is_same_target one other ≡ true → one ≡ other
same_is None None h = refl
same_is None (Some t) h = cc
same_is (Some t) None h = cc
same_is (Some t) (Some u) h =
    let parts = both_true (bytes_eq t.url u.url) (bytes_eq t.title u.title) h in
    ap (λ url. Some (record { url = url; title = t.title })) ((bytes_eq-Decides t.url u.url).0 parts.0)
    ∙ ap (λ title. Some (record { url = u.url; title = title })) ((bytes_eq-Decides t.title u.title).0 parts.1)

-- ---- what is said of a label in the end

module _ (a : Option (Option Target)) (before : Option LinkTarget) where
  unsaid : option_map (option_map target_of) a ≡ None → a ≡ None
  unsaid is = by a is
    where
      by : (a : Option (Option Target)) → option_map (option_map target_of) a ≡ None → a ≡ None
      by None h = refl
      by (Some t) h = cc

  said_led : (led : Option LinkTarget) → option_map (option_map target_of) a ≡ Some led → (changed a before ≡ led) × (is_some a ≡ true)
  said_led led is = by a is
    where
      by : (a : Option (Option Target)) → option_map (option_map target_of) a ≡ Some led → (changed a before ≡ led) × (is_some a ≡ true)
      by None h = cc
      by (Some t) h = (ap (λ o. unwrap_or o led) h, refl)

  -- where it is said to lead elsewhere, or nothing is
  led_once : (led : Option LinkTarget) (b : Bool) → is_same_target before led ≡ b → option_map (option_map target_of) a ≡ (if b then None else Some led) → changed a before ≡ led
  led_once led true same is = ap (λ o. changed o before) (unsaid is) ∙ same_is before led same
  led_once led false same is = (said_led led is).0

  pub led_then : (told : Option (Option LinkTarget)) (beside led : Option LinkTarget) → option_map (option_map target_of) a ≡ said told before beside
      → (told ≡ None → before ≡ led) → ((t : Option LinkTarget) → told ≡ Some t → option_or t beside ≡ led) → changed a before ≡ led
  led_then None beside led is none some = ap (λ o. changed o before) (unsaid is) ∙ none refl
  led_then (Some t) beside led is none some = led_once (option_or t beside) (is_same_target before (option_or t beside)) refl is ∙ some t refl

  elsewhere_once : (led : Option LinkTarget) (b : Bool) → is_same_target before led ≡ b → option_map (option_map target_of) a ≡ (if b then None else Some led)
      → is_some a ≡ not (is_same_target before (changed a before))
  elsewhere_once led true same is = ap is_some (unsaid is) ∙ sym (ap not (ap (λ o. is_same_target before (changed o before)) (unsaid is) ∙ same_itself before))
  elsewhere_once led false same is = (said_led led is).1 ∙ sym (ap not (ap (is_same_target before) (said_led led is).0 ∙ same))

  -- exactly a label that leads elsewhere is changed
  pub elsewhere_then : (told : Option (Option LinkTarget)) (beside : Option LinkTarget) → option_map (option_map target_of) a ≡ said told before beside
      → is_some a ≡ not (is_same_target before (changed a before))
  elsewhere_then None beside is = ap is_some (unsaid is) ∙ sym (ap not (ap (λ o. is_same_target before (changed o before)) (unsaid is) ∙ same_itself before))
  elsewhere_then (Some t) beside is = elsewhere_once (option_or t beside) (is_same_target before (option_or t beside)) refl is

-- ---- labels that were touched

or_assoc_bool : (a b c : Bool) → ((a || b) || c) ≡ (a || (b || c))
or_assoc_bool true b c = refl
or_assoc_bool false b c = refl

or_false : (b : Bool) → b ≡ (b || false)
or_false true = refl
or_false false = refl

-- what is told of a label: that it leads nowhere, where it was touched
abbrev mark : Bool → Option (Option LinkTarget)
mark b = if b then Some None else None

mark_one : (c b : Bool) → (if c then option_or (mark b) (Some None) else mark b) ≡ mark (b || c)
mark_one true true = refl
mark_one true false = refl
mark_one false true = refl
mark_one false false = refl

marked : (labels : List (List ℕ)) (q : List ℕ) (b : Bool) → touched_by labels q (mark b) ≡ mark (b || list_any (λ label. bytes_eq label q) labels)
marked [] q b = ap mark (or_false b)
marked (one ∷ labels) q b =
    ap (touched_by labels q) (mark_one (bytes_eq one q) b) ∙ marked labels q (b || bytes_eq one q)
    ∙ ap mark (or_assoc_bool b (bytes_eq one q) (list_any (λ label. bytes_eq label q) labels))

-- ---- definitions that were seen

first_seen : (b : Bool) (d : LinkDefinition) (o : Option LinkDefinition)
    → option_or (if b then Some (target_defined d) else None) (option_map target_defined o) ≡ option_map target_defined (cond b (Some d) o)
first_seen true d o = refl
first_seen false d o = refl

seen_first : (d : LinkDefinition) (ds : List LinkDefinition) (q : List ℕ) (before : Option (Option LinkTarget))
    → option_map (λ led. option_or led (table_of ds q)) (option_map (first_led d q) before) ≡ option_map (λ led. option_or led (table_of (d ∷ ds) q)) before
seen_first d ds q None = refl
seen_first d ds q (Some led) =
    ap Some (or_assoc led (if bytes_eq d.label q then Some (target_defined d) else None) (table_of ds q)
    ∙ ap (option_or led) (first_seen (bytes_eq d.label q) d (first_definition ds q)))

-- a label leads by them where their table says
told_table : (ds : List LinkDefinition) (q : List ℕ) (before : Option (Option LinkTarget)) → told_by ds q before ≡ option_map (λ led. option_or led (table_of ds q)) before
told_table [] q before = sym (map_same (λ led. option_or led None) or_none before)
told_table (d ∷ ds) q before = told_table ds q (option_map (first_led d q) before) ∙ seen_first d ds q before

both_defined : (a b : Option LinkDefinition) → option_map target_defined (option_or a b) ≡ option_or (option_map target_defined a) (option_map target_defined b)
both_defined None b = refl
both_defined (Some d) b = refl

table_append : (xs ys : List LinkDefinition) (q : List ℕ) → table_of (xs ++ ys) q ≡ option_or (table_of xs q) (table_of ys q)
table_append xs ys q = ap (option_map target_defined) (first_of_both xs ys q) ∙ both_defined (first_definition xs q) (first_definition ys q)

-- definitions that do not have a label lead it nowhere
undefined : (ds : List LinkDefinition) (q : List ℕ) → list_any (λ label. bytes_eq label q) (labels_in ds) ≡ false → table_of ds q ≡ None
undefined [] q none = refl
undefined (d ∷ ds) q none = by (bytes_eq d.label q) none (undefined ds q)
  where
    by : (b : Bool) → (b || list_any (λ label. bytes_eq label q) (labels_in ds)) ≡ false → (list_any (λ label. bytes_eq label q) (labels_in ds) ≡ false → table_of ds q ≡ None)
        → option_map target_defined (cond b (Some d) (first_definition ds q)) ≡ None
    by true h later = cc
    by false h later = later h

neither : (a b : Bool) → (a || b) ≡ false → (a ≡ false) × (b ≡ false)
neither true b h = cc
neither false b h = (refl, h)

-- ---- units that go, and units that come

module _ (front gone found back : List UnitTree) (q : List ℕ) where
  three : (middle : List UnitTree) → table_of (definitions_by (front ++ middle ++ back)) q
      ≡ option_or (option_or (table_of (definitions_by front) q) (table_of (definitions_by middle) q)) (table_of (definitions_by back) q)
  three middle =
      ap (λ ds. table_of ds q) (definitions_append (front ++ middle) back ∙ ap (λ ds. ds ++ definitions_by back) (definitions_append front middle))
      ∙ table_append (definitions_by front ++ definitions_by middle) (definitions_by back) q
      ∙ ap (λ o. option_or o (table_of (definitions_by back) q)) (table_append (definitions_by front) (definitions_by middle) q)

  -- a label that no unit defines which goes or comes
  same_table : list_any (λ label. bytes_eq label q) (labels_by gone) ≡ false → list_any (λ label. bytes_eq label q) (labels_by found) ≡ false
      → table_of (definitions_by (front ++ gone ++ back)) q ≡ table_of (definitions_by (front ++ found ++ back)) q
  same_table g f =
      three gone
      ∙ ap (λ o. option_or (option_or (table_of (definitions_by front) q) o) (table_of (definitions_by back) q)) (undefined (definitions_by gone) q g ∙ sym (undefined (definitions_by found) q f))
      ∙ sym (three found)

  -- where the labels lead after the edit
  pub edit_leads : (a : Option (Option Target)) (told : Option (Option LinkTarget)) (before beside : Option LinkTarget)
      → told ≡ told_by (definitions_by (front ++ found ++ back)) q (touched_by (labels_by found) q (touched_by (labels_by gone) q None))
      → option_map (option_map target_of) a ≡ said told before beside → before ≡ option_or (table_of (definitions_by (front ++ gone ++ back)) q) beside
      → changed a before ≡ option_or (table_of (definitions_by (front ++ found ++ back)) q) beside
  edit_leads a told before beside is end led =
      by (list_any (λ label. bytes_eq label q) (labels_by gone) || list_any (λ label. bytes_eq label q) (labels_by found)) refl
    where
      table : Option LinkTarget
      table = table_of (definitions_by (front ++ found ++ back)) q

      both : touched_by (labels_by found) q (touched_by (labels_by gone) q None)
          ≡ mark (list_any (λ label. bytes_eq label q) (labels_by gone) || list_any (λ label. bytes_eq label q) (labels_by found))
      both = ap (touched_by (labels_by found) q) (marked (labels_by gone) q false) ∙ marked (labels_by found) q (list_any (λ label. bytes_eq label q) (labels_by gone))

      by : (b : Bool) → (list_any (λ label. bytes_eq label q) (labels_by gone) || list_any (λ label. bytes_eq label q) (labels_by found)) ≡ b
          → changed a before ≡ option_or (table_of (definitions_by (front ++ found ++ back)) q) beside
      by true h =
          let all : told ≡ Some table =
          is ∙ told_table (definitions_by (front ++ found ++ back)) q (touched_by (labels_by found) q (touched_by (labels_by gone) q None))
          ∙ ap (option_map (λ led. option_or led table)) (both ∙ ap mark h) in
          led_then a before (Some table) beside (option_or table beside) (end ∙ ap (λ o. said o before beside) all) (λ e. cc) (λ t e. ap (λ o. option_or (unwrap_or o t) beside) (sym e))
      by false h =
          let none : told ≡ None =
          is ∙ told_table (definitions_by (front ++ found ++ back)) q (touched_by (labels_by found) q (touched_by (labels_by gone) q None))
          ∙ ap (option_map (λ led. option_or led table)) (both ∙ ap mark h) in
          let apart = neither (list_any (λ label. bytes_eq label q) (labels_by gone)) (list_any (λ label. bytes_eq label q) (labels_by found)) h in
          led_then a before None beside (option_or table beside) (end ∙ ap (λ o. said o before beside) none)
          (λ e. led ∙ ap (λ o. option_or o beside) (same_table apart.0 apart.1)) (λ t e. cc)

-- ---- a prelude that goes, and one that comes

unled : (labels : LabelMap) (q : List ℕ) → list_any (λ label. bytes_eq label q) (map (λ (e : List ℕ × LinkTarget). e.0) labels) ≡ false → target_in labels q ≡ None
unled [] q none = refl
unled (e ∷ labels) q none =
    by (bytes_eq q e.0) (ap (λ b. b || list_any (λ label. bytes_eq label q) (map (λ (e : List ℕ × LinkTarget). e.0) labels)) (nat_list_eq_equiv.symm q e.0) ∙ none) (unled labels q)
  where
    by : (b : Bool) → (b || list_any (λ label. bytes_eq label q) (map (λ (e : List ℕ × LinkTarget). e.0) labels)) ≡ false
        → (list_any (λ label. bytes_eq label q) (map (λ (e : List ℕ × LinkTarget). e.0) labels) ≡ false → target_in labels q ≡ None) → cond b (Some e.1) (target_in labels q) ≡ None
    by true h later = cc
    by false h later = later h

pub prelude_leads : (definitions : List LinkDefinition) (old new : LabelMap) (q : List ℕ) (a : Option (Option Target)) (told : Option (Option LinkTarget)) (before : Option LinkTarget)
    → told ≡ told_by definitions q (touched_by (map (λ (e : List ℕ × LinkTarget). e.0) new) q (touched_by (map (λ (e : List ℕ × LinkTarget). e.0) old) q None))
    → option_map (option_map target_of) a ≡ said told before (target_in new q) → before ≡ option_or (table_of definitions q) (target_in old q)
    → changed a before ≡ option_or (table_of definitions q) (target_in new q)
prelude_leads definitions old new q a told before is end led =
    by (list_any (λ label. bytes_eq label q) olds || list_any (λ label. bytes_eq label q) news) refl
  where
    olds : List (List ℕ)
    olds = map (λ (e : List ℕ × LinkTarget). e.0) old

    news : List (List ℕ)
    news = map (λ (e : List ℕ × LinkTarget). e.0) new

    table : Option LinkTarget
    table = table_of definitions q

    both : touched_by news q (touched_by olds q None) ≡ mark (list_any (λ label. bytes_eq label q) olds || list_any (λ label. bytes_eq label q) news)
    both = ap (touched_by news q) (marked olds q false) ∙ marked news q (list_any (λ label. bytes_eq label q) olds)

    by : (b : Bool) → (list_any (λ label. bytes_eq label q) olds || list_any (λ label. bytes_eq label q) news) ≡ b → changed a before ≡ option_or (table_of definitions q) (target_in new q)
    by true h =
        let all : told ≡ Some table =
        is ∙ told_table definitions q (touched_by news q (touched_by olds q None)) ∙ ap (option_map (λ led. option_or led table)) (both ∙ ap mark h) in
        led_then a before (Some table) (target_in new q) (option_or table (target_in new q)) (end ∙ ap (λ o. said o before (target_in new q)) all) (λ e. cc)
        (λ t e. ap (λ o. option_or (unwrap_or o t) (target_in new q)) (sym e))
    by false h =
        let none : told ≡ None =
        is ∙ told_table definitions q (touched_by news q (touched_by olds q None)) ∙ ap (option_map (λ led. option_or led table)) (both ∙ ap mark h) in
        let apart = neither (list_any (λ label. bytes_eq label q) olds) (list_any (λ label. bytes_eq label q) news) h in
        led_then a before None (target_in new q) (option_or table (target_in new q)) (end ∙ ap (λ o. said o before (target_in new q)) none)
        (λ e. led ∙ ap (option_or table) (unled old q apart.0 ∙ sym (unled new q apart.1))) (λ t e. cc)

-- ---- the units before the edit

-- those in front, those that go, and those behind
pub units_cut : {A : Type 0} (f : A → UnitTree) (units : List A) (first next : ℕ) → first ≤ next
    → map f units ≡ map f (take first units) ++ map f (take (next - first) (drop first units)) ++ map f (drop next units)
units_cut f units first next order =
    let behind : drop (next - first) (drop first units) ≡ drop next units = drop-drop (next - first) first units ∙ ap (λ n. drop n units) (omega arith) in
    let middle = take (next - first) (drop first units) in
    ap (map f) (sym (take-append-drop first units)
    ∙ ap (λ us. take first units ++ us) (sym (take-append-drop (next - first) (drop first units)) ∙ ap (λ us. middle ++ us) behind)
    ∙ sym (append_assoc (take first units) middle (drop next units)))
    ∙ map-append f (take first units ++ middle) (drop next units) ∙ ap (λ us. us ++ map f (drop next units)) (map-append f (take first units) middle)
