-- What the units of a prelude define, with one unit more.
use Rattle.std.proofs.Common.{◌≡◌, ◌==◌, ◌≤◌, ◌<◌, ◌+◌, ℕ, Bool, true, false, List, [], ◌∷◌, ◌++◌, Option, None, Some, Result, String, Global, arith, cond, drop, eqb-true, find, get_or, length, map, option_map, refl, ap, string_bytes, sym, take, ◌∙◌}
use Rattle.std.specs.BTreeMap.{BTreeMap}
use Rattle.std.specs.Prelude.{IfErr, IfOk, OnOk, is_some}
use Rattle.std.proofs.lemmas.List.{get_or-map, length-map, length-take-le, take-append-drop, take_all, take_more}
use Rattle.std.specs.Option.{option_or}
use Rattle.std.proofs.lemmas.List.Folds.{find-append}
use Rattle.blockspec.specs.BlockTree.{Blocks}
use Rattle.blockspec.specs.BlockUnits.{units}
use Rattle.blockspec.specs.Nesting.{first_too_deep}
use Rattle.blockspec.specs.UnitTree.{FoundUnit}
use Rattle.blockspec.proofs.NestingLaws.{too_deep_stays}
use Rattle.inlinespec.specs.LabelMap.{LabelMap, LinkTarget, put_first, target_of}
use Rattle.mdblock.specs.BlockView.{blocks_view}
use Rattle.mdblock.specs.declared.faults.BlockFault.{BlockFault}
use Rattle.mdblock.specs.declared.faults.BlockFault.TheVariants as block
use Rattle.mdtext.specs.declared.labels.Target.{Target}
use Rattle.mdblock.specs.declared.blocks.Block.{Block}
use Rattle.mdsource.specs.LabelTable.{with_definitions, with_units}
use Rattle.mdsource.specs.Refusals.{is_more, undefining_line}
use Rattle.mdsource.specs.Setting.{Setting}
use Rattle.mdsource.proofs.LabelsLead.{labels_more}
use Rattle.mdsource.specs.Defining.{Defines, EndsAt, fault_of, first_other, shown}
use Rattle.mdsource.specs.Preludes.{IsUndefiningAt}
use Rattle.mdsource.specs.declared.fault.EditFault.{EditFault}
use Rattle.mdsource.specs.declared.defining.Defined.{Defined}

first_of_both : (a b : Option FoundUnit) → option_map (λ (one : FoundUnit). one.begin) (option_or a b)
    ≡ option_or (option_map (λ (one : FoundUnit). one.begin) a) (option_map (λ (one : FoundUnit). one.begin) b)
first_of_both None b = refl
first_of_both (Some one) b = refl

other_append : (xs ys : List FoundUnit) → first_other (xs ++ ys) ≡ option_or (first_other xs) (first_other ys)
other_append xs ys =
    ap (option_map (λ (one : FoundUnit). one.begin)) (find-append (λ (one : FoundUnit). is_more one.unit.blocks) xs ys)
    ∙ first_of_both (find (λ (one : FoundUnit). is_more one.unit.blocks) xs) (find (λ (one : FoundUnit). is_more one.unit.blocks) ys)

not_none : {A : Type 0} (o : Option ℕ) → is_some o ≡ true → o ≡ None → A
not_none None h e = cc
not_none (Some n) h e = cc

pub is_none : (o : Option ℕ) → is_some o ≡ false → o ≡ None
is_none None h = refl
is_none (Some n) h = cc

first_stays : (o r : Option ℕ) → is_some o ≡ true → o ≡ option_or o r
first_stays None r h = cc
first_stays (Some n) r h = refl

-- a unit before it is more than definitions
pub other_stays : (all : List FoundUnit) (found : FoundUnit) (defined : Defined) → is_some defined.other ≡ true → Defines all defined → Defines (all ++ found ∷ []) defined
other_stays all found defined some before = record {
  other = first_stays defined.other (first_other (found ∷ [])) some ∙ ap (λ o. option_or o (first_other (found ∷ []))) before.other ∙ sym (other_append all (found ∷ []));
  labels = λ none. not_none defined.other some none;
}

one_other : (found : FoundUnit) (t : Bool) → is_more found.unit.blocks ≡ t → first_other (found ∷ []) ≡ cond t (Some found.begin) None
one_other found true h = ap (λ t. option_map (λ (one : FoundUnit). one.begin) (cond t (Some found) None)) h
one_other found false h = ap (λ t. option_map (λ (one : FoundUnit). one.begin) (cond t (Some found) None)) h

-- the unit is the first that is
pub other_here : (all : List FoundUnit) (found : FoundUnit) (old new : Defined) → old.other ≡ None → new.other ≡ Some found.begin → is_more found.unit.blocks ≡ true
    → Defines all old → Defines (all ++ found ∷ []) new
other_here all found old new none here more before = record {
  other = here ∙ sym (one_other found true more) ∙ ap (λ o. option_or o (first_other (found ∷ []))) (sym none ∙ before.other) ∙ sym (other_append all (found ∷ []));
  labels = λ none. not_none new.other (ap is_some here) none;
}

-- no unit is, and this one defines
pub defines_more : (all : List FoundUnit) (found : FoundUnit) (old new : Defined) → old.other ≡ None → new.other ≡ old.other → is_more found.unit.blocks ≡ false
    → shown new.targets.entries ≡ with_definitions (shown old.targets.entries) found.unit.definitions → Defines all old → Defines (all ++ found ∷ []) new
defines_more all found old new none same fewer adds before = record {
  other = same ∙ none ∙ sym (one_other found false fewer) ∙ ap (λ o. option_or o (first_other (found ∷ []))) (sym none ∙ before.other) ∙ sym (other_append all (found ∷ []));
  labels = λ still. labels_more all found (shown old.targets.entries) (shown new.targets.entries) (before.labels none) adds;
}

-- whether there are blocks
pub more_blocks : (blocks : List Block) (seen : Blocks) → blocks_view blocks ≡ seen → (length blocks == 0) ≡ false → is_more seen ≡ true
more_blocks [] seen is some = cc
more_blocks (one ∷ blocks) seen is some = ap is_more (sym is)

pub no_blocks_more : (blocks : List Block) (seen : Blocks) → blocks_view blocks ≡ seen → (length blocks == 0) ≡ true → is_more seen ≡ false
no_blocks_more [] seen is none = ap is_more (sym is)
no_blocks_more (one ∷ blocks) seen is none = absurd (omega (arith, eqb-true (length (one ∷ blocks)) 0 none))

-- a copy of a definition's target is put in its place
pub copy_put : (old new : LabelMap) (label : List ℕ) (target : LinkTarget) (t : Target) → new ≡ put_first old label (target_of t)
    → string_bytes t.url ≡ target.url → string_bytes t.title ≡ target.title → new ≡ put_first old label target
copy_put old new label target t is u v =
    is ∙ ap (λ z. put_first old label (record { url = z; title = string_bytes t.title })) u
    ∙ ap (λ z. put_first old label (record { url = target.url; title = z })) v

-- the lines up to the next one
pub next_line : (lines : List (String Global)) (i : ℕ) (d : String Global) → i < length lines
    → take (i + 1) (map string_bytes lines) ≡ take i (map string_bytes lines) ++ string_bytes (get_or lines i d) ∷ []
next_line lines i d below =
    take_more (map string_bytes lines) i (string_bytes d) (omega (arith, below, length-map lines string_bytes))
    ∙ ap (λ line. take i (map string_bytes lines) ++ line ∷ []) (get_or-map string_bytes lines i d (string_bytes d) below)

-- all lines are
pub all_lines : (lines : List (List ℕ)) (i : ℕ) → length lines ≤ i → take i lines ≡ lines
all_lines lines i past = take_all i lines past

-- the line on which a container begins too deep is the first that is no definition
pub undefined_at : (setting : Setting) (lines : List (List ℕ)) (line : ℕ) (text : List ℕ) (fault : BlockFault) → line < length lines
    → take (line + 1) lines ≡ take line lines ++ text ∷ []
    → (fault ≡ block.NestedTooDeep → first_too_deep setting.options.max_containers (take line lines ++ text ∷ []) ≡ Some (length (take line lines)))
    → IsUndefiningAt (undefining_line setting lines) (fault_of fault line)
undefined_at setting lines line text block.NestedTooDeep below next deep =
    let limit = setting.options.max_containers in
    let whole : take (line + 1) lines ++ drop (line + 1) lines ≡ lines = take-append-drop (line + 1) lines in
    let here : first_too_deep limit lines ≡ Some (length (take line lines)) =
    ap (first_too_deep limit) (sym whole ∙ ap (λ front. front ++ drop (line + 1) lines) next)
    ∙ too_deep_stays limit (take line lines ++ text ∷ []) (drop (line + 1) lines) (length (take line lines)) (deep refl) in
    ap (λ o. option_or o (first_other (units setting.entities lines))) (here ∙ ap Some (length-take-le line lines (omega (arith, below))))
undefined_at setting lines line text block.NoMemory below next deep = tt
undefined_at setting lines line text block.Failed below next deep = tt

-- ---- what is answered behind the last line

module _ (setting : Setting) (lines : List (List ℕ)) (defined : Defined) (fits : first_too_deep setting.options.max_containers lines ≡ None)
    (all : Defines (units setting.entities lines) defined) where
  undefining : undefining_line setting lines ≡ defined.other
  undefining = ap (λ o. option_or o (first_other (units setting.entities lines))) fits ∙ sym all.other

  pub definitions_alone : (o : Option ℕ) (result : Result (BTreeMap (List ℕ) Target) EditFault) → defined.other ≡ o → EndsAt o defined.targets result
      → OnOk result (undefining_line setting lines ≡ None)
  definitions_alone None result is ends = rw ends (undefining ∙ is)
  definitions_alone (Some line) result is ends = rw ends tt

  pub labels_defined : (o : Option ℕ) (result : Result (BTreeMap (List ℕ) Target) EditFault) → defined.other ≡ o → EndsAt o defined.targets result
      → IfOk result (λ targets. shown targets.entries ≡ with_units [] (units setting.entities lines))
  labels_defined None result is ends = rw ends (all.labels is)
  labels_defined (Some line) result is ends = rw ends tt

  pub undefined : (o : Option ℕ) (result : Result (BTreeMap (List ℕ) Target) EditFault) → defined.other ≡ o → EndsAt o defined.targets result
      → IfErr result (IsUndefiningAt (undefining_line setting lines))
  undefined None result is ends = rw ends tt
  undefined (Some line) result is ends = rw ends (undefining ∙ is)
