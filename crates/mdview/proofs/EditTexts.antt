-- What an edit reads of inline texts, in the words of the whole text before it and behind it.
use Rattle.std.proofs.Common.{◌≡◌, ℕ, ◌+◌, ◌-◌, ◌^◌, ◌<◌, ◌≤◌, inl, inr, Bool, true, false, List, [], ◌∷◌, ◌++◌, Option, Some, None, Result, Ok, Err, length, map, find, take, drop, get_or, cond, option_map, if◌then◌else◌, refl, sym, ◌∙◌, ap, subst, arith}
use Rattle.std.specs.Prelude.{IfOk, IfSome, OnOk, nat_eq, slice_get, sum_by}
use Rattle.std.specs.List.{All, take-map, drop-map}
use Rattle.std.specs.Option.{option_or}
use Rattle.std.proofs.lemmas.Bool.Decides.{nat_tests}
use Rattle.std.proofs.lemmas.List.{get_or-map, length-drop, length-map, length-take, take_all}
use Rattle.std.proofs.lemmas.List.Elements.{All-cons, All-head, All-nil, All-tail}
use Rattle.std.proofs.lemmas.List.Folds.{flat_map-map}
use Rattle.std.proofs.lemmas.List.Sums.{sum_by-cons}
use Rattle.mdtext.specs.EntityTable.{EntityTable}
use Rattle.mdleaf.specs.DefinedLinks.{LinkDefinition}
use Rattle.blockspec.specs.BlockUnits.{definitions_of, units}
use Rattle.blockspec.specs.LinkDefinitions.{first_definition}
use Rattle.blockspec.specs.UnitTree.{FoundUnit, UnitTree}
use Rattle.blockspec.proofs.DocumentLaws.{first_of_both}
use Rattle.inlinespec.specs.LabelMap.{target_in}
use Rattle.inlinespec.specs.LinkTails.{Table}
use Rattle.mdsource.specs.Changes.{texts_due}
use Rattle.mdsource.specs.LabelTable.{table, table_of, target_defined}
use Rattle.mdsource.specs.Refusals.{Refusal, inline_refusal, inline_too_deep, nested_too_deep, nesting_refusal}
use Rattle.mdsource.specs.Setting.{Setting, Source}
use Rattle.mdsource.specs.Spliced.{IsSpliced}
use Rattle.mdsource.specs.Stretch.{Places, from_line, meeting_line, units_added, units_before, units_removed}
use Rattle.mdsource.specs.View.{viewed}
use Rattle.blockspec.specs.Nesting.{first_too_deep}
use Rattle.mdsource.specs.UnitTexts.{asking_texts, asking_units, deep_found, deep_from, is_deep_under, readings_under, trees_in}
use Rattle.mdsource.specs.UnitTiles.{front_of, lines_of, tile_of}
use Rattle.mdsource.proofs.AskingUnits.{texts_spliced, trees_of_tiles, trees_spliced}
use Rattle.mdsource.proofs.Counts.{spliced}
use Rattle.mdsource.proofs.Cuts.{begins_before_end, begins_in, begins_within, no_units}
use Rattle.mdsource.proofs.DeepUnits.{deep_spliced, refused_for_spans}
use Rattle.mdsource.proofs.LabelsLead.{units_lead}
use Rattle.mdsource.proofs.ReadingsUnder.{all_under, asking_texts_under, asking_units_under, deep_found_under, deep_from_under}
use Rattle.mdsource.proofs.Splices.{MeetsBehind, from_above, meets_behind}
use Rattle.mdsource.proofs.UnitTiles.{units_end}
use Rattle.mdsource.specs.LaterTexts.{asking_of}
use Rattle.mdblock.specs.FoundLists.{found_unit}
use Rattle.mdsource.specs.declared.fault.EditFault.{EditFault}
use Rattle.mdsource.specs.declared.fault.EditFault.TheVariants.{OutOfRange, BreakInLine, TooManyLines, TooLarge, NestedTooDeep, InlineTooDeep, NoMemory, NotDefinitions}
use Rattle.mdview.specs.declared.source.new_text.NewText.{NewText}
use Rattle.mdview.specs.declared.inlines.concerned_texts.Again.{Again}
use Rattle.mdview.specs.declared.blocks.reparse.Reparsed.{Reparsed}
use Rattle.mdview.specs.HeldBlocks.{HoldsUnits, IsReread as IsReadStretch, held_tile, lines_in, old_lines, places_of, tile_in}
use Rattle.mdview.specs.ReadUnits.{IsReadUnder, IsShallow}
use Rattle.mdview.specs.HeldTexts.{IsRefusedBy, IsReread, asking_in_parts, between, deep_in_parts, head_read, line_on, texts_in_parts}
use Rattle.mdsource.specs.TextFaults.{IsTextFault}
use Rattle.mdview.specs.HeldUnit.{HeldUnit, read_of, texts_in, unit_in}
use Rattle.mdview.specs.KeptTexts.{number_kept, texts_with_kept}
use Rattle.mdview.specs.LabelTargets.{led_by}
use Rattle.mdview.specs.NewText.{lines_of as new_lines}
use Rattle.mdview.specs.UnitsFound.{found_in, texts_kept, trees_found, units_found}
use Rattle.mdsource.specs.Preludes.{HeldPrelude, IsDefinedBy, target_beside}
use Rattle.mdview.proofs.KeptTexts.{kept_within, none_read}
use Rattle.mdview.proofs.ReadStretches.{is_edit}
use Rattle.mdview.proofs.Replacing.{head_behind}

-- ---- refusals

pub nested_in_none : (setting : Setting) (source : Source) → first_too_deep setting.options.max_containers source.lines ≡ None → nesting_refusal setting source ≡ inline_refusal setting source
nested_in_none setting source none = ap (λ o. option_or (option_map nested_too_deep o) (inline_refusal setting source)) none

pub texts_refused : (due : Option Refusal) (deep : Option ℕ) → due ≡ option_map inline_too_deep deep → (fault : EditFault) → IsTextFault deep fault → IsRefusedBy due fault
texts_refused due deep is (InlineTooDeep line) h = is ∙ ap (option_map inline_too_deep) h
texts_refused due deep is NoMemory h = tt
texts_refused due deep is (NestedTooDeep line) h = absurd h
texts_refused due deep is (NotDefinitions line) h = absurd h
texts_refused due deep is TooManyLines h = absurd h
texts_refused due deep is TooLarge h = absurd h
texts_refused due deep is (OutOfRange lines) h = absurd h
texts_refused due deep is (BreakInLine index) h = absurd h

-- what holds of a result
pub both_ok : {X Y : Type 0} (r : Result X Y) (P Q R : X → Type 0) → ((x : X) → P x → Q x → R x) → IfOk r P → IfOk r Q → IfOk r R
both_ok (Ok x) P Q R f p q = f x p q
both_ok (Err y) P Q R f p q = tt

pub when_ok : {X Y : Type 0} (r : Result X Y) {P Q : Type 0} → (P → Q) → OnOk r P → OnOk r Q
when_ok (Ok x) f p = f p
when_ok (Err y) f p = tt

no_line : (o : Option ℕ) → option_map inline_too_deep o ≡ None → o ≡ None
no_line None h = refl
no_line (Some line) h = cc

-- ---- where labels lead

both_defined : (a b : Option LinkDefinition) → option_or (option_map target_defined a) (option_map target_defined b) ≡ option_map target_defined (option_or a b)
both_defined None b = refl
both_defined (Some d) b = refl

-- Labels lead by the units and the prelude as they do in the text with its prelude.
pub led_by_text : (e : EntityTable) (lines : List (List ℕ)) (prelude : HeldPrelude) → IsDefinedBy e prelude → (label : List ℕ)
    → led_by (trees_in (units e lines)) prelude label ≡ table e (record { lines = lines; prelude = prelude.lines }) label
led_by_text e lines prelude defined label =
    let own = definitions_of (units e lines) in
    let beside = definitions_of (units e prelude.lines) in
    ap (λ ds. option_or (table_of ds label) (target_beside prelude label)) (flat_map-map (λ (u : UnitTree). u.definitions) (λ (one : FoundUnit). one.unit) (units e lines))
    ∙ ap (λ labels. option_or (table_of own label) (target_in labels label)) defined
    ∙ ap (option_or (table_of own label)) (units_lead (units e prelude.lines) [] label)
    ∙ both_defined (first_definition own label) (first_definition beside label)
    ∙ ap (option_map target_defined) (sym (first_of_both own beside label))

-- ---- units that are held

trees_by_tiles : (held : List HeldUnit) → map unit_in held ≡ map (λ (t : ℕ × UnitTree). t.1) (map held_tile held)
trees_by_tiles [] = refl
trees_by_tiles (u ∷ held) = ap (λ z. u.read.unit ∷ z) (trees_by_tiles held)

tiles_by_reads : (held : List HeldUnit) → map tile_in (map read_of held) ≡ map held_tile held
tiles_by_reads [] = refl
tiles_by_reads (u ∷ held) = ap (λ z. held_tile u ∷ z) (tiles_by_reads held)

module _ (e : EntityTable) (lines : List (List ℕ)) (head : ℕ) (held : List HeldUnit) (w : HoldsUnits e lines head (map read_of held)) where
  pub tiles_are : map held_tile held ≡ map tile_of (units e lines)
  tiles_are = sym (tiles_by_reads held) ∙ w.tiles

  pub trees_are : map unit_in held ≡ trees_in (units e lines)
  trees_are = trees_by_tiles held ∙ ap (map (λ (t : ℕ × UnitTree). t.1)) tiles_are ∙ trees_of_tiles (units e lines)

  sums : (xs : List HeldUnit) (us : List FoundUnit) → map held_tile xs ≡ map tile_of us → sum_by lines_in xs ≡ sum_by (λ k. k) (lines_of us)
  sums [] [] h = refl
  sums [] (v ∷ us) h = cc
  sums (u ∷ xs) [] h = cc
  sums (u ∷ xs) (v ∷ us) h =
      let one : u.read.lines ≡ v.lines = ap (λ l. (get_or l 0 (held_tile u)).0) h in
      let rest = sums xs us (ap (drop 1) h) in
      let a = sum_by-cons lines_in u xs in
      let b = sum_by-cons (λ k. k) v.lines (lines_of us) in
      omega (arith, one, rest, a, b)

  -- the lines before the first one and those of all of them are those of the text
  pub lines_are : head + sum_by lines_in held ≡ length lines
  lines_are = let all = sums held (units e lines) tiles_are in let end = units_end e lines in let before = w.before in omega (arith, all, end, before)

  -- where no unit of the text is too deep, none is that is held
  none_found : (limit : ℕ) (labels : Table) (us : List FoundUnit) → deep_found limit e labels us ≡ None → All (λ (t : UnitTree). is_deep_under limit e labels t ≡ false) (trees_in us)
  none_found limit labels [] h = All-nil (λ (t : UnitTree). is_deep_under limit e labels t ≡ false)
  none_found limit labels (u ∷ us) h = by (is_deep_under limit e labels u.unit) refl h (none_found limit labels us)
    where
      by : (t : Bool) → is_deep_under limit e labels u.unit ≡ t → option_map (λ (v : FoundUnit). v.begin) (cond t (Some u) (find (λ (v : FoundUnit). is_deep_under limit e labels v.unit) us)) ≡ None
          → (deep_found limit e labels us ≡ None → All (λ (x : UnitTree). is_deep_under limit e labels x ≡ false) (trees_in us))
          → All (λ (x : UnitTree). is_deep_under limit e labels x ≡ false) (u.unit ∷ trees_in us)
      by true is g rest = cc
      by false is g rest = All-cons (λ (x : UnitTree). is_deep_under limit e labels x ≡ false) u.unit (trees_in us) is (rest g)

  pub units_shallow : (limit : ℕ) (labels : Table) → deep_found limit e labels (units e lines) ≡ None → All (IsShallow limit e labels) held
  units_shallow limit labels none k d below =
      let P : UnitTree → Type 0 = λ t. is_deep_under limit e labels t ≡ false in
      let many = length-map held unit_in in
      subst P (get_or-map unit_in held k d (unit_in d) below)
      (subst (All P) (sym trees_are) (none_found limit labels (units e lines) none) k (unit_in d) (omega (arith, below, many)))

-- readings under labels that lead alike
pub all_read_under : (e : EntityTable) (one other : Table) → ((label : List ℕ) → one label ≡ other label) → (held : List HeldUnit) → All (IsReadUnder e one) held → All (IsReadUnder e other) held
all_read_under e one other same held all k d below = all k d below ∙ all_under e one other (get_or held k d).read.unit.texts same

pub all_reread_under : (e : EntityTable) (one other : Table) → ((label : List ℕ) → one label ≡ other label) → (trees : List UnitTree) (again : List Again)
    → All (IsReread e one trees) again → All (IsReread e other trees) again
all_reread_under e one other same trees again all k d below = by (slice_get trees (get_or again k d).unit) (all k d below)
  where
    by : (o : Option UnitTree) → IfSome o (λ u. (get_or again k d).inlines.items ≡ readings_under e one u) → IfSome o (λ u. (get_or again k d).inlines.items ≡ readings_under e other u)
    by None h = h
    by (Some u) h = h ∙ all_under e one other u.texts same

-- ---- what an edit reads

module _ (setting : Setting) (text : NewText) (prelude : HeldPrelude) (was : ℕ) (held : List HeldUnit) (reparsed : Reparsed) (w : HoldsUnits setting.entities (old_lines text) was (map read_of held))
    (r : IsReadStretch setting.entities text reparsed) (before after : Table) where
  abbrev e : EntityTable
  e = setting.entities

  abbrev limit : ℕ
  limit = setting.options.max_spans

  abbrev p : Places
  p = places_of e text

  abbrev stretch : List FoundUnit
  stretch = units e (drop (from_line p) (take (meeting_line p) (new_lines text)))

  s : IsSpliced e (old_lines text) (new_lines text) p
  s = spliced e (old_lines text) (new_lines text) p (is_edit e text)

  pub found_is : units_found reparsed ≡ stretch
  found_is = r.found ∙ ap (λ n. units e (drop n (take reparsed.meet (new_lines text)))) r.from ∙ ap (λ n. units e (drop (from_line p) (take n (new_lines text)))) r.meet

  from_front : {A : Type 0} (xs : List A) → between 0 reparsed.first xs ≡ take (units_before p) xs
  from_front xs = let same : reparsed.first - 0 ≡ units_before p = let a = r.first in omega (arith, a) in ap (λ n. take n xs) same

  to_end : {A : Type 0} (xs : List A) → between reparsed.next (length xs) xs ≡ drop (units_before p + units_removed p) xs
  to_end xs = let many = length-drop reparsed.next xs in take_all (length xs - reparsed.next) (drop reparsed.next xs) (omega (arith, many)) ∙ ap (λ n. drop n xs) r.next

  front_trees : map unit_in (between 0 reparsed.first held) ≡ take (units_before p) (trees_in (units e (old_lines text)))
  front_trees = ap (map unit_in) (from_front held) ∙ sym (take-map unit_in (units_before p) held) ∙ ap (take (units_before p)) (trees_are e (old_lines text) was held w)

  back_trees : map unit_in (between reparsed.next (length held) held) ≡ drop (units_before p + units_removed p) (trees_in (units e (old_lines text)))
  back_trees = ap (map unit_in) (to_end held) ∙ sym (drop-map unit_in (units_before p + units_removed p) held) ∙ ap (drop (units_before p + units_removed p)) (trees_are e (old_lines text) was held w)

  front_tiles : map held_tile (between 0 reparsed.first held) ≡ take (units_before p) (map tile_of (units e (old_lines text)))
  front_tiles = ap (map held_tile) (from_front held) ∙ sym (take-map held_tile (units_before p) held) ∙ ap (take (units_before p)) (tiles_are e (old_lines text) was held w)

  back_tiles : map held_tile (between reparsed.next (length held) held) ≡ drop (units_before p + units_removed p) (map tile_of (units e (old_lines text)))
  back_tiles = ap (map held_tile) (to_end held) ∙ sym (drop-map held_tile (units_before p + units_removed p) held) ∙ ap (drop (units_before p + units_removed p)) (tiles_are e (old_lines text) was held w)

  -- the trees behind the edit
  pub new_trees : ((take reparsed.first (map unit_in held) ++ trees_found reparsed) ++ drop reparsed.next (map unit_in held)) ≡ trees_in (units e (new_lines text))
  unfolding s
  new_trees =
      ap (λ n. (take n (map unit_in held) ++ trees_found reparsed) ++ drop reparsed.next (map unit_in held)) r.first
      ∙ ap (λ n. (take (units_before p) (map unit_in held) ++ trees_found reparsed) ++ drop n (map unit_in held)) r.next
      ∙ ap (λ us. (take (units_before p) us ++ trees_found reparsed) ++ drop (units_before p + units_removed p) us) (trees_are e (old_lines text) was held w)
      ∙ ap (λ us. (take (units_before p) (trees_in (units e (old_lines text))) ++ trees_in us) ++ drop (units_before p + units_removed p) (trees_in (units e (old_lines text)))) found_is
      ∙ sym (trees_spliced setting before after (old_lines text) (new_lines text) p s)

  -- the numbers of units that are read again
  pub numbers_are : (one two : Table) → ((label : List ℕ) → one label ≡ before label) → ((label : List ℕ) → two label ≡ after label)
      → asking_in_parts e one two held reparsed.first reparsed.next ≡ asking_in_parts e before after held reparsed.first reparsed.next
  numbers_are one two f g =
      ap (λ l. l ++ asking_units e one two reparsed.next (map unit_in (between reparsed.next (length held) held))) (asking_units_under e one two before after f g 0 (map unit_in (between 0 reparsed.first held)))
      ∙ ap (λ l. asking_units e before after 0 (map unit_in (between 0 reparsed.first held)) ++ l) (asking_units_under e one two before after f g reparsed.next (map unit_in (between reparsed.next (length held) held)))

  -- how many texts are read: those that are kept only where they asked
  pub texts_by_kept : (one two : Table) → ((label : List ℕ) → one label ≡ before label) → ((label : List ℕ) → two label ≡ after label)
      → texts_in_parts e one two held reparsed + length (texts_kept reparsed)
      ≡ texts_due before after (units_before p) (units_added p) 0 (map (viewed setting after) (units e (new_lines text))) + asking_of e one two (texts_kept reparsed)
  unfolding s
  texts_by_kept one two f g =
      let a = asking_texts_under e one two before after f g (map unit_in (between 0 reparsed.first held)) ∙ ap (asking_texts e before after) front_trees in
      let b = ap (λ us. sum_by texts_in (trees_in us)) found_is in
      let c = asking_texts_under e one two before after f g (map unit_in (between reparsed.next (length held) held)) ∙ ap (asking_texts e before after) back_trees in
      let all = texts_spliced setting before after (old_lines text) (new_lines text) p s in
      let within = kept_within (option_map number_kept reparsed.kept) (trees_found reparsed) in
      omega (arith, a, b, c, all, within)

  -- ---- where spans lie too deep first

  on_small : (from n : ℕ) (us : List FoundUnit) → from + n < 2 ^ 64 → All (λ b. b < n) (begins_in us)
      → option_map (line_on from) (deep_found limit e after us) ≡ option_map (λ line. from + line) (deep_found limit e after us)
  on_small from n [] small all = refl
  on_small from n (u ∷ us) small all =
      by (is_deep_under limit e after u.unit) (on_small from n us small (All-tail (λ b. b < n) u.begin (begins_in us) all))
    where
      here : line_on from u.begin ≡ from + u.begin
      here = let low = All-head (λ b. b < n) u.begin (begins_in us) all in grind (arith, low, small)

      by : (t : Bool) → option_map (line_on from) (deep_found limit e after us) ≡ option_map (λ line. from + line) (deep_found limit e after us)
          → option_map (line_on from) (option_map (λ (v : FoundUnit). v.begin) (cond t (Some u) (find (λ (v : FoundUnit). is_deep_under limit e after v.unit) us)))
          ≡ option_map (λ line. from + line) (option_map (λ (v : FoundUnit). v.begin) (cond t (Some u) (find (λ (v : FoundUnit). is_deep_under limit e after v.unit) us)))
      by true rest = ap (λ n. Some n) here
      by false rest = rest

  front_line : deep_from limit e after (head_read was reparsed) (take (units_before p) (map tile_of (units e (old_lines text))))
      ≡ deep_from limit e after (front_of (length (old_lines text)) (units e (old_lines text))) (take (units_before p) (map tile_of (units e (old_lines text))))
  unfolding s
  front_line = by (nat_eq reparsed.from 0) refl
    where
      by : (t : Bool) → nat_eq reparsed.from 0 ≡ t → deep_from limit e after (if t then front_of reparsed.meet (units_found reparsed) else was) (take (units_before p) (map tile_of (units e (old_lines text))))
          ≡ deep_from limit e after (front_of (length (old_lines text)) (units e (old_lines text))) (take (units_before p) (map tile_of (units e (old_lines text))))
      by true h =
          let from : from_line p ≡ 0 = let a = r.from in grind (arith, nat_tests, h, a) in
          let none : units_before p ≡ 0 = s.first ∙ ap (λ n. length (units e (take n (old_lines text)))) from ∙ ap (λ us. length us) (no_units e) in
          ap (λ n. deep_from limit e after (front_of reparsed.meet (units_found reparsed)) (take n (map tile_of (units e (old_lines text))))) none
          ∙ ap (λ n. deep_from limit e after (front_of (length (old_lines text)) (units e (old_lines text))) (take n (map tile_of (units e (old_lines text))))) (sym none)
      by false h = ap (λ n. deep_from limit e after n (take (units_before p) (map tile_of (units e (old_lines text))))) w.before

  pub deep_is : (two : Table) → ((label : List ℕ) → two label ≡ after label) → length (old_lines text) ≤ 1000000 → length (new_lines text) ≤ 1000000
      → deep_in_parts limit e two (head_read was reparsed) held reparsed ≡ deep_found limit e after (units e (new_lines text))
  deep_is two g few small =
      ap (λ o. option_or o (option_or (option_map (line_on reparsed.from) (deep_found limit e two (units_found reparsed))) (deep_from limit e two reparsed.meet (map held_tile (between reparsed.next (length held) held))))) front
      ∙ ap (λ o. option_or inside_front (option_or o (deep_from limit e two reparsed.meet (map held_tile (between reparsed.next (length held) held))))) middle
      ∙ ap (λ o. option_or inside_front (option_or (option_map (λ line. from_line p + line) (deep_found limit e after stretch)) o)) back
      ∙ sym (deep_spliced limit e after (old_lines text) (new_lines text) p (is_edit e text))
    where
      inside_front : Option ℕ
      inside_front = deep_from limit e after (front_of (length (old_lines text)) (units e (old_lines text))) (take (units_before p) (map tile_of (units e (old_lines text))))

      front : deep_from limit e two (head_read was reparsed) (map held_tile (between 0 reparsed.first held)) ≡ inside_front
      front = deep_from_under limit e two after g (head_read was reparsed) (map held_tile (between 0 reparsed.first held)) ∙ ap (deep_from limit e after (head_read was reparsed)) front_tiles ∙ front_line

      above : from_line p + length (drop (from_line p) (take (meeting_line p) (new_lines text))) < 2 ^ 64
      above =
          let a = from_above e (old_lines text) (new_lines text) p (is_edit e text) in
          let b = (is_edit e text).fits in
          let c = length-drop (from_line p) (take (meeting_line p) (new_lines text)) in
          let d = length_take_le (meeting_line p) (new_lines text) in
          omega (arith, a, b, c, d, few, small)
        where
          length_take_le : (n : ℕ) (xs : List (List ℕ)) → length (take n xs) ≤ length xs
          length_take_le n xs = let size = length-take n xs in grind (arith, size)

      middle : option_map (line_on reparsed.from) (deep_found limit e two (units_found reparsed)) ≡ option_map (λ line. from_line p + line) (deep_found limit e after stretch)
      middle =
          ap (option_map (line_on reparsed.from)) (deep_found_under limit e two after g (units_found reparsed) ∙ ap (deep_found limit e after) found_is)
          ∙ ap (λ n. option_map (line_on n) (deep_found limit e after stretch)) r.from
          ∙ on_small (from_line p) (length (drop (from_line p) (take (meeting_line p) (new_lines text)))) stretch above (begins_within e (drop (from_line p) (take (meeting_line p) (new_lines text))))

      back : deep_from limit e two reparsed.meet (map held_tile (between reparsed.next (length held) held))
          ≡ deep_from limit e after (meeting_line p) (drop (units_before p + units_removed p) (map tile_of (units e (old_lines text))))
      back =
          deep_from_under limit e two after g reparsed.meet (map held_tile (between reparsed.next (length held) held))
          ∙ ap (λ n. deep_from limit e after n (map held_tile (between reparsed.next (length held) held))) r.meet
          ∙ ap (deep_from limit e after (meeting_line p)) back_tiles

  -- ---- how large the numbers are

  pub head_small : length (new_lines text) ≤ 1000000 → head_read was reparsed ≤ 1000000
  head_small few =
      let is = head_behind e text was held reparsed w r (head_read was reparsed) refl in
      let end = units_end e (new_lines text) in
      omega (arith, is, end, few)

  pub meet_small : length (new_lines text) ≤ 1000000 → reparsed.meet ≤ 1000000
  meet_small few = by (meets_behind e (old_lines text) (new_lines text) p (is_edit e text))
    where
      by : MeetsBehind e (old_lines text) (new_lines text) p → reparsed.meet ≤ 1000000
      by (inl h) = let m = r.meet in omega (arith, h, m, few)
      by (inr h) = let m = r.meet in let small = begins_before_end e (new_lines text) (meeting_line p) h.1 in omega (arith, small, m, few)

  pub held_small : length (old_lines text) ≤ 1000000 → sum_by lines_in held ≤ 1000000
  held_small few = let all = lines_are e (old_lines text) was held w in omega (arith, all, few)

-- no span of the text before lies too deep
pub none_deep_before : (setting : Setting) (source : Source) → inline_refusal setting source ≡ None
    → deep_found setting.options.max_spans setting.entities (table setting.entities source) (units setting.entities source.lines) ≡ None
none_deep_before setting source none = no_line _ (sym (refused_for_spans setting source) ∙ none)

-- ---- a new prelude, which leaves all units

module _ (e : EntityTable) (before after : Table) (limit : ℕ) (held : List HeldUnit) (r : Reparsed) (first : r.first ≡ 0) (next : r.next ≡ 0) (found : found_in r ≡ []) where
  none_front : {A : Type 0} (xs : List A) → between 0 r.first xs ≡ []
  none_front xs = let none : r.first - 0 ≡ 0 = omega (arith, first) in ap (λ n. take n xs) none

  all_back : {A : Type 0} (xs : List A) → between r.next (length xs) xs ≡ xs
  all_back xs = let all : length xs - r.next ≡ length xs = omega (arith, next) in ap (λ n. take n (drop r.next xs)) all ∙ ap (λ n. take (length xs) (drop n xs)) next ∙ take_all (length xs) xs (omega arith)

  pub deep_by_all : (head : ℕ) → deep_in_parts limit e after head held r ≡ deep_from limit e after r.meet (map held_tile held)
  deep_by_all head =
      ap (λ us. option_or (deep_from limit e after head (map held_tile us)) (option_or (option_map (line_on r.from) (deep_found limit e after (units_found r))) (deep_from limit e after r.meet (map held_tile (between r.next (length held) held))))) (none_front held)
      ∙ ap (λ us. option_or (option_map (line_on r.from) (deep_found limit e after us)) (deep_from limit e after r.meet (map held_tile (between r.next (length held) held)))) (ap (map found_unit) found)
      ∙ ap (λ us. deep_from limit e after r.meet (map held_tile us)) (all_back held)

  pub numbers_by_all : asking_in_parts e before after held r.first r.next ≡ asking_units e before after 0 (map unit_in held)
  numbers_by_all =
      ap (λ us. asking_units e before after 0 (map unit_in us) ++ asking_units e before after r.next (map unit_in (between r.next (length held) held))) (none_front held)
      ∙ ap (λ us. asking_units e before after r.next (map unit_in us)) (all_back held)
      ∙ ap (λ n. asking_units e before after n (map unit_in held)) next

  pub texts_by_all : texts_in_parts e before after held r ≡ asking_texts e before after (map unit_in held)
  texts_by_all =
      let a = ap (λ us. asking_texts e before after (map unit_in us)) (none_front held) in
      let b = ap (λ us. texts_with_kept e before after (option_map number_kept r.kept) (trees_in us)) (ap (map found_unit) found) in
      let c = ap (λ us. asking_texts e before after (map unit_in us)) (all_back held) in
      let x : asking_texts e before after [] ≡ 0 = refl in
      let y = none_read e before after (option_map number_kept r.kept) in
      omega (arith, a, b, c, x, y)
