-- How many texts of found units are read where texts of the last one are held, and what these read as.
use Rattle.std.proofs.Common.{◌≡◌, ℕ, zero, suc, ◌+◌, ◌-◌, ◌≤◌, Bool, true, false, ◌||◌, List, [], ◌∷◌, ◌++◌, Option, Some, None, String, length, map, take, drop, string_bytes, option_map, refl, sym, ◌∙◌, ap, subst, arith}
use Rattle.std.specs.Prelude.{IfSome, fold, slice_get, sum_by}
use Rattle.std.specs.Global.{Global}
use Rattle.std.specs.List.{All, list_any}
use Rattle.std.specs.Option.{option_or}
use Rattle.std.proofs.lemmas.Bool.{or_parts}
use Rattle.std.proofs.lemmas.List.{drop_all, drop-map, length-drop, map-append, take-append-drop, take_all}
use Rattle.std.proofs.lemmas.List.Folds.{list_any-append}
use Rattle.std.proofs.lemmas.List.Sums.{fold-append, sum_by-cons, sum_by_push}
use Rattle.mdtext.specs.EntityTable.{EntityTable}
use Rattle.inlinespec.specs.ParsedText.{ParsedText}
use Rattle.blockspec.specs.UnitTree.{FoundUnit, UnitTree}
use Rattle.inlinespec.specs.LinkTails.{Table}
use Rattle.mdinline.specs.declared.faults.InlineFault.{InlineFault}
use Rattle.mdinline.specs.declared.faults.InlineFault.TheVariants.{TooDeep, NoMemory}
use Rattle.mdsource.specs.Refusals.{is_deep}
use Rattle.mdsource.specs.View.{reading_of}
use Rattle.mdsource.specs.UnitTexts.{deep_found, is_deep_under}
use Rattle.mdsource.proofs.DeepUnits.{found_append}
use Rattle.mdsource.specs.LaterTexts.{asking_of}
use Rattle.mdsource.specs.declared.fault.EditFault.{EditFault}
use Rattle.mdview.specs.declared.inlines.kept_texts.KeptReadings.{KeptReadings}
use Rattle.mdview.specs.declared.blocks.reparse.KeptTexts.{KeptTexts}
use Rattle.mdview.specs.HeldTexts.{line_on}
use Rattle.mdsource.specs.TextFaults.{IsTextFault, text_fault_in}
use Rattle.mdview.specs.HeldUnit.{HeldUnit, IsRendered, texts_in}
use Rattle.mdview.specs.KeptTexts.{IsKept, kept_texts, last_texts, number_kept, number_read, texts_with_kept}
use Rattle.mdview.proofs.CommittedTexts.{read_member}
use Rattle.mdview.proofs.FoundTexts.{deep_first, deep_later}
use Rattle.mdview.specs.TextSetting.{DidReadIn, DidReadLast, TextSetting}
use Rattle.mdview.proofs.ReadParts.{fault_in_front}
use Rattle.mdview.proofs.ToldTexts.{shallow_readings}

-- ---- how many

pub none_of_none : (at : Option ℕ) → kept_texts at [] ≡ []
none_of_none None = refl
none_of_none (Some at) = drop_all at [] (omega arith)

last_within : (texts : List (List ℕ)) (trees : List UnitTree) → length (fold (λ (before : List (List ℕ)) (unit : UnitTree). unit.texts) texts trees) ≤ length texts + sum_by texts_in trees
last_within texts [] = let none : sum_by texts_in [] ≡ 0 = refl in omega (arith, none)
last_within texts (tree ∷ trees) =
    let rest = last_within tree.texts trees in
    let sum = sum_by-cons texts_in tree trees in
    omega (arith, rest, sum)

pub kept_within : (at : Option ℕ) (trees : List UnitTree) → length (kept_texts at trees) ≤ sum_by texts_in trees
kept_within None trees = omega arith
kept_within (Some at) trees =
    let last = last_within [] trees in
    let size = length-drop at (last_texts trees) in
    omega (arith, last, size)

-- the texts of the last one
pub last_pushed : (trees : List UnitTree) (tree : UnitTree) → last_texts (trees ++ tree ∷ []) ≡ tree.texts
last_pushed trees tree = fold-append (λ (before : List (List ℕ)) (unit : UnitTree). unit.texts) [] trees (tree ∷ [])

module _ (e : EntityTable) (old new : Table) where
  pub none_read : (at : Option ℕ) → texts_with_kept e old new at [] ≡ 0
  none_read at =
      let none = ap (λ l. length l) (none_of_none at) in
      let asking = ap (asking_of e old new) (none_of_none at) in
      let sum : sum_by texts_in [] ≡ 0 = refl in
      omega (arith, none, asking, sum)

  -- of the last one those in front of the kept ones
  pub last_with_kept : (trees : List UnitTree) (tree : UnitTree) (at : ℕ) → at ≤ length tree.texts
      → texts_with_kept e old new (Some at) (trees ++ tree ∷ []) ≡ sum_by texts_in trees + (at + asking_of e old new (drop at tree.texts))
  last_with_kept trees tree at within =
      let is = last_pushed trees tree in
      let many = ap (λ texts. length (drop at texts)) is in
      let size = length-drop at tree.texts in
      let asking = ap (λ texts. asking_of e old new (drop at texts)) is in
      let sum = sum_by_push texts_in trees tree in
      omega (arith, many, size, asking, sum, within)

-- ---- texts in two parts

module _ {A : Type 0} (f : List ℕ → A) (texts : List (String Global)) (all : List (List ℕ)) (bytes : map string_bytes texts ≡ all) (at : ℕ) where
  -- those from a number on
  abbrev behind : List (String Global)
  behind = take (length texts - at) (drop at texts)

  behind_is : behind ≡ drop at texts
  behind_is = let size = length-drop at texts in take_all (length texts - at) (drop at texts) (omega (arith, size))

  pub part_is : drop at all ≡ map string_bytes behind
  part_is = ap (drop at) (sym bytes) ∙ drop-map string_bytes at texts ∙ ap (map string_bytes) (sym behind_is)

  -- the readings of all are those of both parts
  pub both_parts : map f (map string_bytes (take at texts)) ++ map f (map string_bytes behind) ≡ map f all
  both_parts =
      sym (map-append f (map string_bytes (take at texts)) (map string_bytes behind))
      ∙ ap (map f) (sym (map-append string_bytes (take at texts) behind) ∙ ap (λ l. map string_bytes (take at texts ++ l)) behind_is ∙ ap (map string_bytes) (take-append-drop at texts) ∙ bytes)

  module _ (p : A → Bool) where
    parts_any : list_any p (map f all) ≡ (list_any p (map f (map string_bytes (take at texts))) || list_any p (map f (map string_bytes behind)))
    parts_any = ap (list_any p) (sym both_parts) ∙ list_any-append p (map f (map string_bytes (take at texts))) (map f (map string_bytes behind))

    or_true : (b : Bool) → (b || true) ≡ true
    or_true true = refl
    or_true false = refl

    pub front_passes : list_any p (map f (map string_bytes (take at texts))) ≡ true → list_any p (map f all) ≡ true
    front_passes h = parts_any ∙ ap (λ b. b || list_any p (map f (map string_bytes behind))) h

    pub behind_passes : list_any p (map f (map string_bytes behind)) ≡ true → list_any p (map f all) ≡ true
    behind_passes h =
        parts_any ∙ ap (λ b. list_any p (map f (map string_bytes (take at texts))) || b) h ∙ or_true (list_any p (map f (map string_bytes (take at texts))))

    pub neither_passes : list_any p (map f (map string_bytes (take at texts))) ≡ false → list_any p (map f (map string_bytes behind)) ≡ false → list_any p (map f all) ≡ false
    neither_passes h k = parts_any ∙ ap (λ b. b || list_any p (map f (map string_bytes behind))) h ∙ k

-- ---- units found, with one more behind them

pub none_mapped : {A B : Type 0} (f : A → B) (o : Option A) → option_map f o ≡ None → o ≡ None
none_mapped f None h = refl
none_mapped f (Some x) h = absurd (let z : ⊥ = cc in z)

either_line : (f : ℕ → ℕ) (a b : Option ℕ) → option_map f (option_or a b) ≡ option_or (option_map f a) (option_map f b)
either_line f None b = refl
either_line f (Some a) b = refl

module _ (limit : ℕ) (e : EntityTable) (labels : Table) (us : List FoundUnit) (u : FoundUnit) where
  pub deep_behind : deep_found limit e labels us ≡ None → deep_found limit e labels (us ++ u ∷ []) ≡ deep_found limit e labels (u ∷ [])
  deep_behind none = found_append limit e labels us (u ∷ []) ∙ ap (λ o. option_or o (deep_found limit e labels (u ∷ []))) none

  pub none_deep_found : deep_found limit e labels us ≡ None → is_deep_under limit e labels u.unit ≡ false → deep_found limit e labels (us ++ u ∷ []) ≡ None
  none_deep_found none shallow = deep_behind none ∙ deep_later limit e labels u [] shallow

  pub last_deep : deep_found limit e labels us ≡ None → is_deep_under limit e labels u.unit ≡ true → deep_found limit e labels (us ++ u ∷ []) ≡ Some u.begin
  last_deep none deep = deep_behind none ∙ deep_first limit e labels u [] deep

  pub fault_before : (from : ℕ) (fault : EditFault) → IsTextFault (option_map (line_on from) (deep_found limit e labels us)) fault
      → IsTextFault (option_map (line_on from) (deep_found limit e labels (us ++ u ∷ []))) fault
  fault_before from fault h =
      subst (λ o. IsTextFault o fault) (sym (ap (option_map (line_on from)) (found_append limit e labels us (u ∷ [])) ∙ either_line (line_on from) (deep_found limit e labels us) (deep_found limit e labels (u ∷ []))))
      (fault_in_front (option_map (line_on from) (deep_found limit e labels us)) (option_map (line_on from) (deep_found limit e labels (u ∷ []))) fault h)

  -- the fault of the last one
  pub fault_last : (from : ℕ) (fault : InlineFault) → deep_found limit e labels us ≡ None → (fault ≡ TooDeep → is_deep_under limit e labels u.unit ≡ true)
      → IsTextFault (option_map (line_on from) (deep_found limit e labels (us ++ u ∷ []))) (text_fault_in fault (line_on from u.begin))
  fault_last from TooDeep none deep = ap (option_map (line_on from)) (last_deep none (deep refl))
  fault_last from NoMemory none deep = tt

-- ---- what the kept texts read as

none_dropped : {A : Type 0} (p : A → Bool) (n : ℕ) (xs : List A) → list_any p xs ≡ false → list_any p (drop n xs) ≡ false
none_dropped p n xs h =
    (or_parts (list_any p (take n xs)) (list_any p (drop n xs)) (sym (list_any-append p (take n xs) (drop n xs)) ∙ ap (list_any p) (take-append-drop n xs) ∙ h)).1

-- what is left behind some is told by how many there are
drop_end : {A : Type 0} (n : ℕ) (xs : List A) → drop (length xs - length (drop n xs)) xs ≡ drop n xs
drop_end zero xs = let z : length xs - length xs ≡ 0 = omega arith in ap (λ k. drop k xs) z
drop_end (suc n) [] = refl
drop_end (suc n) (x ∷ xs) =
    let size = length-drop n xs in
    let k : suc (length xs) - length (drop n xs) ≡ suc (length xs - length (drop n xs)) = omega (arith, size) in
    ap (λ z. drop z (x ∷ xs)) k ∙ drop_end n xs

number_or : ℕ → Option ℕ → ℕ
number_or n None = n
number_or n (Some k) = k

module _ (s : TextSetting) (units : List HeldUnit) (trees : List UnitTree) (did : All (DidReadIn s) units) (rendered : All (IsRendered s.options) units) where
  kept_by : (part : KeptTexts) (readings : KeptReadings) → IsKept units trees part → readings.at ≡ part.at
      → ((unit : HeldUnit) → slice_get units part.unit ≡ Some unit → readings.readings.now ≡ drop part.from unit.read.readings) → slice_get units part.unit ≡ Some readings.unit.now
      → DidReadLast s (last_texts trees) readings
  kept_by part readings w at is like =
      let read = reading_of s.entities s.before in
      let deep = is_deep s.options.max_spans in
      let here = read_member (DidReadIn s) units part.unit w.unit w.held did in
      let there = read_member (DidReadIn s) units part.unit readings.unit.now like did in
      let texts = w.unit.read.unit.texts in
      let all = readings.unit.now.read.readings in
      let held_part : readings.readings.now ≡ drop part.from all = is readings.unit.now like in
      record {
        readings = record {
          at = subst (λ n. n ≤ length (last_texts trees)) (sym at) w.at;
          readings = is w.unit w.held ∙ ap (drop part.from) here.read ∙ drop-map read part.from texts ∙ ap (map read) (sym w.texts) ∙ ap (λ n. map read (drop n (last_texts trees))) (sym at);
          shallow = ap (list_any deep) (is w.unit w.held) ∙ none_dropped deep part.from w.unit.read.readings (shallow_readings s w.unit here);
          part = held_part ∙ sym (drop_end part.from all) ∙ ap (λ (z : List ParsedText). drop (length all - length z) all) (sym held_part);
          within = subst (λ (z : List ParsedText). length z ≤ length all) (sym held_part) (let z = length-drop part.from all in omega (arith, z));
          like = there.read;
          like_shallow = there.shallow;
        };
        rendered = read_member (IsRendered s.options) units part.unit readings.unit.now like rendered;
      }

  -- Readings of the kept texts are those that the held unit has of them.
  pub kept_read : (kept : Option KeptTexts) (result : Option KeptReadings) → IfSome kept (IsKept units trees) → option_map number_read result ≡ option_map number_kept kept
      → IfSome result (λ readings. IfSome kept (λ part. (unit : HeldUnit) → slice_get units part.unit ≡ Some unit → readings.readings.now ≡ drop part.from unit.read.readings))
      → IfSome result (λ readings. IfSome kept (λ part. slice_get units part.unit ≡ Some readings.unit.now)) → IfSome result (DidReadLast s (last_texts trees))
  unfolding number_or
  kept_read kept None w at is like = tt
  kept_read None (Some readings) w at is like = cc
  kept_read (Some part) (Some readings) w at is like = kept_by part readings w (ap (number_or 0) at) is like
