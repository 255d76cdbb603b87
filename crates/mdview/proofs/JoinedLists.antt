-- A list of which a held list has items: its texts, its blocks and its piece.
use Rattle.std.proofs.Common.{◌≡◌, ◌≤◌, ◌<◌, ℕ, zero, suc, ◌+◌, ◌-◌, ◌||◌, Bool, true, false, List, [], ◌∷◌, ◌++◌, String, Option, None, Some, append_assoc, drop, length, length-append, map, string_bytes, take, refl, sym, ◌∙◌, ap, subst, arith}
use Rattle.std.specs.Global.{Global}
use Rattle.std.specs.List.{AllByRecursion, list_any}
use Rattle.std.proofs.lemmas.Bool.{or_parts}
use Rattle.std.proofs.lemmas.List.{drop-map, length-drop, length-map, length-take-le, map-append, take-map}
use Rattle.std.proofs.lemmas.List.Folds.{list_any-append}
use Rattle.std.proofs.Math.Seq.{drop-append_seam, take-append_seam}
use Rattle.mdtext.specs.EntityTable.{EntityTable}
use Rattle.blockspec.specs.UnitTree.{UnitTree}
use Rattle.mdblock.specs.Copies.{IsBehind, items_positions}
use Rattle.mdblock.specs.FoundLists.{FoundList}
use Rattle.mdblock.specs.Fronted.{ListBase, behind_base, items_staying, texts_staying}
use Rattle.mdblock.specs.Insets.{FitsInto, FitsList, ListInset, TakesIn, inset_front}
use Rattle.mdblock.specs.Positions.{ItemsIn}
use Rattle.mdblock.specs.Seams.{IsOwnBase, ListSeam, seam_front, seam_inset, seam_list}
use Rattle.mdblock.specs.Spliced.{as_first_list, drop_items, first_items, mark_at, spliced_list, spliced_marks, take_items, tight_list}
use Rattle.mdblock.proofs.CopyLaws.{items_in}
use Rattle.mdblock.proofs.FrontedValues.{fronted_length, own_fits, own_front, placed_items, placed_texts, seam_blocks, seam_enough, seam_first, seam_read, seam_room, seam_texts}
use Rattle.mdblock.proofs.TextOrder.{behind_is, items_in_order}
use Rattle.mdhtml.specs.InsetLists.{inset_blocks, inset_items, inset_readings}
use Rattle.inlinespec.specs.ParsedText.{ParsedText}
use Rattle.mdsource.specs.Refusals.{is_deep}
use Rattle.mdsource.specs.UnitTexts.{readings_under}
use Rattle.mdsource.specs.View.{reading_of}
use Rattle.mdsource.proofs.ReadingsUnder.{unasked_stays}
use Rattle.mdview.specs.AlikeUnits.{AreAlike}
use Rattle.mdview.specs.HeldTexts.{entities_in, labels_before, labels_behind}
use Rattle.mdview.specs.LabelTargets.{IsElsewhere, at}
use Rattle.mdview.specs.declared.inlines.UnitTextReader.{UnitTextReader}
use Rattle.mdview.specs.declared.pieces.text_room.Alike.{Alike}
use Rattle.mdview.specs.declared.pieces.text_room.TextRoom.{TextRoom}
use Rattle.mdview.proofs.NoneAsking.{none_asks}
use Rattle.mdview.specs.HeldLists.{list_in, unplaced}
use Rattle.mdview.specs.HeldUnit.{AreEnds, HeldUnit, html_of}
use Rattle.mdview.specs.JoinedLists.{AreBetween, GoesInto, texts_in_front}
use Rattle.mdview.specs.TextSetting.{IsReadFrom, TextSetting, are_deep, reading_as, readings_as, texts_under}
use Rattle.mdview.specs.UnitInsets.{FitsUnit, put_in}
use Rattle.mdview.specs.WrittenPieces.{IsPieceOf}
use Rattle.mdview.specs.declared.held.unit_insets.UnitInset.{UnitInset}

all_behind : (n from : ℕ) (ps : List ℕ) (end : ℕ) → n ≤ from → IsBehind from ps end → AllByRecursion (λ p. n ≤ p) ps
all_behind n from [] end low w = tt
all_behind n from (p ∷ ps) end low w = let is = w.0 in (omega (arith, low, is), all_behind n (from + 1) ps end (omega (arith, low)) w.1)

all_before : (from : ℕ) (ps : List ℕ) (end : ℕ) → IsBehind from ps end → AllByRecursion (λ p. p < end) ps
all_before from [] end w = tt
all_before from (p ∷ ps) end w = let is = w.0 in let e = behind_is (from + 1) end ps w.1 in (omega (arith, is, e), all_before (from + 1) ps end w.1)

none_first : {A : Type 0} (p : A → Bool) (n : ℕ) (xs : List A) → list_any p xs ≡ false → list_any p (take n xs) ≡ false
none_first p zero xs h = refl
none_first p (suc n) [] h = refl
none_first p (suc n) (x ∷ xs) h = let w = or_parts (p x) (list_any p xs) h in ap (λ b. b || list_any p (take n xs)) w.0 ∙ none_first p n xs w.1

none_later : {A : Type 0} (p : A → Bool) (n : ℕ) (xs : List A) → list_any p xs ≡ false → list_any p (drop n xs) ≡ false
none_later p zero xs h = h
none_later p (suc n) [] h = h
none_later p (suc n) (x ∷ xs) h = none_later p n xs (or_parts (p x) (list_any p xs) h).1

-- the readings that are held are those of now where no label leads elsewhere
pub held_stays : (reader : UnitTextReader) → IsElsewhere reader.labels.now.held.now reader.labels.now.changes.now → ((label : List ℕ) → at label reader.labels.now.changes.now.targets.entries ≡ None) →
    (e : EntityTable) (u : HeldUnit) → u.read.readings ≡ readings_under e (labels_before reader) u.read.unit → u.read.readings ≡ map (reading_of e (labels_behind reader)) u.read.unit.texts
held_stays reader elsewhere none e u read = read ∙ unasked_stays e (labels_before reader) (labels_behind reader) u.read.unit (none_asks reader elsewhere none e u.read.unit)

-- readings between held ones are alike where the held ones are
pub alike_made : (front between inlines : List ParsedText) (at : ℕ) (like : Alike) → like.front ≡ at → like.behind ≡ length (drop (at + length between) like.unit.now.read.readings) →
    at + length between ≤ length like.unit.now.read.readings → front ≡ take at like.unit.now.read.readings →
    inlines ≡ front ++ (between ++ drop (at + length between) like.unit.now.read.readings) → AreAlike inlines like
alike_made front between inlines at like first behind room front_is is =
    let h = like.unit.now.read.readings in
    let end = at + length between in
    let d = drop end h in
    let left = length-drop end h in
    let begin : length front ≡ at = ap length front_is ∙ length-take-le at h (omega (arith, room)) in
    let count = length-append between d in
    let size : length inlines ≡ length front + length (between ++ d) = ap length is ∙ length-append front (between ++ d) in
    let all : length inlines - like.behind ≡ length (front ++ between) = (let e = length-append front between in omega (arith, size, count, behind, e)) in
    let held : length h - like.behind ≡ end = omega (arith, left, behind, room) in
    record {
      front_within = omega (arith, first, begin, size);
      front_within_like = omega (arith, first, room);
      front =
          ap (λ k. take k inlines) (first ∙ sym begin)
          ∙ ap (take (length front)) is
          ∙ take-append_seam front (between ++ d)
          ∙ front_is
          ∙ ap (λ k. take k h) (sym first);
      behind_within = omega (arith, size, count, behind);
      behind_within_like = omega (arith, left, behind);
      behind =
          ap (λ k. drop k inlines) all
          ∙ ap (drop (length (front ++ between))) (is ∙ sym (append_assoc front between d))
          ∙ drop-append_seam (front ++ between) d
          ∙ ap (λ k. drop k h) (sym held);
    }

abbrev setting_with : UnitTextReader → EntityTable → TextSetting
setting_with reader e = record { entities = e; options = reader.options.now; before = labels_before reader; behind = labels_behind reader }

-- texts are read in the same way where the entities stay
pub same_setting : (reader : UnitTextReader) (old new : TextRoom) → entities_in new ≡ entities_in old → texts_under reader new ≡ texts_under reader old
same_setting reader old new is = ap (setting_with reader) is

-- the base is the same where the list stands elsewhere
own_there : (base : Option ListBase) (old : FoundList) (join : ℕ) → IsOwnBase base old join → IsOwnBase base (unplaced old) join
own_there None old join w = w
own_there (Some b) old join w = w

or_first : (a b : Bool) → (a || (true || b)) ≡ true
or_first true b = refl
or_first false b = refl

-- what was read gives as many items as give way
count_read : (base : Option ListBase) (old part : FoundList) (join : ℕ) → IsOwnBase base old join → join < length old.marks → length (behind_base base part).marks ≡ join + 1 →
    items_staying base + length part.marks ≡ join + 1
count_read None old part join own within count = omega (arith, count)
count_read (Some b) old part join own within count =
    let same = ap length own.1 in
    let low = own.2 in
    let size = fronted_length b (omega (arith, same, low, within)) part.marks in
    omega (arith, size, count)

module _ (s : TextSetting) (seam : ListSeam) (u : HeldUnit) (w : GoesInto s seam u) where
  abbrev n : ℕ
  n = texts_in_front seam

  abbrev a : ℕ
  a = texts_staying seam.base

  abbrev k : ℕ
  k = seam.join + 1

  abbrev m : ℕ
  m = length seam.part.marks

  put : FitsInto (seam_front seam) seam.old seam.join
  put = record { even = w.even; puts = w.fits w.even }

  room : TakesIn seam.old.unit (placed_items (seam_inset seam)) (placed_texts (seam_inset seam)) (items_staying seam.base) k a n
  room = seam_room seam w.own w.order put w.part

  pub before_low : a ≤ n
  before_low = room.later

  read_is : k - items_staying seam.base ≡ m
  read_is = let c = count_read seam.base seam.old seam.part seam.join w.own w.even.within w.even.count in omega (arith, c)

  pub unit_is : seam.old.unit ≡ u.read.unit
  unit_is = ap (λ (z : FoundList). z.unit) w.old

  own : IsOwnBase seam.base (list_in u) seam.join
  own = subst (λ z. IsOwnBase seam.base z seam.join) w.old (own_there seam.base seam.old seam.join w.own)

  pub fits : FitsList (seam_inset seam) (list_in u)
  fits = own_fits seam.base seam.part (list_in u) seam.join own w.order (subst (λ z. FitsInto (seam_front seam) z seam.join) w.old (record { even = w.even; puts = w.fits w.even }))

  list_is : seam_list seam ≡ spliced_list (inset_front (seam_inset seam) (list_in u)) (list_in u) seam.join
  list_is = ap (λ z. spliced_list (seam_front seam) z seam.join) w.old ∙ ap (λ z. spliced_list z (list_in u) seam.join) (own_front seam.base seam.part (list_in u) seam.join own)

  -- ---- texts

  texts_are : (seam_list seam).unit.texts ≡ take a u.read.unit.texts ++ (take (n - a) seam.part.unit.texts ++ drop n u.read.unit.texts)
  texts_are = seam_texts seam w.own w.order put w.part ∙ ap (λ (z : UnitTree). take a z.texts ++ (take (n - a) seam.part.unit.texts ++ drop n z.texts)) unit_is

  held_within : n ≤ length u.read.unit.texts
  held_within = let few = room.room in let b = ap (λ (z : UnitTree). length z.texts) unit_is in omega (arith, few, b)

  module _ (stays : u.read.readings ≡ readings_as s u.read.unit.texts) where
    all_read : take a u.read.readings ++ (readings_as s (take (n - a) seam.part.unit.texts) ++ drop n u.read.readings) ≡ readings_as s (seam_list seam).unit.texts
    all_read =
        let F = take a u.read.unit.texts in
        let M = take (n - a) seam.part.unit.texts in
        let L = drop n u.read.unit.texts in
        ap (λ z. take a z ++ (readings_as s M ++ drop n z)) stays
        ∙ ap (λ z. z ++ (readings_as s M ++ drop n (readings_as s u.read.unit.texts))) (take-map (reading_as s) a u.read.unit.texts)
        ∙ ap (λ z. readings_as s F ++ (readings_as s M ++ z)) (drop-map (reading_as s) n u.read.unit.texts)
        ∙ ap (λ z. readings_as s F ++ z) (sym (map-append (reading_as s) M L))
        ∙ sym (map-append (reading_as s) F (M ++ L))
        ∙ ap (readings_as s) (sym texts_are)

    abbrev deep : List ParsedText → Bool
    deep = list_any (is_deep s.options.max_spans)

    deep_is : are_deep s (seam_list seam).unit.texts ≡ (deep (take a u.read.readings) || (are_deep s (take (n - a) seam.part.unit.texts) || deep (drop n u.read.readings)))
    deep_is =
        let M = readings_as s (take (n - a) seam.part.unit.texts) in
        ap deep (sym all_read)
        ∙ list_any-append (is_deep s.options.max_spans) (take a u.read.readings) (M ++ drop n u.read.readings)
        ∙ ap (λ b. deep (take a u.read.readings) || b) (list_any-append (is_deep s.options.max_spans) M (drop n u.read.readings))

    module _ (part : List (String Global)) (part_is : map string_bytes part ≡ take (n - a) seam.part.unit.texts) where
      pub some_deep : are_deep s (map string_bytes part) ≡ true → are_deep s (seam_list seam).unit.texts ≡ true
      some_deep h =
          deep_is
          ∙ ap (λ b. deep (take a u.read.readings) || (b || deep (drop n u.read.readings))) (ap (are_deep s) (sym part_is) ∙ h)
          ∙ or_first (deep (take a u.read.readings)) (deep (drop n u.read.readings))

      pub none_deep : are_deep s (map string_bytes part) ≡ false → list_any (is_deep s.options.max_spans) u.read.readings ≡ false → are_deep s (seam_list seam).unit.texts ≡ false
      none_deep h g =
          deep_is
          ∙ ap (λ b. b || (are_deep s (take (n - a) seam.part.unit.texts) || deep (drop n u.read.readings))) (none_first (is_deep s.options.max_spans) a u.read.readings g)
          ∙ ap (λ b. b || deep (drop n u.read.readings)) (ap (are_deep s) (sym part_is) ∙ h)
          ∙ none_later (is_deep s.options.max_spans) n u.read.readings g

      pub part_size : length part ≡ n - a
      part_size = sym (length-map part string_bytes) ∙ ap length part_is ∙ length-take-le (n - a) seam.part.unit.texts (seam_enough seam w.own w.order put w.part)

      pub between_is : (inlines : List ParsedText) → inlines ≡ readings_as s (map string_bytes part) → AreBetween s seam u inlines
      between_is inlines read =
          let is : inlines ≡ readings_as s (take (n - a) seam.part.unit.texts) = read ∙ ap (readings_as s) part_is in
          let size : length inlines ≡ length part = ap length read ∙ length-map (map string_bytes part) (reading_as s) ∙ length-map part string_bytes in
          let many = part_size in
          let low = before_low in
          let count : a + length inlines ≡ n = omega (arith, size, many, low) in
          let held : length u.read.readings ≡ length u.read.unit.texts = ap length stays ∙ length-map u.read.unit.texts (reading_as s) in
          let there = held_within in
          record {
            count = count;
            room = omega (arith, held, there);
            all = ap (λ z. take a u.read.readings ++ (inlines ++ drop z u.read.readings)) count ∙ ap (λ z. take a u.read.readings ++ (z ++ drop n u.read.readings)) is ∙ all_read;
          }

  pub part_of : (count : ℕ) (texts part : List (String Global)) → part ≡ take count texts → map string_bytes texts ≡ seam.part.unit.texts → count ≡ n - a →
      map string_bytes part ≡ take (n - a) seam.part.unit.texts
  part_of count texts part is bytes count_is =
      ap (map string_bytes) is ∙ sym (take-map string_bytes count texts) ∙ ap (take count) bytes ∙ ap (λ z. take z seam.part.unit.texts) count_is

  -- ---- blocks

  pub items_before : AllByRecursion (λ p. p < a) (items_positions (take_items (items_staying seam.base) (first_items u.read.unit.blocks)))
  items_before =
      subst (λ (z : UnitTree). AllByRecursion (λ p. p < a) (items_positions (take_items (items_staying seam.base) (first_items z.blocks)))) unit_is
      (all_before 0 (items_positions (take_items (items_staying seam.base) (first_items seam.old.unit.blocks))) a (seam_first seam w.own w.order put w.part))

  pub later_behind : AllByRecursion (λ p. n ≤ p) (items_positions (drop_items k (first_items u.read.unit.blocks)))
  later_behind =
      subst (λ (z : UnitTree). AllByRecursion (λ p. n ≤ p) (items_positions (drop_items k (first_items z.blocks)))) unit_is
      (all_behind n n (items_positions (drop_items k (first_items seam.old.unit.blocks))) (length seam.old.unit.texts) (omega arith) put.puts.later)

  pub in_order : IsBehind 0 (items_positions (take_items m (first_items seam.part.unit.blocks))) (n - a)
  in_order = subst (λ z. IsBehind 0 (items_positions (take_items z (first_items seam.part.unit.blocks))) (n - a)) read_is (seam_read seam w.own w.order put w.part)

  pub items_within : ItemsIn (n - a) (take_items m (first_items seam.part.unit.blocks))
  items_within =
      let K = take_items m (first_items seam.part.unit.blocks) in
      let start = behind_is 0 (n - a) (items_positions K) in_order in
      subst (ItemsIn (n - a)) (items_in_order 0 (n - a) K in_order) (items_in 0 (n - a) K (omega (arith, start)))

  pub piece_blocks : inset_blocks (items_staying seam.base) a (take_items m (first_items seam.part.unit.blocks)) k u.read.unit.blocks ≡ (seam_list seam).unit.blocks
  piece_blocks =
      let O = first_items seam.old.unit.blocks in
      let I = first_items seam.part.unit.blocks in
      let T = tight_list seam.old.parted (spliced_marks (seam_front seam).marks seam.old.marks seam.join) in
      ap (λ (z : UnitTree). inset_blocks (items_staying seam.base) a (take_items m I) k z.blocks) (sym unit_is)
      ∙ sym (w.alike (inset_items (items_staying seam.base) a (take_items m I) k O))
      ∙ ap (λ z. as_first_list T (inset_items (items_staying seam.base) a (take_items z I) k O) (seam_front seam).unit.blocks) (sym read_is)
      ∙ sym (seam_blocks seam w.own w.order put w.part)

  -- ---- the held list with the items in place

  module _ (i : UnitInset) (is : i.inset ≡ seam_inset seam) where
    list_put : seam_list seam ≡ spliced_list (inset_front i.inset (list_in u)) (list_in u) i.inset.join
    list_put = list_is ∙ sym (ap (λ (z : ListInset). spliced_list (inset_front z (list_in u)) (list_in u) z.join) is)

    pub fits_unit : a + length i.inlines.items ≡ n → FitsUnit i u
    fits_unit count =
        record {
          fits = subst (λ (z : ListInset). FitsList z (list_in u)) (sym is) fits;
          texts = ap (λ (z : ListInset). z.before + length i.inlines.items) is ∙ count ∙ ap (λ (z : FoundList). (mark_at z.marks seam.join).texts) w.old
              ∙ sym (ap (λ (z : ListInset). (mark_at u.read.items z.join).texts) is);
        }

    pub joined : AreBetween s seam u i.inlines.items → IsPieceOf s.options (inset_readings a i.inlines.items u.read.readings) (seam_list seam).unit.blocks i.piece → IsReadFrom s (seam_list seam) (put_in i u)
    joined between piece =
        let R = inset_readings i.inset.before i.inlines.items u.read.readings in
        let same : R ≡ inset_readings a i.inlines.items u.read.readings = ap (λ (z : ListInset). inset_readings z.before i.inlines.items u.read.readings) is in
        let there : IsPieceOf s.options R (seam_list seam).unit.blocks i.piece = subst (λ z. IsPieceOf s.options z (seam_list seam).unit.blocks i.piece) (sym same) piece in
        record {
          list = ap unplaced (sym list_put);
          read = same ∙ between.all ∙ ap (λ (z : FoundList). readings_as s z.unit.texts) list_put;
          rendered = (
            there.0 ∙ ap (λ (z : FoundList). html_of s.options z.unit R) list_put,
            subst (λ (z : FoundList). AreEnds s.options R z.unit.blocks i.piece.ends) list_put there.1,
          );
        }
