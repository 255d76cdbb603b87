-- A unit in the place of a held one: which of its texts read as those of the held one, where no label leads elsewhere.
use Rattle.std.proofs.Common.{◌≡◌, ℕ, zero, suc, ◌-◌, ◌≤◌, ◌<◌, List, [], ◌∷◌, None, drop, length, map, take, refl, sym, ◌∙◌, ap, subst, arith}
use Rattle.std.proofs.lemmas.List.{drop-map, length-drop, length-map, length-take, take-map}
use Rattle.std.proofs.Math.Seq.{drop-length}
use Rattle.mdtext.specs.EntityTable.{EntityTable}
use Rattle.inlinespec.specs.ParsedText.{ParsedText}
use Rattle.blockspec.specs.UnitTree.{UnitTree}
use Rattle.mdsource.specs.View.{reading_of}
use Rattle.mdsource.specs.UnitTexts.{readings_under}
use Rattle.mdsource.proofs.ReadingsUnder.{unasked_stays}
use Rattle.mdview.specs.AlikeUnits.{AreAlike}
use Rattle.mdview.specs.HeldTexts.{labels_before, labels_behind}
use Rattle.mdview.specs.HeldUnit.{HeldUnit}
use Rattle.mdview.specs.KeptTexts.{AreReadingsOf}
use Rattle.mdview.specs.LabelTargets.{IsElsewhere, at}
use Rattle.mdview.specs.declared.inlines.kept_texts.KeptReadings.{KeptReadings}
use Rattle.mdview.specs.declared.inlines.UnitTextReader.{UnitTextReader}
use Rattle.mdview.specs.declared.pieces.text_room.Alike.{Alike}
use Rattle.mdview.proofs.NoneAsking.{none_asks}

pub take_within : {A : Type 0} (n m : ℕ) (xs : List A) → n ≤ m → take n (take m xs) ≡ take n xs
take_within zero m xs low = refl
take_within (suc n) zero xs low = absurd (omega (arith, low))
take_within (suc n) (suc m) [] low = refl
take_within (suc n) (suc m) (x ∷ xs) low = ap (λ z. x ∷ z) (take_within n m xs (omega (arith, low)))

module _ (reader : UnitTextReader) (elsewhere : IsElsewhere reader.labels.now.held.now reader.labels.now.changes.now) (e : EntityTable) where
  abbrev NoneLeads : Type 0
  NoneLeads = (label : List ℕ) → at label reader.labels.now.changes.now.targets.entries ≡ None

  -- texts at the front
  front_reads : (n same : ℕ) (texts : List (List ℕ)) (u : HeldUnit) → u.read.readings ≡ readings_under e (labels_before reader) u.read.unit → take same texts ≡ take same u.read.unit.texts →
      (0 < n → (n ≡ same) × NoneLeads) → take n (map (reading_of e (labels_behind reader)) texts) ≡ take n u.read.readings
  front_reads zero same texts u read is w = refl
  front_reads (suc n) same texts u read is w =
      let v = w (omega arith) in
      let new = reading_of e (labels_behind reader) in
      take-map new (suc n) texts
      ∙ ap (λ k. map new (take k texts)) v.0
      ∙ ap (map new) is
      ∙ ap (λ k. map new (take k u.read.unit.texts)) (sym v.0)
      ∙ sym (take-map new (suc n) u.read.unit.texts)
      ∙ ap (take (suc n)) (sym (unasked_stays e (labels_before reader) (labels_behind reader) u.read.unit (none_asks reader elsewhere v.1 e u.read.unit)) ∙ sym read)

  front_few : (n same : ℕ) (texts : List (List ℕ)) (u : HeldUnit) → u.read.readings ≡ readings_under e (labels_before reader) u.read.unit → same ≤ length texts → take same texts ≡ take same u.read.unit.texts →
      (0 < n → (n ≡ same) × NoneLeads) → (n ≤ length texts) × (n ≤ length u.read.readings)
  front_few zero same texts u read low is w = (omega arith, omega arith)
  front_few (suc n) same texts u read low is w =
      let v = (w (omega arith)).0 in
      let one = length-take same texts in
      let other = length-take same u.read.unit.texts in
      let both : length (take same texts) ≡ length (take same u.read.unit.texts) = ap length is in
      let size : length u.read.readings ≡ length u.read.unit.texts = ap length read ∙ length-map u.read.unit.texts (reading_of e (labels_before reader)) in
      (omega (arith, v, low), omega (arith, v, low, one, other, both, size))

  -- a unit of which only texts at the front are known to be alike
  pub alike_front : (n same : ℕ) (texts : List (List ℕ)) (inlines : List ParsedText) (like : Alike) → like.front ≡ n → like.behind ≡ 0 → inlines ≡ map (reading_of e (labels_behind reader)) texts →
      like.unit.now.read.readings ≡ readings_under e (labels_before reader) like.unit.now.read.unit → same ≤ length texts → take same texts ≡ take same like.unit.now.read.unit.texts →
      (0 < n → (n ≡ same) × NoneLeads) → AreAlike inlines like
  alike_front n same texts inlines like front behind is read low same_texts w =
      let u = like.unit.now in
      let few = front_few n same texts u read low same_texts w in
      let size : length inlines ≡ length texts = ap length is ∙ length-map texts (reading_of e (labels_behind reader)) in
      record {
        front_within = omega (arith, front, few.0, size);
        front_within_like = omega (arith, front, few.1);
        front = ap (λ k. take k inlines) front ∙ ap (take n) is ∙ front_reads n same texts u read same_texts w ∙ ap (λ k. take k u.read.readings) (sym front);
        behind_within = omega (arith, behind);
        behind_within_like = omega (arith, behind);
        behind = ap (λ k. drop (length inlines - k) inlines) behind ∙ none_behind inlines ∙ sym (none_behind u.read.readings) ∙ ap (λ k. drop (length u.read.readings - k) u.read.readings) (sym behind);
      }
    where
      none_behind : (xs : List ParsedText) → drop (length xs - 0) xs ≡ []
      none_behind xs = let z : length xs - 0 ≡ length xs = omega arith in ap (λ k. drop k xs) z ∙ drop-length xs

  record BehindAlike (inlines : List ParsedText) (like : Alike) : Type 0 where
    within : like.behind ≤ length inlines
    within_like : like.behind ≤ length like.unit.now.read.readings
    same : drop (length inlines - like.behind) inlines ≡ drop (length like.unit.now.read.readings - like.behind) like.unit.now.read.readings

  behind_reads : (limit m : ℕ) (texts : List (List ℕ)) (inlines : List ParsedText) (kept : KeptReadings) (like : Alike) → like.unit.now ≡ kept.unit.now → like.behind ≡ m → inlines ≡ map (reading_of e (labels_behind reader)) texts →
      AreReadingsOf limit e (labels_before reader) texts kept → (0 < m → (m ≡ length kept.readings.now) × NoneLeads) → BehindAlike inlines like
  behind_reads limit zero texts inlines kept like unit behind is w v =
      let none : (xs : List ParsedText) → drop (length xs - 0) xs ≡ [] = λ xs. (let z : length xs - 0 ≡ length xs = omega arith in ap (λ k. drop k xs) z ∙ drop-length xs) in
      let all = like.unit.now.read.readings in
      record {
        within = omega (arith, behind);
        within_like = omega (arith, behind);
        same = ap (λ k. drop (length inlines - k) inlines) behind ∙ none inlines ∙ sym (none all) ∙ ap (λ k. drop (length all - k) all) (sym behind);
      }
  behind_reads limit (suc m) texts inlines kept like unit behind is w v =
      let x = v (omega arith) in
      let old = reading_of e (labels_before reader) in
      let new = reading_of e (labels_behind reader) in
      let rest = drop kept.at texts in
      let u : UnitTree = record { blocks = kept.unit.now.read.unit.blocks; definitions = []; texts = rest } in
      let all = kept.unit.now.read.readings in
      let size : length inlines ≡ length texts = ap length is ∙ length-map texts new in
      let few : length kept.readings.now ≡ length rest = ap length w.readings ∙ length-map rest old in
      let left = length-drop kept.at texts in
      let low = w.at in
      let at_is : length inlines - like.behind ≡ kept.at = omega (arith, size, few, left, low, behind, x.0) in
      record {
        within = omega (arith, size, few, left, behind, x.0);
        within_like = subst (λ (z : HeldUnit). like.behind ≤ length z.read.readings) (sym unit) (let y = w.within in omega (arith, y, behind, x.0));
        same =
            ap (λ k. drop k inlines) at_is
            ∙ ap (drop kept.at) is
            ∙ drop-map new kept.at texts
            ∙ sym (unasked_stays e (labels_before reader) (labels_behind reader) u (none_asks reader elsewhere x.1 e u))
            ∙ sym w.readings
            ∙ w.part
            ∙ ap (λ k. drop (length all - k) all) (sym (behind ∙ x.0))
            ∙ ap (λ (z : HeldUnit). drop (length z.read.readings - like.behind) z.read.readings) (sym unit);
      }

  -- one of which texts at the end are those that are kept
  pub alike_kept : (limit n m same : ℕ) (texts : List (List ℕ)) (inlines : List ParsedText) (kept : KeptReadings) (like : Alike) → like.unit.now ≡ kept.unit.now → like.front ≡ n → like.behind ≡ m →
      inlines ≡ map (reading_of e (labels_behind reader)) texts → AreReadingsOf limit e (labels_before reader) texts kept → same ≤ length texts → take same texts ≡ take same kept.unit.now.read.unit.texts →
      (0 < n → (n ≡ same) × NoneLeads) → (0 < m → (m ≡ length kept.readings.now) × NoneLeads) → AreAlike inlines like
  alike_kept limit n m same texts inlines kept like unit front behind is w low same_texts v x =
      let u = kept.unit.now in
      let few = front_few n same texts u w.like low same_texts v in
      let size : length inlines ≡ length texts = ap length is ∙ length-map texts (reading_of e (labels_behind reader)) in
      let b = behind_reads limit m texts inlines kept like unit behind is w x in
      record {
        front_within = omega (arith, front, few.0, size);
        front_within_like = subst (λ (z : HeldUnit). like.front ≤ length z.read.readings) (sym unit) (omega (arith, front, few.1));
        front = ap (λ k. take k inlines) front ∙ ap (take n) is ∙ front_reads n same texts u w.like same_texts v ∙ ap (λ k. take k u.read.readings) (sym front)
            ∙ ap (λ (z : HeldUnit). take like.front z.read.readings) (sym unit);
        behind_within = b.within;
        behind_within_like = b.within_like;
        behind = b.same;
      }
