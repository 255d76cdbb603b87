-- Units that an edit brings, the last of which is a list that goes on in a held one.
use Rattle.std.proofs.Common.{◌≡◌, ◌≤◌, ◌+◌, ◌-◌, ◌<◌, ℕ, zero, suc, List, [], ◌∷◌, ◌++◌, Option, Some, None, arith, option_map, refl, slice_get, subst, sym, ap, ◌∙◌}
use Rattle.std.specs.Prelude.{IfSome, IsSome, length, map}
use Rattle.std.specs.Option.{option_to_list}
use Rattle.std.specs.List.{All}
use Rattle.std.proofs.lemmas.List.{map-append}
use Rattle.blockspec.specs.UnitTree.{FoundUnit}
use Rattle.mdblock.specs.FoundLists.{FoundList, found_unit}
use Rattle.mdblock.specs.Seams.{ListSeam, seam_list}
use Rattle.mdview.specs.BroughtUnits.{Adds}
use Rattle.mdsource.specs.UnitTexts.{trees_in}
use Rattle.mdview.specs.HeldUnit.{HeldUnit, IsRendered}
use Rattle.mdview.specs.JoinedLists.{GoesInto, IsJoined, texts_in_front}
use Rattle.mdview.specs.KeptTexts.{IsKept, last_texts}
use Rattle.mdview.specs.TextSetting.{AreReadFrom, DidReadIn, TextSetting}
use Rattle.mdview.specs.UnitsFound.{IsHeldOn, found_in, trees_found, with_list}
use Rattle.mdview.specs.declared.blocks.reparse.Reparsed.{Reparsed}
use Rattle.mdview.specs.UnitInsets.{FitsUnit, put_in}
use Rattle.mdview.specs.Update.{IsInLast, with_inset}
use Rattle.mdview.specs.declared.inlines.brought_units.BroughtUnits.{BroughtUnits}
use Rattle.mdview.specs.declared.inlines.spliced_lists.JoinedList.{JoinedList}
use Rattle.mdview.specs.declared.inlines.spliced_lists.JoinedList.TheVariants.{Made, Inset}
use Rattle.mdview.proofs.CommittedTexts.{read_member}
use Rattle.mdview.proofs.KeptTexts.{last_pushed}
use Rattle.mdview.proofs.ToldTexts.{read_behind}

-- what is seen as a member is there
pub some_of : {A B : Type 0} (f : A → B) (o : Option A) (x : B) → option_map f o ≡ Some x → IsSome o
some_of f None x is = cc
some_of f (Some a) x is = refl

module _ (s : TextSetting) (held : List HeldUnit) (found : List FoundList) (seam : ListSeam) (units : List HeldUnit) (number : ℕ) (unit : HeldUnit) (is : slice_get held number ≡ Some unit) where
  pub read_joined : (joined : JoinedList) (brought : BroughtUnits) → AreReadFrom s found units → IsJoined s seam number unit joined → Adds units joined brought
      → AreReadFrom s (found ++ seam_list seam ∷ []) (with_inset held brought.units.items brought.inset)
  read_joined (Made u) brought all one adds =
      subst (λ o. AreReadFrom s (found ++ seam_list seam ∷ []) (with_inset held brought.units.items o)) (sym adds.1)
      (subst (λ us. AreReadFrom s (found ++ seam_list seam ∷ []) us) (sym adds.0) (read_behind s found (seam_list seam) units u all one))
  read_joined (Inset i) brought all one adds =
      let at : slice_get held i.unit ≡ Some unit = ap (slice_get held) one.0 ∙ is in
      let with : with_inset held brought.units.items (Some i) ≡ units ++ put_in i unit ∷ [] =
      ap (λ us. us ++ option_to_list (option_map (put_in i) (slice_get held i.unit))) adds.0 ∙ ap (λ o. units ++ option_to_list (option_map (put_in i) o)) at in
      subst (λ o. AreReadFrom s (found ++ seam_list seam ∷ []) (with_inset held brought.units.items o)) (sym adds.1)
      (subst (λ us. AreReadFrom s (found ++ seam_list seam ∷ []) us) (sym with) (read_behind s found (seam_list seam) units (put_in i unit) all one.2))

  pub in_last : (first next : ℕ) (joined : JoinedList) (brought : BroughtUnits) → number + 1 ≡ next → first ≤ number → IsJoined s seam number unit joined → Adds units joined brought
      → IsInLast held first next brought.inset
  in_last first next (Made u) brought above low one adds = subst (λ o. IsInLast held first next o) (sym adds.1) tt
  in_last first next (Inset i) brought above low one adds =
      let at : slice_get held i.unit ≡ Some unit = ap (slice_get held) one.0 ∙ is in
      let number_is = one.0 in
      subst (λ o. IsInLast held first next o) (sym adds.1)
      (omega (arith, number_is, above), omega (arith, number_is, low), subst (λ o. IfSome o (FitsUnit i)) (sym at) one.1)

-- ---- a list that was found and goes on in a held one

below : (held : List HeldUnit) (i : ℕ) (u : HeldUnit) → slice_get held i ≡ Some u → i < length held
below [] i u is = cc
below (v ∷ held) zero u is = omega arith
below (v ∷ held) (suc i) u is = let h = below held i u is in omega (arith, h)

-- the trees of units that were found and of one behind them
pub trees_behind : (found : List FoundList) (one : FoundList) → trees_in (map found_unit (found ++ one ∷ [])) ≡ trees_in (map found_unit found) ++ one.unit ∷ []
trees_behind found one =
    ap trees_in (map-append found_unit found (one ∷ [])) ∙ map-append (λ (f : FoundUnit). f.unit) (map found_unit found) (found_unit one ∷ [])

module _ (s : TextSetting) (held : List HeldUnit) (r : Reparsed) (l : ListSeam) (w : IsHeldOn held r l) where
  pub place : (r.first + 1 ≤ r.next) × (r.next ≤ length held)
  place =
      let low = w.first in
      let next = w.next in
      let h = below held w.number w.unit w.held in
      (omega (arith, low, next), omega (arith, next, h))

  pub goes : All (DidReadIn s) held → All (IsRendered s.options) held → IfSome (slice_get held (r.next - 1)) (GoesInto s l)
  goes read rendered =
      let next = w.next in
      let at : r.next - 1 ≡ w.number = omega (arith, next) in
      subst (λ o. IfSome o (GoesInto s l)) (sym (ap (slice_get held) at ∙ w.held)) (record {
        old = w.old;
        own = w.stays.own;
        even = w.stays.even;
        fits = w.fits.0;
        order = w.fits.1;
        part = w.stays.ordered;
        alike = w.stays.alike;
        read = read_member (DidReadIn s) held w.number w.unit w.held read;
        rendered = read_member (IsRendered s.options) held w.number w.unit w.held rendered;
      })

  pub within : r.list ≡ Some l → IfSome r.kept (IsKept held (trees_found r)) → texts_in_front l ≤ length (seam_list l).unit.texts
  unfolding found_in
  within is kept =
      let one = subst (λ k. IfSome k (IsKept held (trees_found r))) w.kept kept in
      let low = one.at in
      let trees : trees_found r ≡ trees_in (map found_unit r.found.items) ++ (seam_list l).unit ∷ [] =
      ap (λ o. trees_in (map found_unit (with_list r.found.items o))) is ∙ trees_behind r.found.items (seam_list l) in
      let texts : length (last_texts (trees_found r)) ≡ length (seam_list l).unit.texts = ap (λ ts. length (last_texts ts)) trees ∙ ap (λ t. length t) (last_pushed (trees_in (map found_unit r.found.items)) (seam_list l).unit) in
      omega (arith, low, texts)
