-- What is held after an exchange.
use Rattle.std.proofs.Common.{◌≡◌, ℕ, ◌+◌, ◌-◌, ◌^◌, ◌≤◌, ◌<◌, true, false, List, length, map, slice_get, refl, ap, ◌∙◌, sym, arith, nat_lt, option_map}
use Rattle.std.specs.Prelude.{◌==◌, sum_by}
use Rattle.std.specs.List.{All}
use Rattle.std.proofs.lemmas.Bool.{eqb-true, eq-eqb}
use Rattle.std.proofs.lemmas.Bool.Decides.{nat_tests}
use Rattle.std.proofs.lemmas.List.{length-map}
use Rattle.std.proofs.lemmas.Option.{slice_get-map}
use Rattle.blockspec.specs.UnitTree.{UnitTree}
use Rattle.htmlspec.specs.declared.options.Options.{Options}
use Rattle.mdview.specs.declared.inlines.concerned_texts.Again.{Again}
use Rattle.mdview.specs.declared.update.Update.{Update}
use Rattle.mdview.specs.HeldUnit.{HeldUnit, IsRendered, unit_in, texts_in}
use Rattle.mdview.specs.Lists.{replaced}
use Rattle.mdsource.specs.Patch.{Brings}
use Rattle.mdview.specs.Update.{IsPatchOf, IsFitFor, all_renewed, count_brought, number_after, units_brought}
use Rattle.mdsource.specs.ChangedPieces.{ChangedPieces}
use Rattle.mdview.proofs.PutUnits.{inset_count}
use Rattle.mdview.proofs.RenewedUnits.{all_rendered, unit_trees_stay, none_other, units_stay}
use Rattle.mdview.proofs.Sizes.{map_replaced}
use Rattle.mdview.proofs.Splices.{Stays, all_replaced, spliced_brings}

-- the patch counts the units that are brought
pub brought_count : (options : Options) (held : List HeldUnit) (r : Update) → IsFitFor options held r → length (units_brought held r) ≡ count_brought r
unfolding units_brought count_brought
brought_count options held r fit = inset_count held r.units.items r.inset r.first r.next fit.inset fit.within

-- what is held is rendered
pub committed_rendered : (options : Options) (units : List HeldUnit) (r : Update) → IsFitFor options units r → All (IsRendered options) units
    → All (IsRendered options) (replaced (all_renewed units r.again.items) r.first (r.next - r.first) (units_brought units r))
committed_rendered options units r fit all =
    all_replaced (IsRendered options) (all_renewed units r.again.items) (units_brought units r) r.first (r.next - r.first)
    (all_rendered options (map unit_in units) units r.again.items refl all fit.written) fit.pieces

-- a unit before those that go has its number afterwards
same_number : (r : Update) (i : ℕ) → i < r.next → (one : Again) → (one.unit == i) ≡ true → (number_after r one.unit == i) ≡ true
same_number r i below one e =
    let is : one.unit ≡ i = eqb-true one.unit i e in
    let low : nat_lt one.unit r.next ≡ true = grind (arith, nat_tests, is, below) in
    rw low e

-- one behind them is shifted
other_number : (r : Update) (j : ℕ) → r.first ≤ r.next → r.next ≤ j → j - (r.next - r.first) + count_brought r < 2 ^ 64 → (one : Again) → (one.unit == j) ≡ true
    → (number_after r one.unit == (j - (r.next - r.first) + count_brought r)) ≡ true
other_number r j order above small one e =
    let is : one.unit ≡ j = eqb-true one.unit j e in
    let high : nat_lt one.unit r.next ≡ false = grind (arith, nat_tests, is, above) in
    rw high (eq-eqb _ _ (omega (arith, is)))

as_many : (units : List HeldUnit) (again : List Again) → length (all_renewed units again) ≡ length units
as_many units again =
    sym (length-map (all_renewed units again) unit_in) ∙ ap length (unit_trees_stay units again) ∙ length-map units unit_in

-- a part of each unit, where the patch brings it and where not
pub committed_brings : {A : Type 0} (g : HeldUnit → A) (options : Options) (units : List HeldUnit) (r : Update) (patch : ChangedPieces) → IsFitFor options units r → IsPatchOf r patch
    → length units + count_brought r < 2 ^ 64
    → Brings patch (map g units) (map g (replaced (all_renewed units r.again.items) r.first (r.next - r.first) (units_brought units r)))
committed_brings {A} g options units r patch fit is small =
    let add : List HeldUnit = units_brought units r in
    let changed : List HeldUnit = all_renewed units r.again.items in
    let long : length (map g changed) ≡ length (map g units) = length-map changed g ∙ as_many units r.again.items ∙ sym (length-map units g) in
    let many = length-map units g in
    let within : patch.first + patch.removed ≤ length (map g units) = omega (arith, is.first, is.removed, fit.order, fit.within) in
    let count : patch.added ≡ length (map g add) = is.added ∙ sym (length-map add g ∙ brought_count options units r fit) in
    let stays : Stays patch (map g units) (map g changed) = record {
      before = λ i below none. part i (units_stay units r.again.items i (none_other (λ (one : Again). one.unit) (λ (one : Again). number_after r one.unit) i i (same_number r i (omega (arith, is.first, fit.order))) r.again.items (rw is.again at none)));
      behind = λ j above inside none. part j (units_stay units r.again.items j (none_other (λ (one : Again). one.unit) (λ (one : Again). number_after r one.unit) j (j - (r.next - r.first) + count_brought r)
          (other_number r j fit.order (omega (arith, is.first, is.removed, fit.order)) (omega arith)) r.again.items (rw (is.again, is.removed, is.added) at none)));
    } in
    let shape : map g (replaced changed r.first (r.next - r.first) add) ≡ replaced (map g changed) patch.first patch.removed (map g add) =
    map_replaced g changed add r.first (r.next - r.first) ∙ (rw (is.first, is.removed) refl) in
    rw shape (spliced_brings patch (map g units) (map g changed) (map g add) long within count stays)
  where
    part : (i : ℕ) → slice_get (all_renewed units r.again.items) i ≡ slice_get units i → slice_get (map g (all_renewed units r.again.items)) i ≡ slice_get (map g units) i
    part i same = slice_get-map g (all_renewed units r.again.items) i ∙ ap (option_map g) same ∙ sym (slice_get-map g units i)

abbrev in_units : List UnitTree → ℕ
in_units trees = sum_by texts_in trees
