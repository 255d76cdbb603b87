-- One of the units that give way is changed where it is held, and is the last of those that come.
use Rattle.std.proofs.Common.{◌≡◌, ℕ, zero, suc, ◌+◌, ◌-◌, ◌<◌, ◌≤◌, Bool, true, false, ◌||◌, cond, List, [], ◌∷◌, ◌++◌, Option, Some, None, append_assoc, drop, length, length-append, map, option_map, slice_get, take, refl, ap, ◌∙◌, subst, sym, arith}
use Rattle.std.specs.Prelude.{◌==◌, IfSome, nat_eq}
use Rattle.std.specs.List.{list_any}
use Rattle.std.specs.Option.{option_to_list, unwrap_or}
use Rattle.std.proofs.lemmas.Bool.Decides.{nat_tests}
use Rattle.std.proofs.lemmas.List.{length-map, length-take}
use Rattle.std.proofs.lemmas.List.Folds.{list_any-append}
use Rattle.std.proofs.lemmas.Option.{slice_get-get_or}
use Rattle.mdtext.specs.EntityTable.{EntityTable}
use Rattle.blockspec.specs.UnitTree.{UnitTree}
use Rattle.inlinespec.specs.LinkTails.{Table}
use Rattle.mdsource.specs.UnitTexts.{asking_units, asks_again}
use Rattle.mdview.specs.declared.held.unit_insets.UnitInset.{UnitInset}
use Rattle.mdview.specs.declared.inlines.concerned_texts.Again.{Again}
use Rattle.mdview.specs.HeldTexts.{asking_in_parts, between, number_again}
use Rattle.mdview.specs.HeldUnit.{HeldUnit, unit_in}
use Rattle.mdview.specs.Lists.{replaced}
use Rattle.mdview.specs.UnitInsets.{FitsUnit, put_in}
use Rattle.mdview.specs.Update.{IsApart, IsInLast, all_renewed, count_with, end_gone, inset_put, map_at, with_inset}
use Rattle.mdview.proofs.RenewedUnits.{units_stay}
use Rattle.mdview.proofs.UnitsBetween.{the_member}

-- ---- members

taken_before : {A : Type 0} (f : A → A) (xs : List A) (first n : ℕ) → first ≤ n → take first (map_at f n xs) ≡ take first xs
unfolding map_at
taken_before f xs zero n low = refl
taken_before f [] (suc first) n low = refl
taken_before f (x ∷ xs) (suc first) zero low = absurd (omega (arith, low))
taken_before f (x ∷ xs) (suc first) (suc n) low = ap (λ ys. x ∷ ys) (taken_before f xs first n (omega (arith, low)))

dropped_at : {A : Type 0} (f : A → A) (xs : List A) (n : ℕ) (x : A) → slice_get xs n ≡ Some x → drop n (map_at f n xs) ≡ f x ∷ drop (suc n) xs
unfolding map_at
dropped_at f [] n x is = cc
dropped_at f (y ∷ xs) zero x is = let same : y ≡ x = ap (λ o. unwrap_or o y) is in ap (λ z. f z ∷ xs) same
dropped_at f (y ∷ xs) (suc n) x is = dropped_at f xs n x is

-- Those in front of it are replaced, and it is changed: that is what is left where it is replaced too.
pub replaced_put : {A : Type 0} (f : A → A) (xs add : List A) (first n next : ℕ) (x : A) → first ≤ n → n + 1 ≡ next → slice_get xs n ≡ Some x
    → replaced (map_at f n xs) first (n - first) add ≡ replaced xs first (next - first) (add ++ f x ∷ [])
replaced_put f xs add first n next x low above is =
    let here : first + (n - first) ≡ n = omega (arith, low) in
    let behind : suc n ≡ first + (next - first) = omega (arith, low, above) in
    ap (λ k. take first (map_at f n xs) ++ add ++ drop k (map_at f n xs)) here
    ∙ ap (λ ys. ys ++ add ++ drop n (map_at f n xs)) (taken_before f xs first n low)
    ∙ ap (λ ys. take first xs ++ add ++ ys) (dropped_at f xs n x is)
    ∙ sym (append_assoc (take first xs ++ add) (f x ∷ []) (drop (suc n) xs))
    ∙ ap (λ ys. ys ++ drop (suc n) xs) (append_assoc (take first xs) add (f x ∷ []))
    ∙ ap (λ k. take first xs ++ (add ++ f x ∷ []) ++ drop k xs) behind

-- ---- none of the units that give way is read again

module _ (e : EntityTable) (old new : Table) (n : ℕ) where
  asked_behind : (trees : List UnitTree) (number : ℕ) → n < number → list_any (λ k. k == n) (asking_units e old new number trees) ≡ false
  asked_behind [] number high = refl
  asked_behind (tree ∷ trees) number high = by (asks_again e old new tree) (asked_behind trees (number + 1) (omega (arith, high)))
    where
      by : (t : Bool) → list_any (λ k. k == n) (asking_units e old new (number + 1) trees) ≡ false
          → list_any (λ k. k == n) (cond t (number ∷ asking_units e old new (number + 1) trees) (asking_units e old new (number + 1) trees)) ≡ false
      by true rest = let other : (number == n) ≡ false = grind (arith, nat_tests, high) in ap (λ b. b || list_any (λ k. k == n) (asking_units e old new (number + 1) trees)) other ∙ rest
      by false rest = rest

  asked_before : (trees : List UnitTree) (number : ℕ) → number + length trees ≤ n → list_any (λ k. k == n) (asking_units e old new number trees) ≡ false
  asked_before [] number low = refl
  asked_before (tree ∷ trees) number low = by (asks_again e old new tree) (asked_before trees (number + 1) (omega (arith, low)))
    where
      by : (t : Bool) → list_any (λ k. k == n) (asking_units e old new (number + 1) trees) ≡ false
          → list_any (λ k. k == n) (cond t (number ∷ asking_units e old new (number + 1) trees) (asking_units e old new (number + 1) trees)) ≡ false
      by true rest = let other : (number == n) ≡ false = grind (arith, nat_tests, low) in ap (λ b. b || list_any (λ k. k == n) (asking_units e old new (number + 1) trees)) other ∙ rest
      by false rest = rest

  pub asked_apart : (units : List HeldUnit) (first next : ℕ) → first ≤ n → n < next → list_any (λ k. k == n) (asking_in_parts e old new units first next) ≡ false
  asked_apart units first next low high =
      let front = map unit_in (between 0 first units) in
      let back = map unit_in (between next (length units) units) in
      let many = length-map (between 0 first units) unit_in in
      let size = length-take (first - 0) units in
      list_any-append (λ k. k == n) (asking_units e old new 0 front) (asking_units e old new next back)
      ∙ ap (λ b. b || list_any (λ k. k == n) (asking_units e old new next back)) (asked_before front 0 (grind (arith, many, size, low)))
      ∙ asked_behind back next high

-- ---- what comes, where the last of the units that give way takes an inset in

pub got : (held : List HeldUnit) (i : ℕ) → i < length held → (u : HeldUnit) × (slice_get held i ≡ Some u)
got held i below = let one = the_member held i below in (one.0, slice_get-get_or held i one.0 below ∙ ap (λ u. Some u) (sym one.1))

one_more : (held : List HeldUnit) (i : UnitInset) (u : HeldUnit) (units : List HeldUnit) → slice_get held i.unit ≡ Some u → with_inset held units (Some i) ≡ units ++ put_in i u ∷ []
one_more held i u units is = ap (λ o. units ++ option_to_list (option_map (put_in i) o)) is

pub inset_count : (held units : List HeldUnit) (inset : Option UnitInset) (first next : ℕ) → IsInLast held first next inset → next ≤ length held
    → length (with_inset held units inset) ≡ count_with (length units) inset
inset_count held units None first next last within = refl
inset_count held units (Some i) first next last within =
    let above = last.0 in
    let one = got held i.unit (omega (arith, above, within)) in
    ap (λ us. length us) (one_more held i one.0 units one.1) ∙ length-append units (put_in i one.0 ∷ [])

pub inset_left : (held units : List HeldUnit) (again : List Again) (inset : Option UnitInset) (first next : ℕ) → IsInLast held first next inset → next ≤ length held → IsApart again inset
    → replaced (inset_put (all_renewed held again) inset) first (end_gone next inset - first) units ≡ replaced (all_renewed held again) first (next - first) (with_inset held units inset)
inset_left held units again None first next last within apart = refl
inset_left held units again (Some i) first next last within apart =
    let above = last.0 in
    let one = got held i.unit (omega (arith, above, within)) in
    replaced_put (put_in i) (all_renewed held again) units first i.unit next one.0 last.1 last.0 (units_stay held again i.unit apart ∙ one.1)
    ∙ ap (λ us. replaced (all_renewed held again) first (next - first) us) (sym (one_more held i one.0 units one.1))

-- the inset fits the unit still where others are read again
pub inset_fits : (held units : List HeldUnit) (again : List Again) (inset : Option UnitInset) (first next : ℕ) → units ≡ all_renewed held again → IsInLast held first next inset → IsApart again inset
    → IfSome inset (λ i. IfSome (slice_get units i.unit) (FitsUnit i))
inset_fits held units again None first next is last apart = tt
inset_fits held units again (Some i) first next is last apart =
    subst (λ o. IfSome o (FitsUnit i)) (sym (ap (λ us. slice_get us i.unit) is ∙ units_stay held again i.unit apart)) last.2

-- the units that give way end between those that stay
pub end_within : (held : List HeldUnit) (inset : Option UnitInset) (first next : ℕ) → IsInLast held first next inset → first ≤ next → (first ≤ end_gone next inset) × (end_gone next inset ≤ next)
end_within held None first next last order = (order, omega arith)
end_within held (Some i) first next last order = let above = last.0 in (last.1, omega (arith, above))

-- the unit that takes it in is not among those that are read again
pub inset_apart : (e : EntityTable) (old new : Table) (held : List HeldUnit) (again : List Again) (inset : Option UnitInset) (first next : ℕ) → IsInLast held first next inset
    → map number_again again ≡ asking_in_parts e old new held first next → IsApart again inset
inset_apart e old new held again None first next last numbers = tt
inset_apart e old new held again (Some i) first next last numbers =
    let above = last.0 in
    ap (list_any (λ k. nat_eq k i.unit)) numbers ∙ asked_apart e old new i.unit held first next last.1 (omega (arith, above))
