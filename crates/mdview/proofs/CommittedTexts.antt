-- What the texts of the units read as that are held after an exchange.
use Rattle.std.proofs.Common.{◌≡◌, ℕ, zero, suc, ◌+◌, ◌-◌, ◌<◌, ◌≤◌, ◌⊎◌, inl, inr, Bool, true, false, ◌||◌, List, [], ◌∷◌, ◌++◌, Option, Some, None, length, map, take, drop, get_or, cond, option_map, refl, sym, ◌∙◌, ap, subst, arith}
use Rattle.std.specs.Prelude.{◌==◌, IfSome, slice_get}
use Rattle.std.specs.List.{All, list_any}
use Rattle.std.specs.Option.{unwrap_or}
use Rattle.std.proofs.lemmas.Bool.{eq-eqb, eqb-true, true≢false}
use Rattle.std.proofs.lemmas.List.{get_or-drop, length-drop, length-map, length-take-le, take_all}
use Rattle.std.proofs.lemmas.List.Elements.{All-append}
use Rattle.std.proofs.lemmas.List.Folds.{list_any-append}
use Rattle.std.proofs.lemmas.Option.{slice_get-get_or, slice_get-map}
use Rattle.mdtext.specs.EntityTable.{EntityTable}
use Rattle.blockspec.specs.UnitTree.{UnitTree}
use Rattle.inlinespec.specs.LinkTails.{Table}
use Rattle.mdsource.specs.UnitTexts.{asking_units, asks_again, readings_under}
use Rattle.mdsource.proofs.ReadingsUnder.{unasked_stays}
use Rattle.mdview.specs.declared.inlines.concerned_texts.Again.{Again}
use Rattle.mdview.specs.ReadUnits.{IsReadUnder}
use Rattle.mdview.specs.HeldTexts.{IsReread, asking_in_parts, between, number_again}
use Rattle.mdview.specs.HeldUnit.{HeldUnit, unit_in}
use Rattle.mdview.specs.Lists.{replaced}
use Rattle.mdview.specs.Update.{all_renewed, map_at, renewed}
use Rattle.mdview.proofs.MemberChanges.{all_first, all_rest, map_changed}
use Rattle.mdview.proofs.RenewedUnits.{unit_trees_stay, units_stay}

either : (a b : Bool) → (a || b) ≡ true → (a ≡ true) ⊎ (b ≡ true)
either true b h = inl refl
either false b h = inr h

-- the unit with this number, if there is one, was read under these labels
abbrev IsReadAt : EntityTable → Table → ℕ → List HeldUnit → Type 0
IsReadAt e labels i units = IfSome (slice_get units i) (IsReadUnder e labels)

module _ (e : EntityTable) (labels : Table) where
  -- one that is read again
  read_here : (one : Again) (i : ℕ) (units : List HeldUnit) → IfSome (slice_get (map unit_in units) i) (λ u. one.inlines.items ≡ readings_under e labels u)
      → IsReadAt e labels i (map_at (renewed one) i units)
  unfolding map_at
  read_here one i [] h = tt
  read_here one zero (u ∷ units) h = h
  read_here one (suc i) (u ∷ units) h = read_here one i units h

  -- one with another number
  read_there : (one : Again) (n i : ℕ) (units : List HeldUnit) → IfSome (slice_get (map unit_in units) n) (λ u. one.inlines.items ≡ readings_under e labels u)
      → IsReadAt e labels i units → IsReadAt e labels i (map_at (renewed one) n units)
  unfolding map_at
  read_there one n i [] h k = tt
  read_there one zero zero (u ∷ units) h k = h
  read_there one zero (suc i) (u ∷ units) h k = k
  read_there one (suc n) zero (u ∷ units) h k = k
  read_there one (suc n) (suc i) (u ∷ units) h k = read_there one n i units h k

  one_reread : (trees : List UnitTree) (units : List HeldUnit) (one : Again) → map unit_in units ≡ trees → IsReread e labels trees one
      → IfSome (slice_get (map unit_in units) one.unit) (λ u. one.inlines.items ≡ readings_under e labels u)
  one_reread trees units one same h = subst (λ ts. IfSome (slice_get ts one.unit) (λ u. one.inlines.items ≡ readings_under e labels u)) (sym same) h

  -- those stay read
  stays_read : (trees : List UnitTree) (again : List Again) (i : ℕ) (units : List HeldUnit) → map unit_in units ≡ trees → All (IsReread e labels trees) again
      → IsReadAt e labels i units → IsReadAt e labels i (all_renewed units again)
  unfolding all_renewed
  stays_read trees [] i units same all h = h
  stays_read trees (one ∷ again) i units same all h =
      stays_read trees again i (map_at (renewed one) one.unit units) (map_changed unit_in (renewed one) (λ u. refl) one.unit units ∙ same) (all_rest (IsReread e labels trees) one again all)
      (read_there one one.unit i units (one_reread trees units one same (all_first (IsReread e labels trees) one again all)) h)

  -- and those are read whose number is named
  becomes_read : (trees : List UnitTree) (again : List Again) (i : ℕ) (units : List HeldUnit) → map unit_in units ≡ trees → All (IsReread e labels trees) again
      → list_any (λ k. k == i) (map number_again again) ≡ true → IsReadAt e labels i (all_renewed units again)
  unfolding all_renewed
  becomes_read trees [] i units same all h = absurd (true≢false (sym h))
  becomes_read trees (one ∷ again) i units same all h =
      by (either (one.unit == i) (list_any (λ k. k == i) (map number_again again)) h)
      (λ g. becomes_read trees again i (map_at (renewed one) one.unit units) (map_changed unit_in (renewed one) (λ u. refl) one.unit units ∙ same) (all_rest (IsReread e labels trees) one again all) g)
      (λ g. stays_read trees again i (map_at (renewed one) one.unit units) (map_changed unit_in (renewed one) (λ u. refl) one.unit units ∙ same) (all_rest (IsReread e labels trees) one again all) g)
    where
      here : one.unit ≡ i → IsReadAt e labels i (map_at (renewed one) one.unit units)
      here is = subst (λ n. IsReadAt e labels n (map_at (renewed one) one.unit units)) is (read_here one one.unit units (one_reread trees units one same (all_first (IsReread e labels trees) one again all)))

      by : ((one.unit == i) ≡ true) ⊎ (list_any (λ k. k == i) (map number_again again) ≡ true)
          → (list_any (λ k. k == i) (map number_again again) ≡ true → IsReadAt e labels i (all_renewed (map_at (renewed one) one.unit units) again))
          → (IsReadAt e labels i (map_at (renewed one) one.unit units) → IsReadAt e labels i (all_renewed (map_at (renewed one) one.unit units) again))
          → IsReadAt e labels i (all_renewed (map_at (renewed one) one.unit units) again)
      by (inl is) f g = g (here (eqb-true one.unit i is))
      by (inr is) f g = f is

-- ---- members of lists

pub read_member : (P : HeldUnit → Type 0) (units : List HeldUnit) (i : ℕ) (u : HeldUnit) → slice_get units i ≡ Some u → All P units → P u
read_member P [] i u is all = cc
read_member P (v ∷ units) zero u is all = subst P (ap (λ o. unwrap_or o v) is) (all_first P v units all)
read_member P (v ∷ units) (suc i) u is all = read_member P units i u is (all_rest P v units all)

read_got : (e : EntityTable) (labels : Table) (units : List HeldUnit) (k : ℕ) (d : HeldUnit) → k < length units → IsReadAt e labels k units → IsReadUnder e labels (get_or units k d)
read_got e labels units k d below h = subst (λ o. IfSome o (IsReadUnder e labels)) (slice_get-get_or units k d below) h

get_taken : (units : List HeldUnit) (n i : ℕ) → i < n → slice_get (take n units) i ≡ slice_get units i
get_taken [] zero i below = refl
get_taken [] (suc n) i below = refl
get_taken (u ∷ units) zero i below = absurd (omega (arith, below))
get_taken (u ∷ units) (suc n) zero below = refl
get_taken (u ∷ units) (suc n) (suc i) below = get_taken units n i (omega (arith, below))

get_dropped : (units : List HeldUnit) (n i : ℕ) → slice_get (drop n units) i ≡ slice_get units (n + i)
get_dropped units zero i = let same : i ≡ 0 + i = omega arith in ap (slice_get units) same
get_dropped [] (suc n) i = refl
get_dropped (u ∷ units) (suc n) i = let on : suc n + i ≡ suc (n + i) = omega arith in get_dropped units n i ∙ ap (slice_get (u ∷ units)) (sym on)

taken_member : (units : List HeldUnit) (n k : ℕ) (d : HeldUnit) → k < n → get_or (take n units) k d ≡ get_or units k d
taken_member [] zero k d below = refl
taken_member [] (suc n) k d below = refl
taken_member (u ∷ units) zero k d below = absurd (omega (arith, below))
taken_member (u ∷ units) (suc n) zero d below = refl
taken_member (u ∷ units) (suc n) (suc k) d below = taken_member units n k d (omega (arith, below))

-- ---- which are read again

or_right : (a : Bool) → (a || true) ≡ true
or_right true = refl
or_right false = refl

module _ (e : EntityTable) (before after : Table) where
  -- one that asked is named
  named : (number k : ℕ) (trees : List UnitTree) (t : UnitTree) → slice_get trees k ≡ Some t → asks_again e before after t ≡ true
      → list_any (λ n. n == (number + k)) (asking_units e before after number trees) ≡ true
  named number k [] t h asks = cc
  named number zero (u ∷ trees) t h asks =
      let same : u ≡ t = ap (λ o. unwrap_or o u) h in
      let here : asks_again e before after u ≡ true = ap (asks_again e before after) same ∙ asks in
      let at : number ≡ number + 0 = omega arith in
      ap (λ b. list_any (λ n. n == (number + 0)) (cond b (number ∷ asking_units e before after (number + 1) trees) (asking_units e before after (number + 1) trees))) here
      ∙ ap (λ b. b || list_any (λ n. n == (number + 0)) (asking_units e before after (number + 1) trees)) (eq-eqb number (number + 0) at)
  named number (suc k) (u ∷ trees) t h asks =
      let on : (number + 1) + k ≡ number + suc k = omega arith in
      by (asks_again e before after u) (ap (λ m. list_any (λ n. n == m) (asking_units e before after (number + 1) trees)) (sym on) ∙ named (number + 1) k trees t h asks)
    where
      by : (b : Bool) → list_any (λ n. n == (number + suc k)) (asking_units e before after (number + 1) trees) ≡ true
          → list_any (λ n. n == (number + suc k)) (cond b (number ∷ asking_units e before after (number + 1) trees) (asking_units e before after (number + 1) trees)) ≡ true
      by true rest = ap (λ b. (number == (number + suc k)) || b) rest ∙ or_right (number == (number + suc k))
      by false rest = rest

  -- what is named in a part is named in all
  in_front : (p : ℕ → Bool) (xs ys : List ℕ) → list_any p xs ≡ true → list_any p (xs ++ ys) ≡ true
  in_front p xs ys h = list_any-append p xs ys ∙ ap (λ b. b || list_any p ys) h

  in_back : (p : ℕ → Bool) (xs ys : List ℕ) → list_any p ys ≡ true → list_any p (xs ++ ys) ≡ true
  in_back p xs ys h = list_any-append p xs ys ∙ ap (λ b. list_any p xs || b) h ∙ or_right (list_any p xs)

  module _ (units : List HeldUnit) (again : List Again) (first next : ℕ) (all : All (IsReadUnder e before) units) (reread : All (IsReread e after (map unit_in units)) again)
      (numbers : map number_again again ≡ asking_in_parts e before after units first next) where
    -- a unit that is named where it asked is read under the new labels
    read_where : (i : ℕ) → ((t : UnitTree) → slice_get (map unit_in units) i ≡ Some t → asks_again e before after t ≡ true → list_any (λ n. n == i) (asking_in_parts e before after units first next) ≡ true)
        → IsReadAt e after i (all_renewed units again)
    read_where i tells = by (list_any (λ n. n == i) (map number_again again)) refl
      where
        unasked : (o : Option HeldUnit) → slice_get units i ≡ o → list_any (λ n. n == i) (map number_again again) ≡ false → IfSome o (IsReadUnder e after)
        unasked None is none = tt
        unasked (Some u) is none = asked (asks_again e before after u.read.unit) refl
          where
            tree : slice_get (map unit_in units) i ≡ Some u.read.unit
            tree = slice_get-map unit_in units i ∙ ap (option_map unit_in) is

            was : IsReadUnder e before u
            was = read_member (IsReadUnder e before) units i u is all

            asked : (b : Bool) → asks_again e before after u.read.unit ≡ b → IsReadUnder e after u
            asked true h = absurd (true≢false (sym (tells u.read.unit tree h) ∙ ap (list_any (λ n. n == i)) (sym numbers) ∙ none))
            asked false h = was ∙ unasked_stays e before after u.read.unit h

        by : (b : Bool) → list_any (λ n. n == i) (map number_again again) ≡ b → IsReadAt e after i (all_renewed units again)
        by true h = becomes_read e after (map unit_in units) again i units refl reread h
        by false h = subst (λ o. IfSome o (IsReadUnder e after)) (sym (units_stay units again i h)) (unasked (slice_get units i) refl h)

    part_named : (i number : ℕ) (xs : List HeldUnit) (t : UnitTree) → number ≤ i → slice_get (map unit_in xs) (i - number) ≡ Some t → asks_again e before after t ≡ true
        → list_any (λ n. n == i) (asking_units e before after number (map unit_in xs)) ≡ true
    part_named i number xs t low is asks =
        let same : number + (i - number) ≡ i = omega (arith, low) in
        ap (λ m. list_any (λ n. n == m) (asking_units e before after number (map unit_in xs))) (sym same) ∙ named number (i - number) (map unit_in xs) t is asks

    front_read : (i : ℕ) → i < first → first ≤ length units → IsReadAt e after i (all_renewed units again)
    front_read i below within = read_where i (λ t is asks.
        in_front (λ n. n == i) (asking_units e before after 0 (map unit_in (between 0 first units))) (asking_units e before after next (map unit_in (between next (length units) units)))
        (part_named i 0 (between 0 first units) t (omega arith) (same t is) asks))
      where
        same : (t : UnitTree) → slice_get (map unit_in units) i ≡ Some t → slice_get (map unit_in (between 0 first units)) (i - 0) ≡ Some t
        same t is =
            let a : i - 0 ≡ i = omega arith in
            let b : first - 0 ≡ first = omega arith in
            ap (slice_get (map unit_in (between 0 first units))) a ∙ ap (λ n. slice_get (map unit_in (take n units)) i) b
            ∙ slice_get-map unit_in (take first units) i ∙ ap (option_map unit_in) (get_taken units first i below) ∙ sym (slice_get-map unit_in units i) ∙ is

    back_read : (i : ℕ) → next ≤ i → IsReadAt e after i (all_renewed units again)
    back_read i above = read_where i (λ t is asks.
        in_back (λ n. n == i) (asking_units e before after 0 (map unit_in (between 0 first units))) (asking_units e before after next (map unit_in (between next (length units) units)))
        (part_named i next (between next (length units) units) t above (same t is) asks))
      where
        same : (t : UnitTree) → slice_get (map unit_in units) i ≡ Some t → slice_get (map unit_in (between next (length units) units)) (i - next) ≡ Some t
        same t is =
            let many = length-drop next units in
            let back : next + (i - next) ≡ i = omega (arith, above) in
            ap (λ us. slice_get (map unit_in us) (i - next)) (take_all (length units - next) (drop next units) (omega (arith, many)))
            ∙ slice_get-map unit_in (drop next units) (i - next) ∙ ap (option_map unit_in) (get_dropped units next (i - next) ∙ ap (slice_get units) back)
            ∙ sym (slice_get-map unit_in units i) ∙ is

    -- all that is held then
    pub committed_read : (add : List HeldUnit) → All (IsReadUnder e after) add → first ≤ next → next ≤ length units
        → All (IsReadUnder e after) (replaced (all_renewed units again) first (next - first) add)
    committed_read add news order within =
        All-append (IsReadUnder e after) (take first now ++ add) (drop (first + (next - first)) now)
        (All-append (IsReadUnder e after) (take first now) add front news) back
      where
        now : List HeldUnit
        now = all_renewed units again

        long : length now ≡ length units
        long = sym (length-map now unit_in) ∙ ap (λ l. length l) (unit_trees_stay units again) ∙ length-map units unit_in

        front : All (IsReadUnder e after) (take first now)
        front k d below =
            let size = length-take-le first now (omega (arith, long, order, within)) in
            let low : k < first = omega (arith, below, size) in
            subst (IsReadUnder e after) (sym (taken_member now first k d low))
            (read_got e after now k d (omega (arith, low, long, order, within)) (front_read k low (omega (arith, order, within))))

        back : All (IsReadUnder e after) (drop (first + (next - first)) now)
        back k d below =
            let size = length-drop (first + (next - first)) now in
            subst (IsReadUnder e after) (sym (get_or-drop (first + (next - first)) now k d))
            (read_got e after now ((first + (next - first)) + k) d (omega (arith, below, size)) (back_read ((first + (next - first)) + k) (omega (arith, order))))
