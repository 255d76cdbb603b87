-- Where reading begins, by what the units weigh that are held.
use Rattle.std.proofs.Common.{◌≡◌, ℕ, ◌+◌, ◌-◌, ◌^◌, ◌<◌, ◌≤◌, ◌⊎◌, Bool, true, false, List, length, map, drop, take, get_or, refl, inl, inr, arith, ap, sym, ◌∙◌, nat_lt}
use Rattle.std.specs.Prelude.{max, min, sum_by}
use Rattle.std.specs.List.{filter, fold}
use Rattle.std.proofs.lemmas.Bool.Decides.{nat_tests}
use Rattle.std.proofs.lemmas.List.{length-map}
use Rattle.std.proofs.lemmas.List.Elements.{All-weaker}
use Rattle.std.proofs.lemmas.List.Sums.{sum_by_more}
use Rattle.mdchunks.specs.Sequences.{IsLastAt}
use Rattle.mdtext.specs.EntityTable.{EntityTable}
use Rattle.blockspec.specs.BlockUnits.{begins}
use Rattle.mdsource.specs.Stretch.{count_between}
use Rattle.mdsource.specs.UnitTiles.{IsAhead, begins_from}
use Rattle.mdsource.proofs.UnitPlaces.{resumed_here, resuming_begins, resuming_next, seen_next}
use Rattle.mdview.specs.HeldBlocks.{lines_in}
use Rattle.mdview.specs.HeldUnit.{HeldUnit}
use Rattle.mdview.proofs.UnitSizes.{begins_at, sizes_here}
use Rattle.mdview.proofs.UnitsBetween.{the_member}

-- no unit behind the one that was found begins above the line
ends : (units : List HeldUnit) (head at number front : ℕ) (u : HeldUnit) → head < at → at < 2 ^ 64 → u ≡ get_or units number u → IsLastAt (λ (u : HeldUnit). u.read.lines) units (at - 1 - head) number front
    → (t : Bool) → nat_lt (number + 1) (length units) ≡ t → (at ≤ min ((head + front) + lines_in u) (2 ^ 64 - 1)) ⊎ (length (map lines_in units) ≤ number + 1)
ends units head at number front u above far is w true h =
    let f : HeldUnit → ℕ = λ u. u.read.lines in
    let inside : number + 1 < length units = grind (arith, nat_tests, h) in
    let next : at - 1 - head < min (sum_by f (take (number + 1) units)) (2 ^ 64 - 1) = w.next inside in
    let more = sum_by_more f units number u w.within in
    let one : f (get_or units number u) ≡ lines_in u = ap f (sym is) in
    let w_sum = w.sum in
    let w_below = w.below in
    inl (omega (arith, next, more, one, w_sum, w_below, above, far))
ends units head at number front u above far is w false h =
    let past : length units ≤ number + 1 = grind (arith, nat_tests, h) in
    inr (omega (arith, past, length-map units lines_in))

module _ (e : EntityTable) (lines : List (List ℕ)) (few : length lines ≤ 1000000) (units : List HeldUnit) (head at : ℕ)
    (many : length (begins e lines) ≡ length units) (is : begins e lines ≡ begins_from head (map lines_in units)) where
  abbrev pub sizes : List ℕ
  sizes = map lines_in units

  abbrev pub bs : List ℕ
  bs = begins e lines

  long : length bs ≡ length sizes
  long = many ∙ sym (length-map units lines_in)

  -- no unit begins above the line
  pub resumed_front : (at ≤ head) → (0 ≡ fold max 0 (filter (λ begin. nat_lt begin at) bs)) × (0 ≡ count_between 0 0 bs) × IsAhead sizes bs 0 head 0
  resumed_front low = resumed_here e lines sizes 0 head at 0 0 head long is (λ k d small. absurd (omega (arith, small))) (resuming_begins e lines sizes head long is) (inl low)

  pub resumed_none : length units ≡ 0 → (0 ≡ fold max 0 (filter (λ begin. nat_lt begin at) bs)) × (0 ≡ count_between 0 0 bs) × IsAhead sizes bs 0 head 0
  resumed_none none = resumed_here e lines sizes 0 head at 0 0 head long is (λ k d small. absurd (omega (arith, small))) (resuming_begins e lines sizes head long is)
      (inr (omega (arith, none, length-map units lines_in)))

  -- the unit that was found
  pub resumed_found : (number front : ℕ) → head < at → at < 2 ^ 64 → IsLastAt (λ (u : HeldUnit). u.read.lines) units (at - 1 - head) number front
      → (head + front ≡ fold max 0 (filter (λ begin. nat_lt begin at) bs)) × (number ≡ count_between 0 (head + front) bs) × IsAhead sizes bs number (head + front) (head + front)
  resumed_found number front above far w =
      let w_within = w.within in
      let w_sum = w.sum in
      let w_below = w.below in
      let one = the_member units number w.within in
      let u : HeldUnit = one.0 in
      let here = sizes_here units number u w.within one.1 in
      let f : HeldUnit → ℕ = λ u. u.read.lines in
      let exact : front ≡ sum_by f (take number units) = omega (arith, w_sum, w_below, above, far) in
      let rest : drop number bs ≡ begins_from (head + front) (drop number sizes) =
      ap (drop number) is ∙ begins_at units head number (omega (arith, w_within)) ∙ ap (λ n. begins_from (head + n) (drop number sizes)) (sym exact) in
      let resuming = resuming_next e lines sizes number (head + front) (lines_in u) (drop (number + 1) sizes) long rest here in
      let next = seen_next e lines sizes number (head + front) (lines_in u) (drop (number + 1) sizes) at (min ((head + front) + lines_in u) (2 ^ 64 - 1)) few rest here
      (omega (arith, w_below, above)) refl
      (All-weaker (λ b. b < head + front) (λ b. b < at) (λ b k. omega (arith, k, w_below, above)) (take number bs) resuming.ahead.passed) in
      resumed_here e lines sizes (number + 1) (min ((head + front) + lines_in u) (2 ^ 64 - 1)) at (head + front) number (head + front) long next.0 next.1 resuming
      (ends units head at number front u above far one.1 w (nat_lt (number + 1) (length units)) refl)
