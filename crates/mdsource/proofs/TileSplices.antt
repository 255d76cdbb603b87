-- The units of an edited text without their places: those between where reading begins and where it ends are replaced, and the others stay.
use Rattle.std.proofs.Common.{◌≡◌, ℕ, ◌+◌, ◌<◌, ◌≤◌, ◌⊎◌, inl, inr, List, [], ◌∷◌, ◌++◌, length, map, take, drop, refl, sym, ◌∙◌, ap, subst, append_assoc, arith, length-append}
use Rattle.std.specs.Prelude.{Contains}
use Rattle.std.specs.List.{All}
use Rattle.std.proofs.lemmas.List.{map-append, take-take}
use Rattle.std.proofs.Math.Seq.{take-append_seam, drop-append_seam, take-length}
use Rattle.std.proofs.lemmas.List.Elements.{All-nil, All-cons, All-contains, All-head, Contains-append_cases}
use Rattle.mdtext.specs.EntityTable.{EntityTable}
use Rattle.blockspec.specs.BlockUnits.{begins, units}
use Rattle.blockspec.specs.UnitBegin.{shift_found}
use Rattle.blockspec.specs.UnitTree.{FoundUnit, UnitTree}
use Rattle.blockspec.proofs.DocumentLaws.{map_length}
use Rattle.mdsource.specs.Spliced.{IsSpliced, in_parts}
use Rattle.mdsource.specs.Stretch.{Places, from_line, meeting_line, old_line, units_before, units_removed}
use Rattle.mdsource.specs.UnitTiles.{between_replaced, front_of, tile_of}
use Rattle.mdsource.proofs.Cuts.{IsCut, begins_in, units_cut}
use Rattle.mdsource.proofs.Splices.{BeginsAbove, IsEdit, MeetsBehind, begins_above, from_cut, meets_behind}
use Rattle.mdsource.proofs.StretchReadings.{Ascends, begins_ascend}

abbrev pub tiles : List FoundUnit → List (ℕ × UnitTree)
tiles us = map tile_of us

pub tiles_shifted : (k : ℕ) (us : List FoundUnit) → tiles (map (shift_found k) us) ≡ tiles us
tiles_shifted k [] = refl
tiles_shifted k (u ∷ us) = ap (λ z. tile_of u ∷ z) (tiles_shifted k us)

tiles_in_parts : (e : EntityTable) (front text : List (List ℕ)) (from to : ℕ)
    → tiles (in_parts e front text from to) ≡ (tiles (units e (take from front)) ++ tiles (units e (drop from (take to text)))) ++ tiles (units e (drop to text))
tiles_in_parts e front text from to =
    let a = units e (take from front) in
    let b = units e (drop from (take to text)) in
    let c = units e (drop to text) in
    map-append tile_of (a ++ map (shift_found from) b) (map (shift_found to) c)
    ∙ ap (λ z. z ++ map tile_of (map (shift_found to) c)) (map-append tile_of a (map (shift_found from) b))
    ∙ ap (λ z. (map tile_of a ++ z) ++ map tile_of (map (shift_found to) c)) (tiles_shifted from b)
    ∙ ap (λ z. (map tile_of a ++ map tile_of b) ++ z) (tiles_shifted to c)

module _ (e : EntityTable) (old new : List (List ℕ)) (p : Places) (w : IsSpliced e old new p) where
  abbrev from : ℕ
  from = from_line p

  abbrev to : ℕ
  to = meeting_line p

  abbrev a : List (ℕ × UnitTree)
  a = map tile_of (units e (take from old))

  abbrev b : List (ℕ × UnitTree)
  b = map tile_of (units e (drop from (take (old_line p to) old)))

  abbrev n : List (ℕ × UnitTree)
  n = map tile_of (units e (drop from (take to new)))

  abbrev c : List (ℕ × UnitTree)
  c = map tile_of (units e (drop (old_line p to) old))

  olds : map tile_of (units e old) ≡ (a ++ b) ++ c
  olds = ap (map tile_of) w.olds ∙ tiles_in_parts e old old from (old_line p to)

  first : units_before p ≡ length a
  first = w.first ∙ sym (map_length tile_of (units e (take from old)))

  both : units_before p + units_removed p ≡ length (a ++ b)
  both =
      let whole = length-append a b in
      let second = w.removed ∙ sym (map_length tile_of (units e (drop from (take (old_line p to) old)))) in
      omega (arith, whole, first, second)

  -- the units in front
  pub front_tiles : take (units_before p) (map tile_of (units e old)) ≡ map tile_of (units e (take (from_line p) old))
  front_tiles = ap (take (units_before p)) (olds ∙ append_assoc a b c) ∙ ap (λ k. take k (a ++ (b ++ c))) first ∙ take-append_seam a (b ++ c)

  -- and those behind
  pub behind_tiles : drop (units_before p + units_removed p) (map tile_of (units e old)) ≡ map tile_of (units e (drop (old_line p (meeting_line p)) old))
  behind_tiles = ap (drop (units_before p + units_removed p)) olds ∙ ap (λ k. drop k ((a ++ b) ++ c)) both ∙ drop-append_seam (a ++ b) c

  pub tiles_spliced : map tile_of (units e new)
      ≡ between_replaced (map tile_of (units e old)) (units_before p) (units_before p + units_removed p) (map tile_of (units e (drop (from_line p) (take (meeting_line p) new))))
  tiles_spliced =
      ap (map tile_of) w.news
      ∙ tiles_in_parts e old new from to
      ∙ ap (λ z. (a ++ n) ++ map tile_of (units e z)) w.same
      ∙ ap (λ z. (z ++ n) ++ c) (sym front_tiles)
      ∙ ap (λ z. (take (units_before p) (map tile_of (units e old)) ++ n) ++ z) (sym behind_tiles)

-- ---- how many lines stand before the first unit

-- of first lines that ascend, none of which is smaller than one of them, the first is that one
pub least_first : (all n : ℕ) (us : List FoundUnit) → Ascends (begins_in us) → All (λ b. n ≤ b) (begins_in us) → Contains (begins_in us) n → front_of all us ≡ n
least_first all n [] h k w = let small = w.1 in absurd (omega (arith, small))
least_first all n (u ∷ us) h k w = by (Contains-append_cases (u.begin ∷ []) (begins_in us) n w)
  where
    by : Contains (u.begin ∷ []) n ⊎ Contains (begins_in us) n → u.begin ≡ n
    by (inl v) = All-contains (λ y. u.begin ≡ y) (u.begin ∷ []) n (All-cons (λ y. u.begin ≡ y) u.begin [] refl (All-nil (λ y. u.begin ≡ y))) v
    by (inr v) =
        let past = All-contains (λ y. u.begin < y) (begins_in us) n h.0 v in
        let low = All-head (λ b. n ≤ b) u.begin (begins_in us) k in
        absurd (omega (arith, past, low))

pub moved_above : (k : ℕ) (us : List FoundUnit) → All (λ b. k ≤ b) (begins_in (map (shift_found k) us))
moved_above k [] = All-nil (λ b. k ≤ b)
moved_above k (u ∷ us) = All-cons (λ b. k ≤ b) (u.begin + k) (begins_in (map (shift_found k) us)) (omega arith) (moved_above k us)

-- Where a unit begins at a line, the lines above it tell how many stand before the first unit.
front_at : (e : EntityTable) (text : List (List ℕ)) (n all : ℕ) → Contains (begins e text) n → front_of all (units e text) ≡ front_of n (units e (take n text))
front_at e text n all w = by (units e (take n text)) refl
  where
    back : List FoundUnit
    back = map (shift_found n) (units e (drop n text))

    parts : units e text ≡ units e (take n text) ++ back
    parts = units_cut e text n (inr (inr w))

    by : (front : List FoundUnit) → units e (take n text) ≡ front → front_of all (units e text) ≡ front_of n front
    by [] is =
        let whole : units e text ≡ back = parts ∙ ap (λ z. z ++ back) is in
        ap (front_of all) whole
        ∙ least_first all n back (subst (λ z. Ascends (begins_in z)) whole (begins_ascend e text)) (moved_above n (units e (drop n text)))
        (subst (λ z. Contains (begins_in z) n) whole w)
    by (u ∷ front) is = ap (front_of all) (parts ∙ ap (λ z. z ++ back) is)

-- Where reading does not begin with the first line, as many stand before the first unit as did.
pub front_kept : (e : EntityTable) (old new : List (List ℕ)) (p : Places) → IsEdit e old new p → (from_line p ≡ 0 → ⊥)
    → front_of (length new) (units e new) ≡ front_of (length old) (units e old)
front_kept e old new p w inside = by (begins_above e old new p w) (from_cut e old new p w new w.front)
  where
    by : BeginsAbove e old p → IsCut e new (from_line p) → front_of (length new) (units e new) ≡ front_of (length old) (units e old)
    by (inl h) cut = absurd (inside h)
    by (inr h) (inl k) = absurd (inside k)
    by (inr h) (inr (inl k)) = absurd (let small = h.0 in let fits = w.fits in let sizes = w.sizes in omega (arith, small, k, fits, sizes))
    by (inr h) (inr (inr k)) =
        let small = h.0 in
        let same : take (from_line p) new ≡ take (from_line p) old =
        sym (take-take (from_line p) p.at new (omega (arith, small))) ∙ ap (take (from_line p)) w.front ∙ take-take (from_line p) p.at old (omega (arith, small)) in
        front_at e new (from_line p) (length new) k
        ∙ ap (λ z. front_of (from_line p) (units e z)) same
        ∙ sym (front_at e old (from_line p) (length old) h.1)

-- Where it does, the lines up to the meeting line tell how many stand before the first unit.
pub front_read : (e : EntityTable) (old new : List (List ℕ)) (p : Places) → IsEdit e old new p
    → front_of (length new) (units e new) ≡ front_of (meeting_line p) (units e (take (meeting_line p) new))
front_read e old new p w = by (meets_behind e old new p w)
  where
    by : MeetsBehind e old new p → front_of (length new) (units e new) ≡ front_of (meeting_line p) (units e (take (meeting_line p) new))
    by (inl h) = sym (ap (λ z. front_of z (units e (take z new))) h ∙ ap (λ z. front_of (length new) (units e z)) (take-length new))
    by (inr h) = front_at e new (meeting_line p) (length new) h.1
