-- The units from one number on and before another, one more or all: which of them asked, where spans lie too deep, and how many texts are read.
use Rattle.std.proofs.Common.{◌≡◌, ℕ, zero, suc, ◌+◌, ◌-◌, ◌<◌, ◌≤◌, Bool, true, false, List, [], ◌∷◌, ◌++◌, Option, Some, None, length, map, take, drop, get_or, cond, refl, sym, ◌∙◌, ap, arith}
use Rattle.std.specs.Prelude.{slice_get, sum_by}
use Rattle.std.specs.Option.{option_or}
use Rattle.std.proofs.Math.Seq.{drop-cons, take-add}
use Rattle.std.proofs.lemmas.List.{drop-drop, get_or-drop, length-drop, length-map, length-take-le, map-append, take_more}
use Rattle.std.proofs.lemmas.List.Sums.{sum_by-append, sum_by-cons}
use Rattle.std.proofs.lemmas.Option.{slice_get-get_or}
use Rattle.mdtext.specs.EntityTable.{EntityTable}
use Rattle.blockspec.specs.UnitTree.{UnitTree}
use Rattle.inlinespec.specs.LinkTails.{Table}
use Rattle.mdinline.specs.declared.faults.InlineFault.{InlineFault}
use Rattle.mdinline.specs.declared.faults.InlineFault.TheVariants as inline
use Rattle.mdsource.specs.UnitTexts.{asking_in, asking_texts, asking_units, deep_from, is_deep_under}
use Rattle.mdsource.proofs.AskingUnits.{asking_append}
use Rattle.mdsource.proofs.DeepUnits.{deep_append}
use Rattle.mdview.specs.HeldBlocks.{held_tile, lines_in}
use Rattle.mdview.specs.ReadUnits.{IsShallow}
use Rattle.mdview.specs.HeldTexts.{between}
use Rattle.mdsource.specs.TextFaults.{IsTextFault, text_fault_in}
use Rattle.mdview.specs.HeldUnit.{HeldUnit, unit_in}

-- a fault of the texts of a unit, where spans lie too deep in it if that is the fault
pub text_fault : (deep : Option ℕ) (fault : InlineFault) (begin : ℕ) → (fault ≡ inline.TooDeep → deep ≡ Some begin) → IsTextFault deep (text_fault_in fault begin)
text_fault deep inline.TooDeep begin h = h refl
text_fault deep inline.NoMemory begin h = tt

-- ---- lists

pub none_between : {A : Type 0} (first : ℕ) (xs : List A) → between first first xs ≡ []
none_between first xs = let none : first - first ≡ 0 = omega arith in ap (λ n. take n (drop first xs)) none

pub between_more : {A : Type 0} (first i : ℕ) (xs : List A) (x : A) → first ≤ i → i < length xs → x ≡ get_or xs i x → between first (i + 1) xs ≡ between first i xs ++ x ∷ []
between_more first i xs x low high at =
    let on : (i + 1) - first ≡ (i - first) + 1 = omega (arith, low) in
    let many = length-drop first xs in
    let same : first + (i - first) ≡ i = omega (arith, low) in
    ap (λ n. take n (drop first xs)) on
    ∙ take_more (drop first xs) (i - first) x (omega (arith, low, high, many))
    ∙ ap (λ y. take (i - first) (drop first xs) ++ y ∷ []) (get_or-drop first xs (i - first) x ∙ ap (λ n. get_or xs n x) same ∙ sym at)

pub between_split : {A : Type 0} (first i next : ℕ) (xs : List A) (x : A) → first ≤ i → i < next → next ≤ length xs → x ≡ get_or xs i x
    → between first next xs ≡ between first i xs ++ x ∷ between (i + 1) next xs
between_split first i next xs x low high within at =
    ap (λ n. take n (drop first xs)) parts
    ∙ take-add (i - first) (next - i) (drop first xs)
    ∙ ap (λ l. between first i xs ++ take (next - i) l) (drop-drop (i - first) first xs ∙ ap (λ n. drop n xs) same)
    ∙ ap (λ l. between first i xs ++ take (next - i) l) (drop-cons xs i x (omega (arith, high, within)) ∙ ap (λ y. y ∷ drop (suc i) xs) (sym at) ∙ ap (λ n. x ∷ drop n xs) on)
    ∙ ap (λ n. between first i xs ++ take n (x ∷ drop (i + 1) xs)) left
  where
    parts : next - first ≡ (i - first) + (next - i)
    parts = omega (arith, low, high)

    same : first + (i - first) ≡ i
    same = omega (arith, low)

    on : suc i ≡ i + 1
    on = omega arith

    left : next - i ≡ suc (next - (i + 1))
    left = omega (arith, high)

pub between_next : {A : Type 0} (i next : ℕ) (xs : List A) (x : A) → i < next → next ≤ length xs → x ≡ get_or xs i x → between i next xs ≡ x ∷ between (i + 1) next xs
between_next i next xs x high within at = between_split i i next xs x (omega arith) high within at ∙ ap (λ l. l ++ x ∷ between (i + 1) next xs) (none_between i xs)

pub between_many : {A : Type 0} (first i : ℕ) (xs : List A) → first ≤ i → i ≤ length xs → first + length (between first i xs) ≡ i
between_many first i xs low high =
    let many = length-drop first xs in
    let part = length-take-le (i - first) (drop first xs) (omega (arith, low, high, many)) in
    omega (arith, low, part)

-- ---- the units so far

sizes : (xs : List HeldUnit) → sum_by (λ (t : ℕ × UnitTree). t.0) (map held_tile xs) ≡ sum_by lines_in xs
sizes [] = refl
sizes (u ∷ xs) = sum_by-cons (λ (t : ℕ × UnitTree). t.0) (held_tile u) (map held_tile xs) ∙ ap (λ n. u.read.lines + n) (sizes xs) ∙ sym (sum_by-cons lines_in u xs)

module _ (e : EntityTable) (old new : Table) (limit begin first : ℕ) (units : List HeldUnit) (i : ℕ) (u : HeldUnit) (low : first ≤ i) (high : i < length units) (at : u ≡ get_or units i u) where
  before : List HeldUnit
  before = between first i units

  more : between first (i + 1) units ≡ before ++ u ∷ []
  unfolding before
  more = between_more first i units u low high at

  one_number : first + length (map unit_in before) ≡ i
  unfolding before
  one_number = let many = length-map before unit_in in let all = between_many first i units low (omega (arith, high)) in omega (arith, many, all)

  pub numbers_next : asking_units e old new first (map unit_in (between first (i + 1) units)) ≡ asking_units e old new first (map unit_in (between first i units)) ++ asking_units e old new i (u.read.unit ∷ [])
  unfolding before
  numbers_next =
      ap (λ l. asking_units e old new first (map unit_in l)) more ∙ ap (asking_units e old new first) (map-append unit_in before (u ∷ []))
      ∙ asking_append e old new first (map unit_in before) (u.read.unit ∷ [])
      ∙ ap (λ n. asking_units e old new first (map unit_in before) ++ asking_units e old new n (u.read.unit ∷ [])) one_number

  pub texts_next : asking_texts e old new (map unit_in (between first (i + 1) units)) ≡ asking_texts e old new (map unit_in (between first i units)) + asking_in e old new u.read.unit
  unfolding before
  texts_next =
      let one = sum_by-cons (asking_in e old new) u.read.unit [] in
      ap (λ l. asking_texts e old new (map unit_in l)) more ∙ ap (asking_texts e old new) (map-append unit_in before (u ∷ []))
      ∙ sum_by-append (asking_in e old new) (map unit_in before) (u.read.unit ∷ []) ∙ ap (λ n. asking_texts e old new (map unit_in before) + n) (omega (arith, one))

  pub lines_next : sum_by lines_in (between first (i + 1) units) ≡ sum_by lines_in (between first i units) + u.read.lines
  unfolding before
  lines_next =
      let one = sum_by-cons lines_in u [] in
      ap (sum_by lines_in) more ∙ sum_by-append lines_in before (u ∷ []) ∙ ap (λ n. sum_by lines_in before + n) (omega (arith, one))

  none_deep : (t : Bool) → is_deep_under limit e new u.read.unit ≡ t → deep_from limit e new (begin + sum_by (λ (x : ℕ × UnitTree). x.0) (map held_tile before)) (held_tile u ∷ []) ≡ cond t (Some (begin + sum_by lines_in before)) None
  none_deep t is =
      ap (λ b. cond b (Some (begin + sum_by (λ (x : ℕ × UnitTree). x.0) (map held_tile before))) None) is
      ∙ ap (λ n. cond t (Some (begin + n)) None) (sizes before)

  pub shallow_next : deep_from limit e new begin (map held_tile (between first i units)) ≡ None → IsShallow limit e new u → deep_from limit e new begin (map held_tile (between first (i + 1) units)) ≡ None
  unfolding before
  shallow_next none h =
      ap (λ l. deep_from limit e new begin (map held_tile l)) more ∙ ap (deep_from limit e new begin) (map-append held_tile before (u ∷ []))
      ∙ deep_append limit e new begin (map held_tile before) (held_tile u ∷ [])
      ∙ ap (λ o. option_or o (deep_from limit e new (begin + sum_by (λ (x : ℕ × UnitTree). x.0) (map held_tile before)) (held_tile u ∷ []))) none
      ∙ none_deep false h

  -- ---- and those behind

  module _ (next : ℕ) (below : i < next) (within : next ≤ length units) where
    whole : between first next units ≡ before ++ u ∷ between (i + 1) next units
    unfolding before
    whole = between_split first i next units u low below within at

    pub deep_here : deep_from limit e new begin (map held_tile (between first i units)) ≡ None → is_deep_under limit e new u.read.unit ≡ true
        → deep_from limit e new begin (map held_tile (between first next units)) ≡ Some (begin + sum_by lines_in (between first i units))
    unfolding before
    deep_here none h =
        ap (λ l. deep_from limit e new begin (map held_tile l)) whole ∙ ap (deep_from limit e new begin) (map-append held_tile before (u ∷ between (i + 1) next units))
        ∙ deep_append limit e new begin (map held_tile before) (held_tile u ∷ map held_tile (between (i + 1) next units))
        ∙ ap (λ o. option_or o (deep_from limit e new far (held_tile u ∷ map held_tile (between (i + 1) next units)))) none
        ∙ ap (λ b. cond b (Some far) (deep_from limit e new (far + u.read.lines) (map held_tile (between (i + 1) next units)))) h
        ∙ ap (λ n. Some (begin + n)) (sizes before)
      where
        far : ℕ
        far = begin + sum_by (λ (x : ℕ × UnitTree). x.0) (map held_tile before)

    pub texts_within : asking_texts e old new (map unit_in (between first (i + 1) units)) ≤ asking_texts e old new (map unit_in (between first next units))
    unfolding before
    texts_within =
        let parts = ap (λ l. asking_texts e old new (map unit_in l)) whole ∙ ap (asking_texts e old new) (map-append unit_in before (u ∷ between (i + 1) next units))
        ∙ sum_by-append (asking_in e old new) (map unit_in before) (u.read.unit ∷ map unit_in (between (i + 1) next units)) in
        let one = sum_by-cons (asking_in e old new) u.read.unit (map unit_in (between (i + 1) next units)) in
        let here = texts_next in
        omega (arith, parts, one, here)

    pub lines_within : sum_by lines_in (between first (i + 1) units) ≤ sum_by lines_in (between first next units)
    unfolding before
    lines_within =
        let parts = ap (sum_by lines_in) whole ∙ sum_by-append lines_in before (u ∷ between (i + 1) next units) in
        let one = sum_by-cons lines_in u (between (i + 1) next units) in
        let here = lines_next in
        omega (arith, parts, one, here)

-- the member with this number
pub member_at : {A : Type 0} (xs : List A) (i : ℕ) (x : A) → i < length xs → x ≡ get_or xs i x → slice_get xs i ≡ Some x
member_at xs i x below at = slice_get-get_or xs i x below ∙ ap (λ y. Some y) (sym at)

-- there is one
pub the_member : {A : Type 0} (xs : List A) (i : ℕ) → i < length xs → (x : A) × (x ≡ get_or xs i x)
the_member [] i below = absurd (omega (arith, below))
the_member (x ∷ xs) zero below = (x, refl)
the_member (x ∷ xs) (suc i) below = the_member xs i (omega (arith, below))
