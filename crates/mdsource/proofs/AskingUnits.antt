-- Which units are made again and how many texts are read, by the units in front of an edit, those that are read, and those behind.
use Rattle.std.proofs.Common.{◌≡◌, ℕ, suc, ◌+◌, ◌<◌, ◌≤◌, Bool, true, false, ◌&&◌, ◌||◌, not, List, [], ◌∷◌, ◌++◌, length, length-append, map, take, drop, cond, refl, sym, ◌∙◌, ap, arith, nat_lt}
use Rattle.std.specs.Prelude.{sum_by}
use Rattle.std.specs.List.{filter, list_any, take-map, drop-map}
use Rattle.std.proofs.lemmas.Bool.Decides.{nat_tests}
use Rattle.std.proofs.lemmas.List.{append-nil, map-append}
use Rattle.std.proofs.lemmas.List.Sums.{sum_by-cons}
use Rattle.mdtext.specs.EntityTable.{EntityTable}
use Rattle.blockspec.specs.BlockUnits.{units}
use Rattle.blockspec.specs.UnitBegin.{shift_found}
use Rattle.blockspec.specs.UnitTree.{FoundUnit, UnitTree}
use Rattle.blockspec.proofs.DocumentLaws.{map_length}
use Rattle.inlinespec.specs.LinkTails.{Table}
use Rattle.mdsource.specs.Changes.{asking_from, asks_changed, is_added, texts_due}
use Rattle.mdsource.specs.Setting.{Setting}
use Rattle.mdsource.specs.Spliced.{IsSpliced}
use Rattle.mdsource.specs.Stretch.{Places, from_line, meeting_line, old_line, units_added, units_before, units_removed}
use Rattle.mdsource.specs.View.{ViewedUnit, reading_of, viewed}
use Rattle.mdsource.specs.UnitTexts.{asking_in, asking_texts, asking_units, asks_again, trees_in}
use Rattle.mdsource.specs.UnitTiles.{tile_of}
use Rattle.mdsource.proofs.Readings.{asks_alike}
use Rattle.mdsource.proofs.TileSplices.{behind_tiles, front_tiles}

-- ---- numbers

pub asking_append : (e : EntityTable) (old new : Table) (number : ℕ) (xs ys : List UnitTree)
    → asking_units e old new number (xs ++ ys) ≡ asking_units e old new number xs ++ asking_units e old new (number + length xs) ys
asking_append e old new number [] ys = let same : number ≡ number + 0 = omega arith in ap (λ n. asking_units e old new n ys) same
asking_append e old new number (x ∷ xs) ys = by (asks_again e old new x) (asking_append e old new (number + 1) xs ys ∙ ap (λ n. asking_units e old new (number + 1) xs ++ asking_units e old new n ys) more)
  where
    more : (number + 1) + length xs ≡ number + suc (length xs)
    more = omega arith

    by : (t : Bool) → asking_units e old new (number + 1) (xs ++ ys) ≡ asking_units e old new (number + 1) xs ++ asking_units e old new (number + suc (length xs)) ys
        → cond t (number ∷ asking_units e old new (number + 1) (xs ++ ys)) (asking_units e old new (number + 1) (xs ++ ys))
        ≡ cond t (number ∷ asking_units e old new (number + 1) xs) (asking_units e old new (number + 1) xs) ++ asking_units e old new (number + suc (length xs)) ys
    by true rest = ap (λ l. number ∷ l) rest
    by false rest = rest

-- the same units with other numbers
pub asking_renumbered : (e : EntityTable) (old new : Table) (f : ℕ → ℕ) (from to : ℕ) (xs : List UnitTree) → ((k : ℕ) → k < length xs → f (from + k) ≡ to + k)
    → map f (asking_units e old new from xs) ≡ asking_units e old new to xs
asking_renumbered e old new f from to [] same = refl
asking_renumbered e old new f from to (x ∷ xs) same = by (asks_again e old new x) (asking_renumbered e old new f (from + 1) (to + 1) xs later)
  where
    here : f from ≡ to
    here = let a : from ≡ from + 0 = omega arith in let b : to + 0 ≡ to = omega arith in ap f a ∙ same 0 (omega arith) ∙ b

    later : (k : ℕ) → k < length xs → f ((from + 1) + k) ≡ (to + 1) + k
    later k h =
        let a : (from + 1) + k ≡ from + suc k = omega arith in
        let b : to + suc k ≡ (to + 1) + k = omega arith in
        ap f a ∙ same (suc k) (omega (arith, h)) ∙ b

    by : (t : Bool) → map f (asking_units e old new (from + 1) xs) ≡ asking_units e old new (to + 1) xs
        → map f (cond t (from ∷ asking_units e old new (from + 1) xs) (asking_units e old new (from + 1) xs))
        ≡ cond t (to ∷ asking_units e old new (to + 1) xs) (asking_units e old new (to + 1) xs)
    by true rest = ap (λ n. n ∷ map f (asking_units e old new (from + 1) xs)) here ∙ ap (λ l. to ∷ l) rest
    by false rest = rest

-- ---- in the words of what an edit changes

trees_shifted : (k : ℕ) (found : List FoundUnit) → trees_in (map (shift_found k) found) ≡ trees_in found
trees_shifted k [] = refl
trees_shifted k (one ∷ found) = ap (λ z. one.unit ∷ z) (trees_shifted k found)

pub trees_of_tiles : (found : List FoundUnit) → map (λ (t : ℕ × UnitTree). t.1) (map tile_of found) ≡ trees_in found
trees_of_tiles [] = refl
trees_of_tiles (one ∷ found) = ap (λ z. one.unit ∷ z) (trees_of_tiles found)

module _ (setting : Setting) (old new : Table) (first added : ℕ) where
  abbrev e : EntityTable
  e = setting.entities

  -- asked before the change or behind it is the same
  some_asking : (texts : List (List ℕ)) → nat_lt 0 (length (filter (asks_changed old new) (map (reading_of e new) texts))) ≡ list_any (asks_changed old new) (map (reading_of e old) texts)
  some_asking [] = refl
  some_asking (text ∷ texts) =
      ap (λ t. nat_lt 0 (length (cond t (reading_of e new text ∷ filter (asks_changed old new) (map (reading_of e new) texts)) (filter (asks_changed old new) (map (reading_of e new) texts)))))
      (sym (asks_alike e old new text))
      ∙ by (asks_changed old new (reading_of e old text)) (some_asking texts)
    where
      by : (t : Bool) → nat_lt 0 (length (filter (asks_changed old new) (map (reading_of e new) texts))) ≡ list_any (asks_changed old new) (map (reading_of e old) texts)
          → nat_lt 0 (length (cond t (reading_of e new text ∷ filter (asks_changed old new) (map (reading_of e new) texts)) (filter (asks_changed old new) (map (reading_of e new) texts))))
          ≡ (t || list_any (asks_changed old new) (map (reading_of e old) texts))
      by true rest = let some : nat_lt 0 (suc (length (filter (asks_changed old new) (map (reading_of e new) texts)))) ≡ true = grind (arith, nat_tests) in some
      by false rest = rest

  many_asking : (texts : List (List ℕ)) → length (filter (asks_changed old new) (map (reading_of e new) texts)) ≡ length (filter (asks_changed old new) (map (reading_of e old) texts))
  many_asking [] = refl
  many_asking (text ∷ texts) =
      ap (λ t. length (cond t (reading_of e new text ∷ filter (asks_changed old new) (map (reading_of e new) texts)) (filter (asks_changed old new) (map (reading_of e new) texts))))
      (sym (asks_alike e old new text))
      ∙ by (asks_changed old new (reading_of e old text)) (many_asking texts)
    where
      by : (t : Bool) → length (filter (asks_changed old new) (map (reading_of e new) texts)) ≡ length (filter (asks_changed old new) (map (reading_of e old) texts))
          → length (cond t (reading_of e new text ∷ filter (asks_changed old new) (map (reading_of e new) texts)) (filter (asks_changed old new) (map (reading_of e new) texts)))
          ≡ length (cond t (reading_of e old text ∷ filter (asks_changed old new) (map (reading_of e old) texts)) (filter (asks_changed old new) (map (reading_of e old) texts)))
      by true rest = ap suc rest
      by false rest = rest

  abbrev seen : List FoundUnit → List ViewedUnit
  seen found = map (viewed setting new) found

  from_append : (number : ℕ) (xs ys : List ViewedUnit) → asking_from old new first added number (xs ++ ys) ≡ asking_from old new first added number xs ++ asking_from old new first added (number + length xs) ys
  from_append number [] ys = let same : number ≡ number + 0 = omega arith in ap (λ n. asking_from old new first added n ys) same
  from_append number (x ∷ xs) ys =
      by (not (is_added first added number) && nat_lt 0 (length (filter (asks_changed old new) x.readings)))
      (from_append (number + 1) xs ys ∙ ap (λ n. asking_from old new first added (number + 1) xs ++ asking_from old new first added n ys) more)
    where
      more : (number + 1) + length xs ≡ number + suc (length xs)
      more = omega arith

      by : (t : Bool) → asking_from old new first added (number + 1) (xs ++ ys) ≡ asking_from old new first added (number + 1) xs ++ asking_from old new first added (number + suc (length xs)) ys
          → cond t (number ∷ asking_from old new first added (number + 1) (xs ++ ys)) (asking_from old new first added (number + 1) (xs ++ ys))
          ≡ cond t (number ∷ asking_from old new first added (number + 1) xs) (asking_from old new first added (number + 1) xs) ++ asking_from old new first added (number + suc (length xs)) ys
      by true rest = ap (λ l. number ∷ l) rest
      by false rest = rest

  due_append : (number : ℕ) (xs ys : List ViewedUnit) → texts_due old new first added number (xs ++ ys) ≡ texts_due old new first added number xs + texts_due old new first added (number + length xs) ys
  due_append number [] ys =
      let same : number ≡ number + 0 = omega arith in
      let is = ap (λ n. texts_due old new first added n ys) same in
      omega (arith, is)
  due_append number (x ∷ xs) ys =
      let more : (number + 1) + length xs ≡ number + suc (length xs) = omega arith in
      let rest = due_append (number + 1) xs ys ∙ ap (λ n. texts_due old new first added (number + 1) xs + texts_due old new first added n ys) more in
      omega (arith, rest)

  -- units that are not new

  abbrev AreKept : (number many : ℕ) → Type 0
  AreKept number many = (k : ℕ) → k < many → is_added first added (number + k) ≡ false

  kept_here : (n many : ℕ) → AreKept n (suc many) → is_added first added n ≡ false
  kept_here n many g = let a : n ≡ n + 0 = omega arith in ap (is_added first added) a ∙ g 0 (omega arith)

  kept_later : (n many : ℕ) → AreKept n (suc many) → AreKept (n + 1) many
  kept_later n many g k below = let a : (n + 1) + k ≡ n + suc k = omega arith in ap (is_added first added) a ∙ g (suc k) (omega (arith, below))

  from_kept : (number : ℕ) (found : List FoundUnit) → AreKept number (length found)
      → asking_from old new first added number (seen found) ≡ asking_units e old new number (trees_in found)
  from_kept number [] h = refl
  from_kept number (one ∷ found) h =
      ap (λ t. cond (not t && nat_lt 0 (length (filter (asks_changed old new) (map (reading_of e new) one.unit.texts)))) (number ∷ asking_from old new first added (number + 1) (seen found))
      (asking_from old new first added (number + 1) (seen found))) (kept_here number (length found) h)
      ∙ ap (λ t. cond t (number ∷ asking_from old new first added (number + 1) (seen found)) (asking_from old new first added (number + 1) (seen found))) (some_asking one.unit.texts)
      ∙ ap (λ l. cond (asks_again e old new one.unit) (number ∷ l) l) (from_kept (number + 1) found (kept_later number (length found) h))

  due_kept : (number : ℕ) (found : List FoundUnit) → AreKept number (length found)
      → texts_due old new first added number (seen found) ≡ asking_texts e old new (trees_in found)
  due_kept number [] h = refl
  due_kept number (one ∷ found) h =
      ap (λ t. cond t (length (map (reading_of e new) one.unit.texts)) (length (filter (asks_changed old new) (map (reading_of e new) one.unit.texts))) + texts_due old new first added (number + 1) (seen found))
      (kept_here number (length found) h)
      ∙ ap (λ n. n + texts_due old new first added (number + 1) (seen found)) (many_asking one.unit.texts)
      ∙ ap (λ n. asking_in e old new one.unit + n) (due_kept (number + 1) found (kept_later number (length found) h))
      ∙ sym (sum_by-cons (asking_in e old new) one.unit (map (λ (u : FoundUnit). u.unit) found))

  -- new ones
  abbrev texts_in : UnitTree → ℕ
  texts_in unit = length unit.texts

  from_added : (number : ℕ) (found : List FoundUnit) → first ≤ number → number + length found ≤ first + added → asking_from old new first added number (seen found) ≡ []
  from_added number [] above below = refl
  from_added number (one ∷ found) above below =
      let is : is_added first added number ≡ true = grind (arith, nat_tests, above, below) in
      ap (λ t. cond (not t && nat_lt 0 (length (filter (asks_changed old new) (map (reading_of e new) one.unit.texts)))) (number ∷ asking_from old new first added (number + 1) (seen found))
      (asking_from old new first added (number + 1) (seen found))) is
      ∙ from_added (number + 1) found (omega (arith, above)) (omega (arith, below))

  due_added : (number : ℕ) (found : List FoundUnit) → first ≤ number → number + length found ≤ first + added
      → texts_due old new first added number (seen found) ≡ sum_by texts_in (trees_in found)
  due_added number [] above below = refl
  due_added number (one ∷ found) above below =
      let is : is_added first added number ≡ true = grind (arith, nat_tests, above, below) in
      ap (λ t. cond t (length (map (reading_of e new) one.unit.texts)) (length (filter (asks_changed old new) (map (reading_of e new) one.unit.texts))) + texts_due old new first added (number + 1) (seen found)) is
      ∙ ap (λ n. n + texts_due old new first added (number + 1) (seen found)) (map_length (reading_of e new) one.unit.texts)
      ∙ ap (λ n. texts_in one.unit + n) (due_added (number + 1) found (omega (arith, above)) (omega (arith, below)))
      ∙ sym (sum_by-cons texts_in one.unit (map (λ (u : FoundUnit). u.unit) found))

  -- ---- a list of units in three parts

  before_added : (many : ℕ) → many ≤ first → AreKept 0 many
  before_added many h k below = grind (arith, nat_tests, h, below)

  behind_added : (many number : ℕ) → first + added ≤ number → AreKept number many
  behind_added many number h k below = grind (arith, nat_tests, h)

  many_seen : (found : List FoundUnit) → length (seen found) ≡ length found
  many_seen found = map_length (viewed setting new) found

  behind_both : (a b : List FoundUnit) → length a ≡ first → length b ≡ added → 0 + length (seen a ++ seen b) ≡ first + added
  behind_both a b one two = let both = length-append (seen a) (seen b) in let x = many_seen a in let y = many_seen b in omega (arith, one, two, x, y, both)

  pub from_parts : (a b c : List FoundUnit) → length a ≡ first → length b ≡ added
      → asking_from old new first added 0 (seen ((a ++ b) ++ c)) ≡ asking_units e old new 0 (trees_in a) ++ asking_units e old new (first + added) (trees_in c)
  from_parts a b c one two =
      ap (asking_from old new first added 0) (map-append (viewed setting new) (a ++ b) c ∙ ap (λ z. z ++ seen c) (map-append (viewed setting new) a b))
      ∙ from_append 0 (seen a ++ seen b) (seen c)
      ∙ ap (λ l. l ++ asking_from old new first added (0 + length (seen a ++ seen b)) (seen c)) (from_append 0 (seen a) (seen b)
      ∙ ap (λ l. l ++ asking_from old new first added (0 + length (seen a)) (seen b)) (from_kept 0 a (before_added (length a) (omega (arith, one))))
      ∙ ap (λ l. asking_units e old new 0 (trees_in a) ++ l)
      (from_added (0 + length (seen a)) b (omega (arith, one, many_seen a)) (omega (arith, one, two, many_seen a)))
      ∙ append-nil (asking_units e old new 0 (trees_in a)))
      ∙ ap (λ l. asking_units e old new 0 (trees_in a) ++ l) (ap (λ n. asking_from old new first added n (seen c)) (behind_both a b one two)
      ∙ from_kept (first + added) c (behind_added (length c) (first + added) (omega arith)))

  pub due_parts : (a b c : List FoundUnit) → length a ≡ first → length b ≡ added
      → texts_due old new first added 0 (seen ((a ++ b) ++ c)) ≡ (asking_texts e old new (trees_in a) + sum_by texts_in (trees_in b)) + asking_texts e old new (trees_in c)
  due_parts a b c one two =
      let x = due_append 0 (seen a ++ seen b) (seen c) in
      let y = due_append 0 (seen a) (seen b) in
      let u = due_kept 0 a (before_added (length a) (omega (arith, one))) in
      let v = due_added (0 + length (seen a)) b (omega (arith, one, many_seen a)) (omega (arith, one, two, many_seen a)) in
      let w = ap (λ n. texts_due old new first added n (seen c)) (behind_both a b one two)
      ∙ due_kept (first + added) c (behind_added (length c) (first + added) (omega arith)) in
      ap (texts_due old new first added 0) (map-append (viewed setting new) (a ++ b) c ∙ ap (λ z. z ++ seen c) (map-append (viewed setting new) a b))
      ∙ omega (arith, x, y, u, v, w)

-- ---- an edit

module _ (setting : Setting) (before after : Table) (old new : List (List ℕ)) (p : Places) (s : IsSpliced setting.entities old new p) where
  abbrev in_front : List FoundUnit
  in_front = units setting.entities (take (from_line p) old)

  abbrev come : List FoundUnit
  come = units setting.entities (drop (from_line p) (take (meeting_line p) new))

  abbrev behind : List FoundUnit
  behind = units setting.entities (drop (meeting_line p) new)

  abbrev olds : List UnitTree
  olds = trees_in (units setting.entities old)

  front_trees : trees_in in_front ≡ take (units_before p) olds
  front_trees =
      sym (trees_of_tiles (units setting.entities (take (from_line p) old)))
      ∙ ap (map (λ (t : ℕ × UnitTree). t.1)) (sym (front_tiles setting.entities old new p s))
      ∙ sym (take-map (λ (t : ℕ × UnitTree). t.1) (units_before p) (map tile_of (units setting.entities old)))
      ∙ ap (take (units_before p)) (trees_of_tiles (units setting.entities old))

  behind_trees : trees_in behind ≡ drop (units_before p + units_removed p) olds
  behind_trees =
      ap (λ ls. trees_in (units setting.entities ls)) s.same
      ∙ sym (trees_of_tiles (units setting.entities (drop (old_line p (meeting_line p)) old)))
      ∙ ap (map (λ (t : ℕ × UnitTree). t.1)) (sym (behind_tiles setting.entities old new p s))
      ∙ sym (drop-map (λ (t : ℕ × UnitTree). t.1) (units_before p + units_removed p) (map tile_of (units setting.entities old)))
      ∙ ap (drop (units_before p + units_removed p)) (trees_of_tiles (units setting.entities old))

  -- the units without their places
  pub trees_spliced : trees_in (units setting.entities new) ≡ take (units_before p) (trees_in (units setting.entities old))
      ++ trees_in (units setting.entities (drop (from_line p) (take (meeting_line p) new))) ++ drop (units_before p + units_removed p) (trees_in (units setting.entities old))
  trees_spliced =
      ap trees_in s.news
      ∙ map-append (λ (one : FoundUnit). one.unit) (in_front ++ map (shift_found (from_line p)) come) (map (shift_found (meeting_line p)) behind)
      ∙ ap (λ z. z ++ trees_in (map (shift_found (meeting_line p)) behind)) (map-append (λ (one : FoundUnit). one.unit) in_front (map (shift_found (from_line p)) come))
      ∙ ap (λ z. z ++ trees_in (map (shift_found (from_line p)) come) ++ trees_in (map (shift_found (meeting_line p)) behind)) front_trees
      ∙ ap (λ z. take (units_before p) olds ++ z ++ trees_in (map (shift_found (meeting_line p)) behind)) (trees_shifted (from_line p) come)
      ∙ ap (λ z. take (units_before p) olds ++ trees_in come ++ z) (trees_shifted (meeting_line p) behind ∙ behind_trees)

  -- the units that are made again elsewhere: those in front and behind with a text that asked for a label which leads elsewhere
  pub asking_spliced : asking_from before after (units_before p) (units_added p) 0 (map (viewed setting after) (units setting.entities new))
      ≡ asking_units setting.entities before after 0 (take (units_before p) (trees_in (units setting.entities old)))
      ++ asking_units setting.entities before after (units_before p + units_added p) (drop (units_before p + units_removed p) (trees_in (units setting.entities old)))
  asking_spliced =
      ap (λ us. asking_from before after (units_before p) (units_added p) 0 (map (viewed setting after) us)) s.news
      ∙ from_parts setting before after (units_before p) (units_added p) in_front (map (shift_found (from_line p)) come) (map (shift_found (meeting_line p)) behind)
      (sym s.first) (map_length (shift_found (from_line p)) come ∙ sym s.added)
      ∙ ap (λ ts. asking_units setting.entities before after 0 ts ++ asking_units setting.entities before after (units_before p + units_added p) (trees_in (map (shift_found (meeting_line p)) behind))) front_trees
      ∙ ap (λ ts. asking_units setting.entities before after 0 (take (units_before p) olds) ++ asking_units setting.entities before after (units_before p + units_added p) ts)
      (trees_shifted (meeting_line p) behind ∙ behind_trees)

  -- the texts that are read: those in front and behind that asked for such a label, and all of the new units
  pub texts_spliced : texts_due before after (units_before p) (units_added p) 0 (map (viewed setting after) (units setting.entities new))
      ≡ (asking_texts setting.entities before after (take (units_before p) (trees_in (units setting.entities old)))
      + sum_by (λ (unit : UnitTree). length unit.texts) (trees_in (units setting.entities (drop (from_line p) (take (meeting_line p) new)))))
      + asking_texts setting.entities before after (drop (units_before p + units_removed p) (trees_in (units setting.entities old)))
  texts_spliced =
      ap (λ us. texts_due before after (units_before p) (units_added p) 0 (map (viewed setting after) us)) s.news
      ∙ due_parts setting before after (units_before p) (units_added p) in_front (map (shift_found (from_line p)) come) (map (shift_found (meeting_line p)) behind)
      (sym s.first) (map_length (shift_found (from_line p)) come ∙ sym s.added)
      ∙ ap (λ ts. (asking_texts setting.entities before after ts + sum_by (λ (unit : UnitTree). length unit.texts) (trees_in (map (shift_found (from_line p)) come)))
      + asking_texts setting.entities before after (trees_in (map (shift_found (meeting_line p)) behind))) front_trees
      ∙ ap (λ ts. (asking_texts setting.entities before after (take (units_before p) olds) + sum_by (λ (unit : UnitTree). length unit.texts) ts)
      + asking_texts setting.entities before after (trees_in (map (shift_found (meeting_line p)) behind))) (trees_shifted (from_line p) come)
      ∙ ap (λ ts. (asking_texts setting.entities before after (take (units_before p) olds) + sum_by (λ (unit : UnitTree). length unit.texts) (trees_in come))
      + asking_texts setting.entities before after ts) (trees_shifted (meeting_line p) behind ∙ behind_trees)

-- ---- a new prelude, which leaves all units

none_added : (k : ℕ) → is_added 0 0 (0 + k) ≡ false
none_added k = grind (arith, nat_tests)

pub asking_all : (setting : Setting) (before after : Table) (found : List FoundUnit)
    → asking_from before after 0 0 0 (map (viewed setting after) found) ≡ asking_units setting.entities before after 0 (trees_in found)
asking_all setting before after found = from_kept setting before after 0 0 0 found (λ k below. none_added k)

pub texts_all : (setting : Setting) (before after : Table) (found : List FoundUnit)
    → texts_due before after 0 0 0 (map (viewed setting after) found) ≡ asking_texts setting.entities before after (trees_in found)
texts_all setting before after found = due_kept setting before after 0 0 0 found (λ k below. none_added k)
