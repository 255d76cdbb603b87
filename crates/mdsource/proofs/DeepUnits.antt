-- The first unit in which spans lie too deep, by the units in front of an edit, those that are read, and those behind.
use Rattle.std.proofs.Common.{◌≡◌, ℕ, ◌+◌, ◌<◌, ◌⊎◌, inl, inr, Bool, true, false, List, [], ◌∷◌, ◌++◌, Option, Some, None, length, map, find, take, drop, option_map, cond, append_assoc, get_or, refl, sym, ◌∙◌, ap, subst, arith}
use Rattle.std.specs.Prelude.{Contains, sum_by}
use Rattle.std.specs.List.{All}
use Rattle.std.specs.Option.{option_or}
use Rattle.std.proofs.lemmas.List.Folds.{find-append}
use Rattle.std.proofs.lemmas.List.{length-take, map-append}
use Rattle.std.proofs.Math.Seq.{drop-length}
use Rattle.std.proofs.lemmas.List.Sums.{sum_by-cons}
use Rattle.std.proofs.lemmas.List.Elements.{All-cons, All-head, All-nil, All-tail, Contains-append_cases}
use Rattle.mdtext.specs.EntityTable.{EntityTable}
use Rattle.blockspec.specs.BlockUnits.{units}
use Rattle.blockspec.specs.UnitBegin.{shift_found}
use Rattle.blockspec.specs.UnitTree.{FoundUnit, UnitTree}
use Rattle.inlinespec.specs.LinkTails.{Table}
use Rattle.mdsource.specs.LabelTable.{table}
use Rattle.mdsource.specs.Refusals.{inline_refusal, inline_too_deep, is_too_deep}
use Rattle.mdsource.specs.Setting.{Setting, Source}
use Rattle.mdsource.specs.Spliced.{IsSpliced}
use Rattle.mdsource.specs.Stretch.{Places, from_line, meeting_line, old_line, units_before, units_removed}
use Rattle.mdsource.specs.View.{ViewedUnit, viewed}
use Rattle.mdsource.specs.UnitTexts.{deep_found, deep_from, is_deep_under}
use Rattle.mdsource.specs.UnitTiles.{begins_from, front_of, lines_of, tile_of}
use Rattle.mdsource.proofs.Cuts.{begins_before_end, begins_in, no_units, units_cut}
use Rattle.mdsource.proofs.Counts.{spliced}
use Rattle.mdsource.proofs.Splices.{IsEdit, MeetsBehind, meets_behind}
use Rattle.mdsource.proofs.StretchReadings.{Ascends, begins_ascend}
use Rattle.mdsource.proofs.TileSplices.{behind_tiles, front_tiles, least_first, moved_above}
use Rattle.mdsource.proofs.UnitTiles.{units_tile}

module _ (limit : ℕ) (e : EntityTable) (labels : Table) where
  abbrev is_deep_one : FoundUnit → Bool
  is_deep_one one = is_deep_under limit e labels one.unit

  -- ---- units one behind the other

  pub deep_append : (begin : ℕ) (xs ys : List (ℕ × UnitTree))
      → deep_from limit e labels begin (xs ++ ys) ≡ option_or (deep_from limit e labels begin xs) (deep_from limit e labels (begin + sum_by (λ (t : ℕ × UnitTree). t.0) xs) ys)
  deep_append begin [] ys = let same : begin ≡ begin + 0 = omega arith in ap (λ b. deep_from limit e labels b ys) same
  deep_append begin (x ∷ xs) ys = by (is_deep_under limit e labels x.1) (deep_append (begin + x.0) xs ys ∙ ap (λ b. option_or (deep_from limit e labels (begin + x.0) xs) (deep_from limit e labels b ys)) more)
    where
      more : (begin + x.0) + sum_by (λ (t : ℕ × UnitTree). t.0) xs ≡ begin + sum_by (λ (t : ℕ × UnitTree). t.0) (x ∷ xs)
      more = let s = sum_by-cons (λ (t : ℕ × UnitTree). t.0) x xs in omega (arith, s)

      by : (t : Bool) → deep_from limit e labels (begin + x.0) (xs ++ ys)
          ≡ option_or (deep_from limit e labels (begin + x.0) xs) (deep_from limit e labels (begin + sum_by (λ (t : ℕ × UnitTree). t.0) (x ∷ xs)) ys)
          → cond t (Some begin) (deep_from limit e labels (begin + x.0) (xs ++ ys))
          ≡ option_or (cond t (Some begin) (deep_from limit e labels (begin + x.0) xs)) (deep_from limit e labels (begin + sum_by (λ (t : ℕ × UnitTree). t.0) (x ∷ xs)) ys)
      by true rest = refl
      by false rest = rest

  -- so many lines further on
  deep_moved : (k begin : ℕ) (tiles : List (ℕ × UnitTree)) → deep_from limit e labels (begin + k) tiles ≡ option_map (λ line. line + k) (deep_from limit e labels begin tiles)
  deep_moved k begin [] = refl
  deep_moved k begin (x ∷ tiles) = by (is_deep_under limit e labels x.1) (ap (λ b. deep_from limit e labels b tiles) on ∙ deep_moved k (begin + x.0) tiles)
    where
      on : (begin + k) + x.0 ≡ (begin + x.0) + k
      on = omega arith

      by : (t : Bool) → deep_from limit e labels ((begin + k) + x.0) tiles ≡ option_map (λ line. line + k) (deep_from limit e labels (begin + x.0) tiles)
          → cond t (Some (begin + k)) (deep_from limit e labels ((begin + k) + x.0) tiles)
          ≡ option_map (λ line. line + k) (cond t (Some begin) (deep_from limit e labels (begin + x.0) tiles))
      by true rest = refl
      by false rest = rest

  -- units that tell where they begin
  deep_tiles : (begin : ℕ) (found : List FoundUnit) → begins_in found ≡ begins_from begin (lines_of found) → deep_found limit e labels found ≡ deep_from limit e labels begin (map tile_of found)
  deep_tiles begin [] is = refl
  deep_tiles begin (one ∷ found) is = by (is_deep_one one) (deep_tiles (begin + one.lines) found (ap (drop 1) is))
    where
      here : one.begin ≡ begin
      here = ap (λ l. get_or l 0 0) is

      by : (t : Bool) → deep_found limit e labels found ≡ deep_from limit e labels (begin + one.lines) (map tile_of found)
          → option_map (λ (u : FoundUnit). u.begin) (cond t (Some one) (find is_deep_one found)) ≡ cond t (Some begin) (deep_from limit e labels (begin + one.lines) (map tile_of found))
      by true rest = ap (λ b. Some b) here
      by false rest = rest

  pub deep_of_text : (lines : List (List ℕ)) → deep_found limit e labels (units e lines) ≡ deep_from limit e labels (front_of (length lines) (units e lines)) (map tile_of (units e lines))
  deep_of_text lines = deep_tiles (front_of (length lines) (units e lines)) (units e lines) (units_tile e lines)

  -- ---- a text in parts

  first_found : (a b : Option FoundUnit) → option_map (λ (u : FoundUnit). u.begin) (option_or a b)
      ≡ option_or (option_map (λ (u : FoundUnit). u.begin) a) (option_map (λ (u : FoundUnit). u.begin) b)
  first_found None b = refl
  first_found (Some one) b = refl

  pub found_append : (xs ys : List FoundUnit) → deep_found limit e labels (xs ++ ys) ≡ option_or (deep_found limit e labels xs) (deep_found limit e labels ys)
  found_append xs ys = ap (option_map (λ (u : FoundUnit). u.begin)) (find-append is_deep_one xs ys) ∙ first_found (find is_deep_one xs) (find is_deep_one ys)

  pub found_moved : (k : ℕ) (found : List FoundUnit) → deep_found limit e labels (map (shift_found k) found) ≡ option_map (λ line. line + k) (deep_found limit e labels found)
  found_moved k [] = refl
  found_moved k (one ∷ found) = by (is_deep_one one) (found_moved k found)
    where
      by : (t : Bool) → deep_found limit e labels (map (shift_found k) found) ≡ option_map (λ line. line + k) (deep_found limit e labels found)
          → option_map (λ (u : FoundUnit). u.begin) (cond t (Some (shift_found k one)) (find is_deep_one (map (shift_found k) found)))
          ≡ option_map (λ line. line + k) (option_map (λ (u : FoundUnit). u.begin) (cond t (Some one) (find is_deep_one found)))
      by true rest = refl
      by false rest = rest

  -- where a text begins with a unit, or has none, its tiles tell
  deep_at_once : (lines : List (List ℕ)) → (front_of (length lines) (units e lines) ≡ 0) ⊎ (units e lines ≡ []) → deep_found limit e labels (units e lines) ≡ deep_from limit e labels 0 (map tile_of (units e lines))
  deep_at_once lines (inl first) = deep_of_text lines ∙ ap (λ b. deep_from limit e labels b (map tile_of (units e lines))) first
  deep_at_once lines (inr none) = ap (deep_found limit e labels) none ∙ ap (λ us. deep_from limit e labels 0 (map tile_of us)) (sym none)

  or_assoc : (a b c : Option ℕ) → option_or (option_or a b) c ≡ option_or a (option_or b c)
  or_assoc None b c = refl
  or_assoc (Some n) b c = refl

  added_on : (k : ℕ) (o : Option ℕ) → option_map (λ line. line + k) o ≡ option_map (λ line. k + line) o
  added_on k None = refl
  added_on k (Some line) = let same : line + k ≡ k + line = omega arith in ap (λ n. Some n) same

  -- ---- the parts of an edited text

  -- the front's own first line is the text's
  deep_front : (old : List (List ℕ)) (front rest : List FoundUnit) (all : ℕ) → units e old ≡ front ++ rest
      → deep_from limit e labels (front_of all front) (map tile_of front) ≡ deep_from limit e labels (front_of (length old) (units e old)) (map tile_of front)
  deep_front old [] rest all is = refl
  deep_front old (one ∷ front) rest all is = ap (λ us. deep_from limit e labels (front_of (length old) us) (map tile_of (one ∷ front))) (sym is)

  moved_ascend : (k : ℕ) (found : List FoundUnit) → Ascends (begins_in found) → Ascends (begins_in (map (shift_found k) found))
  moved_ascend k [] h = tt
  moved_ascend k (one ∷ found) h = (above found h.0, moved_ascend k found h.1)
    where
      above : (us : List FoundUnit) → All (λ b. one.begin < b) (begins_in us) → All (λ b. one.begin + k < b) (begins_in (map (shift_found k) us))
      above [] g = All-nil (λ b. one.begin + k < b)
      above (u ∷ us) g =
          let low = All-head (λ b. one.begin < b) u.begin (begins_in us) g in
          All-cons (λ b. one.begin + k < b) (u.begin + k) (begins_in (map (shift_found k) us)) (omega (arith, low)) (above us (All-tail (λ b. one.begin < b) u.begin (begins_in us) g))

  -- Behind the meeting line there is a unit at once, or none.
  back_begins : (old new : List (List ℕ)) (p : Places) → IsEdit e old new p
      → (front_of (length (drop (meeting_line p) new)) (units e (drop (meeting_line p) new)) ≡ 0) ⊎ (units e (drop (meeting_line p) new) ≡ [])
  back_begins old new p w = by (meets_behind e old new p w)
    where
      meet : ℕ
      meet = meeting_line p

      back : List FoundUnit
      back = units e (drop meet new)

      at_once : (found : List FoundUnit) (all : ℕ) → back ≡ found → front_of (length new) (map (shift_found meet) found) ≡ meet → (front_of all found ≡ 0) ⊎ (found ≡ [])
      at_once [] all is first = inr refl
      at_once (one ∷ found) all is first = inl (omega (arith, first))

      inside : Contains (begins_in (units e (take meet new))) meet ⊎ Contains (begins_in (map (shift_found meet) back)) meet
          → (front_of (length (drop meet new)) back ≡ 0) ⊎ (back ≡ [])
      inside (inl c) =
          let small = begins_before_end e (take meet new) meet c in
          let short = length-take meet new in
          absurd (grind (arith, small, short))
      inside (inr c) =
          at_once back (length (drop meet new)) refl
          (least_first (length new) meet (map (shift_found meet) back) (moved_ascend meet back (begins_ascend e (drop meet new))) (moved_above meet back) c)

      by : MeetsBehind e old new p → (front_of (length (drop meet new)) back ≡ 0) ⊎ (back ≡ [])
      by (inl h) = inr (ap (λ k. units e (drop k new)) h ∙ ap (units e) (drop-length new) ∙ no_units e)
      by (inr h) =
          inside (Contains-append_cases (begins_in (units e (take meet new))) (begins_in (map (shift_found meet) back)) meet
          (subst (λ z. Contains z meet) (ap begins_in (units_cut e new meet (inr (inr h.1)))
          ∙ map-append (λ (u : FoundUnit). u.begin) (units e (take meet new)) (map (shift_found meet) back)) h.1))

  -- Where spans lie too deep first: in front of the edit, in the units that are read, or behind them.
  pub deep_spliced : (old new : List (List ℕ)) (p : Places) → IsEdit e old new p
      → deep_found limit e labels (units e new)
      ≡ option_or (deep_from limit e labels (front_of (length old) (units e old)) (take (units_before p) (map tile_of (units e old))))
      (option_or (option_map (λ line. from_line p + line) (deep_found limit e labels (units e (drop (from_line p) (take (meeting_line p) new)))))
      (deep_from limit e labels (meeting_line p) (drop (units_before p + units_removed p) (map tile_of (units e old)))))
  deep_spliced old new p w =
      ap (deep_found limit e labels) s.news
      ∙ found_append (a ++ map (shift_found from) b) (map (shift_found meet) c)
      ∙ ap (λ o. option_or o (deep_found limit e labels (map (shift_found meet) c))) (found_append a (map (shift_found from) b))
      ∙ or_assoc (deep_found limit e labels a) (deep_found limit e labels (map (shift_found from) b)) (deep_found limit e labels (map (shift_found meet) c))
      ∙ ap (λ o. option_or o (option_or (deep_found limit e labels (map (shift_found from) b)) (deep_found limit e labels (map (shift_found meet) c)))) front
      ∙ ap (λ o. option_or inside_front (option_or o (deep_found limit e labels (map (shift_found meet) c)))) (found_moved from b ∙ added_on from (deep_found limit e labels b))
      ∙ ap (λ o. option_or inside_front (option_or (option_map (λ line. from + line) (deep_found limit e labels b)) o)) behind
    where
      s : IsSpliced e old new p
      s = spliced e old new p w

      from : ℕ
      from = from_line p

      meet : ℕ
      meet = meeting_line p

      a : List FoundUnit
      a = units e (take from old)

      b : List FoundUnit
      b = units e (drop from (take meet new))

      c : List FoundUnit
      c = units e (drop meet new)

      inside_front : Option ℕ
      inside_front = deep_from limit e labels (front_of (length old) (units e old)) (take (units_before p) (map tile_of (units e old)))

      front : deep_found limit e labels a ≡ inside_front
      front =
          deep_of_text (take from old)
          ∙ deep_front old a (map (shift_found from) (units e (drop from (take (old_line p meet) old))) ++ map (shift_found (old_line p meet)) (units e (drop (old_line p meet) old))) (length (take from old))
          (s.olds ∙ append_assoc a (map (shift_found from) (units e (drop from (take (old_line p meet) old)))) (map (shift_found (old_line p meet)) (units e (drop (old_line p meet) old))))
          ∙ ap (deep_from limit e labels (front_of (length old) (units e old))) (sym (front_tiles e old new p s))

      from_zero : 0 + meet ≡ meet
      from_zero = omega arith

      behind : deep_found limit e labels (map (shift_found meet) c) ≡ deep_from limit e labels meet (drop (units_before p + units_removed p) (map tile_of (units e old)))
      behind =
          found_moved meet c
          ∙ ap (option_map (λ line. line + meet)) (deep_at_once (drop meet new) (back_begins old new p w))
          ∙ sym (deep_moved meet 0 (map tile_of c))
          ∙ ap (λ b. deep_from limit e labels b (map tile_of c)) from_zero
          ∙ ap (λ us. deep_from limit e labels meet (map tile_of (units e us))) s.same
          ∙ ap (deep_from limit e labels meet) (sym (behind_tiles e old new p s))

-- ---- in the words of refusals

found_in_view : (setting : Setting) (labels : Table) (found : List FoundUnit) → option_map (λ (one : ViewedUnit). inline_too_deep one.begin) (find (is_too_deep setting.options.max_spans) (map (viewed setting labels) found))
    ≡ option_map inline_too_deep (deep_found setting.options.max_spans setting.entities labels found)
found_in_view setting labels [] = refl
found_in_view setting labels (one ∷ found) = by (is_deep_under setting.options.max_spans setting.entities labels one.unit) (found_in_view setting labels found)
  where
    by : (t : Bool) → option_map (λ (v : ViewedUnit). inline_too_deep v.begin) (find (is_too_deep setting.options.max_spans) (map (viewed setting labels) found))
        ≡ option_map inline_too_deep (deep_found setting.options.max_spans setting.entities labels found)
        → option_map (λ (v : ViewedUnit). inline_too_deep v.begin) (cond t (Some (viewed setting labels one)) (find (is_too_deep setting.options.max_spans) (map (viewed setting labels) found)))
        ≡ option_map inline_too_deep (option_map (λ (u : FoundUnit). u.begin) (cond t (Some one) (find (λ (u : FoundUnit). is_deep_under setting.options.max_spans setting.entities labels u.unit) found)))
    by true rest = refl
    by false rest = rest

-- why a source is refused for spans in one another
pub refused_for_spans : (setting : Setting) (source : Source) →
    inline_refusal setting source ≡ option_map inline_too_deep (deep_found setting.options.max_spans setting.entities (table setting.entities source) (units setting.entities source.lines))
refused_for_spans setting source = found_in_view setting (table setting.entities source) (units setting.entities source.lines)
