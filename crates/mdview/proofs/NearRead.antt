-- What an edit reads that stops inside a list.
use Rattle.std.proofs.Common.{◌≡◌, ℕ, ◌+◌, ◌-◌, ◌^◌, ◌<◌, ◌≤◌, List, [], ◌∷◌, ◌++◌, Some, None, Option, Result, Ok, Err, length, map, take, drop, min, refl, ap, ◌∙◌, sym, subst, arith}
use Rattle.std.specs.Prelude.{IfOk, IfSome, OnOk, fold, option_map, sum_by}
use Rattle.std.specs.List.{All}
use Rattle.std.proofs.lemmas.List.{drop-append-le, length-drop, length-take-le, map-append, take-append-drop, take-take}
use Rattle.std.proofs.lemmas.List.Sums.{sum_by-cons}
use Rattle.std.proofs.lemmas.Option.{slice_get_within}
use Rattle.mdtext.specs.EntityTable.{EntityTable}
use Rattle.blockspec.specs.BlockUnits.{units}
use Rattle.blockspec.specs.Nesting.{first_too_deep}
use Rattle.blockspec.specs.UnitTree.{FoundUnit, UnitTree}
use Rattle.mdblock.specs.FoundLists.{FoundList, found_unit}
use Rattle.mdblock.specs.Insets.{MayFit}
use Rattle.mdblock.specs.Fronted.{IsInOrder}
use Rattle.mdblock.specs.Seams.{ListSeam, seam_front}
use Rattle.mdblock.specs.held.Following.{Follows, ItemReading, MeetsIn}
use Rattle.mdblock.specs.held.Reads.{handed}
use Rattle.mdsource.specs.Stops.{near_line, stop_line}
use Rattle.mdsource.specs.Stretch.{Places, from_line, meeting_line, units_before}
use Rattle.mdsource.specs.UnitTexts.{trees_in}
use Rattle.mdview.specs.HeldBlocks.{IsReread, old_lines, places_of}
use Rattle.mdview.specs.HeldItems.{IsItemOf, IsSpliced, KeepsTexts, kept_of, mark_in}
use Rattle.mdview.specs.KeptTexts.{IsKept, kept_texts, last_texts, number_kept}
use Rattle.mdview.specs.StopLines.{IsReadToStop, stops_of}
use Rattle.mdsource.specs.LaterTexts.{texts_of, trees_to}
use Rattle.mdsource.proofs.TakenTexts.{many_in_trees}
use Rattle.mdview.specs.HeldLists.{StandsAt, list_in}
use Rattle.mdview.specs.HeldUnit.{HeldUnit, texts_in}
use Rattle.mdview.specs.NewText.{lines_of}
use Rattle.mdview.specs.UnitsFound.{IsHeldOn, IsSeamOf, found_in, trees_found}
use Rattle.mdview.specs.declared.source.new_text.NewText.{NewText}
use Rattle.mdview.specs.declared.blocks.reparse.KeptTexts.{KeptTexts}
use Rattle.mdview.specs.declared.blocks.reparse.Reparsed.{Reparsed}
use Rattle.mdview.specs.declared.blocks.held_places.HeldItem.{HeldItem}
use Rattle.mdview.proofs.ListsStand.{all_longer, stands_pushed}
use Rattle.mdview.proofs.NearReadings.{ReadInside, met_inside, read_inside}
use Rattle.mdview.proofs.ReadStretches.{is_edit}
use Rattle.mdview.proofs.SomeRemoved.{some_removed}
use Rattle.mdview.proofs.NearStops.{StopsAt, is_stop, stops_near, sums_are}

pub ok_both : {X Y : Type 0} (r : Result X Y) {P Q R : X → Type 0} → ((x : X) → P x → Q x → R x) → IfOk r P → IfOk r Q → IfOk r R
ok_both (Ok x) f p q = f x p q
ok_both (Err y) f p q = tt

pub ok_three : {X Y : Type 0} (r : Result X Y) {P Q R S : X → Type 0} → ((x : X) → P x → Q x → R x → S x) → IfOk r P → IfOk r Q → IfOk r R → IfOk r S
ok_three (Ok x) f p q r = f x p q r
ok_three (Err y) f p q r = tt

pub ok_one : {X Y : Type 0} (r : Result X Y) {P Q : X → Type 0} → ((x : X) → P x → Q x) → IfOk r P → IfOk r Q
ok_one (Ok x) f p = f x p
ok_one (Err y) f p = tt

pub if_some : {X : Type 0} (o : Option X) {P Q : X → Type 0} → ((x : X) → P x → Q x) → IfSome o P → IfSome o Q
if_some (Some x) f p = f x p
if_some None f p = tt

pub ok_any : {X Y : Type 0} (r : Result X Y) {P : Type 0} → P → OnOk r P
ok_any (Ok x) p = p
ok_any (Err y) p = tt

-- the lines from one on up to another are those up to one between, and more
pub longer : (new : List (List ℕ)) (from n m : ℕ) → from ≤ n → n ≤ m → m ≤ length new → drop from (take m new) ≡ drop from (take n new) ++ drop n (take m new)
longer new from n m low mid high =
    let size = length-take-le n new (omega (arith, mid, high)) in
    ap (drop from) (sym (take-append-drop n (take m new)) ∙ ap (λ z. z ++ drop n (take m new)) (take-take n m new mid))
    ∙ drop-append-le from (take n new) (drop n (take m new)) (omega (arith, low, size))

-- what `join_held` says of where it reads
abbrev pub IsPlaced : (first from line : ℕ) → HeldItem → Reparsed → Type 0
IsPlaced first from line item r =
    (r.first ≡ first) × (r.from ≡ from) × (r.next ≡ min (item.number + 1) (2 ^ 64 - 1)) × (r.meet ≡ min (line + (item.unit.now.read.lines - (mark_in item).line)) (2 ^ 64 - 1))

-- and of the list
abbrev pub IsListed : ItemReading → (found : List FoundList) → HeldItem → Reparsed → Type 0
IsListed reader found item r =
    (list : FoundList) × (found_in r ≡ found ++ list ∷ []) × IsSpliced reader (list_in item.unit.now) item.item list × KeepsTexts reader item list r.kept

-- the texts of the last of some units
last_of_trees : (texts : List (List ℕ)) (trees : List UnitTree) (tree : UnitTree) → fold (λ (before : List (List ℕ)) (unit : UnitTree). unit.texts) texts (trees ++ tree ∷ []) ≡ tree.texts
last_of_trees texts [] tree = refl
last_of_trees texts (t ∷ trees) tree = last_of_trees t.texts trees tree

last_found : (fs found : List FoundList) (list : FoundList) → fs ≡ found ++ list ∷ [] → last_texts (trees_in (map found_unit fs)) ≡ list.unit.texts
last_found fs found list is =
    ap (λ gs. last_texts (trees_in (map found_unit gs))) is
    ∙ ap (λ us. last_texts (trees_in us)) (map-append found_unit found (list ∷ []))
    ∙ ap last_texts (map-append (λ (one : FoundUnit). one.unit) (map found_unit found) (found_unit list ∷ []))
    ∙ last_of_trees [] (trees_in (map found_unit found)) list.unit

sum_with : (found : List FoundList) (list : FoundList) → sum_by texts_in (trees_in (map found_unit (found ++ list ∷ []))) ≡ sum_by texts_in (trees_in (map found_unit found)) + length list.unit.texts
sum_with [] list = let one = sum_by-cons texts_in list.unit [] in omega (arith, one)
sum_with (f ∷ found) list =
    let rest = sum_with found list in
    let whole = sum_by-cons texts_in f.unit (trees_in (map found_unit (found ++ list ∷ []))) in
    let part = sum_by-cons texts_in f.unit (trees_in (map found_unit found)) in
    omega (arith, rest, whole, part)

-- Where no text is kept all texts of the units found are read, which are the units up to where reading stops.
pub read_to_stop : (e : EntityTable) (text : NewText) (found : List FoundList) → map found_unit found ≡ units e (drop (from_line (places_of e text)) (take (stop_line (stops_of e text)) (lines_of text)))
    → sum_by texts_in (trees_in (map found_unit found)) - length (kept_texts None (trees_in (map found_unit found)))
    ≡ length (texts_of (trees_to e (lines_of text) (stops_of e text) (stop_line (stops_of e text))))
read_to_stop e text found is =
    let many = many_in_trees (trees_in (units e (drop (from_line (places_of e text)) (take (stop_line (stops_of e text)) (lines_of text))))) in
    let sums = ap (λ us. sum_by texts_in (trees_in us)) is in
    let none : length (kept_texts None (trees_in (map found_unit found))) ≡ 0 = refl in
    omega (arith, many, sums, none)

module _ (e : EntityTable) (text : NewText) (held : List HeldUnit) (limit : ℕ) (fits : first_too_deep limit (old_lines text) ≡ None) (reader : ItemReading) (found : List FoundList) (line : ℕ) (item : HeldItem)
    (s : StopsAt e text held item line) (of : IsItemOf held item) (few : length (lines_of text) ≤ 1000000) (few_held : length held < 2 ^ 64) (order : from_line (places_of e text) ≤ line)
    (reads : Follows limit e reader (drop (from_line (places_of e text)) (take (line + 1) (lines_of text))))
    (out : map found_unit found ≡ handed e (drop (from_line (places_of e text)) (take (line + 1) (lines_of text))))
    (stands : All (StandsAt e (drop (from_line (places_of e text)) (take (line + 1) (lines_of text)))) found) where
  abbrev pub new : List (List ℕ)
  new = lines_of text

  abbrev pub p : Places
  p = places_of e text

  abbrev pub from : ℕ
  from = from_line (places_of e text)

  abbrev pub meet : ℕ
  meet = meeting_line (places_of e text)

  inside : (list : FoundList) → IsSpliced reader (list_in item.unit.now) item.item list → ReadInside limit e new (stops_of e text) s.before (map found_unit found) (list_in item.unit.now) item.item list
  inside list spliced =
      read_inside limit e (old_lines text) new (stops_of e text) (is_stop e text) s.small s.inside s.before s.one s.back (list_in item.unit.now) item.item s.holds fits reader (map found_unit found) list
      (subst (λ n. Follows limit e reader (drop from (take (n + 1) new))) (sym s.near) reads) (out ∙ ap (λ n. handed e (drop from (take (n + 1) new))) (sym s.near)) spliced s.behind

  there : (P : Type 0) → ((limit : ℕ) (e : EntityTable) (xs : List (List ℕ)) (l : List ℕ) (zs ys : List (List ℕ)) → MeetsIn limit e reader (list_in item.unit.now) item.item xs l zs ys → P) → P
  there P told =
      met_inside limit e (old_lines text) new (stops_of e text) (is_stop e text) s.small s.inside s.before s.one s.back (list_in item.unit.now) item.item s.holds reader
      (subst (λ n. Follows limit e reader (drop from (take (n + 1) new))) (sym s.near) reads) P told

  kept_is : (list : FoundList) (kept : Option KeptTexts) → KeepsTexts reader item list kept → kept ≡ Some (kept_of item list)
  kept_is list kept keeps = there (kept ≡ Some (kept_of item list)) keeps

  number_small : item.number + 1 ≤ 2 ^ 64 - 1
  number_small = let below = slice_get_within held item.number item.unit.now of.0 in omega (arith, below, few_held)

  pub joined_reread : (r : Reparsed) → IsPlaced (units_before p) from line item r → IsListed reader found item r → IsReread e text r
  joined_reread r at told =
      let i = inside told.0 told.2 in
      let near = s.near in
      let small = s.small in
      let within = s.inside in
      let count = s.count in
      let ends = i.meet in
      let many = i.next in
      let met : r.meet ≡ meet = at.3 ∙ (let full : line + (item.unit.now.read.lines - (mark_in item).line) ≡ meet = omega (arith, near, ends) in grind (arith, full, within, few)) in
      let long = longer new from (line + 1) meet (omega (arith, order)) (omega (arith, near, small)) within in
      let lines : drop r.from (take r.meet new) ≡ drop from (take meet new) = ap (λ n. drop n (take r.meet new)) at.1 ∙ ap (λ n. drop from (take n new)) met in
      record {
        from = at.1;
        meet = met;
        first = at.0;
        next = at.2 ∙ grind (arith, number_small, many, count);
        found = ap (map found_unit) told.1 ∙ map-append found_unit found (told.0 ∷ []) ∙ i.found_is ∙ ap (units e) (sym lines);
        stands = subst (λ ls. All (StandsAt e ls) (found_in r)) (sym lines)
            (stands_pushed e (drop from (take meet new)) found (found_in r) (Some told.0) told.1 i.stands
            (subst (λ ls. All (StandsAt e ls) found) (sym long) (all_longer e (drop from (take (line + 1) new)) (drop (line + 1) (take meet new)) found stands)));
      }

  pub joined_kept : (r : Reparsed) → IsListed reader found item r → IfSome r.kept (IsKept held (trees_found r))
  joined_kept r told =
      let i = inside told.0 told.2 in
      let kept = kept_of item told.0 in
      let last = last_found (found_in r) found told.0 told.1 in
      let is : IsKept held (trees_found r) kept = record {
        unit = item.unit.now;
        held = of.0;
        from = i.from;
        at = (let size = ap (λ (ts : List (List ℕ)). length ts) last in omega (arith, size));
        texts = ap (drop kept.at) last ∙ i.kept;
      } in
      subst (λ o. IfSome o (IsKept held (trees_found r))) (sym (kept_is told.0 r.kept told.3)) is

  pub joined_soon : (r : Reparsed) → IsListed reader found item r → IsReadToStop e text r
  joined_soon r told =
      let i = inside told.0 told.2 in
      let kept = kept_of item told.0 in
      let trees = trees_found r in
      let small = s.small in
      let near = s.near in
      let stop = stops_near e text line near (omega (arith, small, near)) in
      let last = last_found (found_in r) found told.0 told.1 in
      let size = length-drop kept.at (last_texts trees) in
      let long = ap (λ (ts : List (List ℕ)). length ts) last in
      let parts = ap (λ fs. sum_by texts_in (trees_in (map found_unit fs))) told.1 ∙ sum_with found told.0 in
      let sums = sums_are (map found_unit found) in
      let all = sums_are (units e (drop from (take line new))) in
      let texts = i.texts ∙ ap (λ n. sum_by (λ (one : FoundUnit). texts_in one.unit) (units e (drop from (take n new)))) near in
      let many = many_in_trees (trees_in (units e (drop from (take line new)))) in
      let kept_are = ap (λ o. length (kept_texts (option_map number_kept o) trees)) (kept_is told.0 r.kept told.3) in
      omega (arith, kept_are, size, long, parts, sums, all, texts, many)
      ∙ ap (λ n. length (texts_of (trees_in (units e (drop from (take n new)))))) (sym stop)

  next_is : (r : Reparsed) → IsPlaced (units_before p) from line item r → r.next ≡ item.number + 1
  next_is r at = at.2 ∙ grind (arith, number_small)

  pub joined_list : (r : Reparsed) → IsPlaced (units_before p) from line item r → IsListed reader found item r → IfSome r.list (IsSeamOf reader item r.kept) → IfSome r.list (IsHeldOn held r)
  joined_list r at told seam =
      let i = inside told.0 told.2 in
      let some = some_removed e (old_lines text) new p (is_edit e text) (near_line (stops_of e text)) s.before s.one s.back s.holds.holds s.behind s.small in
      let many = i.next in
      let count = s.count in
      let first = at.0 in
      let low : r.first ≤ item.number = omega (arith, some, many, count, first) in
      if_some r.list (λ (list : ListSeam) (w : IsSeamOf reader item r.kept list). record {
        unit = item.unit.now;
        number = item.number;
        held = of.0;
        first = low;
        next = next_is r at;
        kept = w.kept;
        old = w.old;
        stays = w.stays;
        fits = there (MayFit (seam_front list) list.old list.join × IsInOrder list.base) w.fits;
      }) seam

  pub joined_order : (r : Reparsed) → IsPlaced (units_before p) from line item r → IsListed reader found item r → (r.first ≤ r.next) × (r.next ≤ length held)
  joined_order r at told =
      let i = inside told.0 told.2 in
      let below = slice_get_within held item.number item.unit.now of.0 in
      let many = i.next in
      let count = s.count in
      let next : r.next ≡ item.number + 1 = at.2 ∙ grind (arith, number_small) in
      let first = at.0 in
      (omega (arith, next, first, many, count), omega (arith, next, below))
