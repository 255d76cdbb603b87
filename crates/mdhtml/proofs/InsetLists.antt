-- A list that is made from new items and the HTML of an old list is the list that is made anew.
use Rattle.std.proofs.Common.{◌≡◌, ℕ, ◌+◌, ◌-◌, ◌<◌, ◌≤◌, Bool, List, [], ◌∷◌, ◌++◌, false, length, drop, take, refl, sym, ◌∙◌, ap, subst, append_assoc, arith}
use Rattle.std.specs.List.{AllByRecursion}
use Rattle.std.proofs.lemmas.List.{length-take-le}
use Rattle.std.proofs.Math.Seq.{drop-append_seam, take-append_seam}
use Rattle.inlinespec.specs.ParsedText.{ParsedText}
use Rattle.blockspec.specs.BlockTree.{Blocks, Items, no_items, item}
use Rattle.mdblock.specs.BlockView.{items_view, kind_view}
use Rattle.mdblock.specs.Copies.{IsBehind, copied_items, items_positions}
use Rattle.mdblock.specs.Spliced.{drop_items, first_items, take_items}
use Rattle.mdblock.specs.held.TreesBehind.{placed_before}
use Rattle.mdblock.proofs.ItemParts.{items_dropped, items_taken}
use Rattle.mdblock.proofs.TextOrder.{behind_is, items_in_order}
use Rattle.htmlspec.specs.declared.options.Options.{Options}
use Rattle.mdhtml.specs.declared.lists.item_ends.OneList.{OneList}
use Rattle.mdhtml.specs.declared.lists.kept_items.Between.{Between}
use Rattle.htmlspec.specs.BlockHtml.{blocks_html, items_html, list_close, text_html, texts_html}
use Rattle.mdhtml.specs.InsetLists.{inset_blocks, inset_items, inset_readings}
use Rattle.htmlspec.specs.ListEnds.{item_html, item_ends, unit_ends}
use Rattle.mdhtml.specs.held.KeptItems.{list_around, list_begins, list_ends_around}
use Rattle.mdhtml.specs.held.ListUnits.{unit_of}
use Rattle.mdhtml.proofs.LikeLists.{text_taken, text_dropped}
use Rattle.mdhtml.proofs.MovedTexts.{items_moved, ends_moved}
use Rattle.mdhtml.proofs.NamedTexts.{items_named, ends_named}

placed_html : (o : Options) (T : List (List ℕ)) (tight : Bool) (xs ys : Items) (out : List ℕ) → items_html o T tight (placed_before xs ys) out ≡ items_html o T tight ys (items_html o T tight xs out)
placed_html o T tight no_items ys out = refl
placed_html o T tight (item bs xs) ys out = placed_html o T tight xs ys (item_html o T tight bs out)

placed_ends : (o : Options) (T : List (List ℕ)) (tight : Bool) (xs ys : Items) (out : List ℕ)
    → item_ends o T tight (placed_before xs ys) out ≡ item_ends o T tight xs out ++ item_ends o T tight ys (items_html o T tight xs out)
placed_ends o T tight no_items ys out = refl
placed_ends o T tight (item bs xs) ys out = ap (λ z. length (item_html o T tight bs out) ∷ z) (placed_ends o T tight xs ys (item_html o T tight bs out))

module _ (o : Options) (at : ℕ) (texts others : List ParsedText) (room : at ≤ length others) where
  abbrev all : List ParsedText
  all = inset_readings at texts others

  abbrev rest : List ParsedText
  rest = texts ++ drop (at + length texts) others

  size : length (take at others) ≡ at
  size = length-take-le at others room

  behind_front : drop at all ≡ rest
  behind_front = ap (λ n. drop n all) (sym size) ∙ drop-append_seam (take at others) rest

  -- each text in front, of the new items and behind them is the one of all
  front_text : (k : ℕ) → k < at → text_html (texts_html o others) k ≡ text_html (texts_html o all) k
  front_text k lt =
      text_taken o others at k lt
      ∙ ap (λ z. text_html (texts_html o z) k) (sym (ap (λ n. take n all) (sym size) ∙ take-append_seam (take at others) rest))
      ∙ sym (text_taken o all at k lt)

  new_text : (k : ℕ) → k < length texts → text_html (texts_html o texts) k ≡ text_html (texts_html o all) (at + k)
  new_text k lt =
      ap (λ z. text_html (texts_html o z) k) (sym (take-append_seam texts (drop (at + length texts) others)))
      ∙ sym (text_taken o rest (length texts) k lt)
      ∙ ap (λ z. text_html (texts_html o z) k) (sym behind_front)
      ∙ sym (text_dropped o all at k)

  later_text : (k : ℕ) → at + length texts ≤ k → text_html (texts_html o others) k ≡ text_html (texts_html o all) k
  later_text k le =
      let n = length texts in
      let j = k - (at + n) in
      let e : (at + n) + j ≡ k = omega (arith, le) in
      let f : at + (n + j) ≡ k = omega (arith, le) in
      ap (text_html (texts_html o others)) (sym e)
      ∙ text_dropped o others (at + n) j
      ∙ ap (λ z. text_html (texts_html o z) j) (sym (drop-append_seam texts (drop (at + n) others)))
      ∙ sym (text_dropped o rest n j)
      ∙ ap (λ z. text_html (texts_html o z) (n + j)) (sym behind_front)
      ∙ sym (text_dropped o all at (n + j))
      ∙ ap (text_html (texts_html o all)) f

module _ (o : Options) (at : ℕ) (texts others : List ParsedText) (room : at ≤ length others) (items olds : Items) (front later : ℕ)
    (order : IsBehind 0 (items_positions items) (length texts)) (before : AllByRecursion (λ k. k < at) (items_positions (take_items front olds)))
    (behind : AllByRecursion (λ k. at + length texts ≤ k) (items_positions (drop_items later olds))) (tight : Bool) (out : List ℕ)
  where
    abbrev N : List (List ℕ)
    N = texts_html o texts

    abbrev U : List (List ℕ)
    U = texts_html o others

    abbrev T : List (List ℕ)
    T = texts_html o (all o at texts others room)

    abbrev F : Items
    F = take_items front olds

    abbrev M : Items
    M = copied_items at items

    abbrev L : Items
    L = drop_items later olds

    abbrev begun : List ℕ
    begun = items_html o T tight F out

    abbrev written : List ℕ
    written = items_html o T tight M begun

    in_order : copied_items 0 items ≡ items
    in_order = items_in_order 0 (length texts) items order

    count : 0 + length (items_positions items) ≤ length texts
    count = let e = behind_is 0 (length texts) (items_positions items) order in omega (arith, e)

    at_is : at + 0 ≡ at
    at_is = omega arith

    front_is : items_html o U tight F out ≡ begun
    front_is = items_named o U T (λ k. k < at) (front_text o at texts others room) tight F out before

    middle_is : (from : List ℕ) → items_html o N tight items from ≡ items_html o T tight M from
    middle_is from =
        ap (λ z. items_html o N tight z from) (sym in_order)
        ∙ items_moved o N T at (length texts) (new_text o at texts others room) tight 0 items from count
        ∙ ap (λ z. items_html o T tight (copied_items z items) from) at_is

    later_is : (from : List ℕ) → items_html o U tight L from ≡ items_html o T tight L from
    later_is from = items_named o U T (λ k. at + length texts ≤ k) (later_text o at texts others room) tight L from behind

    pub inset_html : items_html o U tight L (items_html o N tight items (items_html o U tight F out)) ≡ items_html o T tight (inset_items front at items later olds) out
    inset_html =
        ap (λ z. items_html o U tight L (items_html o N tight items z)) front_is
        ∙ ap (items_html o U tight L) (middle_is begun)
        ∙ later_is written
        ∙ sym (placed_html o T tight M L begun)
        ∙ sym (placed_html o T tight F (placed_before M L) out)

    pub inset_ends : (item_ends o U tight F out ++ item_ends o N tight items (items_html o U tight F out))
        ++ item_ends o U tight L (items_html o N tight items (items_html o U tight F out)) ≡ item_ends o T tight (inset_items front at items later olds) out
    inset_ends =
        let A = item_ends o T tight F out in
        let B = item_ends o T tight M begun in
        let C = item_ends o T tight L written in
        ap (λ z. (z ++ item_ends o N tight items (items_html o U tight F out)) ++ item_ends o U tight L (items_html o N tight items (items_html o U tight F out)))
        (ends_named o U T (λ k. k < at) (front_text o at texts others room) tight F out before)
        ∙ ap (λ z. (A ++ item_ends o N tight items z) ++ item_ends o U tight L (items_html o N tight items z)) front_is
        ∙ ap (λ z. (A ++ item_ends o N tight items begun) ++ item_ends o U tight L z) (middle_is begun)
        ∙ ap (λ z. (A ++ z) ++ item_ends o U tight L written)
        (ap (λ z. item_ends o N tight z begun) (sym in_order)
        ∙ ends_moved o N T at (length texts) (new_text o at texts others room) tight 0 items begun count
        ∙ ap (λ z. item_ends o T tight (copied_items z items) begun) at_is)
        ∙ ap (λ z. (A ++ B) ++ z) (ends_named o U T (λ k. at + length texts ≤ k) (later_text o at texts others room) tight L written behind)
        ∙ append_assoc A B C
        ∙ ap (λ z. A ++ z) (sym (placed_ends o T tight M L begun))
        ∙ sym (placed_ends o T tight F (placed_before M L) out)

-- The same of a unit that is one list, and the items of which stand around others.
module _ (o : Options) (at : ℕ) (texts others : List ParsedText) (room : at ≤ length others) (other : OneList) (b : Between) (blocks : Blocks) (is : blocks ≡ unit_of other)
    (order : IsBehind 0 (items_positions (items_view b.items.now)) (length texts)) (before : AllByRecursion (λ k. k < at) (items_positions (take_items b.front (first_items blocks))))
    (behind : AllByRecursion (λ k. at + length texts ≤ k) (items_positions (drop_items b.later (first_items blocks))))
  where
    abbrev items : Items
    items = items_view b.items.now

    abbrev olds : Items
    olds = items_view other.items.now

    abbrev opening : List ℕ
    opening = list_begins (kind_view other.kind)

    abbrev close : List ℕ
    close = list_close (kind_view other.kind)

    abbrev read : List (List ℕ)
    read = texts_html o texts

    abbrev was : List (List ℕ)
    was = texts_html o others

    abbrev whole : List (List ℕ)
    whole = texts_html o (inset_readings at texts others)

    abbrev first : Items
    first = take_items b.front olds

    abbrev last : Items
    last = drop_items b.later olds

    in_front : AllByRecursion (λ k. k < at) (items_positions first)
    in_front = subst (λ z. AllByRecursion (λ k. k < at) (items_positions (take_items b.front (first_items z)))) is before

    at_end : AllByRecursion (λ k. at + length texts ≤ k) (items_positions last)
    at_end = subst (λ z. AllByRecursion (λ k. at + length texts ≤ k) (items_positions (drop_items b.later (first_items z)))) is behind

    pub around_html : list_around o texts others other b ≡ blocks_html o whole false (inset_blocks b.front at items b.later blocks) []
    around_html =
        ap (λ z. items_html o was other.tight (items_view (drop b.later other.items.now)) (items_html o read other.tight items (items_html o was other.tight z opening)) ++ close) (items_taken b.front other.items.now)
        ∙ ap (λ z. items_html o was other.tight z (items_html o read other.tight items (items_html o was other.tight first opening)) ++ close) (items_dropped b.later other.items.now)
        ∙ ap (λ z. z ++ close) (inset_html o at texts others room items olds b.front b.later order in_front at_end other.tight opening)
        ∙ sym (ap (λ z. blocks_html o whole false (inset_blocks b.front at items b.later z) []) is)

    pub around_ends : list_ends_around o texts others other b ≡ unit_ends o whole (inset_blocks b.front at items b.later blocks)
    around_ends =
        let tail = items_view (drop b.later other.items.now) in
        ap (λ z. (item_ends o was other.tight z opening ++ item_ends o read other.tight items (items_html o was other.tight z opening))
        ++ item_ends o was other.tight tail (items_html o read other.tight items (items_html o was other.tight z opening))) (items_taken b.front other.items.now)
        ∙ ap (λ z. (item_ends o was other.tight first opening ++ item_ends o read other.tight items (items_html o was other.tight first opening))
        ++ item_ends o was other.tight z (items_html o read other.tight items (items_html o was other.tight first opening))) (items_dropped b.later other.items.now)
        ∙ inset_ends o at texts others room items olds b.front b.later order in_front at_end other.tight opening
        ∙ sym (ap (λ z. unit_ends o whole (inset_blocks b.front at items b.later z)) is)
