-- A list that is made from a list like it is the list that is made anew.
use Rattle.std.proofs.Common.{◌≡◌, ℕ, zero, suc, ◌+◌, ◌-◌, ◌<◌, ◌≤◌, Bool, List, [], ◌∷◌, ◌++◌, length, drop, take, get_or, sym, ◌∙◌, ap, subst, arith, append_assoc, length-drop}
use Rattle.std.specs.List.{slice_range}
use Rattle.std.proofs.lemmas.List.{take-map, drop-map, get_or-take, get_or-drop, drop-drop, take-append-drop}
use Rattle.std.proofs.lemmas.List.Folds.{drop_split}
use Rattle.inlinespec.specs.ParsedText.{ParsedText}
use Rattle.blockspec.specs.BlockTree.{Items}
use Rattle.mdblock.specs.BlockView.{items_view}
use Rattle.mdblock.specs.Positions.{ItemsIn}
use Rattle.mdblock.specs.declared.blocks.Item as i
use Rattle.htmlspec.specs.declared.options.Options.{Options}
use Rattle.mdhtml.specs.declared.lists.like_lists.SameEnds.{SameEnds}
use Rattle.mdhtml.specs.declared.lists.same_blocks.SharedTexts.{SharedTexts}
use Rattle.mdhtml.specs.held.Alike.{SharedHtml, ItemsAlike}
use Rattle.mdhtml.specs.held.LikeLists.{SharedReadings, AreSameEnds}
use Rattle.htmlspec.specs.BlockHtml.{text_html, texts_html, items_html}
use Rattle.htmlspec.specs.InlineHtml.{inlines_html}
use Rattle.htmlspec.specs.ListEnds.{item_ends}
use Rattle.mdhtml.proofs.ItemsTogether.{like_together, like_ends_together}

-- ---- texts that are shared

abbrev pub first_shared : ℕ → SharedTexts
first_shared n = record { at = 0; like_at = 0; count = n }

abbrev pub last_shared : ℕ → ℕ → ℕ → SharedTexts
last_shared a b n = record { at = a; like_at = b; count = n }

pub text_taken : (o : Options) (texts : List ParsedText) (n k : ℕ) → k < n → text_html (texts_html o texts) k ≡ text_html (texts_html o (take n texts)) k
text_taken o texts n k lt = sym (get_or-take n (texts_html o texts) k [] lt) ∙ ap (λ z. get_or z k []) (take-map (λ r. inlines_html o r.tree) n texts)

pub text_dropped : (o : Options) (texts : List ParsedText) (n k : ℕ) → text_html (texts_html o texts) (n + k) ≡ text_html (texts_html o (drop n texts)) k
text_dropped o texts n k = sym (get_or-drop n (texts_html o texts) k []) ∙ ap (λ z. get_or z k []) (drop-map (λ r. inlines_html o r.tree) n texts)

pub like_first : (o : Options) (texts others : List ParsedText) (n : ℕ) → take n texts ≡ take n others → SharedHtml (first_shared n) (texts_html o texts) (texts_html o others)
like_first o texts others n e = record {
  same = λ k lt.
      let z : 0 + k ≡ k = omega arith in
      ap (λ j. text_html (texts_html o texts) j) z ∙ text_taken o texts n k lt ∙ ap (λ z. text_html (texts_html o z) k) e ∙ sym (text_taken o others n k lt)
      ∙ sym (ap (λ j. text_html (texts_html o others) j) z);
}

like_last : (o : Options) (texts others : List ParsedText) (a b n : ℕ) → drop a texts ≡ drop b others → SharedHtml (last_shared a b n) (texts_html o texts) (texts_html o others)
like_last o texts others a b n e = record { same = λ k lt. text_dropped o texts a k ∙ ap (λ z. text_html (texts_html o z) k) e ∙ sym (text_dropped o others b k) }

-- the items at the end of what is behind others are those at the end
pub like_last_of_rest : {A : Type 0} (xs : List A) (f g : ℕ) → f ≤ length xs → g ≤ length (drop f xs) → drop (length (drop f xs) - g) (drop f xs) ≡ drop (length xs - g) xs
like_last_of_rest xs f g h k =
    let n : length (drop f xs) ≡ length xs - f = length-drop f xs in
    let m : f + (length (drop f xs) - g) ≡ length xs - g = omega (arith, n, h, k) in
    drop-drop (length (drop f xs) - g) f xs ∙ ap (λ z. drop z xs) m

found : (texts others : List ParsedText) (first last : ℕ) (items olds : List i.Item) (f g : ℕ) → SharedReadings texts others first last → f ≤ length items → f ≤ length olds
    → ItemsAlike (first_shared first) (items_view (take f items)) (items_view (take f olds)) → g ≤ length (drop f items) → g ≤ length (drop f olds)
    → ItemsAlike (last_shared (length texts - last) (length others - last) last)
    (items_view (drop (length (drop f items) - g) (drop f items))) (items_view (drop (length (drop f olds) - g) (drop f olds)))
    → AreSameEnds texts others items olds (record { front = f; behind = g })
found texts others first last items olds f g shared fi fo front gi go behind =
    let a = length texts - last in
    let b = length others - last in
    let alike : ItemsAlike (last_shared a b last) (items_view (drop (length items - g) items)) (items_view (drop (length olds - g) olds)) =
    subst (λ z. ItemsAlike (last_shared a b last) (items_view z) (items_view (drop (length olds - g) olds))) (like_last_of_rest items f g fi gi)
    (subst (λ z. ItemsAlike (last_shared a b last) (items_view (drop (length (drop f items) - g) (drop f items))) (items_view z)) (like_last_of_rest olds f g fo go) behind) in
    record {
      within = omega (arith, length-drop f items, fi, gi);
      within_like = omega (arith, length-drop f olds, fo, go);
      front = record {
        html = λ o tight out. front.html (texts_html o texts) (texts_html o others) (like_first o texts others first shared.front) o tight out;
        ends = λ o tight out. front.ends (texts_html o texts) (texts_html o others) (like_first o texts others first shared.front) o tight out;
      };
      behind = record {
        html = λ o tight out. alike.html (texts_html o texts) (texts_html o others) (like_last o texts others a b last shared.behind) o tight out;
        ends = λ o tight out. alike.ends (texts_html o texts) (texts_html o others) (like_last o texts others a b last shared.behind) o tight out;
      };
    }

pub like_found : (texts others : List ParsedText) (first last : ℕ) (items olds : List i.Item) (f g : ℕ) → SharedReadings texts others first last → f ≤ length items → f ≤ length olds
    → ItemsAlike (first_shared first) (items_view (take f items)) (items_view (take f olds)) → (rest other : List i.Item) → rest ≡ drop f items → other ≡ drop f olds → g ≤ length rest → g ≤ length other
    → ItemsAlike (last_shared (length texts - last) (length others - last) last) (items_view (drop (length rest - g) rest)) (items_view (drop (length other - g) other))
    → AreSameEnds texts others items olds (record { front = f; behind = g })
like_found texts others first last items olds f g shared fi fo front rest other e d gi go behind =
    let s = last_shared (length texts - last) (length others - last) last in
    found texts others first last items olds f g shared fi fo front (subst (λ z. g ≤ length z) e gi) (subst (λ z. g ≤ length z) d go)
    (subst (λ z. ItemsAlike s (items_view (drop (length z - g) z)) (items_view (drop (length (drop f olds) - g) (drop f olds)))) e
    (subst (λ z. ItemsAlike s (items_view (drop (length rest - g) rest)) (items_view (drop (length z - g) z))) d behind))

-- ---- items between

items_in_rest : (n k : ℕ) (xs : List i.Item) → ItemsIn n (items_view xs) → ItemsIn n (items_view (drop k xs))
items_in_rest n zero xs h = h
items_in_rest n (suc k) [] h = h
items_in_rest n (suc k) (x ∷ xs) h = items_in_rest n k xs h.1

items_in_first : (n k : ℕ) (xs : List i.Item) → ItemsIn n (items_view xs) → ItemsIn n (items_view (take k xs))
items_in_first n zero xs h = tt
items_in_first n (suc k) [] h = tt
items_in_first n (suc k) (x ∷ xs) h = (h.0, items_in_first n k xs h.1)

pub like_items_in : (n a b : ℕ) (xs : List i.Item) → ItemsIn n (items_view xs) → ItemsIn n (items_view (take b (drop a xs)))
like_items_in n a b xs h = items_in_first n b (drop a xs) (items_in_rest n a xs h)

-- ---- the list

-- the old list's items with those between, where both lists have the same ones at their ends
module _ (o : Options) (texts others : List ParsedText) (items olds : List i.Item) (same : SameEnds) (S : AreSameEnds texts others items olds same) (tight : Bool) (out : List ℕ) where
  abbrev T : List (List ℕ)
  T = texts_html o texts

  abbrev U : List (List ℕ)
  U = texts_html o others

  abbrev fronts : List i.Item
  fronts = take same.front items

  abbrev between : List i.Item
  between = slice_range items same.front (length items - same.behind)

  abbrev rest : List i.Item
  rest = drop (length items - same.behind) items

  items_parted : items ≡ fronts ++ (between ++ rest)
  items_parted =
      let ordered : same.front ≤ length items - same.behind = (let w = S.within in omega (arith, w)) in
      sym (take-append-drop same.front items) ∙ ap (λ z. fronts ++ z) (drop_split items same.front (length items - same.behind) ordered)

  abbrev begun : List ℕ
  begun = items_html o T tight (items_view fronts) out

  abbrev old_begun : List ℕ
  old_begun = items_html o U tight (items_view (take same.front olds)) out

  begun_is : old_begun ≡ begun
  begun_is = sym (S.front.html o tight out)

  abbrev old_rest : Items
  old_rest = items_view (drop (length olds - same.behind) olds)

  pub like_around : items_html o U tight old_rest (items_html o T tight (items_view between) old_begun) ≡ items_html o T tight (items_view items) out
  like_around =
      ap (λ z. items_html o U tight old_rest (items_html o T tight (items_view between) z)) begun_is
      ∙ sym (S.behind.html o tight (items_html o T tight (items_view between) begun))
      ∙ sym (like_together o T tight between rest begun)
      ∙ sym (like_together o T tight fronts (between ++ rest) out)
      ∙ sym (ap (λ z. items_html o T tight (items_view z) out) items_parted)

  pub like_ends_around : (item_ends o U tight (items_view (take same.front olds)) out ++ item_ends o T tight (items_view between) old_begun)
      ++ item_ends o U tight old_rest (items_html o T tight (items_view between) old_begun) ≡ item_ends o T tight (items_view items) out
  like_ends_around =
      let F = item_ends o U tight (items_view (take same.front olds)) out in
      let A = item_ends o T tight (items_view fronts) out in
      let B = item_ends o T tight (items_view between) begun in
      let middle = items_html o T tight (items_view between) begun in
      ap (λ z. (F ++ item_ends o T tight (items_view between) z) ++ item_ends o U tight old_rest (items_html o T tight (items_view between) z)) begun_is
      ∙ ap (λ z. (z ++ B) ++ item_ends o U tight old_rest middle) (sym (S.front.ends o tight out))
      ∙ ap (λ z. (A ++ B) ++ z) (sym (S.behind.ends o tight middle))
      ∙ append_assoc A B (item_ends o T tight (items_view rest) middle)
      ∙ ap (λ z. A ++ z) (sym (like_ends_together o T tight between rest begun))
      ∙ sym (like_ends_together o T tight fronts (between ++ rest) out)
      ∙ sym (ap (λ z. item_ends o T tight (items_view z) out) items_parted)
