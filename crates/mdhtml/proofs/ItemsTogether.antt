-- HTML of items one after the other, and where they end in it.
use Rattle.std.proofs.Common.{◌≡◌, ℕ, zero, suc, ◌+◌, ◌-◌, ◌<◌, ◌≤◌, Bool, true, List, [], ◌∷◌, ◌++◌, codes, length, drop, take, get_or, map, refl, sym, ◌∙◌, ap, subst, arith, append_assoc, append-nil, length-append}
use Rattle.std.proofs.lemmas.List.{take_more}
use Rattle.std.specs.List.{AllByRecursion}
use Rattle.blockspec.specs.BlockTree.{Blocks, Items, no_items, item}
use Rattle.mdblock.specs.BlockView.{item_view, items_view}
use Rattle.mdblock.specs.declared.blocks.Item as i
use Rattle.htmlspec.specs.declared.options.Options.{Options}
use Rattle.mdhtml.specs.declared.lists.same_blocks.SharedTexts.{SharedTexts}
use Rattle.mdhtml.specs.held.Alike.{BlocksAlike, ItemsAlike}
use Rattle.htmlspec.specs.BlockHtml.{fresh, ends_line, blocks_html, items_html}
use Rattle.htmlspec.specs.ListEnds.{item_html, item_ends}
use Rattle.mdhtml.proofs.AlikeBlocks.{like_item}
use Rattle.mdhtml.proofs.Appended.{line_behind, blocks_behind, items_behind}
use Rattle.mdhtml.proofs.Ends.{ends_append}

module _ (o : Options) (T : List (List ℕ)) (tight : Bool) where
  pub like_together : (xs ys : List i.Item) (out : List ℕ) → items_html o T tight (items_view (xs ++ ys)) out ≡ items_html o T tight (items_view ys) (items_html o T tight (items_view xs) out)
  like_together [] ys out = refl
  like_together (x ∷ xs) ys out = like_together xs ys (item_html o T tight (item_view x) out)

  pub like_ends_together : (xs ys : List i.Item) (out : List ℕ)
      → item_ends o T tight (items_view (xs ++ ys)) out ≡ item_ends o T tight (items_view xs) out ++ item_ends o T tight (items_view ys) (items_html o T tight (items_view xs) out)
  like_ends_together [] ys out = refl
  like_ends_together (x ∷ xs) ys out =
      let next = item_html o T tight (item_view x) out in
      ap (λ z. length next ∷ z) (like_ends_together xs ys next)

  -- ---- so many of the ends

  pub like_ends_taken : (n : ℕ) (xs : List i.Item) (out : List ℕ) → take n (item_ends o T tight (items_view xs) out) ≡ item_ends o T tight (items_view (take n xs)) out
  like_ends_taken zero xs out = refl
  like_ends_taken (suc n) [] out = refl
  like_ends_taken (suc n) (x ∷ xs) out =
      let next = item_html o T tight (item_view x) out in
      ap (λ z. length next ∷ z) (like_ends_taken n xs next)

  pub like_ends_dropped : (n : ℕ) (xs : List i.Item) (out : List ℕ)
      → drop n (item_ends o T tight (items_view xs) out) ≡ item_ends o T tight (items_view (drop n xs)) (items_html o T tight (items_view (take n xs)) out)
  like_ends_dropped zero xs out = refl
  like_ends_dropped (suc n) [] out = refl
  like_ends_dropped (suc n) (x ∷ xs) out = like_ends_dropped n xs (item_html o T tight (item_view x) out)

  pub like_ends_count : (xs : List i.Item) (out : List ℕ) → length (item_ends o T tight (items_view xs) out) ≡ length xs
  like_ends_count [] out = refl
  like_ends_count (x ∷ xs) out = ap suc (like_ends_count xs (item_html o T tight (item_view x) out))

  -- where so many items end
  pub like_place : (n : ℕ) (xs : List i.Item) (out : List ℕ) → n ≤ length xs
      → get_or (length out ∷ item_ends o T tight (items_view xs) out) n 0 ≡ length (items_html o T tight (items_view (take n xs)) out)
  like_place zero xs out h = refl
  like_place (suc n) [] out h = absurd (omega (arith, h))
  like_place (suc n) (x ∷ xs) out h = like_place n xs (item_html o T tight (item_view x) out) (omega (arith, h))

  -- ---- behind a text that ends with LF

  like_item_behind : (bs : Blocks) (out x : List ℕ) → ends_line out ≡ true → item_html o T tight bs (out ++ x) ≡ out ++ item_html o T tight bs x
  like_item_behind bs out x e =
      ap (λ l. blocks_html o T tight bs l ++ codes "</li>\n") (line_behind out x (codes "<li>") e)
      ∙ ap (λ l. l ++ codes "</li>\n") (blocks_behind o T tight bs out (fresh x ++ codes "<li>") e)
      ∙ append_assoc out (blocks_html o T tight bs (fresh x ++ codes "<li>")) (codes "</li>\n")

  pub like_appended : (is : Items) (out : List ℕ) → ends_line out ≡ true → items_html o T tight is out ≡ out ++ items_html o T tight is []
  like_appended is out e = ap (items_html o T tight is) (sym (append-nil out)) ∙ items_behind o T tight is out [] e

  like_item_ends_line : (bs : Blocks) (out : List ℕ) → ends_line (item_html o T tight bs out) ≡ true
  like_item_ends_line bs out = ends_append (blocks_html o T tight bs (fresh out ++ codes "<li>")) (codes "</li>\n") (omega arith) refl

  pub like_ends_line : (is : Items) (out : List ℕ) → ends_line out ≡ true → ends_line (items_html o T tight is out) ≡ true
  like_ends_line no_items out e = e
  like_ends_line (item bs is) out e = like_ends_line is (item_html o T tight bs out) (like_item_ends_line bs out)

  -- the ends behind one text are those behind another, moved
  pub like_moved : (is : Items) (one two x : List ℕ) → ends_line one ≡ true → ends_line two ≡ true
      → map (λ e. (e - length one) + length two) (item_ends o T tight is (one ++ x)) ≡ item_ends o T tight is (two ++ x)
  like_moved no_items one two x e f = refl
  like_moved (item bs is) one two x e f =
      let next = item_html o T tight bs x in
      let a : item_html o T tight bs (one ++ x) ≡ one ++ next = like_item_behind bs one x e in
      let b : item_html o T tight bs (two ++ x) ≡ two ++ next = like_item_behind bs two x f in
      let n : (length (one ++ next) - length one) + length two ≡ length (two ++ next) = omega (arith, length-append one next, length-append two next) in
      ap (λ z. ((length z - length one) + length two) ∷ map (λ e. (e - length one) + length two) (item_ends o T tight is z)) a
      ∙ ap (λ z. z ∷ map (λ e. (e - length one) + length two) (item_ends o T tight is (one ++ next))) n
      ∙ ap (λ z. length (two ++ next) ∷ z) (like_moved is one two next e f)
      ∙ sym (ap (λ z. length z ∷ item_ends o T tight is z) b)

  -- each end lies between the ends of the text
  pub like_between : (is : Items) (low high : ℕ) (out : List ℕ) → ends_line out ≡ true → low ≤ length out → length (items_html o T tight is out) ≤ high
      → AllByRecursion (λ e. (low ≤ e) × (e ≤ high)) (item_ends o T tight is out)
  like_between no_items low high out e l h = tt
  like_between (item bs is) low high out e l h =
      let next = item_html o T tight bs out in
      let grown : length (items_html o T tight is next) ≡ length next + length (items_html o T tight is []) =
      ap length (like_appended is next (like_item_ends_line bs out)) ∙ length-append next (items_html o T tight is []) in
      let first : length next ≡ length out + length (item_html o T tight bs []) =
      ap (λ z. length (item_html o T tight bs z)) (sym (append-nil out)) ∙ ap length (like_item_behind bs out [] e) ∙ length-append out (item_html o T tight bs []) in
      let low_next : low ≤ length next = omega (arith, l, first) in
      let high_next : length next ≤ high = omega (arith, h, grown) in
      ((low_next, high_next), like_between is low high next (like_item_ends_line bs out) low_next h)

-- ---- items that are alike

like_pushed : (s : SharedTexts) (xs ys : List i.Item) (x y : i.Item) → ItemsAlike s (items_view xs) (items_view ys) → BlocksAlike s (item_view x) (item_view y)
    → ItemsAlike s (items_view (xs ++ x ∷ [])) (items_view (ys ++ y ∷ []))
like_pushed s xs ys x y same one = record {
  html = λ T U h o tight out.
      like_together o T tight xs (x ∷ []) out
      ∙ ap (item_html o T tight (item_view x)) (same.html T U h o tight out)
      ∙ like_item s (item_view x) (item_view y) one T U h o tight (items_html o U tight (items_view ys) out)
      ∙ sym (like_together o U tight ys (y ∷ []) out);
  ends = λ T U h o tight out.
      like_ends_together o T tight xs (x ∷ []) out
      ∙ ap (λ z. z ++ length (item_html o T tight (item_view x) (items_html o T tight (items_view xs) out)) ∷ []) (same.ends T U h o tight out)
      ∙ ap (λ z. item_ends o U tight (items_view ys) out ++ length (item_html o T tight (item_view x) z) ∷ []) (same.html T U h o tight out)
      ∙ ap (λ z. item_ends o U tight (items_view ys) out ++ length z ∷ []) (like_item s (item_view x) (item_view y) one T U h o tight (items_html o U tight (items_view ys) out))
      ∙ sym (like_ends_together o U tight ys (y ∷ []) out);
}

pub like_next_front : (s : SharedTexts) (xs ys : List i.Item) (n : ℕ) (x y : i.Item) → n < length xs → n < length ys → x ≡ get_or xs n x → y ≡ get_or ys n y
    → ItemsAlike s (items_view (take n xs)) (items_view (take n ys)) → BlocksAlike s (item_view x) (item_view y) → ItemsAlike s (items_view (take (n + 1) xs)) (items_view (take (n + 1) ys))
like_next_front s xs ys n x y lt lu is js same one =
    subst (λ z. ItemsAlike s (items_view z) (items_view (take (n + 1) ys))) (sym (take_more xs n x lt ∙ ap (λ z. take n xs ++ z ∷ []) (sym is)))
    (subst (λ z. ItemsAlike s (items_view (take n xs ++ x ∷ [])) (items_view z)) (sym (take_more ys n y lu ∙ ap (λ z. take n ys ++ z ∷ []) (sym js)))
    (like_pushed s (take n xs) (take n ys) x y same one))
