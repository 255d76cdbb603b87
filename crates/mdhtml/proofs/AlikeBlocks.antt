-- Blocks that have the same HTML in two units, by their parts.
use Rattle.std.proofs.Common.{◌≡◌, ℕ, suc, ◌+◌, ◌<◌, Bool, List, ◌∷◌, ◌++◌, codes, length, drop, get_or, sym, ◌∙◌, ap, subst, arith, drop-cons}
use Rattle.blockspec.specs.BlockTree.{Blocks}
use Rattle.mdhtml.specs.declared.lists.same_blocks.SharedTexts.{SharedTexts}
use Rattle.mdhtml.specs.held.Alike.{SharedHtml, TextAlike, CellsAlike, BlocksAlike}
use Rattle.htmlspec.specs.BlockHtml.{fresh, text_html}
use Rattle.htmlspec.specs.ListEnds.{item_html}
use Rattle.htmlspec.specs.TableHtml.{cells_html, cell_html, align_of}

pub like_text : (s : SharedTexts) (p q : ℕ) (k : ℕ) → p ≡ s.at + k → q ≡ s.like_at + k → k < s.count → TextAlike s p q
like_text s p q k hp hq lt = record { html = λ T U h. ap (text_html T) hp ∙ h.same k lt ∙ sym (ap (text_html U) hq) }

-- ---- tables

pub like_cells : (s : SharedTexts) (p q : ℕ) (ps qs : List ℕ) → TextAlike s p q → CellsAlike s ps qs → CellsAlike s (p ∷ ps) (q ∷ qs)
like_cells s p q ps qs one rest = record {
  html = λ T U h o tag aligns column.
      ap (λ z. cell_html o tag (align_of aligns column) z ++ cells_html o T tag aligns (column + 1) ps) (one.html T U h)
      ∙ ap (λ z. cell_html o tag (align_of aligns column) (text_html U q) ++ z) (rest.html T U h o tag aligns (column + 1));
}

-- ---- containers

pub like_item : (s : SharedTexts) (bs cs : Blocks) → BlocksAlike s bs cs → (T U : List (List ℕ)) → SharedHtml s T U → (o : _) (tight : Bool) (out : List ℕ) → item_html o T tight bs out ≡ item_html o U tight cs out
like_item s bs cs one T U h o tight out = ap (λ z. z ++ codes "</li>\n") (one.html T U h o tight (fresh out ++ codes "<li>"))

-- ---- a walk over two lists: where what is left of both is alike, so are the wholes

pub like_next : {A : Type 0} (xs : List A) (n : ℕ) (x : A) → n < length xs → x ≡ get_or xs n x → drop n xs ≡ x ∷ drop (n + 1) xs
like_next xs n x lt is =
    let e : suc n ≡ n + 1 = omega arith in
    drop-cons xs n x lt ∙ ap (λ z. z ∷ drop (suc n) xs) (sym is) ∙ ap (λ z. x ∷ drop z xs) e

pub like_more : {A B : Type 0} (R : List A → List B → Type 0) (W : Type 0) (all : List A) (n : ℕ) (x : A) (rest behind : List B) (y : B) → n < length all → x ≡ get_or all n x → rest ≡ y ∷ behind
    → (R (drop (n + 1) all) behind → R (x ∷ drop (n + 1) all) (y ∷ behind)) → (R (drop n all) rest → W) → R (drop (n + 1) all) behind → W
like_more R W all n x rest behind y lt is cut one was v =
    was (subst (λ z. R z rest) (sym (like_next all n x lt is)) (subst (λ z. R (x ∷ drop (n + 1) all) z) (sym cut) (one v)))
