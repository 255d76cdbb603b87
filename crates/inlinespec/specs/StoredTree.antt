-- How the logic stores a tree: for each node a tag and its texts, then what is inside it, then what comes after it.
use Rattle.std.specs.Prelude.{◌≡◌, ℕ, List, [], ◌∷◌, refl, cond, ◌==◌}
use Rattle.std.proofs.Common.{ap, ◌∙◌}
use Rattle.std.specs.Coded.{Coded, code_by, coded×, coded_ℕ, coded_list}
use Rattle.inlinespec.specs.InlineTree.{Inline, Inlines, no_inlines, inline, text, code, raw, soft, hard, emph, strong, strike, link, image}

abbrev pub Mark : Type 0
Mark = ℕ × (List ℕ × List ℕ)

abbrev stored : Inlines → List Mark → List Mark
stored no_inlines ts = (0, ([], [])) ∷ ts
stored (inline (text s) is) ts = (1, (s, [])) ∷ stored is ts
stored (inline (code s) is) ts = (2, (s, [])) ∷ stored is ts
stored (inline (raw s) is) ts = (3, (s, [])) ∷ stored is ts
stored (inline soft is) ts = (4, ([], [])) ∷ stored is ts
stored (inline hard is) ts = (5, ([], [])) ∷ stored is ts
stored (inline (emph k) is) ts = (6, ([], [])) ∷ stored k (stored is ts)
stored (inline (strong k) is) ts = (7, ([], [])) ∷ stored k (stored is ts)
stored (inline (strike k) is) ts = (8, ([], [])) ∷ stored k (stored is ts)
stored (inline (link u t k) is) ts = (9, (u, t)) ∷ stored k (stored is ts)
stored (inline (image u t k) is) ts = (10, (u, t)) ∷ stored k (stored is ts)

abbrev before : Inline → List Inlines → List Inlines
before i [] = []
before i (is ∷ rest) = inline i is ∷ rest

abbrev around : (Inlines → Inline) → List Inlines → List Inlines
around f [] = []
around f (k ∷ []) = []
around f (k ∷ is ∷ rest) = inline (f k) is ∷ rest

abbrev made : Mark → List Inlines → List Inlines
made m rest =
    cond (m.0 == 0) (no_inlines ∷ rest) (cond (m.0 == 1) (before (text m.1.0) rest) (cond (m.0 == 2) (before (code m.1.0) rest) (cond (m.0 == 3) (before (raw m.1.0) rest)
    (cond (m.0 == 4) (before soft rest) (cond (m.0 == 5) (before hard rest) (cond (m.0 == 6) (around emph rest) (cond (m.0 == 7) (around strong rest) (cond (m.0 == 8) (around strike rest)
    (cond (m.0 == 9) (around (link m.1.0 m.1.1) rest) (around (image m.1.0 m.1.1) rest))))))))))

abbrev restored : List Mark → List Inlines
restored [] = []
restored (m ∷ ms) = made m (restored ms)

abbrev first : List Inlines → Inlines
first [] = no_inlines
first (is ∷ rest) = is

inside : (f : Inlines → Inline) (k is : Inlines) (ts : List Mark) → restored (stored k (stored is ts)) ≡ k ∷ restored (stored is ts) → restored (stored is ts) ≡ is ∷ restored ts
    → around f (restored (stored k (stored is ts))) ≡ inline (f k) is ∷ restored ts
inside f k is ts e g = ap (around f) (e ∙ ap (λ l. k ∷ l) g)

pub restored-stored : (is : Inlines) (ts : List Mark) → restored (stored is ts) ≡ is ∷ restored ts
restored-stored no_inlines ts = refl
restored-stored (inline (text s) is) ts = ap (before (text s)) (restored-stored is ts)
restored-stored (inline (code s) is) ts = ap (before (code s)) (restored-stored is ts)
restored-stored (inline (raw s) is) ts = ap (before (raw s)) (restored-stored is ts)
restored-stored (inline soft is) ts = ap (before soft) (restored-stored is ts)
restored-stored (inline hard is) ts = ap (before hard) (restored-stored is ts)
restored-stored (inline (emph k) is) ts = inside emph k is ts (restored-stored k (stored is ts)) (restored-stored is ts)
restored-stored (inline (strong k) is) ts = inside strong k is ts (restored-stored k (stored is ts)) (restored-stored is ts)
restored-stored (inline (strike k) is) ts = inside strike k is ts (restored-stored k (stored is ts)) (restored-stored is ts)
restored-stored (inline (link u t k) is) ts = inside (link u t) k is ts (restored-stored k (stored is ts)) (restored-stored is ts)
restored-stored (inline (image u t k) is) ts = inside (image u t) k is ts (restored-stored k (stored is ts)) (restored-stored is ts)

abbrev pub inlines_code : Coded Inlines
inlines_code = code_by (List Mark) (coded_list (coded× coded_ℕ (coded× (coded_list coded_ℕ) (coded_list coded_ℕ)))) (λ is. stored is []) (λ ms. first (restored ms)) (λ is. ap first (restored-stored is []))
