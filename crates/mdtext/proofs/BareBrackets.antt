-- Brackets in a label, read from the left.
use Rattle.std.proofs.Common.{◌≡◌, ℕ, ◌+◌, ◌<◌, Bool, true, false, List, [], ◌∷◌, length, drop, get_or, refl, ap, sym, ◌∙◌, arith, ◌||◌, eqb, ◌⊎◌, ◌≤◌}
use Rattle.std.proofs.lemmas.List.{drop_more, drop_all}
use Rattle.mdtext.specs.Labels.{has_bare_bracket}

-- whether a bare bracket stands in the text, whose first byte is escaped or not
abbrev pub bare_from : Bool → List ℕ → Bool
bare_from false text = has_bare_bracket text
bare_from true [] = false
bare_from true (b ∷ rest) = has_bare_bracket rest

pub backslash_step : (rest : List ℕ) → bare_from false (92 ∷ rest) ≡ bare_from true rest
unfolding has_bare_bracket
backslash_step [] = refl
backslash_step (c ∷ rest) = refl

-- what stands behind a byte that is no backslash
otherwise : (t x y : Bool) → t ≡ false → elim t [ true ↦ x | false ↦ y ] ≡ y
otherwise true x y e = cc
otherwise false x y e = refl

pub plain_step : (b : ℕ) (rest : List ℕ) → eqb b 92 ≡ false → eqb b 91 ≡ false → eqb b 93 ≡ false → bare_from false (b ∷ rest) ≡ bare_from false rest
unfolding has_bare_bracket
plain_step b [] e f g = rw (f, g) refl
plain_step b (c ∷ rest) e f g = otherwise (eqb b 92) (has_bare_bracket rest) (eqb b 91 || eqb b 93 || has_bare_bracket (c ∷ rest)) e ∙ rw (f, g) refl

bracket_step : (b : ℕ) (rest : List ℕ) → eqb b 92 ≡ false → (eqb b 91 || eqb b 93) ≡ true → bare_from false (b ∷ rest) ≡ true
unfolding has_bare_bracket
bracket_step b [] e f = f
bracket_step b (c ∷ rest) e f = otherwise (eqb b 92) (has_bare_bracket rest) (eqb b 91 || eqb b 93 || has_bare_bracket (c ∷ rest)) e ∙ rw f refl

pub no_bracket : (escaped : Bool) → bare_from escaped [] ≡ false
unfolding has_bare_bracket
no_bracket true = refl
no_bracket false = refl

-- the text from a byte on
at : (escaped : Bool) (text : List ℕ) (i : ℕ) → i < length text → bare_from escaped (drop i text) ≡ bare_from escaped (get_or text i 0 ∷ drop (i + 1) text)
at escaped text i h = ap (bare_from escaped) (drop_more text i 0 h)

pub after_escaped : (text : List ℕ) (i : ℕ) (all : Bool) → i < length text → bare_from true (drop i text) ≡ all → bare_from false (drop (i + 1) text) ≡ all
after_escaped text i all h w = sym (at true text i h) ∙ w

pub after_backslash : (text : List ℕ) (i : ℕ) (all : Bool) → i < length text → get_or text i 0 ≡ 92 → bare_from false (drop i text) ≡ all → bare_from true (drop (i + 1) text) ≡ all
after_backslash text i all h e w = sym (backslash_step (drop (i + 1) text)) ∙ ap (λ b. bare_from false (b ∷ drop (i + 1) text)) (sym e) ∙ sym (at false text i h) ∙ w

pub after_plain : (text : List ℕ) (i : ℕ) (all : Bool) → i < length text → (get_or text i 0 ≡ 92 → ⊥) → (get_or text i 0 ≡ 91 → ⊥) → (get_or text i 0 ≡ 93 → ⊥) → bare_from false (drop i text) ≡ all → bare_from false (drop (i + 1) text) ≡ all
after_plain text i all h e f g w = sym (plain_step (get_or text i 0) (drop (i + 1) text) (grind (arith, e)) (grind (arith, f)) (grind (arith, g))) ∙ sym (at false text i h) ∙ w

pub at_bracket : (text : List ℕ) (i : ℕ) (all : Bool) → i < length text → (get_or text i 0 ≡ 92 → ⊥) → (get_or text i 0 ≡ 91) ⊎ (get_or text i 0 ≡ 93) → bare_from false (drop i text) ≡ all → true ≡ all
at_bracket text i all h e f w = sym (bracket_step (get_or text i 0) (drop (i + 1) text) (grind (arith, e)) (grind (arith, f))) ∙ sym (at false text i h) ∙ w

pub at_end : (escaped : Bool) (text : List ℕ) (i : ℕ) (all : Bool) → length text ≤ i → bare_from escaped (drop i text) ≡ all → false ≡ all
at_end escaped text i all h w = sym (no_bracket escaped) ∙ ap (bare_from escaped) (sym (drop_all i text h)) ∙ w
