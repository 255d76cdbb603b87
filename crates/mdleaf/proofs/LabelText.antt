-- The inside of a label at a text's front is the inside of a label as labels are folded.
use Rattle.std.proofs.Common.{◌≡◌, ℕ, ◌+◌, ◌-◌, Bool, true, false, not, ◌&&◌, ◌||◌, eqb, nat_le, cond, List, [], ◌∷◌, length, take, drop, Some, None, refl, ap, sym, ◌∙◌, subst, suc, zero, arith}
use Rattle.std.specs.List.{list_any}
use Rattle.std.specs.Str.{chars, IsUtf8}
use Rattle.std.specs.Char.{is_ascii_punctuation}
use Rattle.std.proofs.lemmas.Bool.Decides.{nat_tests}
use Rattle.std.proofs.lemmas.Str.{IsUtf8-between}
use Rattle.mdtext.specs.Labels.{has_bare_bracket, is_label, is_label_space}
use Rattle.mdtext.proofs.BareBrackets.{bare_from, backslash_step, no_bracket, plain_step}
use Rattle.mdscan.specs.declared.spans.Span.{Span}
use Rattle.mdscan.specs.Blanks.{begins_with}
use Rattle.mdscan.specs.BackslashEscapes.{begins_escape, is_one_of, run_after, run_before}
use Rattle.mdscan.specs.LinkLabel.{is_label_text, is_visible, label_at}
use Rattle.mdscan.specs.Spans.{IsSpanOf, part}
use Rattle.mdleaf.proofs.Characters.{characters}

abbrev brackets : List ℕ
brackets = 91 ∷ 93 ∷ []

-- a backslash that escapes nothing
no_escape : (c : ℕ) → is_ascii_punctuation c ≡ false → (eqb c 92 ≡ false) × ((eqb c 91 ≡ false) × (eqb c 93 ≡ false))
no_escape c h = (grind (arith, nat_tests), (grind (arith, nat_tests), grind (arith, nat_tests)))

take_more : (k b : ℕ) (rest : List ℕ) → take (1 + k) (b ∷ rest) ≡ b ∷ take k rest
take_more k b rest = let e : 1 + k ≡ suc k = omega arith in ap (λ (n : ℕ). take n (b ∷ rest)) e

escapes : (b : ℕ) (rest : List ℕ) → begins_escape (b ∷ rest) ≡ true → eqb b 92 ≡ true
escapes b [] h = cc
escapes b (c ∷ rest) h = grind (arith, nat_tests)

-- after a backslash that escapes nothing the text goes on as after another character
unescaped_backslash : (rest : List ℕ) (k : ℕ) → begins_escape (92 ∷ rest) ≡ false → has_bare_bracket (take k rest) ≡ false → bare_from true (take k rest) ≡ false
unescaped_backslash [] zero h e = refl
unescaped_backslash [] (suc k) h e = refl
unescaped_backslash (c ∷ rest) zero h e = refl
unescaped_backslash (c ∷ rest) (suc k) h e = let n = no_escape c h in sym (plain_step c (take k rest) n.0 n.1.0 n.1.1) ∙ e

-- up to the first bracket that is not escaped there is none
none_bare : (escaped : Bool) (text : List ℕ) → bare_from escaped (take (run_after escaped brackets text) text) ≡ false
none_bare escaped [] = no_bracket escaped
none_bare true (b ∷ rest) = ap (bare_from true) (take_more (run_after false brackets rest) b rest) ∙ none_bare false rest
none_bare false (b ∷ rest) = by (begins_escape (b ∷ rest)) (is_one_of brackets b) (eqb b 92) refl refl refl (λ escaped. none_bare escaped rest)
  where
    by : (x y z : Bool) → begins_escape (b ∷ rest) ≡ x → is_one_of brackets b ≡ y → eqb b 92 ≡ z
        → ((escaped : Bool) → bare_from escaped (take (run_after escaped brackets rest) rest) ≡ false)
        → has_bare_bracket (take (elim y [ true ↦ 0 | false ↦ 1 + run_after x brackets rest ]) (b ∷ rest)) ≡ false
    by x true z e f g next = no_bracket false
    by true false z e f g next =
        let k = run_after true brackets rest in
        let backslash : b ≡ 92 = grind (arith, nat_tests, escapes b rest e) in
        ap has_bare_bracket (take_more k b rest) ∙ ap (λ (c : ℕ). has_bare_bracket (c ∷ take k rest)) backslash ∙ backslash_step (take k rest) ∙ next true
    by false false true e f g next =
        let k = run_after false brackets rest in
        let backslash : b ≡ 92 = grind (arith, nat_tests) in
        let no : begins_escape (92 ∷ rest) ≡ false = ap (λ (c : ℕ). begins_escape (c ∷ rest)) (sym backslash) ∙ e in
        ap has_bare_bracket (take_more k b rest) ∙ ap (λ (c : ℕ). has_bare_bracket (c ∷ take k rest)) backslash ∙ backslash_step (take k rest) ∙ unescaped_backslash rest k no (next false)
    by false false false e f g next =
        let k = run_after false brackets rest in
        let opening : eqb b 91 ≡ false = grind (arith, nat_tests) in
        let closing : eqb b 93 ≡ false = grind (arith, nat_tests) in
        ap has_bare_bracket (take_more k b rest) ∙ plain_step b (take k rest) g opening closing ∙ next false

same_visible : (b : ℕ) → is_visible b ≡ not (is_label_space b)
same_visible b = by (eqb b 32) (eqb b 9) (eqb b 10) (eqb b 13)
  where
    by : (w x y z : Bool) → not (w || x || y || z) ≡ not (w || (x || (y || (z || false))))
    by true x y z = refl
    by false true y z = refl
    by false false true z = refl
    by false false false true = refl
    by false false false false = refl

visible_text : (text : List ℕ) → list_any is_visible text ≡ list_any (λ b. not (is_label_space b)) text
visible_text [] = refl
visible_text (b ∷ rest) = rw (same_visible b, visible_text rest) refl

all_of : (a b : Bool) → (a && b) ≡ true → (a ≡ true) × (b ≡ true)
all_of true b h = (refl, h)
all_of false b h = cc

-- the inside of brackets that holds no bare bracket
inside_label : (text : List ℕ) → is_label_text (take (run_before brackets text) text) ≡ true → IsUtf8 (take (run_before brackets text) text) → is_label (take (run_before brackets text) text) ≡ true
unfolding run_before
inside_label text h u =
    let inside = take (run_before brackets text) text in
    let parts = all_of _ _ h in
    let short : nat_le (length (chars inside)) 999 ≡ true = ap (λ (n : ℕ). nat_le n 999) (characters inside u) ∙ parts.0 in
    let seen : list_any (λ b. not (is_label_space b)) inside ≡ true = sym (visible_text inside) ∙ parts.1 in
    let closed : has_bare_bracket inside ≡ false = none_bare false text in
    rw (short, seen, closed) refl

-- the inside of the label at a text's front
pub label_is : (text : List ℕ) (span : Span) → IsUtf8 text → IsSpanOf text span → label_at text 0 ≡ Some span → is_label (part text span) ≡ true
unfolding label_at
label_is text span u s e = by (begins_with 91 (drop 0 text) && begins_with 93 (drop (0 + 1 + size) text) && is_label_text (take size (drop (0 + 1) text))) refl e
  where
    size : ℕ
    size = run_before brackets (drop (0 + 1) text)

    whole : Span
    whole = record { start = 0 + 1; end = 0 + 1 + size }

    by : (x : Bool) → (begins_with 91 (drop 0 text) && begins_with 93 (drop (0 + 1 + size) text) && is_label_text (take size (drop (0 + 1) text))) ≡ x
        → cond x (Some whole) None ≡ Some span → is_label (part text span) ≡ true
    by false h f = cc
    by true h f =
        let same : whole ≡ span = cc in
        let n : 0 + 1 + size - (0 + 1) ≡ size = omega arith in
        let inside : part text whole ≡ take size (drop (0 + 1) text) = ap (λ (k : ℕ). take k (drop (0 + 1) text)) n in
        let utf8 : IsUtf8 (part text span) = IsUtf8-between text span.start span.end u s.ordered s.starts_whole s.ends_whole in
        let valid : IsUtf8 (take size (drop (0 + 1) text)) = subst IsUtf8 (ap (λ (p : Span). part text p) (sym same) ∙ inside) utf8 in
        ap (λ (p : Span). is_label (part text p)) (sym same) ∙ ap is_label inside ∙ inside_label (drop (0 + 1) text) (all_of _ _ h).1 valid
