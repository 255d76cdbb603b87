-- A label that is its own words is a label, and is collapsed as it is.
use Rattle.std.proofs.Common.{◌≡◌, ℕ, zero, suc, ◌+◌, ◌-◌, ◌*◌, ◌<◌, ◌≤◌, Bool, true, false, not, List, [], ◌∷◌, ◌++◌, length, fold, refl, ap, ap₂, sym, ◌∙◌, arith, append_assoc, append-nil, eqb, nat_le, nat_lt, ◌==◌, ◌&&◌, ◌||◌, ⊎_elim}
use Rattle.std.proofs.lemmas.Bool.{cases_Bool, eqb-true}
use Rattle.std.proofs.lemmas.Bool.Decides.{nat_tests}
use Rattle.std.specs.List.{list_any}
use Rattle.std.specs.Str.{chars, chars_after, continuation_len, lead_bits}
use Rattle.mdtext.specs.Labels.{is_label_space, at_front_of_word, words, add_word, collapsed, is_label}
use Rattle.mdtext.specs.TidyLabels.{is_word_byte, fits, is_tidy_behind, is_tidy}
use Rattle.mdtext.proofs.BareBrackets.{bare_from, no_bracket, plain_step}
use Rattle.mdtext.proofs.LabelWords.{one_plain, one_space, no_words}

both : (a b : Bool) → (a && b) ≡ true → (a ≡ true) × (b ≡ true)
both true true h = (refl, refl)
both true false h = cc
both false b h = cc

either_but : (a b : Bool) → (a || b) ≡ true → a ≡ false → b ≡ true
either_but true b h e = cc
either_but false b h e = h

-- a byte of a word is none of the spaces, brackets and backslashes
no_space : (b : ℕ) → is_word_byte b ≡ true → is_label_space b ≡ false
no_space b h =
    let low : nat_lt 32 b ≡ true = (both (nat_lt 32 b) (not (nat_le 91 b && nat_le b 93)) h).0 in
    let least : 32 < b = grind (arith, nat_tests, low) in
    grind (arith, nat_tests, least)

-- ---- its words

abbrev rest_of : List (List ℕ) → List ℕ
rest_of [] = []
rest_of (w ∷ ws) = 32 ∷ (w ++ rest_of ws)

fold_rest : (ws : List (List ℕ)) (c : ℕ) (t : List ℕ) → fold add_word (c ∷ t) ws ≡ (c ∷ t) ++ rest_of ws
fold_rest [] c t = sym (append-nil (c ∷ t))
fold_rest (w ∷ ws) c t =
    fold_rest ws c (t ++ (32 ∷ []) ++ w) ∙ ap (λ l. c ∷ l) (append_assoc (t ++ 32 ∷ []) w (rest_of ws) ∙ append_assoc t (32 ∷ []) (w ++ rest_of ws))

-- words begin here
abbrev Starts : List ℕ → Type 0
Starts bs = (c : ℕ) × (w : List ℕ) × (ws : List (List ℕ)) × (words bs ≡ (c ∷ w) ∷ ws) × ((c ∷ w) ++ rest_of ws ≡ bs)

-- a word goes on behind its byte b
abbrev GoesOn : ℕ → List ℕ → Type 0
GoesOn b bs = (w : List ℕ) × (ws : List (List ℕ)) × (words (b ∷ bs) ≡ (b ∷ w) ∷ ws) × (w ++ rest_of ws ≡ bs)

abbrev Told : List ℕ → Type 0
Told bs = (is_tidy_behind 32 bs ≡ true → Starts bs) × ((b : ℕ) → is_word_byte b ≡ true → is_tidy_behind b bs ≡ true → GoesOn b bs)

starts : (c : ℕ) (cs : List ℕ) → Told cs → is_tidy_behind 32 (c ∷ cs) ≡ true → Starts (c ∷ cs)
starts c cs later h =
    let parts = both (fits 32 c) (is_tidy_behind c cs) h in
    ⊎_elim
    (λ plain. let t = later.1 c plain parts.1 in (c, t.0, t.1, t.2, ap (λ l. c ∷ l) t.3))
    (λ other. let never = (both (c == 32) false (either_but (is_word_byte c) (c == 32 && not (32 == 32)) parts.0 other)).1 in absurd (cc))
    (cases_Bool (is_word_byte c))

goes_on : (b c : ℕ) (cs : List ℕ) → Told cs → is_word_byte b ≡ true → is_tidy_behind b (c ∷ cs) ≡ true → GoesOn b (c ∷ cs)
goes_on b c cs later word h =
    let parts = both (fits b c) (is_tidy_behind c cs) h in
    let front = one_plain b (c ∷ cs) (no_space b word) in
    ⊎_elim
    (λ plain.
    let t = later.1 c plain parts.1 in
    (c ∷ t.0, t.1, front ∙ ap₂ (λ s l. at_front_of_word b s l) (no_space c plain) t.2, ap (λ l. c ∷ l) t.3))
    (λ other.
    let space = both (c == 32) (not (b == 32)) (either_but (is_word_byte c) (c == 32 && not (b == 32)) parts.0 other) in
    let is : c ≡ 32 = eqb-true c 32 space.0 in
    let blank : is_label_space c ≡ true = ap is_label_space is in
    let t = later.0 (ap (λ x. is_tidy_behind x cs) (sym is) ∙ parts.1) in
    ([], words cs, front ∙ ap₂ (λ s l. at_front_of_word b s l) blank (one_space c cs blank), ap rest_of t.3 ∙ ap₂ (λ x l. x ∷ l) (sym is) t.4))
    (cases_Bool (is_word_byte c))

told : (bs : List ℕ) → Told bs
told [] = (λ h. absurd (cc), λ b word h. ([], [], one_plain b [] (no_space b word) ∙ ap (at_front_of_word b true) no_words, refl))
told (c ∷ cs) = let later = told cs in (starts c cs later, λ b word h. goes_on b c cs later word h)

pub tidy_collapsed : (inside : List ℕ) → is_tidy inside ≡ true → collapsed inside ≡ inside
tidy_collapsed inside h =
    let t = (told inside).0 (both _ _ h).1 in
    ap (fold add_word []) t.3 ∙ fold_rest t.2 t.0 t.1 ∙ t.4

-- ---- that it is a label

unbracketed : (before : ℕ) (bs : List ℕ) → is_tidy_behind before bs ≡ true → bare_from false bs ≡ false
unbracketed before [] h = no_bracket false
unbracketed before (b ∷ bs) h =
    let parts = both (fits before b) (is_tidy_behind b bs) h in
    let plain : (eqb b 92 ≡ false) × (eqb b 91 ≡ false) × (eqb b 93 ≡ false) = grind (arith, nat_tests, parts.0) in
    plain_step b bs plain.0 plain.1 plain.2 ∙ unbracketed b bs parts.1

has_word : (bs : List ℕ) → is_tidy_behind 32 bs ≡ true → list_any (λ b. not (is_label_space b)) bs ≡ true
has_word [] h = absurd (cc)
has_word (c ∷ cs) h =
    let parts = both (fits 32 c) (is_tidy_behind c cs) h in
    ⊎_elim
    (λ plain. ap (λ s. not s || list_any (λ b. not (is_label_space b)) cs) (no_space c plain))
    (λ other. let never = (both (c == 32) false (either_but (is_word_byte c) (c == 32 && not (32 == 32)) parts.0 other)).1 in absurd (cc))
    (cases_Bool (is_word_byte c))

fewer_after : (n c : ℕ) (bs : List ℕ) → length (chars_after n c bs) ≤ suc (length bs)
fewer_after zero c [] = omega arith
fewer_after zero c (b ∷ bs) = let h = fewer_after (continuation_len b) (lead_bits b) bs in omega (arith, h)
fewer_after (suc n) c [] = omega arith
fewer_after (suc n) c (b ∷ bs) = let h = fewer_after n (c * 64 + (b - 128)) bs in omega (arith, h)

fewer : (bs : List ℕ) → length (chars bs) ≤ length bs
unfolding chars
fewer [] = omega arith
fewer (b ∷ bs) = fewer_after (continuation_len b) (lead_bits b) bs

pub tidy_is_label : (inside : List ℕ) → is_tidy inside ≡ true → is_label inside ≡ true
tidy_is_label inside h =
    let parts = both (nat_le (length inside) 999) (is_tidy_behind 32 inside) h in
    let short : nat_le (length (chars inside)) 999 ≡ true = grind (arith, nat_tests, parts.0, fewer inside) in
    rw (short, has_word inside parts.1, unbracketed 32 inside parts.1) refl
