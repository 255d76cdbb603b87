-- A text has as many characters as bytes with which one begins.
use Rattle.std.proofs.Common.{◌≡◌, ℕ, ◌+◌, ◌/◌, ◌%◌, ◌<◌, ◌≤◌, Bool, true, false, cond, ltb, List, [], ◌∷◌, ◌++◌, length, count_by, refl, ap, sym, ◌∙◌, arith}
use Rattle.std.specs.Str.{chars, IsUtf8}
use Rattle.std.proofs.Math.Utf8.{encode, encodes}
use Rattle.std.proofs.lemmas.Str.{chars-encodes}
use Rattle.std.proofs.lemmas.List.Sums.{sum_by-append, sum_by-cons}
use Rattle.std.proofs.lemmas.Bool.Decides.{nat_tests}
use Rattle.mdscan.specs.LinkLabel.{begins_character}

abbrev begun : ℕ → ℕ
begun b = cond (begins_character b) 1 0

counts_one : (b n : ℕ) (xs : List ℕ) → begins_character b ≡ true → count_by begins_character xs ≡ n → count_by begins_character (b ∷ xs) ≡ 1 + n
counts_one b n xs h e =
    let f : count_by begins_character (b ∷ xs) ≡ begun b + count_by begins_character xs = sum_by-cons begun b xs in
    let g : begun b ≡ 1 = rw h refl in
    omega arith

counts_none : (b n : ℕ) (xs : List ℕ) → begins_character b ≡ false → count_by begins_character xs ≡ n → count_by begins_character (b ∷ xs) ≡ n
counts_none b n xs h e =
    let f : count_by begins_character (b ∷ xs) ≡ begun b + count_by begins_character xs = sum_by-cons begun b xs in
    let g : begun b ≡ 0 = rw h refl in
    omega arith

leads : (b : ℕ) → 192 ≤ b → begins_character b ≡ true
leads b h = grind (arith, nat_tests)

follows : (n : ℕ) → begins_character (128 + n % 64) ≡ false
follows n = let low : n % 64 < 64 = omega arith in grind (arith, nat_tests)

follow_one : (n k : ℕ) (xs : List ℕ) → count_by begins_character xs ≡ k → count_by begins_character ((128 + n % 64) ∷ xs) ≡ k
follow_one n k xs e = counts_none (128 + n % 64) k xs (follows n) e

one_begins : (c : ℕ) → count_by begins_character (encode c) ≡ 1
unfolding encode
one_begins c = at (ltb c 128) (ltb c 2048) (ltb c 65536) refl
  where
    last : count_by begins_character ((128 + c % 64) ∷ []) ≡ 0
    last = follow_one c 0 [] refl

    last_two : count_by begins_character ((128 + c / 64 % 64) ∷ (128 + c % 64) ∷ []) ≡ 0
    last_two = follow_one (c / 64) 0 ((128 + c % 64) ∷ []) last

    at : (x y z : Bool) → ltb c 128 ≡ x →
        count_by begins_character (cond x (c ∷ []) (cond y ((192 + c / 64) ∷ (128 + c % 64) ∷ []) (cond z ((224 + c / 4096) ∷ (128 + c / 64 % 64) ∷ (128 + c % 64) ∷ []) ((240 + c / 262144) ∷ (128 + c / 4096 % 64) ∷ (128 + c / 64 % 64) ∷ (128 + c % 64) ∷ [])))) ≡ 1
    at true y z e = counts_one c 0 [] (grind (arith, nat_tests)) refl
    at false true z e = counts_one (192 + c / 64) 0 ((128 + c % 64) ∷ []) (leads (192 + c / 64) (omega arith)) last
    at false false true e = counts_one (224 + c / 4096) 0 ((128 + c / 64 % 64) ∷ (128 + c % 64) ∷ []) (leads (224 + c / 4096) (omega arith)) last_two
    at false false false e =
        counts_one (240 + c / 262144) 0 ((128 + c / 4096 % 64) ∷ (128 + c / 64 % 64) ∷ (128 + c % 64) ∷ []) (leads (240 + c / 262144) (omega arith))
        (follow_one (c / 4096) 0 ((128 + c / 64 % 64) ∷ (128 + c % 64) ∷ []) last_two)

all_begin : (cs : List ℕ) → count_by begins_character (encodes cs) ≡ length cs
all_begin [] = refl
all_begin (c ∷ cs) =
    let one = one_begins c in
    let rest = all_begin cs in
    let both : count_by begins_character (encode c ++ encodes cs) ≡ count_by begins_character (encode c) + count_by begins_character (encodes cs) = sum_by-append begun (encode c) (encodes cs) in
    omega arith

pub characters : (text : List ℕ) → IsUtf8 text → length (chars text) ≡ count_by begins_character text
characters text (cs, (scalar, e)) =
    ap (λ (t : List ℕ). length (chars t)) (sym e) ∙ ap (λ (xs : List ℕ). length xs) (chars-encodes cs scalar) ∙ sym (all_begin cs) ∙ ap (λ (t : List ℕ). count_by begins_character t) e
