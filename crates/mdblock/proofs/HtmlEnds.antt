-- What ends an HTML block is not changed by spaces in front of it, and blocks of the kinds 6 and 7 have none.
use Rattle.std.proofs.Common.{◌≡◌, ℕ, zero, suc, Bool, true, false, ◌&&◌, ◌||◌, ◌==◌, List, [], ◌∷◌, ◌++◌, replicate, refl, ap, sym, ◌∙◌, arith, nat_lt}
use Rattle.std.proofs.Math.Bool.{and-false}
use Rattle.std.proofs.lemmas.Bool.Decides.{nat_tests}
use Rattle.mdscan.specs.Blanks.{is_blank, is_blank_text}
use Rattle.mdscan.specs.HtmlBlock.{begins_raw_end, ends_kind, holds_end}

no_raw_end : (bs : List ℕ) → begins_raw_end (32 ∷ bs) ≡ false
unfolding begins_raw_end
no_raw_end bs = refl

no_end : (kind : ℕ) (bs : List ℕ) → ends_kind kind (32 ∷ bs) ≡ false
unfolding ends_kind
no_end kind bs = rw (no_raw_end bs) (rw (and-false (kind == 1), and-false (kind == 2), and-false (kind == 3), and-false (kind == 4), and-false (kind == 5)) refl)

one_space : (kind : ℕ) (bs : List ℕ) → holds_end kind (32 ∷ bs) ≡ holds_end kind bs
unfolding holds_end
one_space kind bs = rw (no_end kind bs) refl

pub end_behind_spaces : (kind n : ℕ) (text : List ℕ) → holds_end kind (replicate n 32 ++ text) ≡ holds_end kind text
end_behind_spaces kind zero text = refl
end_behind_spaces kind (suc n) text = one_space kind (replicate n 32 ++ text) ∙ end_behind_spaces kind n text

no_end_behind_tab : (kind : ℕ) (bs : List ℕ) → ends_kind kind (9 ∷ bs) ≡ false
unfolding ends_kind begins_raw_end
no_end_behind_tab kind bs = rw (and-false (kind == 1), and-false (kind == 2), and-false (kind == 3), and-false (kind == 4), and-false (kind == 5)) refl

no_end_behind_blank : (kind b : ℕ) (bs : List ℕ) → is_blank b ≡ true → ends_kind kind (b ∷ bs) ≡ false
no_end_behind_blank kind b bs h = by (b == 32) refl h where
  by : (t : Bool) → (b == 32) ≡ t → (t || (b == 9)) ≡ true → ends_kind kind (b ∷ bs) ≡ false
  by true e g = let space : b ≡ 32 = grind (arith, nat_tests, e) in ap (λ c. ends_kind kind (c ∷ bs)) space ∙ no_end kind bs
  by false e g = let tab : b ≡ 9 = grind (arith, nat_tests, g) in ap (λ c. ends_kind kind (c ∷ bs)) tab ∙ no_end_behind_tab kind bs

all_front : (b : ℕ) (bs : List ℕ) → is_blank_text (b ∷ bs) ≡ true → (is_blank b ≡ true) × (is_blank_text bs ≡ true)
all_front b bs h = by (is_blank b) (is_blank_text bs) refl refl h where
  by : (x y : Bool) → is_blank b ≡ x → is_blank_text bs ≡ y → (x && y) ≡ true → (is_blank b ≡ true) × (is_blank_text bs ≡ true)
  by true true e g t = (e, g)
  by true false e g t = cc
  by false y e g t = cc

-- a blank line holds no end
pub no_end_in_blank : (kind : ℕ) (text : List ℕ) → is_blank_text text ≡ true → holds_end kind text ≡ false
unfolding holds_end
no_end_in_blank kind [] h = refl
no_end_in_blank kind (b ∷ bs) h = let parts = all_front b bs h in rw (no_end_behind_blank kind b bs parts.0) (no_end_in_blank kind bs parts.1)

far_kind : (kind : ℕ) (bs : List ℕ) → nat_lt kind 6 ≡ false → ends_kind kind bs ≡ false
unfolding ends_kind
far_kind kind bs h =
    let one : (kind == 1) ≡ false = grind (arith, nat_tests, h) in
    let two : (kind == 2) ≡ false = grind (arith, nat_tests, h) in
    let three : (kind == 3) ≡ false = grind (arith, nat_tests, h) in
    let four : (kind == 4) ≡ false = grind (arith, nat_tests, h) in
    let five : (kind == 5) ≡ false = grind (arith, nat_tests, h) in
    rw (one, two, three, four, five) refl

no_end_far : (kind : ℕ) (text : List ℕ) → nat_lt kind 6 ≡ false → holds_end kind text ≡ false
unfolding holds_end
no_end_far kind [] h = refl
no_end_far kind (b ∷ bs) h = rw (far_kind kind (b ∷ bs) h) (no_end_far kind bs h)

-- so the line's end decides alone
pub end_decides : (kind n : ℕ) (whole text : List ℕ) → whole ≡ replicate n 32 ++ text → holds_end kind text ≡ (nat_lt kind 6 && holds_end kind whole)
end_decides kind n whole text e = by (nat_lt kind 6) refl where
  same : holds_end kind text ≡ holds_end kind whole
  same = sym (end_behind_spaces kind n text) ∙ ap (holds_end kind) (sym e)

  by : (t : Bool) → nat_lt kind 6 ≡ t → holds_end kind text ≡ (t && holds_end kind whole)
  by true h = same
  by false h = no_end_far kind text h
