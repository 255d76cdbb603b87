-- A class among 32 bytes at a time.
use Rattle.std.proofs.Common.{◌≡◌, ℕ, ◌+◌, ◌-◌, ◌<◌, ◌≤◌, zero, suc, max, Bool, true, false, cond, not, ◌||◌, List, [], ◌∷◌, length, take, drop, map, get_or, refl, ap, sym, ◌∙◌, arith, eqb}
use Rattle.std.specs.Int.{bit_at}
use Rattle.std.specs.Int.RustNames.{bit_or}
use Rattle.std.specs.Simd.Lanes.{mask_l}
use Rattle.std.specs.List.{position_or_len, slice_range}
use Rattle.std.proofs.lemmas.Nat.Bits.{bit_at_or, same_from_bits}
use Rattle.std.proofs.lemmas.Simd.{bit_mask_l, leading_from_mask_l, trailing_mask_l}
use lib.Count.{count_trailing_zeros}
use Rattle.std.proofs.lemmas.List.Folds.{list_any_more, prefix_len-append}
use Rattle.std.proofs.lemmas.List.{take-append-drop, take_all, drop-drop, length-take-le}
use Rattle.std.proofs.lemmas.List.Sums.{prefix_len-le-length}
use Rattle.std.proofs.Common.{length-drop}
use Rattle.std.specs.Prelude.{◌==◌}
use Rattle.mdtext.specs.ByteClass.{in_class}

pub no_marks : (xs : List ℕ) → 0 ≡ mask_l (map (λ _. false) xs)
no_marks [] = refl
no_marks (x ∷ xs) = omega (arith, no_marks xs)

either_bit : (a b : Bool) → max (cond a 1 0) (cond b 1 0) ≡ cond (a || b) 1 0
either_bit true true = refl
either_bit true false = refl
either_bit false true = refl
either_bit false false = refl

either_at : (p q r : ℕ → Bool) → ((x : ℕ) → r x ≡ (p x || q x)) → (xs : List ℕ) (i : ℕ)
    → max (cond (get_or (map p xs) i false) 1 0) (cond (get_or (map q xs) i false) 1 0) ≡ cond (get_or (map r xs) i false) 1 0
either_at p q r h [] i = refl
either_at p q r h (x ∷ xs) zero = either_bit (p x) (q x) ∙ ap (λ b. cond b 1 0) (sym (h x))
either_at p q r h (x ∷ xs) (suc i) = either_at p q r h xs i

both : (a b c d : ℕ) → a ≡ c → b ≡ d → max a b ≡ max c d
both a b c d e f = rw (e, f) refl

-- the marks of two tests together
pub either_marks : (p q r : ℕ → Bool) → ((x : ℕ) → r x ≡ (p x || q x)) → (xs : List ℕ) → bit_or (mask_l (map p xs)) (mask_l (map q xs)) ≡ mask_l (map r xs)
either_marks p q r h xs =
    same_from_bits (bit_or (mask_l (map p xs)) (mask_l (map q xs))) (mask_l (map r xs)) (λ i.
    let a : bit_at (mask_l (map p xs)) i ≡ cond (get_or (map p xs) i false) 1 0 = bit_mask_l (map p xs) i in
    let b : bit_at (mask_l (map q xs)) i ≡ cond (get_or (map q xs) i false) 1 0 = bit_mask_l (map q xs) i in
    bit_at_or (mask_l (map p xs)) (mask_l (map q xs)) i ∙ both _ _ _ _ a b ∙ either_at p q r h xs i ∙ sym (bit_mask_l (map r xs) i))

-- one more byte of a class
pub class_more : (class block : List ℕ) (i one more : ℕ) → i < length class → one ≡ mask_l (map (in_class (take i class)) block) →
    more ≡ mask_l (map (λ x. x == get_or class i 0) block)
    → bit_or one more ≡ mask_l (map (in_class (take (i + 1) class)) block)
class_more class block i one more h e f =
    ap (λ m. bit_or m more) e ∙ ap (bit_or _) f
    ∙ either_marks (in_class (take i class)) _ (in_class (take (i + 1) class)) (λ x. list_any_more _ class i 0 h) block

-- the next w bytes
abbrev pub block : List ℕ → ℕ → ℕ → List ℕ
block bytes at w = take w (drop at bytes)

pub block_is : (bytes : List ℕ) (at w : ℕ) → slice_range bytes at (at + w) ≡ block bytes at w
block_is bytes at w = ap (λ n. take n (drop at bytes)) (omega arith)

pub length_block : (bytes : List ℕ) (at w : ℕ) → at + w ≤ length bytes → length (block bytes at w) ≡ w
length_block bytes at w h = length-take-le w (drop at bytes) (omega (arith, length-drop at bytes))

-- what the marks of a block tell: no place, or the first one
pub no_place : (class bytes : List ℕ) (at w marks : ℕ) → at + w ≤ length bytes → marks ≡ mask_l (map (in_class class) (block bytes at w)) → marks ≡ 0
    → w ≡ position_or_len (in_class class) (slice_range bytes at (at + w))
no_place class bytes at w marks long is none =
    sym (ap (position_or_len _) (block_is bytes at w) ∙ leading_from_mask_l (in_class class) _ (sym is ∙ none) ∙ length_block bytes at w long)

pub first_place : (class bytes : List ℕ) (at w marks : ℕ) → at + w ≤ length bytes → w ≤ 64 → marks ≡ mask_l (map (in_class class) (block bytes at w)) →
    0 < marks
    → count_trailing_zeros 64 marks ≡ position_or_len (in_class class) (slice_range bytes at (at + w))
first_place class bytes at w marks long small is some =
    let size = length_block bytes at w long in
    ap (count_trailing_zeros 64) is ∙ trailing_mask_l (in_class class) 64 _ (omega (arith, size, small)) (omega (arith, is, some))
    ∙ sym (ap (position_or_len _) (block_is bytes at w))

cut : (p : ℕ → Bool) (bytes : List ℕ) (at w n : ℕ) → at + w ≤ length bytes → n ≡ position_or_len p (slice_range bytes at (at + w))
    → position_or_len p (drop at bytes) ≡ cond (eqb n w) (w + position_or_len p (drop (at + w) bytes)) n
cut p bytes at w n h e =
    let here : position_or_len p (block bytes at w) ≡ n = ap (position_or_len p) (sym (block_is bytes at w)) ∙ sym e in
    ap (position_or_len p) (sym (take-append-drop w (drop at bytes))) ∙ prefix_len-append (λ x. not (p x)) (block bytes at w) (drop w (drop at bytes))
    ∙ rw (here, length_block bytes at w h, drop-drop w at bytes) refl

pub found_here : (p : ℕ → Bool) (bytes : List ℕ) (at w n : ℕ) → at + w ≤ length bytes → n ≡ position_or_len p (slice_range bytes at (at + w)) → n < w → at + position_or_len p (drop at bytes) ≡ at + n
found_here p bytes at w n h e small = ap (λ k. at + k) (cut p bytes at w n h e ∙ grind (arith, small))

pub not_here : (p : ℕ → Bool) (bytes : List ℕ) (at w n : ℕ) → at + w ≤ length bytes → n ≡ position_or_len p (slice_range bytes at (at + w)) → w ≤ n → at + position_or_len p (drop at bytes) ≡ at + w + position_or_len p (drop (at + w) bytes)
not_here p bytes at w n h e large =
    let within : n ≤ w = omega (arith, e, ap (position_or_len p) (block_is bytes at w), prefix_len-le-length (λ x. not (p x)) (block bytes at w), length_block bytes at w h) in
    let all : position_or_len p (drop at bytes) ≡ w + position_or_len p (drop (at + w) bytes) = cut p bytes at w n h e ∙ grind (arith, within, large) in
    omega (arith, all)

-- a place that is not behind the first one tells it as well
one_passed : (t : Bool) (n all rest : ℕ) → suc n ≤ cond t (1 + all) 0 → (n ≤ all → n + rest ≡ all) → suc n + rest ≡ cond t (1 + all) 0
one_passed true n all rest h same = omega (arith, same (omega (arith, h)))
one_passed false n all rest h same = absurd (omega (arith, h))

passed : (p : ℕ → Bool) (xs : List ℕ) (n : ℕ) → n ≤ position_or_len p xs → n + position_or_len p (drop n xs) ≡ position_or_len p xs
passed p xs zero h = omega arith
passed p [] (suc n) h = absurd (omega (arith, h))
passed p (x ∷ xs) (suc n) h = one_passed (not (p x)) n (position_or_len p xs) (position_or_len p (drop n xs)) h (λ k. passed p xs n k)

-- the last w bytes tell the first place, where it is not in front of them
pub last_block : (p : ℕ → Bool) (bytes : List ℕ) (at w n : ℕ) → w ≤ length bytes → length bytes - at ≤ w → at + position_or_len p (drop at bytes) ≡ position_or_len p bytes
    → n ≡ position_or_len p (slice_range bytes (length bytes - w) (length bytes - w + w)) → length bytes - w + n ≡ position_or_len p bytes
last_block p bytes at w n long near before is =
    let s = length bytes - w in
    let all : slice_range bytes s (s + w) ≡ drop s bytes = block_is bytes s w ∙ take_all w (drop s bytes) (omega (arith, length-drop s bytes, long)) in
    ap (λ k. s + k) (is ∙ ap (position_or_len p) all) ∙ passed p bytes s (omega (arith, before, near, long))

-- the same of the first w bytes
pub found_first : (p : ℕ → Bool) (bytes : List ℕ) (w n : ℕ) → w ≤ length bytes → n ≡ position_or_len p (slice_range bytes 0 w) → n < w → n ≡ position_or_len p bytes
found_first p bytes w n h e small = let here = found_here p bytes 0 w n (omega (arith, h)) (e ∙ ap (λ k. position_or_len p (slice_range bytes 0 k)) (omega arith)) small in omega (arith, here)

pub not_first : (p : ℕ → Bool) (bytes : List ℕ) (w n : ℕ) → w ≤ length bytes → n ≡ position_or_len p (slice_range bytes 0 w) → w ≤ n
    → w + position_or_len p (drop w bytes) ≡ position_or_len p bytes
not_first p bytes w n h e large =
    let behind = not_here p bytes 0 w n (omega (arith, h)) (e ∙ ap (λ k. position_or_len p (slice_range bytes 0 k)) (omega arith)) large in
    let same : w + position_or_len p (drop w bytes) ≡ 0 + w + position_or_len p (drop (0 + w) bytes) = ap (λ k. k + position_or_len p (drop k bytes)) (omega arith) in
    omega (arith, same, behind)
