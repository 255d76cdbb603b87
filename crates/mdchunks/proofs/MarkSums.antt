-- Marks of several members, as one number.
use Rattle.std.proofs.Common.{◌≡◌, ℕ, ◌+◌, ◌<◌, ◌≤◌, List, [], ◌++◌, length, take, get_or, ap, sym, ◌∙◌, arith, refl}
use Rattle.std.specs.Int.RustNames.{bit_and, bit_or}
use Rattle.std.specs.Int.Bits.{and_zero_r}
use Rattle.std.specs.List.{All}
use Rattle.std.proofs.lemmas.Nat.{and_assoc, and_comm, and_or_self, or_comm}
use Rattle.std.proofs.lemmas.List.{get_or_read, take_all}
use Rattle.std.proofs.lemmas.List.Elements.{All-append, All-more, All-same}
use Rattle.mdchunks.specs.Lists.{joined}
use Rattle.mdchunks.specs.Marks.{AreMarksOf, IsApart}
use Rattle.mdchunks.proofs.Joined.{joined_more, take_at}

-- marks that are apart from others are so in each part
pub apart_right : (a b some : ℕ) → bit_and (bit_or a b) some ≡ 0 → bit_and b some ≡ 0
apart_right a b some none =
    ap (λ n. bit_and n some) (sym (and_or_self b a) ∙ and_comm (bit_or a b) b) ∙ and_assoc some b (bit_or a b) ∙ ap (bit_and b) none ∙ and_zero_r b

pub apart_left : (a b some : ℕ) → bit_and (bit_or a b) some ≡ 0 → bit_and a some ≡ 0
apart_left a b some none = apart_right b a some (ap (λ n. bit_and n some) (or_comm b a) ∙ none)

pub marks_none : {A : Type 0} (marks : A → ℕ) (all : ℕ) → AreMarksOf marks [] all
unfolding AreMarksOf
marks_none marks all some none k d below = absurd (omega (arith, below))

-- those of one member more
pub marks_more : {A : Type 0} (marks : A → ℕ) (xs : List A) (i all : ℕ) (d : A) → i < length xs → AreMarksOf marks (take i xs) all →
    AreMarksOf marks (take (i + 1) xs) (bit_or all (marks (get_or xs i d)))
unfolding AreMarksOf
marks_more marks xs i all d here so some none =
    All-more (IsApart marks some) xs i d here (so some (apart_left all (marks (get_or xs i d)) some none)) (apart_right all (marks (get_or xs i d)) some none)

pub apart_by : {A : Type 0} (marks : A → ℕ) (xs : List A) (all some : ℕ) → AreMarksOf marks xs all → bit_and all some ≡ 0 → All (IsApart marks some) xs
unfolding AreMarksOf
apart_by marks xs all some so none = so some none

-- where so many are all of a list
apart_whole : {A : Type 0} (P : A → Type 0) (xs : List A) (n : ℕ) → length xs ≤ n → All P (take n xs) → All P xs
apart_whole P xs n long so = All-same P xs (take n xs) (sym (take_all n xs long)) so

-- no member of these lists has the marks, nor of the next one, of which so many from the front on have none
module _ {A : Type 0} (marks : A → ℕ) (some : ℕ) (xss : List (List A)) (i k : ℕ) (ys : List A) (here : i < length xss) (read : ys ≡ get_or xss i ys)
    (before : All (IsApart marks some) (joined (take i xss))) (none : All (IsApart marks some) (take k ys)) where
  pub apart_inside : k ≤ length ys → All (IsApart marks some) (take (length (joined (take i xss)) + k) (joined xss))
  apart_inside within =
      let other : ys ≡ get_or xss i [] = get_or_read xss i ys here read [] in
      All-same (IsApart marks some) _ _ (take_at xss i k _ ys here read (omega (arith, ap length other, within)) refl) (All-append (IsApart marks some) (joined (take i xss)) (take k ys) before none)

  pub apart_more : length ys ≤ k → All (IsApart marks some) (joined (take (i + 1) xss))
  apart_more whole =
      All-same (IsApart marks some) _ _ (joined_more xss i ys here ∙ ap (λ zs. joined (take i xss) ++ zs) (sym read))
      (All-append (IsApart marks some) (joined (take i xss)) ys before (apart_whole (IsApart marks some) ys k whole none))
