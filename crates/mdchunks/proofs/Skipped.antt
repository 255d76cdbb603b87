-- What is left of a list and of those behind it where some members are skipped.
use Rattle.std.proofs.Common.{◌≡◌, ℕ, ◌+◌, ◌-◌, ◌≤◌, List, ◌++◌, length, take, drop, get_or, ap, sym, ◌∙◌, arith}
use Rattle.std.specs.List.{All}
use Rattle.std.proofs.lemmas.List.{get_or-append-add, length-append, take_all}
use Rattle.std.proofs.lemmas.List.Elements.{All-append, All-same}
use Rattle.std.proofs.Math.Seq.{drop-append-add, take-append-add}
use Rattle.mdchunks.specs.Lists.{joined}

-- those behind the list
pub drop_behind : {A : Type 0} (xs ys : List A) (n : ℕ) → length xs ≤ n → drop (n - length xs) ys ≡ drop n (xs ++ ys)
drop_behind xs ys n low =
    let e : n ≡ length xs + (n - length xs) = omega (arith, low) in
    sym (ap (λ k. drop k (xs ++ ys)) e ∙ drop-append-add xs ys (n - length xs))

-- all members of the list are skipped, as many as `all_in`, and `n` of those behind it
module _ {A : Type 0} (xs : List A) (xss : List (List A)) (all_in n : ℕ) (all : List A) (within : all_in ≤ length xs) (whole : length xs ≤ all_in) (seen : xs ++ joined xss ≡ all) where
  count : all_in + n ≡ length xs + n
  count = omega (arith, within, whole)

  pub skipped_within : n ≤ length (joined xss) → all_in + n ≤ length all
  skipped_within few = omega (arith, count, few, ap length seen, length-append xs (joined xss))

  pub skipped_rest : drop n (joined xss) ≡ drop (all_in + n) all
  skipped_rest = sym (ap (λ k. drop k all) count ∙ ap (drop (length xs + n)) (sym seen) ∙ drop-append-add xs (joined xss) n)

  pub skipped_all : (P : A → Type 0) → All P (take all_in xs) → All P (take n (joined xss)) → All P (take (all_in + n) all)
  skipped_all P none so =
      All-same P (take (all_in + n) all) (xs ++ take n (joined xss))
      (ap (λ k. take k all) count ∙ ap (take (length xs + n)) (sym seen) ∙ take-append-add xs (joined xss) n)
      (All-append P xs (take n (joined xss)) (All-same P xs (take all_in xs) (sym (take_all all_in xs whole)) none) so)

  pub skipped_next : (d : A) → get_or (joined xss) n d ≡ get_or all (all_in + n) d
  skipped_next d = sym (ap (λ k. get_or all k d) count ∙ ap (λ ys. get_or ys (length xs + n) d) (sym seen) ∙ get_or-append-add xs (joined xss) n d)
