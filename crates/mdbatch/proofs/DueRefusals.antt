-- When a text has too many lines or bytes.
use Rattle.std.proofs.Common.{◌≡◌, ℕ, ◌+◌, ◌-◌, ◌^◌, ◌≤◌, ◌<◌, Bool, true, false, List, [], length, map, min, refl, sym, ap, ◌∙◌, subst, arith, Some, None, cond, nat_lt}
use Rattle.std.proofs.lemmas.Bool.Decides.{nat_tests}
use Rattle.mdsource.specs.declared.fault.EditFault.TheVariants.{TooManyLines, TooLarge}
use Rattle.mdtext.specs.Lines.{split_lines, without_nul}
use Rattle.mdbatch.proofs.SplitText.{lines_of_clean}
use Rattle.mdsource.specs.SourceLimits.{refusal, size_of}

pub none_due : (lines : List (List ℕ)) → length lines ≤ 1000000 → size_of lines ≤ 16777216 → refusal lines ≡ None
none_due lines few small =
    let a : nat_lt 1000000 (length lines) ≡ false = grind (arith, nat_tests) in
    let b : nat_lt 16777216 (size_of lines) ≡ false = grind (arith, nat_tests) in
    rw (a, b) refl

pub too_large : (lines : List (List ℕ)) → length lines ≤ 1000000 → 16777216 < size_of lines → refusal lines ≡ Some TooLarge
too_large lines few large =
    let a : nat_lt 1000000 (length lines) ≡ false = grind (arith, nat_tests) in
    let b : nat_lt 16777216 (size_of lines) ≡ true = grind (arith, nat_tests) in
    rw (a, b) refl

pub within : (lines : List (List ℕ)) → refusal lines ≡ None → (length lines ≤ 1000000) × (size_of lines ≤ 16777216)
within lines e = by_tests (nat_lt 1000000 (length lines)) (nat_lt 16777216 (size_of lines)) refl refl e where
  by_tests : (a b : Bool) → nat_lt 1000000 (length lines) ≡ a → nat_lt 16777216 (size_of lines) ≡ b
      → cond a (Some TooManyLines) (cond b (Some TooLarge) None) ≡ None → (length lines ≤ 1000000) × (size_of lines ≤ 16777216)
  by_tests true b p q e = cc
  by_tests false true p q e = cc
  by_tests false false p q e = (grind (arith, nat_tests, p), grind (arith, nat_tests, q))

-- the lines of the text without NULs that is read are within the limits
pub clean_within : (text clean : List ℕ) → clean ≡ without_nul text → refusal (map without_nul (split_lines text)) ≡ None
    → (length (split_lines clean) ≤ 1000000) × (size_of (split_lines clean) ≤ 16777216)
clean_within text clean e h =
    subst (λ lines. (length lines ≤ 1000000) × (size_of lines ≤ 16777216)) (sym (ap split_lines e ∙ lines_of_clean text)) (within (map without_nul (split_lines text)) h)

-- what was counted is all, where nothing is left
pub lines_counted : (rest : List ℕ) (lines all : ℕ) → rest ≡ [] → min (lines + length (split_lines rest)) (2 ^ 64 - 1) ≡ min all (2 ^ 64 - 1) → lines ≤ 1000000 → all ≤ 1000000
unfolding split_lines
lines_counted rest lines all none e few =
    let same : min (lines + 0) (2 ^ 64 - 1) ≡ min all (2 ^ 64 - 1) = subst (λ r. min (lines + length (split_lines r)) (2 ^ 64 - 1) ≡ min all (2 ^ 64 - 1)) none e in
    omega (arith, same, few)

pub bytes_counted : (rest : List ℕ) (size all : ℕ) → rest ≡ [] → min (size + size_of (map without_nul (split_lines rest))) (2 ^ 64 - 1) ≡ min all (2 ^ 64 - 1)
    → ((size ≤ 16777216) → all ≤ 16777216) × ((16777216 < size) → 16777216 < all)
unfolding split_lines
bytes_counted rest size all none e =
    let same : min (size + 0) (2 ^ 64 - 1) ≡ min all (2 ^ 64 - 1) = subst (λ r. min (size + size_of (map without_nul (split_lines r))) (2 ^ 64 - 1) ≡ min all (2 ^ 64 - 1)) none e in
    (λ few. omega (arith, same, few), λ many. omega (arith, same, many))
