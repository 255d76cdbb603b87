-- The number of a word, from what the tests found.
use Rattle.std.proofs.Common.{◌≡◌, ℕ, ◌+◌, ◌-◌, ◌*◌, ◌<◌, Bool, true, false, eqb, ltb, List, length, get_or, fold, Some, None, refl, sym, ◌∙◌, arith}
use Rattle.std.specs.Prelude.{not, ◌&&◌}
use Rattle.std.specs.List.{list_all}
use Rattle.std.specs.Char.{is_ascii_digit}
use Rattle.std.proofs.lemmas.Bool.Decides.{nat_tests}
use Rattle.std.proofs.lemmas.List.Sums.{AllPass-from_list_all}
use Rattle.mdwords.specs.Numbers.{number}

and_false : (x y : Bool) → y ≡ false → (x && y) ≡ false
and_false true y e = e
and_false false y e = refl

false_where : (b : Bool) → (b ≡ true → false ≡ true) → b ≡ false
false_where true h = sym (h refl)
false_where false h = refl

pub number_empty : (word : List ℕ) → length word ≡ 0 → number word ≡ None
unfolding number
number_empty word e = rw e refl

pub number_long : (word : List ℕ) → 9 < length word → number word ≡ None
unfolding number
number_long word long = let not_small : ltb (length word) 10 ≡ false = grind (arith, nat_tests) in rw (not_small, and_false (not (eqb (length word) 0)) false refl) refl

pub number_other : (word : List ℕ) (i : ℕ) → i < length word → is_ascii_digit (get_or word i 0) ≡ false → number word ≡ None
unfolding number
number_other word i below other =
    let none : list_all is_ascii_digit word ≡ false = false_where _ (λ e. sym other ∙ AllPass-from_list_all is_ascii_digit word e i 0 below) in
    rw (none, and_false (not (eqb (length word) 0) && ltb (length word) 10) false refl) refl

pub number_value : (word : List ℕ) → 0 < length word → length word < 10 → list_all is_ascii_digit word ≡ true
    → number word ≡ Some (fold (λ n digit. n * 10 + (digit - 48)) 0 word)
unfolding number
number_value word some few digits =
    let there : eqb (length word) 0 ≡ false = grind (arith, nat_tests) in
    let short : ltb (length word) 10 ≡ true = grind (arith, nat_tests) in
    rw (there, short, digits) refl
