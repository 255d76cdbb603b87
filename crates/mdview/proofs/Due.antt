-- Why an edit is refused, from what the tests found.
use Rattle.std.proofs.Common.{◌≡◌, ℕ, ◌+◌, ◌-◌, ◌≤◌, false, List, length, take, drop, map, refl, arith, Some, None, nat_lt}
use Rattle.std.specs.Prelude.{if◌then◌else◌, ◌||◌}
use Rattle.std.proofs.lemmas.List.{length-map}
use Rattle.std.proofs.lemmas.Bool.Decides.{nat_tests}
use Rattle.mdsource.specs.declared.fault.EditFault.TheVariants.{TooLarge}
use Rattle.mdtext.specs.Lines.{without_nul}
use Rattle.mdsource.specs.SourceLimits.{first_with_ending, size_of}
use Rattle.mdview.specs.Edit.{call_of, put, due}
use Rattle.mdview.proofs.Sizes.{size_part, size_replaced, length_replaced}

pub due_of_parts : (ls : List (List ℕ)) (at del : ℕ) (add : List (List ℕ)) (gone : ℕ) → at + del ≤ length ls → first_with_ending 0 add ≡ None
    → gone ≡ size_of (take del (drop at ls)) → length add ≤ 1000000 - (length ls - del) → length ls ≤ 1000000
    → due ls (call_of at del add) ≡ (if nat_lt 16777216 (size_of ls - gone + size_of (map without_nul add)) then Some TooLarge else None)
due_of_parts ls at del add gone within unbroken gone_is few held =
    let lines = length_replaced ls (map without_nul add) at del within in
    let added = length-map add without_nul in
    let size = size_replaced ls (map without_nul add) at del in
    let part = size_part ls at del in
    let total : size_of (put ls (call_of at del add)) ≡ size_of ls - gone + size_of (map without_nul add) = omega arith in
    let short : length (put ls (call_of at del add)) ≤ 1000000 = omega arith in
    let inside : (nat_lt (length ls) at || nat_lt (length ls - at) del) ≡ false = grind (arith, nat_tests) in
    let small : nat_lt 1000000 (length (put ls (call_of at del add))) ≡ false = grind (arith, nat_tests) in
    rw (inside, unbroken, small, total) refl

-- the text after the edit, from what the tests found
pub put_of_parts : (ls : List (List ℕ)) (at del : ℕ) (add : List (List ℕ)) (gone : ℕ) → at + del ≤ length ls
    → gone ≡ size_of (take del (drop at ls)) → length add ≤ 1000000 - (length ls - del) → length ls ≤ 1000000
    → (size_of (put ls (call_of at del add)) ≡ size_of ls - gone + size_of (map without_nul add)) × (length (put ls (call_of at del add)) ≤ 1000000)
put_of_parts ls at del add gone within gone_is few held =
    let lines = length_replaced ls (map without_nul add) at del within in
    let added = length-map add without_nul in
    let size = size_replaced ls (map without_nul add) at del in
    let part = size_part ls at del in
    (omega arith, omega arith)
