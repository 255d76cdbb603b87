-- What lines weigh that are held: the size of the text that they make.
use Rattle.std.proofs.Common.{◌≡◌, ℕ, ◌+◌, ◌≤◌, List, [], ◌∷◌, length, take, drop, map, refl, ap, arith, String, Global, string_bytes, sym, ◌∙◌}
use Rattle.std.specs.Prelude.{sum_by}
use Rattle.std.specs.List.{drop-map, take-map}
use Rattle.std.proofs.lemmas.List.Sums.{sum_by-cons}
use Rattle.mdchunks.specs.Lists.{weigh}
use Rattle.mdsource.specs.SourceLimits.{size_of}
use Rattle.mdview.proofs.Sizes.{size_part}

-- what a line weighs
abbrev pub line_weight : String Global → ℕ
line_weight line = length (string_bytes line) + 1

sum_is : (lines : List (String Global)) → sum_by line_weight lines ≡ size_of (map string_bytes lines)
sum_is [] = refl
sum_is (line ∷ lines) =
    sum_by-cons line_weight line lines ∙ ap (λ n. line_weight line + n) (sum_is lines) ∙ sym (sum_by-cons (λ (l : List ℕ). length l + 1) (string_bytes line) (map string_bytes lines))

-- what the lines weigh that go
pub gone_is : (lines : List (String Global)) (at del gone : ℕ) → size_of (map string_bytes lines) ≤ 16777216 → gone ≡ weigh line_weight (take del (drop at lines))
    → gone ≡ size_of (take del (drop at (map string_bytes lines)))
gone_is lines at del gone small is =
    let ls : List (List ℕ) = map string_bytes lines in
    let part = size_part ls at del in
    let sum : sum_by line_weight (take del (drop at lines)) ≡ size_of (take del (drop at ls)) =
    sum_is (take del (drop at lines)) ∙ ap size_of (sym (take-map string_bytes del (drop at lines)) ∙ ap (take del) (sym (drop-map string_bytes at lines))) in
    omega (arith, small, part, sum, is)
