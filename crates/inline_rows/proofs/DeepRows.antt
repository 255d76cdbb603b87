-- How deep spans may lie in one another.
use Rattle.std.proofs.Common.{◌≡◌, ℕ, true, false, List, ◌++◌, refl, codes, replicate, flat_map}
use Rattle.inlinespec.specs.Nesting.{is_too_deep}
use Rattle.inline_rows.specs.Opened.{inline_words}
use Rattle.inline_rows.specs.Reads.{reads, nests}

-- a text between so many fronts and as many ends
abbrev between : ℕ → List ℕ → List ℕ → List ℕ → List ℕ
between n front text end = flat_map (λ part. part) (replicate n front) ++ text ++ flat_map (λ part. part) (replicate n end)

-- emphasis in emphasis, so many times
abbrev nested : ℕ → List ℕ
nested n = between n (codes "*a ") (codes "b") (codes " a*")

-- images in images
abbrev pictured : ℕ → List ℕ
pictured n = between n (codes "![") (codes "a") (codes "](/u)")

as_deep : nests (nested 64) ≡ 64
unfolding inline_words
as_deep = refl

one_deeper : nests (nested 65) ≡ 65
unfolding inline_words
one_deeper = refl

-- The limit is handed in. Emphasis in strong emphasis lies in one other span, and each of the two counts; so does an autolink.
within_one : is_too_deep 1 (reads (codes "*a* **b** ![c](/u) <de:f> ~~f~~")) ≡ false
unfolding inline_words
within_one = refl

past_one : is_too_deep 1 (reads (codes "***a***")) ≡ true
unfolding inline_words
past_one = refl

link_past_one : is_too_deep 1 (reads (codes "*<de:f>*")) ≡ true
unfolding inline_words
link_past_one = refl

within_two : is_too_deep 2 (reads (codes "***a*** ~~[b](/u)~~")) ≡ false
unfolding inline_words
within_two = refl

past_two : is_too_deep 2 (reads (codes "~~[*b*](/u)~~")) ≡ true
unfolding inline_words
past_two = refl

within_most : is_too_deep 256 (reads (pictured 256)) ≡ false
unfolding inline_words
within_most = refl

past_most : is_too_deep 256 (reads (pictured 257)) ≡ true
unfolding inline_words
past_most = refl
