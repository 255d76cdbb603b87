-- The content of a code span, line by line.
use Rattle.std.proofs.Common.{◌≡◌, ◌≢◌, ℕ, zero, suc, ◌-◌, ◌<◌, Bool, true, false, not, ◌&&◌, ◌||◌, ◌==◌, eqb, nat_lt, List, [], ◌∷◌, ◌++◌, length, take, drop, get_or, refl, ap, sym, ◌∙◌, arith, append_assoc, append-nil, if◌then◌else◌}
use Rattle.std.specs.List.{list_all, list_any, slice_range}
use Rattle.std.proofs.lemmas.List.{drop-map, take-map, length-map}
use Rattle.std.proofs.lemmas.Bool.Decides.{nat_tests}
use Rattle.inlinespec.specs.CodeSpans.{as_one_line, is_padded, code_content, is_space_or_feed, unpadded}

-- no line ending stands in a text
abbrev pub IsOneLine : List ℕ → Type 0
IsOneLine text = (i : ℕ) → i < length text → get_or text i 0 ≢ 10

other : (b : ℕ) (rest : List ℕ) → b ≢ 10 → as_one_line (b ∷ rest) ≡ b ∷ as_one_line rest
other b rest h = let no : eqb b 10 ≡ false = grind (arith, nat_tests, h) in rw no refl

pub stays : (line rest : List ℕ) → IsOneLine line → as_one_line (line ++ rest) ≡ line ++ as_one_line rest
stays [] rest h = refl
stays (b ∷ line) rest h = other b (line ++ rest) (h 0 (omega arith)) ∙ ap (λ l. b ∷ l) (stays line rest (λ i lt. h (suc i) (omega (arith, lt))))

-- the last line is written
pub write_last : (out rest text : List ℕ) → IsOneLine rest → out ++ as_one_line rest ≡ text → out ++ rest ≡ text
write_last out rest text h w =
    ap (λ l. out ++ l) (sym (append-nil rest) ∙ sym (stays rest [] h) ∙ ap as_one_line (append-nil rest)) ∙ w

-- a line and a space are written
pub write_line : (out line after rest text : List ℕ) → IsOneLine line → rest ≡ line ++ 10 ∷ after → out ++ as_one_line rest ≡ text → ((out ++ line) ++ 32 ∷ []) ++ as_one_line after ≡ text
write_line out line after rest text h e w =
    append_assoc (out ++ line) (32 ∷ []) (as_one_line after) ∙ append_assoc out line (32 ∷ as_one_line after)
    ∙ ap (λ l. out ++ l) (sym (stays line (10 ∷ after) h)) ∙ ap (λ l. out ++ as_one_line l) (sym e) ∙ w

space_there : (b : ℕ) → ((if b == 10 then 32 else b) == 32) ≡ is_space_or_feed b
space_there b = by (b == 10) refl
  where
    by : (t : Bool) → (b == 10) ≡ t → ((if t then 32 else b) == 32) ≡ ((b == 32) || t)
    by true e = grind arith
    by false e = grind arith

one_line_at : (xs : List ℕ) (k : ℕ) → k < length xs → (get_or (as_one_line xs) k 0 == 32) ≡ is_space_or_feed (get_or xs k 0)
one_line_at [] k lt = absurd (omega (arith, lt))
one_line_at (b ∷ rest) zero lt = space_there b
one_line_at (b ∷ rest) (suc k) lt = one_line_at rest k (omega (arith, lt))

not_both : (a b c d : Bool) → a ≡ c → not b ≡ d → not (a && b) ≡ (not c || d)
not_both true b true d e h = h
not_both false b false d e h = refl
not_both true b false d e h = cc
not_both false b true d e h = cc

not_all : (xs : List ℕ) → not (list_all (λ b. b == 32) (as_one_line xs)) ≡ list_any (λ b. not (is_space_or_feed b)) xs
not_all [] = refl
not_all (b ∷ rest) = not_both _ _ _ _ (space_there b) (not_all rest)

never : (t : Bool) → (t && t && not (t && true)) ≡ false
never true = refl
never false = refl

three : (a b c d e f : Bool) → a ≡ d → b ≡ e → c ≡ f → (a && b && c) ≡ (d && e && f)
three a b c d e f ab bc cd = rw (ab, bc, cd) refl

-- a space or a line ending at both ends, and something else between
pub padded : (xs : List ℕ) → is_padded (as_one_line xs) ≡ (nat_lt 1 (length xs) && is_space_or_feed (get_or xs 0 0) && is_space_or_feed (get_or xs (length xs - 1) 0) && list_any (λ b. not (is_space_or_feed b)) xs)
padded [] = refl
padded (b ∷ []) = never ((if b == 10 then 32 else b) == 32)
padded (b ∷ c ∷ rest) =
    let long : nat_lt 1 (length (b ∷ c ∷ rest)) ≡ true = grind (arith, nat_tests) in
    rw long (three _ _ _ _ _ _ (space_there b)
    (ap (λ n. get_or (as_one_line (b ∷ c ∷ rest)) (n - 1) 0 == 32) (length-map (b ∷ c ∷ rest) (λ b. if b == 10 then 32 else b)) ∙ one_line_at (b ∷ c ∷ rest) (length (b ∷ c ∷ rest) - 1) (omega arith))
    (not_all (b ∷ c ∷ rest)))

pub content_is : (text : List ℕ) → code_content text ≡ as_one_line (unpadded text)
unfolding code_content
content_is text = by (is_padded (as_one_line text))
  where
    by : (t : Bool) → (if t then take (length (as_one_line text) - 2) (drop 1 (as_one_line text)) else as_one_line text) ≡ as_one_line (if t then slice_range text 1 (length text - 1) else text)
    by false = refl
    by true =
        ap (λ n. take (n - 2) (drop 1 (as_one_line text))) (length-map text (λ b. if b == 10 then 32 else b))
        ∙ ap (take (length text - 2)) (drop-map (λ b. if b == 10 then 32 else b) 1 text)
        ∙ take-map (λ b. if b == 10 then 32 else b) (length text - 2) (drop 1 text)
        ∙ ap (λ n. as_one_line (take n (drop 1 text))) (let e : length text - 2 ≡ length text - 1 - 1 = omega arith in e)
