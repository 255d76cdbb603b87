-- The lines of a text whose NULs are replaced, and how many lines and bytes a text has at most.
use Rattle.std.proofs.Common.{eqb-true, ◌≡◌, ℕ, ◌+◌, ◌*◌, ◌≤◌, Bool, true, false, List, [], ◌∷◌, ◌++◌, length, map, refl, ap, sym, ◌∙◌, arith, cond, ◌&&◌, ◌||◌, eqb, length-append}
use Rattle.std.proofs.lemmas.List.Sums.{sum_by-cons}
use Rattle.mdtext.specs.Lines.{clean_byte, without_nul, begins_with_lf, at_front, split_lines}
use Rattle.mdsource.specs.SourceLimits.{size_of}

pub size_next : (line : List ℕ) (lines : List (List ℕ)) → size_of (line ∷ lines) ≡ length line + 1 + size_of lines
size_next line lines = sum_by-cons (λ (line : List ℕ). length line + 1) line lines

stands : (b : ℕ) → eqb b 0 ≡ false → clean_byte b ≡ b ∷ []
stands b e = rw e refl

lf_stays_by : (t : Bool) (b : ℕ) (bs : List ℕ) → eqb b 0 ≡ t → begins_with_lf (cond t (0xEF ∷ 0xBF ∷ 0xBD ∷ []) (b ∷ []) ++ bs) ≡ eqb b 10
lf_stays_by true b bs e = grind (arith, e)
lf_stays_by false b bs e = refl

lf_stays : (bs : List ℕ) → begins_with_lf (without_nul bs) ≡ begins_with_lf bs
lf_stays [] = refl
lf_stays (b ∷ bs) = lf_stays_by (eqb b 0) b (without_nul bs) refl

front_stays : (b : ℕ) (lines : List (List ℕ)) → clean_byte b ≡ b ∷ [] → at_front b (map without_nul lines) ≡ map without_nul (at_front b lines)
front_stays b [] e = ap (λ c. (c ++ []) ∷ []) (sym e)
front_stays b (line ∷ lines) e = ap (λ c. (c ++ without_nul line) ∷ map without_nul lines) (sym e)

choice_stays : (joined ends : Bool) (b : ℕ) (lines : List (List ℕ)) → clean_byte b ≡ b ∷ []
    → cond joined (map without_nul lines) (cond ends ([] ∷ map without_nul lines) (at_front b (map without_nul lines))) ≡ map without_nul (cond joined lines (cond ends ([] ∷ lines) (at_front b lines)))
choice_stays true ends b lines e = refl
choice_stays false true b lines e = refl
choice_stays false false b lines e = front_stays b lines e

nul_front : (lines : List (List ℕ)) → at_front 0xEF (at_front 0xBF (at_front 0xBD (map without_nul lines))) ≡ map without_nul (at_front 0 lines)
nul_front [] = refl
nul_front (line ∷ lines) = refl

plain_next : (b : ℕ) (bs : List ℕ) → eqb b 0 ≡ false → split_lines (without_nul bs) ≡ map without_nul (split_lines bs) → split_lines (b ∷ without_nul bs) ≡ map without_nul (split_lines (b ∷ bs))
unfolding split_lines
plain_next b bs e rest =
    ap (λ l. cond (eqb b 13 && begins_with_lf (without_nul bs)) l (cond (eqb b 13 || eqb b 10) ([] ∷ l) (at_front b l))) rest
    ∙ ap (λ n. cond (eqb b 13 && n) (map without_nul (split_lines bs)) (cond (eqb b 13 || eqb b 10) ([] ∷ map without_nul (split_lines bs)) (at_front b (map without_nul (split_lines bs))))) (lf_stays bs)
    ∙ choice_stays (eqb b 13 && begins_with_lf bs) (eqb b 13 || eqb b 10) b (split_lines bs) (stands b e)

nul_next : (bs : List ℕ) → split_lines (without_nul bs) ≡ map without_nul (split_lines bs) → split_lines (0xEF ∷ 0xBF ∷ 0xBD ∷ without_nul bs) ≡ map without_nul (split_lines (0 ∷ bs))
unfolding split_lines
nul_next bs rest = ap (λ l. at_front 0xEF (at_front 0xBF (at_front 0xBD l))) rest ∙ nul_front (split_lines bs)

next_by : (t : Bool) (b : ℕ) (bs : List ℕ) → eqb b 0 ≡ t → split_lines (without_nul bs) ≡ map without_nul (split_lines bs)
    → split_lines (cond t (0xEF ∷ 0xBF ∷ 0xBD ∷ []) (b ∷ []) ++ without_nul bs) ≡ map without_nul (split_lines (b ∷ bs))
next_by true b bs e rest = rw (eqb-true b 0 e) (nul_next bs rest)
next_by false b bs e rest = plain_next b bs e rest

-- NULs may be replaced before the lines are told apart
pub lines_of_clean : (text : List ℕ) → split_lines (without_nul text) ≡ map without_nul (split_lines text)
unfolding split_lines
lines_of_clean [] = refl
lines_of_clean (b ∷ bs) = next_by (eqb b 0) b bs refl (lines_of_clean bs)

few_front : (b : ℕ) (lines : List (List ℕ)) (n : ℕ) → length lines ≤ n → length (at_front b lines) ≤ n + 1
few_front b [] n h = omega arith
few_front b (line ∷ lines) n h = omega (arith, h)

few_choice : (joined ends : Bool) (b : ℕ) (lines : List (List ℕ)) (n : ℕ) → length lines ≤ n → length (cond joined lines (cond ends ([] ∷ lines) (at_front b lines))) ≤ n + 1
few_choice true ends b lines n h = omega (arith, h)
few_choice false true b lines n h = omega (arith, h)
few_choice false false b lines n h = few_front b lines n h

-- a text has no more lines than bytes
pub few_lines : (text : List ℕ) → length (split_lines text) ≤ length text
unfolding split_lines
few_lines [] = omega arith
few_lines (b ∷ bs) =
    let more = few_choice (eqb b 13 && begins_with_lf bs) (eqb b 13 || eqb b 10) b (split_lines bs) (length bs) (few_lines bs) in
    omega (arith, more)

short_byte_by : (t : Bool) (b : ℕ) → length (cond t (0xEF ∷ 0xBF ∷ 0xBD ∷ []) (b ∷ [])) ≤ 3
short_byte_by true b = omega arith
short_byte_by false b = omega arith

short_byte : (b : ℕ) → length (clean_byte b) ≤ 3
short_byte b = short_byte_by (eqb b 0) b

small_front : (b : ℕ) (lines : List (List ℕ)) (n : ℕ) → 1 ≤ n → size_of (map without_nul lines) ≤ n → size_of (map without_nul (at_front b lines)) ≤ n + 3
small_front b [] n some h =
    let one = size_next (clean_byte b ++ []) [] in
    let byte = short_byte b in
    let none : size_of [] ≡ 0 = refl in
    omega (arith, one, byte, none, some, length-append (clean_byte b) [])
small_front b (line ∷ lines) n some h =
    let before = size_next (without_nul line) (map without_nul lines) in
    let after = size_next (clean_byte b ++ without_nul line) (map without_nul lines) in
    let byte = short_byte b in
    omega (arith, before, after, byte, h, length-append (clean_byte b) (without_nul line))

small_choice : (joined ends : Bool) (b : ℕ) (lines : List (List ℕ)) (n : ℕ) → 1 ≤ n → size_of (map without_nul lines) ≤ n
    → size_of (map without_nul (cond joined lines (cond ends ([] ∷ lines) (at_front b lines)))) ≤ n + 3
small_choice true ends b lines n some h = omega (arith, h)
small_choice false true b lines n some h = let one = size_next [] (map without_nul lines) in omega (arith, h, one)
small_choice false false b lines n some h = small_front b lines n some h

-- a byte stands for at most three
pub small_lines : (text : List ℕ) → size_of (map without_nul (split_lines text)) ≤ 3 * length text + 1
unfolding split_lines
small_lines [] = let none : size_of [] ≡ 0 = refl in omega (arith, none)
small_lines (b ∷ bs) =
    let more = small_choice (eqb b 13 && begins_with_lf bs) (eqb b 13 || eqb b 10) b (split_lines bs) (3 * length bs + 1) (omega arith) (small_lines bs) in
    omega (arith, more)
