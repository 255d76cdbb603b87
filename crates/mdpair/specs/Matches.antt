-- Which delimiter runs make emphasis together (CommonMark 6.2 rules 9 to 17; GFM Strikethrough (extension)), by rewriting the list of what is left of the runs.
use Rattle.std.specs.Prelude.{◌≡◌, ℕ, zero, suc, ◌+◌, ◌-◌, ◌<◌, true, ◌&&◌, eqb, nat_lt, cond, List, [], ◌∷◌, ◌++◌, Option, Some, None}
use Rattle.std.specs.Option.{option_or}
use Rattle.mdpair.specs.declared.delimiter_runs.DelimiterChar.{DelimiterChar}
use Rattle.mdpair.specs.declared.delimiter_runs.DelimiterChar.TheVariants.{Tilde}
use Rattle.mdpair.specs.declared.delimiter_runs.DelimiterRun.{DelimiterRun}
use Rattle.mdpair.specs.declared.emphasis.Match.{Match}
use Rattle.mdpair.specs.declared.emphasis.Remaining.{Remaining}
use Rattle.mdpair.specs.DelimiterRun.{is_admissible}

-- the nearest admissible opener before a closer, and what lies before that opener; those before the closer are read backwards
abbrev pub nearest : DelimiterRun → List Remaining → Option (Remaining × List Remaining)
nearest c [] = None
nearest c (o ∷ below) = cond (is_admissible o.run c) (Some (o, below)) (nearest c below)

-- Two characters are taken of each where both have two left (strong emphasis), else one (emphasis). A run of tildes goes whole.
abbrev pub width_of : DelimiterChar → ℕ → ℕ → ℕ → ℕ
width_of Tilde whole o c = whole
width_of _ whole o c = cond (nat_lt 1 o && nat_lt 1 c) 2 1

abbrev pub taken_of : Remaining → Remaining → ℕ
taken_of o c = width_of c.run.delimiter c.run.length o.left c.left

-- a run with so many characters left, or nothing
abbrev pub left_of : ℕ → ℕ → DelimiterRun → List Remaining
left_of place left run = cond (eqb left 0) [] (record { place = place; left = left; run = run } ∷ [])

abbrev pub without : ℕ → Remaining → List Remaining
without n l = left_of l.place (l.left - n) l.run

-- the first list, read backwards, in front of the second
abbrev pub onto : List Remaining → List Remaining → List Remaining
onto [] ys = ys
onto (x ∷ xs) ys = onto xs (x ∷ ys)

-- a list read backwards: the one put in last is the first
abbrev pub stack : List Remaining → List Remaining
stack ls = onto ls []

abbrev pub matched : Remaining → Remaining → Match
matched o c = record { opener = o.place; closer = c.place; width = taken_of o c }

-- what is left after a match: what lies before the opener, and behind the closer; the runs between become text
abbrev pub after_match : ℕ → Remaining → List Remaining → Remaining → List Remaining → List Remaining
after_match n o below c rest = onto (without n o ++ below) (without n c ++ rest)

abbrev pub match_with : Remaining → List Remaining → Option (Remaining × List Remaining) → Option (Match × List Remaining)
match_with c rest None = None
match_with c rest (Some (o, below)) = Some (matched o c, after_match (taken_of o c) o below c rest)

-- what a run takes as a closer, and what it leaves; the runs before it are read backwards
abbrev pub match_at : List Remaining → Remaining → List Remaining → Option (Match × List Remaining)
match_at passed c rest = cond c.run.can_close (match_with c rest (nearest c.run passed)) None

-- The first match is that of the leftmost closer which has an admissible opener before it.
abbrev pub first_match : List Remaining → List Remaining → Option (Match × List Remaining)
first_match passed [] = None
first_match passed (c ∷ rest) = option_or (match_at passed c rest) (first_match (c ∷ passed) rest)

abbrev pub and_on : Option (Match × List Remaining) → (List Remaining → List Match) → List Match
and_on None go = []
and_on (Some (t, ls)) go = t ∷ go ls

-- at most n matches, one after the other
unfoldable pub matches_in : ℕ → List Remaining → List Match
matches_in zero ls = []
matches_in (suc n) ls = and_on (first_match [] ls) (matches_in n)

-- the runs from place n on, with all their characters
abbrev pub whole : ℕ → List DelimiterRun → List Remaining
whole n [] = []
whole n (r ∷ rs) = left_of n r.length r ++ whole (n + 1) rs

-- how many characters are left
abbrev pub left_in : List Remaining → ℕ
left_in [] = 0
left_in (l ∷ ls) = l.left + left_in ls

-- as often as possible; each match takes a character, so there are no more of them than characters
unfoldable pub matches : List DelimiterRun → List Match
matches runs = matches_in (left_in (whole 0 runs)) (whole 0 runs)

-- these matches, each the first of what the one before it leaves, make the one list of the other
abbrev pub Rewrites : List Remaining → List Match → List Remaining → Type 0
Rewrites ls [] end = ls ≡ end
Rewrites ls (t ∷ ts) end = (next : List Remaining) × (first_match [] ls ≡ Some (t, next)) × Rewrites next ts end

-- no closer among those passed has an admissible opener before it
abbrev pub IsClear : List Remaining → Type 0
IsClear [] = Unit {0}
IsClear (c ∷ below) = (c.run.can_close ≡ true → nearest c.run below ≡ None) × IsClear below

-- something is left of the run; of tildes all
abbrev pub IsLeft : Remaining → Type 0
IsLeft l = (0 < l.left) × (l.run.delimiter ≡ Tilde → l.left ≡ l.run.length)

abbrev pub IsBelow : ℕ → Remaining → Type 0
IsBelow k l = l.place < k

-- the opener stands before the closer, and the closer below k; both lose at least a character
abbrev pub IsOrdered : ℕ → Match → Type 0
IsOrdered k t = (t.opener < t.closer) × (t.closer < k) × (0 < t.width)

-- these matches leave a list in which no closer has an admissible opener before it
pub record IsProcessed (runs : List DelimiterRun) (ts : List Match) : Type 0 where
  pub end : List Remaining
  pub rewrites : Rewrites (whole 0 runs) ts end
  pub done : first_match [] end ≡ None
