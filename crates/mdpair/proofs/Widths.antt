-- What a match takes of each: something, and no more than is left; of tildes all.
use Rattle.std.proofs.Common.{◌≡◌, ℕ, zero, suc, ◌-◌, ◌<◌, ◌≤◌, Bool, true, false, ◌&&◌, cond, eqb, nat_lt, List, [], ◌∷◌, ◌++◌, refl, arith}
use Rattle.std.proofs.lemmas.Bool.Decides.{nat_tests}
use Rattle.std.specs.List.{AllByRecursion}
use Rattle.mdpair.specs.declared.delimiter_runs.DelimiterChar.{DelimiterChar}
use Rattle.mdpair.specs.declared.delimiter_runs.DelimiterChar.TheVariants.{Asterisk, Underscore, Tilde}
use Rattle.mdpair.specs.declared.delimiter_runs.DelimiterRun.{DelimiterRun}
use Rattle.mdpair.specs.declared.emphasis.Remaining.{Remaining}
use Rattle.mdpair.specs.DelimiterRun.{same_delimiter, lengths_match, is_admissible}
use Rattle.mdpair.specs.Matches.{width_of, left_of, IsLeft}

-- the opener of a run of tildes is one of the same length

pub record SameTildes (o c : DelimiterRun) : Type 0 where
  pub delimiter : o.delimiter ≡ Tilde
  pub length : o.length ≡ c.length

tildes : (b : Bool) (m n : DelimiterChar) (o c : DelimiterRun) → o.delimiter ≡ m → b && same_delimiter m n && lengths_match n o c ≡ true → n ≡ Tilde → SameTildes o c
tildes false m n o c is e t = cc
tildes true Tilde Tilde o c is e t = record { delimiter = is; length = grind (arith, nat_tests) }
tildes true Asterisk n o c is e t = cc
tildes true Underscore n o c is e t = cc
tildes true Tilde Asterisk o c is e t = cc
tildes true Tilde Underscore o c is e t = cc

pub same_tildes : (o c : DelimiterRun) → is_admissible o c ≡ true → c.delimiter ≡ Tilde → SameTildes o c
same_tildes o c e t = tildes o.can_open o.delimiter c.delimiter o c refl e t

same_char : (b : Bool) (m n : DelimiterChar) (o c : DelimiterRun) → b && same_delimiter m n && lengths_match n o c ≡ true → m ≡ n
same_char false m n o c e = cc
same_char true Asterisk Asterisk o c e = refl
same_char true Underscore Underscore o c e = refl
same_char true Tilde Tilde o c e = refl
same_char true Asterisk Underscore o c e = cc
same_char true Asterisk Tilde o c e = cc
same_char true Underscore Asterisk o c e = cc
same_char true Underscore Tilde o c e = cc
same_char true Tilde Asterisk o c e = cc
same_char true Tilde Underscore o c e = cc

pub same_delimiters : (o c : DelimiterRun) → is_admissible o c ≡ true → o.delimiter ≡ c.delimiter
same_delimiters o c e = same_char o.can_open o.delimiter c.delimiter o c e

-- the characters that are taken

pub record Takes (o c w : ℕ) : Type 0 where
  pub some : 0 < w
  pub opener : w ≤ o
  pub closer : w ≤ c

two : (o c : ℕ) → 0 < o → 0 < c → Takes o c (cond (nat_lt 1 o && nat_lt 1 c) 2 1)
two o c p q = record { some = grind (arith, nat_tests); opener = grind (arith, nat_tests); closer = grind (arith, nat_tests) }

takes_at : (d : DelimiterChar) (n o c : ℕ) → 0 < o → 0 < c → (d ≡ Tilde → (o ≡ n) × (c ≡ n)) → Takes o c (width_of d n o c)
takes_at Asterisk n o c p q h = two o c p q
takes_at Underscore n o c p q h = two o c p q
takes_at Tilde n o c p q h = let e = h refl in record { some = omega (arith, e.1); opener = omega (arith, e.0); closer = omega (arith, e.1) }

pub takes : (o : Remaining) (c : DelimiterRun) (left : ℕ) → is_admissible o.run c ≡ true → IsLeft o → 0 < left → (c.delimiter ≡ Tilde → left ≡ c.length) →
    Takes o.left left (width_of c.delimiter c.length o.left left)
takes o c left fits some more whole =
    takes_at c.delimiter c.length o.left left some.0 more (λ t. (let s = same_tildes o.run c fits t in omega (arith, s.length, some.1 s.delimiter), whole t))

all_at : (d : DelimiterChar) (n o c : ℕ) → d ≡ Tilde → o ≡ n → o - width_of d n o c ≡ 0
all_at Tilde n o c t e = omega (arith, e)
all_at Asterisk n o c t e = cc
all_at Underscore n o c t e = cc

-- what is left of a run of tildes is nothing

pub opener_whole : (o : Remaining) (c : DelimiterRun) (left : ℕ) → is_admissible o.run c ≡ true → IsLeft o → o.run.delimiter ≡ Tilde →
    o.left - width_of c.delimiter c.length o.left left ≡ 0
opener_whole o c left fits some t =
    let d : c.delimiter ≡ Tilde = cc (same_delimiters o.run c fits) in
    let s = same_tildes o.run c fits d in
    all_at c.delimiter c.length o.left left d (omega (arith, s.length, some.1 t))

closer_at : (d : DelimiterChar) (n o c : ℕ) → d ≡ Tilde → c ≡ n → c - width_of d n o c ≡ 0
closer_at Tilde n o c t e = omega (arith, e)
closer_at Asterisk n o c t e = cc
closer_at Underscore n o c t e = cc

pub closer_whole : (c : DelimiterRun) (o left : ℕ) → (c.delimiter ≡ Tilde → left ≡ c.length) → c.delimiter ≡ Tilde →
    left - width_of c.delimiter c.length o left ≡ 0
closer_whole c o left whole t = closer_at c.delimiter c.length o left t (whole t)

-- what is left of a run may be put on the stack

pub pushed_left : (place left : ℕ) (run : DelimiterRun) (below : List Remaining) → (run.delimiter ≡ Tilde → 0 < left → left ≡ run.length) →
    AllByRecursion IsLeft below → AllByRecursion IsLeft (left_of place left run ++ below)
pushed_left place zero run below h each = each
pushed_left place (suc n) run below h each = at (eqb (suc n) 0)
  where
    at : (b : Bool) → AllByRecursion IsLeft (cond b [] (record { place = place; left = suc n; run = run } ∷ []) ++ below)
    at true = each
    at false = ((omega arith, λ t. h t (omega arith)), each)
