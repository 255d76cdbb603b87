-- The first line of a text, and the lines after its ending.
use Rattle.std.proofs.Common.{◌≡◌, ℕ, ◌<◌, Bool, true, false, List, [], ◌∷◌, ◌++◌, length, drop, refl, ap, ◌∙◌, arith, cond, ◌&&◌, ◌||◌, eqb, ◌≢◌}
use Rattle.std.proofs.Common.{eqb-true}
use Rattle.std.specs.List.{list_any}
use Rattle.mdtext.specs.ByteClass.{in_class}
use Rattle.mdtext.specs.Lines.{split_lines, at_front, begins_with_lf}
use Rattle.mdtext.proofs.PlainRuns.{either_false}

abbrev pub line_ends : List ℕ
line_ends = 13 ∷ 10 ∷ []

by_tests : (cr lf next : Bool) (a b c : List (List ℕ)) → cr ≡ false → lf ≡ false → cond (cr && next) a (cond (cr || lf) b c) ≡ c
by_tests true lf next a b c e f = cc
by_tests false true next a b c e f = cc
by_tests false false next a b c e f = refl

-- a character that ends no line stands at the front of the first line
one_plain : (b : ℕ) (bs : List ℕ) → in_class line_ends b ≡ false → split_lines (b ∷ bs) ≡ at_front b (split_lines bs)
unfolding split_lines
one_plain b bs h = by_tests (eqb b 13) (eqb b 10) (begins_with_lf bs) _ _ _ (grind (arith, h)) (grind (arith, h))

-- the whole text is one line
pub line_alone : (b : ℕ) (bs : List ℕ) → list_any (in_class line_ends) (b ∷ bs) ≡ false → split_lines (b ∷ bs) ≡ (b ∷ bs) ∷ []
unfolding split_lines
line_alone b [] h = one_plain b [] (either_false _ _ h).0
line_alone b (c ∷ bs) h = let each = either_false _ _ h in one_plain b (c ∷ bs) each.0 ∙ ap (at_front b) (line_alone c bs each.1)

pub line_is_all : (text line : List ℕ) → 0 < length text → text ≡ line → list_any (in_class line_ends) line ≡ false → split_lines text ≡ line ∷ split_lines []
unfolding split_lines
line_is_all [] line few e h = absurd (omega (arith, few))
line_is_all (b ∷ bs) line few e h = line_alone b bs (ap (list_any (in_class line_ends)) e ∙ h) ∙ ap (λ l. l ∷ []) e

-- a line, its ending and what follows
pub line_then : (line ending : List ℕ) (rest : List (List ℕ)) → list_any (in_class line_ends) line ≡ false → split_lines ending ≡ [] ∷ rest → split_lines (line ++ ending) ≡ line ∷ rest
line_then [] ending rest h e = e
line_then (b ∷ line) ending rest h e = let each = either_false _ _ h in one_plain b (line ++ ending) each.0 ∙ ap (at_front b) (line_then line ending rest each.1 e)

cr_then : (next : Bool) (after : List ℕ) → begins_with_lf after ≡ next → split_lines (13 ∷ after) ≡ [] ∷ split_lines (cond next (drop 1 after) after)
unfolding split_lines
cr_then true [] e = cc
cr_then true (b ∷ after) e = rw (eqb-true b 10 e) refl
cr_then false after e = rw e refl

pub ends_at_cr : (after : List ℕ) → split_lines (13 ∷ after) ≡ [] ∷ split_lines (cond (begins_with_lf after) (drop 1 after) after)
ends_at_cr after = cr_then _ after refl

pub ends_at_lf : (after : List ℕ) → split_lines (10 ∷ after) ≡ [] ∷ split_lines after
unfolding split_lines
ends_at_lf after = refl

-- the text after LF, if it begins so
pub after_none : (text : List ℕ) → ((rest : List ℕ) → text ≢ 10 ∷ rest) → text ≡ cond (begins_with_lf text) (drop 1 text) text
after_none [] h = refl
after_none (b ∷ bs) h = by_lf (eqb b 10) b bs refl h where
  by_lf : (t : Bool) (b : ℕ) (bs : List ℕ) → eqb b 10 ≡ t → ((rest : List ℕ) → (b ∷ bs) ≢ 10 ∷ rest) → (b ∷ bs) ≡ cond t bs (b ∷ bs)
  by_lf true b bs e h = absurd (h bs (ap (λ x. x ∷ bs) (eqb-true b 10 e)))
  by_lf false b bs e h = refl

pub after_some : (text rest : List ℕ) → text ≡ 10 ∷ rest → rest ≡ cond (begins_with_lf text) (drop 1 text) text
after_some text rest e = rw e refl

-- a line ending's byte that is no CR is LF
pub is_lf : (b : ℕ) → in_class line_ends b ≡ true → (b ≡ 13 → ⊥) → b ≡ 10
is_lf b h other = grind (arith, h, other)
