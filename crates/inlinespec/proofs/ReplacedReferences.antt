-- A text in which references are replaced, part by part.
use Rattle.std.proofs.Common.{◌≡◌, ◌≢◌, ℕ, zero, suc, ◌<◌, eqb, List, [], ◌∷◌, ◌++◌, length, drop, get_or, refl, ap, sym, ◌∙◌, arith, append_assoc, append-nil, false}
use Rattle.std.proofs.lemmas.Bool.Decides.{nat_tests}
use Rattle.mdtext.specs.EntityTable.{EntityTable}
use Rattle.mdtext.specs.Unescaped.{added}
use Rattle.mdtext.specs.CharacterReferences.{reference, reference_or}
use Rattle.inlinespec.specs.CharacterReferences.{referred, without_references}

passed : (table : EntityTable) (skip : ℕ) (text : List ℕ) → without_references table skip text ≡ without_references table 0 (drop skip text)
unfolding without_references
passed table zero [] = refl
passed table zero (b ∷ text) = refl
passed table (suc skip) [] = refl
passed table (suc skip) (b ∷ text) = passed table skip text

one_byte : (table : EntityTable) (b : ℕ) (rest : List ℕ) → without_references table 0 (b ∷ rest) ≡ (referred table b rest).1 ++ without_references table 0 (drop (referred table b rest).0 rest)
unfolding without_references
one_byte table b rest = ap (λ l. (referred table b rest).1 ++ l) (passed table (referred table b rest).0 rest)

other : (table : EntityTable) (b : ℕ) (rest : List ℕ) → b ≢ 38 → referred table b rest ≡ (0, b ∷ [])
other table b rest h = let no : eqb b 38 ≡ false = grind (arith, nat_tests, h) in rw no refl

-- no `&` stands in a text
abbrev pub HasNoReference : List ℕ → Type 0
HasNoReference text = (i : ℕ) → i < length text → get_or text i 0 ≢ 38

stays : (table : EntityTable) (run rest : List ℕ) → HasNoReference run → without_references table 0 (run ++ rest) ≡ run ++ without_references table 0 rest
stays table [] rest h = refl
stays table (b ∷ run) rest h =
    one_byte table b (run ++ rest) ∙ ap (λ (m : ℕ × List ℕ). m.1 ++ without_references table 0 (drop m.0 (run ++ rest))) (other table b (run ++ rest) (h 0 (omega arith)))
    ∙ ap (λ l. b ∷ l) (stays table run rest (λ i lt. h (suc i) (omega (arith, lt))))

nothing : (table : EntityTable) → without_references table 0 [] ≡ []
unfolding without_references
nothing table = refl

-- the last part is written
pub write_last : (table : EntityTable) (out rest text : List ℕ) → HasNoReference rest → out ++ without_references table 0 rest ≡ text → out ++ rest ≡ text
write_last table out rest text h w =
    ap (λ l. out ++ l) (sym (append-nil rest) ∙ ap (λ l. rest ++ l) (sym (nothing table)) ∙ sym (stays table rest [] h) ∙ ap (without_references table 0) (append-nil rest)) ∙ w

-- a part and what stands for the reference behind it are written
pub write_part : (table : EntityTable) (out part after rest text new : List ℕ) (taken : ℕ) → HasNoReference part → rest ≡ part ++ 38 ∷ after →
    (taken, new) ≡ added (out ++ part) (reference_or 38 (reference table after)) → out ++ without_references table 0 rest ≡ text → new ++ without_references table 0 (drop taken after) ≡ text
write_part table out part after rest text new taken h e m w =
    ap (λ (p : ℕ × List ℕ). p.1 ++ without_references table 0 (drop p.0 after)) m
    ∙ append_assoc (out ++ part) (reference_or 38 (reference table after)).1 _ ∙ append_assoc out part _
    ∙ ap (λ l. out ++ (part ++ l)) (sym (one_byte table 38 after))
    ∙ ap (λ l. out ++ l) (sym (stays table part (38 ∷ after) h)) ∙ ap (λ l. out ++ without_references table 0 l) (sym e) ∙ w
