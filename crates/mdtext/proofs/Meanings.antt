-- Escapes and references, one after another.
use Rattle.std.proofs.Common.{◌≡◌, ℕ, zero, suc, ◌<◌, true, false, List, [], ◌∷◌, ◌++◌, drop, refl, ap, sym, ◌∙◌, arith, eqb}
use Rattle.std.proofs.lemmas.List.{append_assoc, append-nil}
use Rattle.std.specs.List.{list_any}
use Rattle.mdtext.specs.ByteClass.{in_class}
use Rattle.mdtext.specs.EntityTable.{EntityTable}
use Rattle.mdtext.specs.Unescaped.{meaning, unescaped_from, unescaped, unescape_specials, added, escape}
use Rattle.mdtext.specs.CharacterReferences.{reference, reference_or}
use Rattle.std.specs.Char.{is_ascii_punctuation}
use Rattle.mdtext.proofs.PlainRuns.{either_false}

-- what is passed is not read
passed : (table : EntityTable) (skip : ℕ) (text : List ℕ) → unescaped_from table skip text ≡ unescaped table (drop skip text)
unfolding unescaped_from
passed table zero [] = refl
passed table zero (b ∷ text) = refl
passed table (suc skip) [] = refl
passed table (suc skip) (b ∷ text) = passed table skip text

one_meaning : (table : EntityTable) (b : ℕ) (rest : List ℕ) → unescaped table (b ∷ rest) ≡ (meaning table b rest).1 ++ unescaped table (drop (meaning table b rest).0 rest)
unfolding unescaped_from
one_meaning table b rest = ap (λ l. (meaning table b rest).1 ++ l) (passed table (meaning table b rest).0 rest)

no_meaning : (table : EntityTable) (b : ℕ) (rest : List ℕ) → in_class unescape_specials b ≡ false → meaning table b rest ≡ (0, b ∷ [])
unfolding meaning
no_meaning table b rest h =
    let slash : eqb b 92 ≡ false = grind (arith, h) in
    let amp : eqb b 38 ≡ false = grind (arith, h) in
    rw (slash, amp) refl

-- a run of plain bytes stays
run_stays : (table : EntityTable) (run rest : List ℕ) → list_any (in_class unescape_specials) run ≡ false → unescaped table (run ++ rest) ≡ run ++ unescaped table rest
run_stays table [] rest h = refl
run_stays table (b ∷ run) rest h =
    let each = either_false _ _ h in
    one_meaning table b (run ++ rest) ∙ ap (λ m. m.1 ++ unescaped table (drop m.0 (run ++ rest))) (no_meaning table b (run ++ rest) each.0)
    ∙ ap (λ l. b ∷ l) (run_stays table run rest each.1)

nothing : (table : EntityTable) → unescaped table [] ≡ []
unfolding unescaped_from
nothing table = refl

-- the last run is written
pub write_last : (table : EntityTable) (seen out run rest text : List ℕ) → seen ≡ unescape_specials → list_any (in_class seen) run ≡ false → rest ≡ run → out ++ unescaped table rest ≡ text → out ++ run ≡ text
write_last table seen out run rest text e h g w =
    ap (λ l. out ++ l) (sym (append-nil run) ∙ ap (λ l. run ++ l) (sym (nothing table)) ∙ sym (run_stays table run [] (ap (λ s. list_any (in_class s) run) (sym e) ∙ h)) ∙ ap (unescaped table) (append-nil run ∙ sym g)) ∙ w

-- a run and what stands at the special byte after it are written
pub write_run : (table : EntityTable) (seen out run after rest text new : List ℕ) (b taken : ℕ) → seen ≡ unescape_specials → list_any (in_class seen) run ≡ false → rest ≡ run ++ b ∷ after
    → (taken, new) ≡ added (out ++ run) (meaning table b after) → out ++ unescaped table rest ≡ text → new ++ unescaped table (drop taken after) ≡ text
write_run table seen out run after rest text new b taken e h g m w =
    ap (λ p. p.1 ++ unescaped table (drop p.0 after)) m
    ∙ append_assoc (out ++ run) (meaning table b after).1 _ ∙ append_assoc out run _
    ∙ ap (λ l. out ++ (run ++ l)) (sym (one_meaning table b after)) ∙ ap (λ l. out ++ l) (sym (run_stays table run (b ∷ after) (ap (λ s. list_any (in_class s) run) (sym e) ∙ h)))
    ∙ ap (λ l. out ++ unescaped table l) (sym g) ∙ w

pub at_backslash : (table : EntityTable) (b : ℕ) (rest : List ℕ) → b ≡ 92 → escape rest ≡ meaning table b rest
unfolding meaning
at_backslash table b rest e = rw e refl

is_amp : (b : ℕ) → in_class unescape_specials b ≡ true → (b ≡ 92 → ⊥) → b ≡ 38
is_amp b h other = grind (arith, h, other)

pub at_ampersand : (table : EntityTable) (b : ℕ) (rest : List ℕ) → in_class unescape_specials b ≡ true → (b ≡ 92 → ⊥) → reference_or 38 (reference table rest) ≡ meaning table b rest
unfolding meaning
at_ampersand table b rest h other = rw (is_amp b h other) refl

pub punct_bounds : (b : ℕ) → is_ascii_punctuation b ≡ true → (0 < b) × (b < 128)
punct_bounds b h = (grind (arith, h), grind (arith, h))
