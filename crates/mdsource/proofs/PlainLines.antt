-- Lines in which no line ending and no U+0000 stands.
use Rattle.std.proofs.Common.{◌≡◌, ℕ, ◌+◌, Bool, true, false, ◌||◌, ◌==◌, None, List, [], ◌∷◌, ◌++◌, map, nat_le, refl, ap, ◌∙◌, arith}
use Rattle.std.specs.List.{list_any}
use Rattle.mdtext.specs.ByteClass.{in_class}
use Rattle.mdtext.specs.Lines.{clean_byte, without_nul}
use Rattle.mdsource.specs.SourceLimits.{first_with_ending, has_line_ending, has_special}

neither : (s t : Bool) → (s || t) ≡ false → (s ≡ false) × (t ≡ false)
neither false t e = (refl, e)
neither true t e = cc

plain_byte : (b : ℕ) → in_class (0 ∷ 10 ∷ 13 ∷ []) b ≡ false → clean_byte b ≡ b ∷ []
plain_byte b e = grind (arith, e)

no_break : (b : ℕ) → in_class (0 ∷ 10 ∷ 13 ∷ []) b ≡ false → ((b == 10) || (b == 13)) ≡ false
no_break b e = grind (arith, e)

plain_stays : (line : List ℕ) → has_special line ≡ false → without_nul line ≡ line
plain_stays [] e = refl
plain_stays (b ∷ line) e =
    let parts = neither (in_class (0 ∷ 10 ∷ 13 ∷ []) b) (has_special line) e in
    ap (λ bs. bs ++ without_nul line) (plain_byte b parts.0) ∙ ap (λ bs. b ∷ bs) (plain_stays line parts.1)

no_ending : (line : List ℕ) → has_special line ≡ false → has_line_ending line ≡ false
no_ending [] e = refl
no_ending (b ∷ line) e =
    let parts = neither (in_class (0 ∷ 10 ∷ 13 ∷ []) b) (has_special line) e in
    rw (no_break b parts.0) (no_ending line parts.1)

not_special : (b : ℕ) → nat_le b 13 ≡ false → in_class (0 ∷ 10 ∷ 13 ∷ []) b ≡ false
not_special b e = grind (arith, e)

pub none_low : (line : List ℕ) → list_any (λ byte. nat_le byte 13) line ≡ false → has_special line ≡ false
none_low [] e = refl
none_low (b ∷ line) e =
    let parts = neither (nat_le b 13) (list_any (λ byte. nat_le byte 13) line) e in
    rw (not_special b parts.0) (none_low line parts.1)

pub plain_lines_stay : (lines : List (List ℕ)) → list_any has_special lines ≡ false → map without_nul lines ≡ lines
plain_lines_stay [] e = refl
plain_lines_stay (line ∷ lines) e =
    let parts = neither (has_special line) (list_any has_special lines) e in
    ap (λ l. l ∷ map without_nul lines) (plain_stays line parts.0) ∙ ap (λ ls. line ∷ ls) (plain_lines_stay lines parts.1)

pub none_with_ending : (n : ℕ) (lines : List (List ℕ)) → list_any has_special lines ≡ false → first_with_ending n lines ≡ None
none_with_ending n [] e = refl
none_with_ending n (line ∷ lines) e =
    let parts = neither (has_special line) (list_any has_special lines) e in
    rw (no_ending line parts.0) (none_with_ending (n + 1) lines parts.1)
