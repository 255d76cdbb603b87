-- The bytes that a text has replaced.
use Rattle.std.proofs.Common.{◌≡◌, ℕ, List, true, false, [], ◌∷◌, arith, ap, sym, ◌∙◌}
use Rattle.mdtext.specs.ByteClass.{in_class}
use Rattle.mdtext.specs.HtmlEscapes.{escaped_byte, text_specials}
use Rattle.mdtext.specs.Lines.{clean_byte}
use Rattle.mdtext.proofs.PlainRuns.{Replaces}

plain_text : (b : ℕ) → in_class text_specials b ≡ false → escaped_byte b ≡ b ∷ []
unfolding escaped_byte
plain_text b h = grind (arith, h)

pub escapes_specials : Replaces text_specials escaped_byte
escapes_specials = record { plain = plain_text }

plain_clean : (b : ℕ) → in_class (0 ∷ []) b ≡ false → clean_byte b ≡ b ∷ []
plain_clean b h = grind (arith, h)

pub replaces_nul : Replaces (0 ∷ []) clean_byte
replaces_nul = record { plain = plain_clean }

-- what stands for a byte of the class of NUL alone
pub clean_nul : (seen : List ℕ) (b : ℕ) → seen ≡ 0 ∷ [] → in_class seen b ≡ true → clean_byte b ≡ 0xEF ∷ 0xBF ∷ 0xBD ∷ []
clean_nul seen b e h = let nul : in_class (0 ∷ []) b ≡ true = ap (λ s. in_class s b) (sym e) ∙ h in grind (arith, nul)
