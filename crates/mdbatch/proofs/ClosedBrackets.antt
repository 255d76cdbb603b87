-- Where no bracket is found, none closes.
use Rattle.std.proofs.Common.{◌≡◌, ℕ, Bool, true, false, List, Option, None, Some, length, take, ap, sym, refl, ◌∙◌, arith}
use Rattle.std.specs.Prelude.{is_some, ◌==◌}
use Rattle.std.specs.List.{position_or_len}
use Rattle.std.proofs.Math.Seq.{take-length}
use Rattle.std.proofs.lemmas.List.Sums.{position_or_len_is}
use Rattle.memchr.specs.Find.{IsFirstByte, is_byte}
use Rattle.mdtext.proofs.PlainRuns.{front_plain}
use Rattle.mdbatch.specs.GatheredUnits.{closes_bracket}

fails : (b : Bool) → ¬ (b ≡ true) → b ≡ false
fails true h = absurd (h refl)
fails false h = refl

pub none_closes : (text : List ℕ) (found : Option ℕ) → IsFirstByte (is_byte 93) text found → is_some found ≡ false → closes_bracket text ≡ false
none_closes text None h none =
    let first : position_or_len (λ byte. byte == 93) text ≡ length text =
    position_or_len_is (λ byte. byte == 93) text (length text) 0 (omega arith) (λ j l. fails _ (h j (omega arith) l)) (λ l. absurd (omega arith)) in
    ap closes_bracket (sym (take-length text)) ∙ ap (λ n. closes_bracket (take n text)) (sym first) ∙ front_plain (λ byte. byte == 93) text
none_closes text (Some k) h none = cc
