use Rattle.std.proofs.Common.{List, [], ◌∷◌, ℕ, ap, sym, ◌∙◌, length, nat_le, nat_lt}
use Rattle.std.specs.List.{list_any, position_or_len}
use Rattle.mdtext.specs.ByteClass.{in_class}
use Rattle.mdsource.proofs.LineEndings.{any-placed}
use Rattle.mdsource.proofs.PlainLines.{none_low}
use Rattle.mdsource.proofs.limits.has_special.Goals as goal

pub returns : goal.returns
returns c =
    let bytes = c.as_bytes-bytes.result.now in
    ap (λ n. nat_lt n (length bytes)) (c.first_special.ensures ∙ ap (λ (class : List ℕ). position_or_len (in_class class) bytes) c.of.ensures)
    ∙ ap (λ (bs : List ℕ). nat_lt (position_or_len (in_class (0 ∷ 10 ∷ 13 ∷ [])) bs) (length bs)) c.as_bytes-bytes.ensures.value
    ∙ any-placed (in_class (0 ∷ 10 ∷ 13 ∷ [])) c.args.line.now

pub returns-then-not-has_low_byte : goal.returns-then-not-has_low_byte
returns-then-not-has_low_byte c =
    let low = c.has_low_byte.ensures ∙ ap (λ (bs : List ℕ). list_any (λ byte. nat_le byte 13) bs) c.as_bytes-bytes.ensures.value in
    sym (none_low c.args.line.now (sym low ∙ c.if-not-has_low_byte.true))
