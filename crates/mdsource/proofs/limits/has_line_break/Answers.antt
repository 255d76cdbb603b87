use Rattle.std.proofs.Common.{List, [], ◌∷◌, ℕ, ap, ◌∙◌, length, nat_lt}
use Rattle.std.specs.List.{position_or_len}
use Rattle.mdtext.specs.ByteClass.{in_class}
use Rattle.mdsource.proofs.LineEndings.{stands}
use Rattle.mdsource.proofs.limits.has_line_break.Goals as goal

pub returns : goal.returns
returns c =
    let bytes = c.as_bytes-bytes.result.now in
    ap (λ n. nat_lt n (length bytes)) (c.first_special.ensures ∙ ap (λ (class : List ℕ). position_or_len (in_class class) bytes) c.of.ensures)
    ∙ ap (λ (bs : List ℕ). nat_lt (position_or_len (in_class (10 ∷ 13 ∷ [])) bs) (length bs)) c.as_bytes-bytes.ensures.value
    ∙ stands 10 13 c.args.line.now
