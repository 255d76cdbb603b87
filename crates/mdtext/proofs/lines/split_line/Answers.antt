use Rattle.std.proofs.Common.{ap, ◌∙◌, [], ◌∷◌, ◌++◌, sym}
use Rattle.mdtext.specs.Lines.{split_lines}
use Rattle.mdtext.proofs.LineEnds.{line_is_all, line_then, ends_at_cr, ends_at_lf, is_lf}
use Rattle.mdtext.proofs.lines.split_line.Goals as goal

pub returns-in_default-clause-lines : goal.returns-in_default-clause-lines
returns-in_default-clause-lines c =
    line_is_all _ _ c.requires (rw c.in_default.is at c.split_at_special.ensures.whole) (rw c.of.ensures at c.split_at_special.ensures.plain)

pub returns-then-byte-eq13-clause-lines : goal.returns-then-byte-eq13-clause-lines
returns-then-byte-eq13-clause-lines c =
    let whole = rw c.in-Some.is at c.split_at_special.ensures.whole in
    let plain = rw c.of.ensures at c.split_at_special.ensures.plain in
    ap split_lines (whole ∙ ap (λ b. c.split_at_special.result.0.now ++ b ∷ c.in-Some.after.now) c.if-byte-eq13.true)
    ∙ line_then _ _ _ plain (ends_at_cr c.in-Some.after.now ∙ ap (λ t. [] ∷ split_lines t) (sym c.after_lf.ensures))

pub returns-clause-lines : goal.returns-clause-lines
returns-clause-lines c =
    let whole = rw c.in-Some.is at c.split_at_special.ensures.whole in
    let plain = rw c.of.ensures at c.split_at_special.ensures.plain in
    let ending = rw (c.in-Some.is, c.of.ensures) at c.split_at_special.ensures.special in
    ap split_lines (whole ∙ ap (λ b. c.split_at_special.result.0.now ++ b ∷ c.in-Some.after.now) (is_lf _ ending c.if-byte-eq13.false))
    ∙ line_then _ _ _ plain (ends_at_lf c.in-Some.after.now)
