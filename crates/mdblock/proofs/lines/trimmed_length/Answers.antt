use Rattle.std.proofs.Common.{length, ◌-◌, ap, sym, ◌∙◌, subst}
use Rattle.std.specs.List.{suffix_len}
use Rattle.std.specs.Str.{IsCharBoundary}
use Rattle.mdscan.specs.Blanks.{is_blank}
use Rattle.mdscan.proofs.Boundaries.{tail_boundary, ascii_blank}
use Rattle.mdblock.proofs.lines.trimmed_length.Goals as goal

pub returns-clause-boundary : goal.returns-clause-boundary
returns-clause-boundary c =
    subst (λ n. IsCharBoundary c.args.text.now (length c.args.text.now - n)) (sym (c.trailing_blanks.ensures.count ∙ ap (suffix_len is_blank) c.as_bytes.ensures.value)) (tail_boundary is_blank c.args.text.now ascii_blank)
