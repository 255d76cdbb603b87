use Rattle.std.proofs.Common.{sym, subst, ◌∙◌}
use Rattle.std.specs.Str.{IsAscii}
use Rattle.mdtext.proofs.FoldedAscii.{ascii_folded}
use Rattle.mdtext.proofs.labels.fold_case.Goals as goal

pub returns-then-is_ascii : goal.returns-then-is_ascii
returns-then-is_ascii c =
    c.make_ascii_lowercase.ensures.bytes
    ∙ sym (ascii_folded _ (subst IsAscii c.deref.ensures (rw c.if-is_ascii.true at c.is_ascii.ensures.cases)))
