use Rattle.std.proofs.Common.{arith}
use Rattle.std.proofs.lemmas.Str.Pattern.{strip_prefix_char}
use Rattle.mdtext.proofs.LineEnds.{after_none, after_some}
use Rattle.mdtext.proofs.lines.after_lf.Goals as goal

pub returns-in-Some : goal.returns-in-Some
returns-in-Some c =
    let parts = strip_prefix_char 10 _ _ c.strip_prefix.ensures.cases (omega arith) in
    after_some _ _ (rw c.in-Some.is at parts)

pub returns-in-None : goal.returns-in-None
returns-in-None c =
    let parts = strip_prefix_char 10 _ _ c.strip_prefix.ensures.cases (omega arith) in
    after_none _ (rw c.in-None.is at parts)
