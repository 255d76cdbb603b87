use Rattle.std.proofs.Common.{ap, arith}
use Rattle.std.proofs.lemmas.Str.Pattern.{strip_prefix_char}
use Rattle.mdtext.specs.Lines.{split_lines}
use Rattle.mdbatch.proofs.units.next_line.Goals as goal

pub returns-in-Some-clause-lines : goal.returns-in-Some-clause-lines
unfolding split_lines
returns-in-Some-clause-lines c =
    let parts = strip_prefix_char 10 _ _ c.strip_prefix.ensures.cases (omega arith) in
    ap split_lines (rw c.in-Some.is at parts)
