use Rattle.std.proofs.Common.{ap, sym, ◌∙◌, arith}
use Rattle.std.proofs.lemmas.Str.Pattern.{strip_suffix_char}
use Rattle.mdleaf.specs.Tables.{before_bar}
use Rattle.mdleaf.proofs.CellTexts.{before_none, before_some}
use Rattle.mdleaf.proofs.tables.before_bar.Goals as goal

pub returns-in-Some : goal.returns-in-Some
returns-in-Some c =
    let parts = strip_suffix_char 92 _ _ c.strip_suffix.ensures.cases (omega arith) in
    let whole = rw c.in-Some.is at parts in
    sym (ap before_bar whole ∙ before_some c.in-Some.front.now)

pub returns-in-None : goal.returns-in-None
returns-in-None c =
    let parts = strip_suffix_char 92 _ _ c.strip_suffix.ensures.cases (omega arith) in
    sym (before_none c.args.text.now (rw c.in-None.is at parts))
