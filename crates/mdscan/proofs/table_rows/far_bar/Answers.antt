use Rattle.std.proofs.Common.{subst}
use Rattle.memchr.specs.Find.{IsFirstByte, is_byte}
use Rattle.mdscan.proofs.BarSearch.{bar_found, no_bar_found}
use Rattle.mdscan.proofs.table_rows.far_bar.Goals as goal

pub returns-in-Some-clause-found : goal.returns-in-Some-clause-found
returns-in-Some-clause-found c =
    bar_found c.args.row.now c.args.from c.args.end c.in-Some.before c.requires.ordered c.requires.within (subst (IsFirstByte (is_byte 124) _) c.in-Some.is c.memchr.ensures)

pub returns-in-None-clause-none : goal.returns-in-None-clause-none
returns-in-None-clause-none c =
    no_bar_found c.args.row.now c.args.from c.args.end c.requires.ordered c.requires.within (subst (IsFirstByte (is_byte 124) _) c.in-None.is c.memchr.ensures)
