use Rattle.std.proofs.Common.{Err, ap, sym}
use Rattle.mdblock.proofs.LevelBegins.{err_is}
use Rattle.mdblock.proofs.NextLineLaws.{begins_fresh}
use Rattle.mdblock.proofs.readers.OpenUnit.begin_unit.Goals as goal

pub returns-in_err-begin-clause-deep : goal.returns-in_err-begin-clause-deep
returns-in_err-begin-clause-deep c = λ err.
    c.in_err-begin.ensures.sinks (ap Err (sym (err_is c.from_residual-in_err-begin.result _ _ c.from_residual-in_err-begin.ensures.1 err)))

pub returns-clause-begins : goal.returns-clause-begins
returns-clause-begins c =
    let held = c.take_unit.new.self in
    let new = record held { level = c.begin.new.self; gathering = c.begin.new.gathering } in
    begins_fresh c.args.limit c.args.fed c.args.self.now held new c.args.line.now c.in_ok-found.found c.in_ok-found.ensures.given c.in_ok-found.ensures.empty
    c.in_ok-found.ensures.begin c.in_ok-found.ensures.joined c.in_ok-found.ensures.joins c.in_ok-found.ensures.entities c.in_ok-begin.ensures.grows.1 c.in_ok-begin.ensures.behind c.in_ok-begin.ensures.fits
