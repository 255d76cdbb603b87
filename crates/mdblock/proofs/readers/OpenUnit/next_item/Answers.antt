use Rattle.std.proofs.Common.{Err, true, ap, refl, sym}
use Rattle.mdblock.specs.declared.faults.LineFault.TheVariants.{TooDeep}
use Rattle.mdblock.proofs.LevelBegins.{err_is}
use Rattle.mdblock.proofs.NextItemLaws.{next_on, next_sinks}
use Rattle.mdblock.proofs.readers.OpenUnit.next_item.Goals as goal

pub returns-in_err-add-clause-deep : goal.returns-in_err-add-clause-deep
returns-in_err-add-clause-deep c = λ err.
    next_sinks c.args.limit c.args.self.now c.end_item.new.self c.end_item.new.gathering c.args.line.now c.args.continuation c.requires.whole c.requires.item c.requires.last
    c.in_ok-end_item.ensures.ends c.in_ok-end_item.ensures.entities
    (c.in_err-add.ensures.deep (ap Err (sym (err_is c.from_residual-in_err-add.result _ TooDeep c.from_residual-in_err-add.ensures.1 err))))

pub returns-clause-next : goal.returns-clause-next
returns-clause-next c =
    let old = c.args.self.now in
    let new = record old { level = c.add.new.self; gathering = c.add.new.gathering; joins = c.push.new.self; joined = true } in
    next_on c.args.limit c.args.fed old new c.end_item.new.self c.end_item.new.gathering c.args.line.now c.args.continuation c.join_after-join.result c.requires.whole c.requires.item c.requires.last
    c.in_ok-end_item.ensures.ends c.in_ok-end_item.ensures.entities c.in_ok-add.ensures.grows.1 c.in_ok-add.ensures.adds c.join_after-join.ensures c.in_ok-push.ensures.items refl refl
