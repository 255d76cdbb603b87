use Rattle.std.proofs.Common.{subst}
use Rattle.std.specs.Prelude.{IfSome}
use Rattle.mdview.specs.TextSetting.{texts_under}
use Rattle.mdview.specs.UnitsFound.{IsHeldOn}
use Rattle.mdview.proofs.BroughtUnits.{goes}
use Rattle.mdview.proofs.inlines.UnitTextReader.read_reparsed.Goals as goal

pub read_joined-requires-clause-goes : goal.read_joined-requires-clause-goes
read_joined-requires-clause-goes g c =
    let w = subst (λ o. IfSome o (IsHeldOn c.args.held.now.items c.args.reparsed)) c.in-Some.is c.requires.list in
    goes (texts_under c.args.self.now c.args.room.now) c.args.held.now.items c.args.reparsed c.in-Some.list w c.requires.held c.requires.rendered
