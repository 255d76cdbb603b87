use Rattle.std.proofs.Common.{subst, sym}
use Rattle.mdblock.specs.held.HeldLevel.{ClosesAll}
use Rattle.mdblock.proofs.open_blocks.Level.take_blocks.Goals as goal

pub returns-clause-closes : goal.returns-clause-closes
returns-clause-closes c =
    subst (λ z. ClosesAll c.args.self.now c.args.gathering.now z.items c.shut.new.gathering) (sym c.take_over.ensures.over) c.in_ok-shut.ensures.closes
