use Rattle.std.proofs.Common.{sym, ◌∙◌, refl}
use Rattle.mdblock.proofs.CloseLaws.{shut_closes}
use Rattle.mdblock.proofs.LevelAdds.{on_both}
use Rattle.mdblock.proofs.TakenBlocks.{closed_ends, shut_is}
use Rattle.mdblock.proofs.open_blocks.Level.shut.Goals as goal

pub returns-then-is_shut-clause-closes : goal.returns-then-is_shut-clause-closes
returns-then-is_shut-clause-closes c =
    let level = c.args.self.now in
    shut_closes level (shut_is level.last (sym c.is_shut.ensures ∙ c.if-is_shut.true)) c.args.gathering.now

pub returns-then-is_shut-clause-ends : goal.returns-then-is_shut-clause-ends
returns-then-is_shut-clause-ends c =
    let level = c.args.self.now in
    let g = c.args.gathering.now in
    let shut = sym c.is_shut.ensures ∙ c.if-is_shut.true in
    closed_ends level g level g (shut_closes level (shut_is level.last shut) g) shut (refl, refl, refl, refl)

pub returns-then-is_open_leaf-clause-ends : goal.returns-then-is_open_leaf-clause-ends
returns-then-is_open_leaf-clause-ends c =
    let n = c.close_leaf in
    on_both n.result (λ ends marks. ends marks)
    (on_both n.result (closed_ends c.args.self.now c.args.gathering.now n.new.self n.new.gathering) n.ensures.closes n.ensures.shut)
    n.ensures.marks

pub returns-clause-ends : goal.returns-clause-ends
returns-clause-ends c =
    let n = c.close in
    on_both n.result (λ ends marks. ends marks)
    (on_both n.result (closed_ends c.args.self.now c.args.gathering.now n.new.self n.new.gathering) n.ensures.closes n.ensures.shut)
    n.ensures.marks
