use Rattle.std.proofs.Common.{subst, sym, ◌∙◌}
use Rattle.std.proofs.lemmas.Result.{on_ok_weaker}
use Rattle.mdblock.specs.held.HeldLevel.{ClosesAll}
use Rattle.mdblock.proofs.CloseLaws.{shut_closes, quote_closes, open_list_closes, ended_list_closes}
use Rattle.mdblock.proofs.open_blocks.Level.+close.Goals as goal

pub returns-then-not-is_open-clause-closes : goal.returns-then-not-is_open-clause-closes
returns-then-not-is_open-clause-closes t c =
    let n = c.close_container-then-not-is_open in
    on_ok_weaker n.result
    (ended_list_closes c.args.self.now c.in-List.inner c.in-List.list c.in-List.is (sym c.is_open.ensures ∙ c.if-not-is_open.true) c.args.gathering.now
    c.in-List.inner.value.over.items n.new.self.over.items c.in-List.inner.value.spaced)
    n.ensures.closed

pub returns-in-Shut-clause-closes : goal.returns-in-Shut-clause-closes
returns-in-Shut-clause-closes t c = shut_closes c.args.self.now c.in-Shut.is c.args.gathering.now

pub returns-in_ok-close-in-Quote-clause-closes : goal.returns-in_ok-close-in-Quote-clause-closes
returns-in_ok-close-in-Quote-clause-closes t c =
    let g = c.args.gathering.now in
    let inner = c.close.new.self in
    on_ok_weaker c.close_container.result
    (quote_closes c.args.self.now c.in-Quote.inner c.in-Quote.is g c.close.new.gathering inner.over.items c.close_container.new.self.over.items
    (subst (λ z. ClosesAll z g inner.over.items c.close.new.gathering) c.deref_mut.ensures.value c.in_ok-close-in-Quote.ensures.closes))
    c.close_container.ensures.closed

pub returns-in_ok-close-in-List-clause-closes : goal.returns-in_ok-close-in-List-clause-closes
returns-in_ok-close-in-List-clause-closes t c =
    let n = c.close_container-in-List in
    let inner = c.close-in-List.new.self in
    let e = c.in_ok-close-in-List.ensures in
    on_ok_weaker n.result
    (open_list_closes c.args.self.now c.in-List.inner c.deref_mut-in-List.result.now c.deref_mut-in-List.ensures.value c.in-List.list c.in-List.is
    (sym c.is_open.ensures ∙ c.if-not-is_open.false) c.args.gathering.now c.close-in-List.new.gathering inner.over.items n.new.self.over.items inner.spaced e.marks.3 e.closes)
    n.ensures.closed
