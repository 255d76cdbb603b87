use Rattle.std.proofs.Common.{refl, sym, ◌∙◌, ◌-◌, arith}
use Rattle.mdblock.specs.declared.open_blocks.OpenBlock as open_block
use Rattle.mdblock.proofs.LevelAdds.{quote_followed, quote_followed_sinks, item_followed, item_followed_sinks, bl_put_back_adds}
use Rattle.mdblock.proofs.open_blocks.Level.+read_inside.Goals as goal

pub returns-in-Shut-clause-adds : goal.returns-in-Shut-clause-adds
returns-in-Shut-clause-adds t c = λ is.
    let n = c.read_unfollowed in
    bl_put_back_adds c.args.room c.args.self.now n.new.self c.args.self.now.last c.args.gathering.now n.new.gathering c.args.line.now refl (n.ensures.adds is)

pub returns-in-Leaf-clause-adds : goal.returns-in-Leaf-clause-adds
returns-in-Leaf-clause-adds t c = λ is.
    let n = c.read_unfollowed-in-Leaf in
    bl_put_back_adds c.args.room c.args.self.now n.new.self c.args.self.now.last c.args.gathering.now n.new.gathering c.args.line.now refl (n.ensures.adds is)

pub returns-then-not-matches-clause-adds : goal.returns-then-not-matches-clause-adds
returns-then-not-matches-clause-adds t c = λ is.
    let n = c.read_unfollowed-then-not-matches in
    bl_put_back_adds c.args.room c.args.self.now n.new.self (open_block.Quote c.in-Quote.inner) c.args.gathering.now n.new.gathering c.args.line.now c.in-Quote.is (n.ensures.adds is)

pub returns-then-not-matches-2-clause-adds : goal.returns-then-not-matches-2-clause-adds
returns-then-not-matches-2-clause-adds t c = λ is.
    let n = c.read_unfollowed-then-not-matches-2 in
    bl_put_back_adds c.args.room c.args.self.now n.new.self (open_block.List c.in-List.inner c.in-List.list) c.args.gathering.now n.new.gathering c.args.line.now c.in-List.is (n.ensures.adds is)

pub returns-else-room-lt1-clause-adds : goal.returns-else-room-lt1-clause-adds
returns-else-room-lt1-clause-adds t c = λ is.
    quote_followed c.args.room (c.args.room - 1) c.args.self.now c.in-Quote.inner c.deref_mut.result.now c.read_inside.new.self c.args.gathering.now c.read_inside.new.gathering c.args.line.now c.take_marker.new.line
    (omega (arith, c.if-room-lt1.false)) c.in-Quote.is (sym c.matches.ensures.value ∙ c.if-not-matches.false) c.deref_mut.ensures.value c.take_marker.ensures (c.read_inside.ensures.adds is)

pub returns-else-room-lt1-clause-deep : goal.returns-else-room-lt1-clause-deep
returns-else-room-lt1-clause-deep t c = λ is.
    quote_followed_sinks c.args.room (c.args.room - 1) c.args.self.now c.in-Quote.inner c.deref_mut.result.now c.args.gathering.now c.args.line.now c.take_marker.new.line (omega (arith, c.if-room-lt1.false)) c.in-Quote.is
    (sym c.matches.ensures.value ∙ c.if-not-matches.false) c.deref_mut.ensures.value c.take_marker.ensures (c.read_inside.ensures.deep is)

pub returns-else-room-lt1-2-clause-adds : goal.returns-else-room-lt1-2-clause-adds
returns-else-room-lt1-2-clause-adds t c = λ is.
    let n = c.read_inside-in-List in
    item_followed c.args.room (c.args.room - 1) c.args.self.now c.in-List.inner c.in-List.list c.deref_mut-in-List.result.now n.new.self c.args.gathering.now n.new.gathering c.args.line.now c.enter.new.line
    (omega (arith, c.if-room-lt1-2.false)) c.in-List.is (sym c.matches-in-List.ensures ∙ c.if-not-matches-2.false) c.deref_mut-in-List.ensures.value c.enter.ensures (n.ensures.adds is)

pub returns-else-room-lt1-2-clause-deep : goal.returns-else-room-lt1-2-clause-deep
returns-else-room-lt1-2-clause-deep t c = λ is.
    let n = c.read_inside-in-List in
    item_followed_sinks c.args.room (c.args.room - 1) c.args.self.now c.in-List.inner c.in-List.list c.deref_mut-in-List.result.now c.args.gathering.now c.args.line.now c.enter.new.line (omega (arith, c.if-room-lt1-2.false)) c.in-List.is
    (sym c.matches-in-List.ensures ∙ c.if-not-matches-2.false) c.deref_mut-in-List.ensures.value c.enter.ensures (n.ensures.deep is)
