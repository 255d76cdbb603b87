use Rattle.std.proofs.Common.{length, sym, ◌∙◌, ap, arith, subst}
use Rattle.std.proofs.lemmas.Result.{on_ok_weaker}
use Rattle.blockspec.specs.BlockLine.{BlockLine}
use Rattle.mdblock.specs.held.Continuations.{ContinuesOpen}
use Rattle.mdblock.specs.held.LinesAdded.{ContinuesLevel}
use Rattle.mdblock.specs.held.OpenPositions.{LevelIn, OpenBlockIn}
use Rattle.mdblock.specs.declared.open_blocks.Level.{Level}
use Rattle.mdblock.proofs.Unfollowed.{unfollowed_inside, unfollowed_lazy}
use Rattle.mdblock.proofs.LevelAdds.{on_both, outside_adds, outside_sinks, marked_blank, shut_goes, leaf_goes_on, quote_read, quote_read_sinks, list_read, list_read_sinks, list_stayed, list_begun, list_begun_sinks}
use Rattle.mdblock.proofs.open_blocks.Level.+reading.Goals as goal

-- ---- add

pub add-returns-in-Outside-clause-adds : goal.add-returns-in-Outside-clause-adds
add-returns-in-Outside-clause-adds t c =
    on_both c.begin.result (outside_adds c.args.room c.args.self.now c.shut.new.self c.begin.new.self c.args.gathering.now c.shut.new.gathering c.begin.new.gathering c.args.line.now c.in-Outside.opening c.in_ok-shut.ensures.ends c.in_ok-shut.ensures.grows.1
    (subst (ContinuesLevel c.args.self.now c.args.line.now) c.in-Outside.is c.requires.last))
    c.begin.ensures.behind c.begin.ensures.fits

pub add-returns-in-Outside-clause-deep : goal.add-returns-in-Outside-clause-deep
add-returns-in-Outside-clause-deep t c = λ is.
    outside_sinks c.args.room c.args.self.now c.args.gathering.now c.args.line.now c.in-Outside.opening (c.begin.ensures.sinks is) (subst (ContinuesLevel c.args.self.now c.args.line.now) c.in-Outside.is c.requires.last)

pub add-returns-clause-adds : goal.add-returns-clause-adds
add-returns-clause-adds t c =
    marked_blank c.args.room c.args.self.now c.go_on.new.self c.mark_blank.new.self c.args.gathering.now c.go_on.new.gathering c.args.line.now c.is_blank-blank.result c.in_ok-go_on.ensures.adds c.is_blank-blank.ensures c.mark_blank.ensures

-- ---- go_on

pub go_on-returns-in-Shut-clause-adds : goal.go_on-returns-in-Shut-clause-adds
go_on-returns-in-Shut-clause-adds t c = shut_goes c.args.room c.args.self.now c.args.gathering.now c.args.line.now c.args.continuation c.in-Shut.is c.requires.inside c.requires.last

pub go_on-returns-in_ok-add_to_leaf-in-Leaf-clause-adds : goal.go_on-returns-in_ok-add_to_leaf-in-Leaf-clause-adds
go_on-returns-in_ok-add_to_leaf-in-Leaf-clause-adds t c =
    leaf_goes_on c.args.room c.args.self.now c.add_to_leaf.new.self c.in-Leaf.field-0 c.args.gathering.now c.add_to_leaf.new.gathering c.args.line.now c.args.continuation c.in-Leaf.is c.requires.inside c.requires.last c.in_ok-add_to_leaf-in-Leaf.ensures.adds

pub go_on-returns-in_ok-room-in-Quote-clause-adds : goal.go_on-returns-in_ok-room-in-Quote-clause-adds
go_on-returns-in_ok-room-in-Quote-clause-adds t c =
    on_ok_weaker c.add.result
    (quote_read c.args.room c.in_ok-room-in-Quote.room c.args.self.now c.in-Quote.inner c.deref_mut.result.now c.add.new.self c.args.gathering.now c.add.new.gathering c.args.line.now c.make_lazy.new.self c.args.continuation
    c.in_ok-room-in-Quote.ensures.less c.in-Quote.is c.requires.inside c.requires.last c.deref_mut.ensures.value c.make_lazy.ensures)
    c.add.ensures.adds

pub go_on-returns-in_ok-room-in-Quote-clause-deep : goal.go_on-returns-in_ok-room-in-Quote-clause-deep
go_on-returns-in_ok-room-in-Quote-clause-deep t c = λ is.
    quote_read_sinks c.args.room c.in_ok-room-in-Quote.room c.args.self.now c.in-Quote.inner c.deref_mut.result.now c.args.gathering.now c.args.line.now c.make_lazy.new.self c.args.continuation
    c.in_ok-room-in-Quote.ensures.less c.in-Quote.is c.requires.inside c.requires.last c.deref_mut.ensures.value c.make_lazy.ensures (c.add.ensures.deep is)

pub go_on-returns-in-Goes-clause-adds : goal.go_on-returns-in-Goes-clause-adds
go_on-returns-in-Goes-clause-adds t c =
    let n = c.enter_item.new in
    on_ok_weaker c.add-in-Goes.result
    (list_read c.args.room c.in_ok-room-in-List.room c.args.self.now c.in-List.inner c.in-List.list c.deref_mut-in-List.result.now n.inner c.deref_mut-in-Goes.result.now c.add-in-Goes.new.self n.list c.args.gathering.now n.gathering c.add-in-Goes.new.gathering
    c.args.line.now n.line c.in_ok-enter_item-in-List.field-0 c.args.continuation c.in_ok-room-in-List.ensures.less c.in-List.is c.requires.inside c.requires.last c.deref_mut-in-List.ensures.value c.in_ok-enter_item-in-List.ensures.enters c.in-Goes.is
    c.deref_mut-in-Goes.ensures.value)
    c.add-in-Goes.ensures.adds

pub go_on-returns-in-Goes-clause-deep : goal.go_on-returns-in-Goes-clause-deep
go_on-returns-in-Goes-clause-deep t c = λ is.
    let n = c.enter_item.new in
    list_read_sinks c.args.room c.in_ok-room-in-List.room c.args.self.now c.in-List.inner c.in-List.list c.deref_mut-in-List.result.now n.inner c.deref_mut-in-Goes.result.now n.list c.args.gathering.now n.gathering
    c.args.line.now n.line c.in_ok-enter_item-in-List.field-0 c.args.continuation c.in_ok-room-in-List.ensures.less c.in-List.is c.requires.inside c.requires.last c.deref_mut-in-List.ensures.value c.in_ok-enter_item-in-List.ensures.enters c.in-Goes.is
    c.deref_mut-in-Goes.ensures.value (c.add-in-Goes.ensures.deep is)

pub go_on-returns-in-Begins-clause-adds : goal.go_on-returns-in-Begins-clause-adds
go_on-returns-in-Begins-clause-adds t c =
    let n = c.enter_item.new in
    on_both c.begin.result
    (list_begun c.args.room c.in_ok-room-in-List.room c.args.self.now c.in-List.inner c.in-List.list c.deref_mut-in-List.result.now n.inner c.deref_mut-in-Begins.result.now c.begin.new.self n.list c.args.gathering.now n.gathering c.begin.new.gathering
    c.args.line.now n.line c.in_ok-enter_item-in-List.field-0 c.args.continuation c.in_ok-room-in-List.ensures.less c.in-List.is c.requires.inside c.requires.last c.deref_mut-in-List.ensures.value c.in_ok-enter_item-in-List.ensures.enters c.in-Begins.is
    c.in_ok-enter_item-in-List.ensures.grows.1 c.deref_mut-in-Begins.ensures.value)
    c.begin.ensures.behind c.begin.ensures.fits

pub go_on-returns-in-Begins-clause-deep : goal.go_on-returns-in-Begins-clause-deep
go_on-returns-in-Begins-clause-deep t c = λ is.
    let n = c.enter_item.new in
    list_begun_sinks c.args.room c.in_ok-room-in-List.room c.args.self.now c.in-List.inner c.in-List.list c.deref_mut-in-List.result.now n.inner n.list c.args.gathering.now n.gathering
    c.args.line.now n.line c.in_ok-enter_item-in-List.field-0 c.args.continuation c.in_ok-room-in-List.ensures.less c.requires.inside c.requires.last c.deref_mut-in-List.ensures.value c.in_ok-enter_item-in-List.ensures.enters c.in-Begins.is
    (c.begin.ensures.sinks is)

pub go_on-returns-in-Stays-clause-adds : goal.go_on-returns-in-Stays-clause-adds
go_on-returns-in-Stays-clause-adds t c =
    let n = c.enter_item.new in
    list_stayed c.args.room c.args.self.now c.in-List.inner c.in-List.list c.deref_mut-in-List.result.now n.inner n.list c.args.gathering.now n.gathering
    c.args.line.now n.line c.in_ok-enter_item-in-List.field-0 c.args.continuation c.in-List.is c.requires.inside c.requires.last c.deref_mut-in-List.ensures.value c.in_ok-enter_item-in-List.ensures.enters c.in-Stays.is

pub go_on-add-requires : goal.go_on-add-requires
go_on-add-requires t c =
    let n = c.continuation-continuation in
    let il = c.make_lazy.new.self in
    let same = c.deref.ensures ∙ sym c.deref_mut.ensures.value in (
      omega (arith, c.decreases, c.in_ok-room-in-Quote.ensures.less),
      (
        subst (LevelIn (length c.args.gathering.now.texts.items)) (sym c.deref_mut.ensures.value) (subst (OpenBlockIn (length c.args.gathering.now.texts.items)) c.in-Quote.is c.requires.level.1),
        (
          n.ensures.continuation,
          (
            subst (λ (z : Level). ContinuesOpen z.last il n.result) same n.ensures.step,
            subst (λ z. ContinuesLevel z il n.result) same (n.ensures.last (unfollowed_lazy c.deref.result.now.last il (ap (λ (z : BlockLine). z.lazy) c.make_lazy.ensures))),
          ),
        ),
      ),
    )

pub go_on-add-requires-in-Goes : goal.go_on-add-requires-in-Goes
go_on-add-requires-in-Goes t c =
    let n = c.continuation-continuation-in-Goes in
    let m = c.enter_item.new in
    let same = c.deref-in-Goes.ensures ∙ sym c.deref_mut-in-Goes.ensures.value in
    let unfollowed = unfollowed_inside c.deref-in-Goes.result.now.last c.args.continuation c.deref_mut-in-List.result.now m.inner c.in-List.list m.list c.args.self.now.blank c.args.gathering.now m.gathering c.args.line.now m.line
    c.in_ok-enter_item-in-List.field-0 c.requires.inside (subst (λ z. ContinuesOpen z c.args.line.now c.args.continuation) c.in-List.is c.requires.step) c.in_ok-enter_item-in-List.ensures.enters c.in-Goes.is in (
      omega (arith, c.decreases, c.in_ok-room-in-List.ensures.less),
      (
        subst (LevelIn (length m.gathering.texts.items)) (sym c.deref_mut-in-Goes.ensures.value) c.in_ok-enter_item-in-List.ensures.inner,
        (
          n.ensures.continuation,
          (
            subst (λ (z : Level). ContinuesOpen z.last m.line n.result) same n.ensures.step,
            subst (λ z. ContinuesLevel z m.line n.result) same (n.ensures.last unfollowed),
          ),
        ),
      ),
    )
