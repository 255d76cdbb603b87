use Rattle.std.proofs.Common.{arith, sym, subst}
use Rattle.mdview.specs.JoinedLists.{AreBetween, GoesInto, IsJoined}
use Rattle.mdview.specs.TextSetting.{texts_under}
use Rattle.mdview.proofs.JoinedLists.{before_low, same_setting}
use Rattle.mdview.proofs.ToldTexts.{told_shallow}
use Rattle.mdview.proofs.inlines.UnitTextReader.read_list.Goals as goal

pub join_list-requires-clause-goes : goal.join_list-requires-clause-goes
join_list-requires-clause-goes g c =
    subst (λ s. GoesInto s c.args.seam c.args.held.now) (sym (same_setting c.args.self.now c.args.room.now c.read_between.new.room c.read_between.ensures.stays.0)) c.requires.goes

pub join_list-requires-clause-between : goal.join_list-requires-clause-between
join_list-requires-clause-between g c =
    subst (λ s. AreBetween s c.args.seam c.args.held.now c.in_ok-inlines.inlines.items)
    (sym (same_setting c.args.self.now c.args.room.now c.read_between.new.room c.read_between.ensures.stays.0)) c.in_ok-inlines.ensures.between

pub returns-clause-unit : goal.returns-clause-unit
returns-clause-unit g c =
    subst (λ s. IsJoined s c.args.seam c.args.number c.args.held.now c.in_ok-list.list)
    (same_setting c.args.self.now c.args.room.now c.read_between.new.room c.read_between.ensures.stays.0) c.in_ok-list.ensures.list

pub returns-clause-deep : goal.returns-clause-deep
returns-clause-deep g c = told_shallow _ _ c.in_ok-inlines.ensures.deep.0

pub returns-clause-inlines : goal.returns-clause-inlines
returns-clause-inlines g c =
    let low = c.read_between.ensures.inlines in
    let stay = c.count_texts.ensures.inlines in
    let within = before_low (texts_under c.args.self.now c.args.room.now) c.args.seam c.args.held.now c.requires.goes in
    omega (arith, low, stay, within)

pub returns-in_err-inlines-clause-inlines : goal.returns-in_err-inlines-clause-inlines
returns-in_err-inlines-clause-inlines g c =
    let low = c.read_between.ensures.inlines in
    let stay = c.count_texts.ensures.inlines in
    let within = before_low (texts_under c.args.self.now c.args.room.now) c.args.seam c.args.held.now c.requires.goes in
    omega (arith, low, stay, within)
