use Rattle.std.proofs.Common.{refl, sym, subst}
use Rattle.std.specs.Prelude.{IfSome}
use Rattle.mdblock.specs.Fronted.{texts_staying}
use Rattle.mdblock.specs.Seams.{seam_list}
use Rattle.mdhtml.specs.InsetLists.{inset_readings}
use Rattle.mdview.specs.JoinedLists.{AreBetween, GoesInto}
use Rattle.mdview.specs.TextSetting.{IsReadFrom, texts_under}
use Rattle.mdview.specs.WrittenPieces.{IsPieceOf}
use Rattle.mdview.specs.declared.held.unit_insets.UnitInset.{UnitInset}
use Rattle.mdview.proofs.JoinedLists.{fits_unit, joined, same_setting}
use Rattle.mdview.proofs.inlines.UnitTextReader.join_list.Goals as goal

pub piece_in_place-requires-clause-between : goal.piece_in_place-requires-clause-between
piece_in_place-requires-clause-between c =
    subst (λ z. AreBetween (texts_under c.args.self.now c.args.room.now) c.args.seam c.args.held.now z) (sym c.deref.ensures.value) c.requires.between

pub made_list-requires-clause-goes : goal.made_list-requires-clause-goes
made_list-requires-clause-goes c =
    subst (λ s. GoesInto s c.args.seam c.args.held.now) (sym (same_setting c.args.self.now c.args.room.now c.piece_in_place.new.room c.piece_in_place.ensures.room)) c.requires.goes

pub made_list-requires-clause-between : goal.made_list-requires-clause-between
made_list-requires-clause-between c =
    subst (λ s. AreBetween s c.args.seam c.args.held.now c.args.inlines.items)
    (sym (same_setting c.args.self.now c.args.room.now c.piece_in_place.new.room c.piece_in_place.ensures.room)) c.requires.between

pub inset-requires-clause-even : goal.inset-requires-clause-even
inset-requires-clause-even c = c.requires.goes.even

pub inset-requires-clause-own : goal.inset-requires-clause-own
inset-requires-clause-own c = c.requires.goes.own

pub returns-in_default-clause-list : goal.returns-in_default-clause-list
returns-in_default-clause-list c =
    subst (λ s. IsReadFrom s (seam_list c.args.seam) c.in_ok-unit.unit)
    (same_setting c.args.self.now c.args.room.now c.piece_in_place.new.room c.piece_in_place.ensures.room) c.in_ok-unit.ensures.unit

pub returns-clause-list : goal.returns-clause-list
returns-clause-list c =
    let s = texts_under c.args.self.now c.args.room.now in
    let u = c.args.held.now in
    let B = (seam_list c.args.seam).unit.blocks in
    let o = c.args.self.now.options.now in
    let a = texts_staying c.args.seam.base in
    let piece =
    subst (λ z. IsPieceOf o (inset_readings a z u.read.readings) B c.in-Some.piece) c.deref.ensures.value
    (subst (λ z. IfSome z (IsPieceOf o (inset_readings a c.deref.result.now u.read.readings) B)) c.in-Some.is c.in_ok-written.ensures.piece) in
    let i : UnitInset = record { unit = c.args.number; inset = c.in_ok-inset.inset; inlines = c.args.inlines; piece = c.in-Some.piece } in (
      refl,
      fits_unit s c.args.seam u c.requires.goes i c.in_ok-inset.ensures c.requires.between.count,
      joined s c.args.seam u c.requires.goes i c.in_ok-inset.ensures c.requires.between piece,
    )
