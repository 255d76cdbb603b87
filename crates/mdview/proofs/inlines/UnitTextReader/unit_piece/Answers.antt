use Rattle.std.proofs.Common.{◌≡◌, refl, subst, take}
use Rattle.std.specs.Prelude.{IfSome}
use Rattle.mdview.specs.TextSetting.{DidReadIn, texts_under}
use Rattle.mdview.proofs.AlikeUnits.{alike_front}
use Rattle.mdview.proofs.inlines.UnitTextReader.unit_piece.Goals as goal

pub piece_like-requires-clause-alike : goal.piece_like-requires-clause-alike
piece_like-requires-clause-alike c =
    let reader = c.args.self.now in
    let s = texts_under reader c.args.room.now in
    let same = c.args.same in
    let texts = c.args.unit.now.texts in
    let did = subst (λ z. IfSome z (λ u. DidReadIn s u.now)) c.in-Some.is c.requires.held in
    let front = subst (λ z. IfSome z (λ u. take same texts ≡ take same u.now.read.unit.texts)) c.in-Some.is c.requires.front.1 in
    alike_front reader c.args.self.now.elsewhere s.entities c.read_alike_in.result same texts c.args.inlines.now (record { unit = c.in-Some.there; front = c.read_alike_in.result; behind = 0 }) refl refl
    c.requires.readings.are did.read c.requires.front.0 front c.read_alike_in.ensures
