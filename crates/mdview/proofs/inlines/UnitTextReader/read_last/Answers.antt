use Rattle.std.proofs.Common.{Err, ap, refl, subst, sym, ◌∙◌}
use Rattle.std.proofs.lemmas.Result.{IfOk-from_err}
use Rattle.mdview.specs.HeldTexts.{entities_in, labels_before}
use Rattle.blockspec.specs.UnitTree.{UnitTree}
use Rattle.mdview.specs.KeptTexts.{AreReadingsOf}
use Rattle.mdview.specs.TextSetting.{DidReadRest, IsReadFrom, texts_under}
use Rattle.mdview.proofs.AlikeUnits.{alike_kept}
use Rattle.mdview.proofs.Refused.{told_memory}
use Rattle.mdview.proofs.ToldTexts.{told_deep, told_shallow}
use Rattle.mdview.proofs.inlines.UnitTextReader.read_last.Goals as goal

pub read_part-requires : goal.read_part-requires
read_part-requires g c = record { kept = subst (λ (u : UnitTree). DidReadRest (texts_under c.args.self.now c.args.room.now) u.texts c.args.kept) (sym c.unit.ensures) c.requires.kept.readings }

pub returns-in_err-inlines : goal.returns-in_err-inlines
returns-in_err-inlines g c =
    let r = c.from_residual.result in
    let no = c.from_residual.ensures.0 in
    let is = c.from_residual.ensures.1 in
    record {
      unit = IfOk-from_err r _ no;
      deep = told_deep r _ _ is (λ too. rw c.unit.ensures at (c.in_err-inlines.ensures.deep.1 (ap Err too)));
      stays = c.read_part.ensures.stays;
      inlines = rw c.unit.ensures at c.read_part.ensures.inlines;
    }

pub piece_like-requires-clause-alike : goal.piece_like-requires-clause-alike
piece_like-requires-clause-alike g c =
    let reader = c.args.self.now in
    let front = c.read_alike_in.result in
    let behind = c.read_alike_in-2.result in
    alike_kept reader c.args.self.now.elsewhere (entities_in c.args.room.now) reader.options.now.max_spans front behind c.in_ok-inlines.same c.unit.result.now.texts c.deref.result.now c.args.kept
    (record { unit = c.args.kept.unit; front = front; behind = behind }) refl refl refl (c.deref.ensures.value ∙ c.in_ok-inlines.ensures.readings.are) (subst (λ (u : UnitTree). AreReadingsOf reader.options.now.max_spans (entities_in c.args.room.now) (labels_before reader) u.texts c.args.kept) (sym c.unit.ensures) c.requires.kept.readings) c.in_ok-inlines.ensures.front.0 c.in_ok-inlines.ensures.front.1
    c.read_alike_in.ensures c.read_alike_in-2.ensures

pub returns-in_err-piece : goal.returns-in_err-piece
returns-in_err-piece g c =
    let r = c.from_residual-in_err-piece.result in
    let no = c.from_residual-in_err-piece.ensures.0 in
    let is = c.from_residual-in_err-piece.ensures.1 in
    record {
      unit = IfOk-from_err r _ no;
      deep = told_memory r _ is;
      stays = (c.piece_like.ensures.room ∙ c.read_part.ensures.stays.0, c.read_part.ensures.stays.1);
      inlines = rw c.unit.ensures at c.read_part.ensures.inlines;
    }

pub new-requires : goal.new-requires
new-requires g c = rw c.unit.ensures at c.in_ok-inlines.ensures.readings.all

pub returns : goal.returns
returns g c =
    let s = texts_under c.args.self.now c.args.room.now in
    let html = rw (c.deref.ensures.value, c.blocks-blocks.ensures.value, c.unit-2.ensures) at c.in_ok-piece.ensures.html in
    let ends = rw (c.deref.ensures.value, c.blocks-blocks.ensures.value, c.unit-2.ensures) at c.in_ok-piece.ensures.ends in
    let are = rw c.unit.ensures at c.in_ok-inlines.ensures.readings.are in
    record {
      unit = subst (IsReadFrom s c.args.found) (sym c.new.ensures) (record { list = refl; read = are; rendered = (html, ends) });
      deep = told_shallow _ _ (rw c.unit.ensures at c.in_ok-inlines.ensures.deep.0);
      stays = (c.piece_like.ensures.room ∙ c.read_part.ensures.stays.0, c.read_part.ensures.stays.1);
      inlines = rw c.unit.ensures at c.read_part.ensures.inlines;
    }
