use Rattle.std.proofs.Common.{Err, ap, refl, subst, sym, ◌∙◌}
use Rattle.std.proofs.lemmas.Result.{IfOk-from_err}
use Rattle.mdview.specs.TextSetting.{IsReadFrom, texts_under}
use Rattle.mdview.proofs.Refused.{told_memory}
use Rattle.mdview.proofs.ToldTexts.{told_deep, told_shallow}
use Rattle.mdview.proofs.inlines.UnitTextReader.read_unit.Goals as goal

pub read_texts-requires : goal.read_texts-requires
read_texts-requires g c = record { held = c.requires.held }

pub returns-in_err-inlines : goal.returns-in_err-inlines
returns-in_err-inlines g c =
    let r = c.from_residual.result in
    let no = c.from_residual.ensures.0 in
    let is = c.from_residual.ensures.1 in
    record {
      unit = IfOk-from_err r _ no;
      deep = told_deep r _ _ is (λ too. rw c.unit.ensures at (c.in_err-inlines.ensures.deep.1 (ap Err too)));
      stays = c.read_texts.ensures.stays;
      inlines = rw c.unit.ensures at c.read_texts.ensures.inlines;
    }

pub unit_piece-requires : goal.unit_piece-requires
unit_piece-requires g c =
    rw (c.read_texts.ensures.stays.0, c.deref.ensures.value, c.unit-2.ensures) (record {
      readings = rw c.unit.ensures at c.in_ok-inlines.ensures.readings;
      held = c.requires.held;
      rendered = c.requires.rendered;
      front = rw c.unit.ensures at c.in_ok-inlines.ensures.front;
    })

pub returns-in_err-piece : goal.returns-in_err-piece
returns-in_err-piece g c =
    let r = c.from_residual-in_err-piece.result in
    let no = c.from_residual-in_err-piece.ensures.0 in
    let is = c.from_residual-in_err-piece.ensures.1 in
    record {
      unit = IfOk-from_err r _ no;
      deep = told_memory r _ is;
      stays = (c.unit_piece.ensures.room ∙ c.read_texts.ensures.stays.0, c.read_texts.ensures.stays.1);
      inlines = rw c.unit.ensures at c.read_texts.ensures.inlines;
    }

pub new-requires : goal.new-requires
new-requires g c = rw c.unit.ensures at c.in_ok-inlines.ensures.readings.all

pub returns : goal.returns
returns g c =
    let s = texts_under c.args.self.now c.args.room.now in
    let html = rw (c.deref.ensures.value, c.unit-2.ensures) at c.in_ok-piece.ensures.html in
    let ends = rw (c.deref.ensures.value, c.unit-2.ensures) at c.in_ok-piece.ensures.ends in
    let are = rw c.unit.ensures at c.in_ok-inlines.ensures.readings.are in
    record {
      unit = subst (IsReadFrom s c.args.found) (sym c.new.ensures) (record { list = refl; read = are; rendered = (html, ends) });
      deep = told_shallow _ _ (rw c.unit.ensures at c.in_ok-inlines.ensures.deep.0);
      stays = (c.unit_piece.ensures.room ∙ c.read_texts.ensures.stays.0, c.read_texts.ensures.stays.1);
      inlines = rw c.unit.ensures at c.read_texts.ensures.inlines;
    }
