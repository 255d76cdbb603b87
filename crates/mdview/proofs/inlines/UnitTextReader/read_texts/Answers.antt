use Rattle.std.proofs.Common.{◌+◌, ◌≤◌, Err, ap, length, refl, string_bytes, subst, sym, ◌∙◌}
use Rattle.std.proofs.Math.Nat.{le-add_right}
use Rattle.std.proofs.lemmas.Result.{IfOk-from_err}
use Rattle.std.proofs.lemmas.List.{length-map}
use Rattle.mdview.specs.TextSetting.{reading_as, texts_under}
use Rattle.mdview.proofs.Refused.{told_memory}
use Rattle.mdview.proofs.ToldTexts.{told_deep, told_shallow}
use Rattle.mdview.proofs.inlines.UnitTextReader.read_texts.Given.{Over}
use Rattle.mdview.proofs.inlines.UnitTextReader.read_texts.Goals.{After-read_alike}
use Rattle.mdview.proofs.inlines.UnitTextReader.read_texts.Goals as goal

pub returns-in_err-inlines : goal.returns-in_err-inlines
returns-in_err-inlines g c =
    let r = c.from_residual.result in
    let no = c.from_residual.ensures.0 in
    let is = c.from_residual.ensures.1 in
    record {
      readings = IfOk-from_err r _ no;
      front = IfOk-from_err r _ no;
      deep = told_memory r _ is;
      stays = (refl, refl);
      inlines = le-add_right _ _;
    }

pub read_alike-requires : goal.read_alike-requires
read_alike-requires g c = record { held = c.requires.held }

-- the unit has as many texts as were handed on
few_read : (g : Over) (c : After-read_alike g) → g.C.Count.inlines c.read_alike.new.count ≤ g.C.Count.inlines c.args.count.now + length c.args.unit.now.texts
few_read g c =
    subst (λ n. g.C.Count.inlines c.read_alike.new.count ≤ g.C.Count.inlines c.args.count.now + n)
    (sym (length-map c.texts-texts.result.now string_bytes) ∙ ap length c.texts-texts.ensures) c.read_alike.ensures.inlines

pub returns-in_err-same : goal.returns-in_err-same
returns-in_err-same g c =
    let r = c.from_residual-in_err-same.result in
    let no = c.from_residual-in_err-same.ensures.0 in
    let is = c.from_residual-in_err-same.ensures.1 in
    record {
      readings = IfOk-from_err r _ no;
      front = IfOk-from_err r _ no;
      deep = told_deep r _ _ is (λ too. rw c.texts-texts.ensures at (c.in_err-same.ensures.readings.1.1 (ap Err too)));
      stays = c.read_alike.ensures.stays;
      inlines = few_read g (goal.at.returns-in_err-same g c).After-read_alike;
    }

pub returns : goal.returns
returns g c =
    let s = texts_under c.args.self.now c.args.room.now in
    let texts = c.args.unit.now.texts in
    let are = rw (c.in_ok-inlines.ensures.items, c.texts-texts.ensures) at c.in_ok-same.ensures.readings.0 in
    let count = sym (length-map c.texts-texts.result.now string_bytes) ∙ ap length c.texts-texts.ensures in
    record {
      readings = record { all = ap length are ∙ length-map texts (reading_as s); are = are };
      front = (subst (λ n. c.in_ok-same.same ≤ n) count c.in_ok-same.ensures.front.0, rw c.texts-texts.ensures at c.in_ok-same.ensures.front.1);
      deep = told_shallow _ _ (rw c.texts-texts.ensures at c.in_ok-same.ensures.readings.1.0);
      stays = c.read_alike.ensures.stays;
      inlines = few_read g (goal.at.returns g c).After-read_alike;
    }
