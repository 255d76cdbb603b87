use Rattle.std.proofs.Common.{◌≡◌, ◌++◌, ◌∷◌, [], Bool, Err, Some, ℕ, List, false, if◌then◌else◌, map, ap, ◌∙◌, sym}
use Rattle.std.specs.Prelude.{slice_get}
use Rattle.std.specs.List.{list_any}
use Rattle.std.proofs.lemmas.List.{map-append}
use Rattle.mdsource.specs.Changes.{asks_changed}
use Rattle.mdsource.specs.Refusals.{is_deep}
use Rattle.mdsource.specs.UnitTexts.{asks_again}
use Rattle.mdsource.proofs.ReadingsUnder.{unasked_stays}
use Rattle.mdview.specs.HeldTexts.{number_again}
use Rattle.mdview.specs.TextSetting.{IsOneReadAgain, texts_under}
use Rattle.mdview.proofs.MemberChanges.{all_more}
use Rattle.mdview.proofs.ToldTexts.{told_deep, told_shallow}
use Rattle.mdview.proofs.inlines.UnitTextReader.read_if_concerned.Goals as goal

pub returns-then-not-is_concerned-clause-deep : goal.returns-then-not-is_concerned-clause-deep
returns-then-not-is_concerned-clause-deep g c =
    let s = texts_under c.args.self.now c.args.room.now in
    let one = c.args.unit.now in
    let none : asks_again s.entities s.before s.behind one.read.unit ≡ false =
    ap (list_any (asks_changed s.before s.behind)) (sym c.requires.read.read) ∙ sym c.is_concerned.ensures ∙ c.if-not-is_concerned.true in
    told_shallow _ _
    (ap (list_any (is_deep s.options.max_spans)) (sym (unasked_stays s.entities s.before s.behind one.read.unit none)) ∙ c.requires.read.shallow)

pub returns-in_err-one-clause-deep : goal.returns-in_err-one-clause-deep
returns-in_err-one-clause-deep g c = told_deep c.from_residual.result _ _ c.from_residual.ensures.1 (λ too. c.in_err-one.ensures.deep.1 (ap Err too))

pub returns-clause-again : goal.returns-clause-again
returns-clause-again g c = λ trees at all.
    let s = texts_under c.args.self.now c.args.room.now in
    let here : slice_get trees c.in_ok-one.one.unit ≡ Some c.args.unit.now.read.unit = ap (slice_get trees) c.in_ok-one.ensures.unit ∙ at in
    let one : IsOneReadAgain s trees c.in_ok-one.one = rw here c.in_ok-one.ensures.again in
    rw c.in_ok-push.ensures.items (all_more (IsOneReadAgain s trees) c.args.again.now.items c.in_ok-one.one all one)

pub returns-clause-numbers : goal.returns-clause-numbers
returns-clause-numbers g c =
    let s = texts_under c.args.self.now c.args.room.now in
    let before : List ℕ = map number_again c.args.again.now.items in
    let number = c.args.number in
    let asks = ap (list_any (asks_changed s.before s.behind)) (sym c.requires.read.read) ∙ sym c.is_concerned.ensures ∙ c.if-not-is_concerned.false in
    ap (map number_again) c.in_ok-push.ensures.items ∙ map-append number_again c.args.again.now.items (c.in_ok-one.one ∷ []) ∙ ap (λ n. before ++ n ∷ []) c.in_ok-one.ensures.unit
    ∙ ap (λ (b : Bool). before ++ (if b then number ∷ [] else [])) (sym asks)
