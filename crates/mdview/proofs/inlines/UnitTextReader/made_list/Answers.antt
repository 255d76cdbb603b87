use Rattle.std.proofs.Common.{◌≡◌, ◌+◌, ◌++◌, [], drop, take, false, length, sym, ◌∙◌, ap, arith, subst}
use Rattle.std.proofs.lemmas.List.{length-map}
use Rattle.std.proofs.Math.Seq.{drop-drop}
use Rattle.blockspec.specs.UnitTree.{UnitTree}
use Rattle.mdblock.specs.BlockView.{blocks_view}
use Rattle.mdblock.specs.FoundLists.{FoundList}
use Rattle.mdblock.specs.Fronted.{texts_staying}
use Rattle.mdblock.specs.Positions.{BlocksIn}
use Rattle.mdblock.specs.Seams.{seam_list}
use Rattle.htmlspec.specs.BlockHtml.{blocks_html, texts_html}
use Rattle.mdhtml.specs.InsetLists.{inset_readings}
use Rattle.mdview.specs.HeldLists.{unplaced}
use Rattle.mdview.specs.HeldUnit.{AreEnds}
use Rattle.mdview.specs.TextSetting.{IsReadFrom, reading_as, readings_as, texts_under}
use Rattle.mdview.specs.declared.pieces.text_room.Alike.{Alike}
use Rattle.mdview.proofs.JoinedLists.{alike_made}
use Rattle.mdview.proofs.inlines.UnitTextReader.made_list.Goals.{In_ok-all}
use Rattle.mdview.proofs.inlines.UnitTextReader.made_list.Goals as goal

count_is : (c : In_ok-all) → c.len.result ≡ length c.args.inlines.items
count_is c = omega (arith, c.len.ensures, c.args.inlines.ok.0)

front_is : (c : In_ok-all) → c.first_of-front.result.now ≡ take (texts_staying c.args.seam.base) c.args.held.now.read.readings
front_is c =
    c.first_of-front.ensures
    ∙ ap (λ z. take z c.inlines.result.now) c.texts_staying-staying.ensures
    ∙ ap (take (texts_staying c.args.seam.base)) c.inlines.ensures.value

kept_is : (c : In_ok-all) → c.later_of-kept.result.now ≡ drop (texts_staying c.args.seam.base + length c.args.inlines.items) c.args.held.now.read.readings
kept_is c =
    c.later_of-kept.ensures
    ∙ ap (λ z. drop z c.later_of-behind.result.now) (count_is c)
    ∙ ap (drop (length c.args.inlines.items)) (c.later_of-behind.ensures ∙ ap (λ z. drop z c.inlines-2.result.now) c.texts_staying-staying.ensures ∙ ap (drop (texts_staying c.args.seam.base)) c.inlines-2.ensures.value)
    ∙ drop-drop (length c.args.inlines.items) (texts_staying c.args.seam.base) c.args.held.now.read.readings

joined : (c : In_ok-all) → c.in_ok-all.all.items ≡ inset_readings (texts_staying c.args.seam.base) c.args.inlines.items c.args.held.now.read.readings
joined c =
    c.in_ok-all.ensures
    ∙ ap (λ z. z ++ (c.args.inlines.items ++ c.later_of-kept.result.now)) (front_is c)
    ∙ ap (λ z. take (texts_staying c.args.seam.base) c.args.held.now.read.readings ++ (c.args.inlines.items ++ z)) (kept_is c)

-- all texts have readings
read : (c : In_ok-all) → c.in_ok-all.all.items ≡ readings_as (texts_under c.args.self.now c.args.room.now) c.in_ok-found.found.unit.texts
read c = joined c ∙ c.requires.between.all ∙ ap (λ (z : FoundList). readings_as (texts_under c.args.self.now c.args.room.now) z.unit.texts) (sym c.in_ok-found.ensures)

size : (c : In_ok-all) → length c.in_ok-all.all.items ≡ length c.in_ok-found.found.unit.texts
size c = ap length (read c) ∙ length-map c.in_ok-found.found.unit.texts (reading_as (texts_under c.args.self.now c.args.room.now))

pub piece_like-requires-clause-within : goal.piece_like-requires-clause-within
piece_like-requires-clause-within c =
    let a = (goal.at.piece_like-requires-clause-within c).In_ok-all in
    subst (λ m. BlocksIn m (blocks_view c.blocks-2.result.now)) (ap (λ (z : UnitTree). length z.texts) c.unit.ensures ∙ sym (size a) ∙ ap length (sym c.deref.ensures.value))
    (subst (BlocksIn (length c.unit.result.now.texts)) (sym c.blocks-2.ensures.value) c.blocks-2.ensures.within)

pub piece_like-requires-clause-alike : goal.piece_like-requires-clause-alike
piece_like-requires-clause-alike c =
    let a = (goal.at.piece_like-requires-clause-alike c).In_ok-all in
    let all = c.requires.between.count in
    let room = c.requires.between.room in
    let staying = texts_staying c.args.seam.base in
    let like : Alike = record { unit = c.args.held; front = c.texts_staying-staying.result; behind = length c.later_of-kept.result.now } in
    alike_made c.first_of-front.result.now c.args.inlines.items c.deref.result.now staying like c.texts_staying-staying.ensures
    (ap length (kept_is a)) (omega (arith, all, room)) (front_is a)
    (c.deref.ensures.value ∙ c.in_ok-all.ensures ∙ ap (λ z. c.first_of-front.result.now ++ (c.args.inlines.items ++ z)) (kept_is a))

pub new-requires : goal.new-requires
new-requires c = size (goal.at.new-requires c).In_ok-all

pub returns-clause-unit : goal.returns-clause-unit
returns-clause-unit c =
    let a = (goal.at.returns-clause-unit c).In_ok-all in
    let s = texts_under c.args.self.now c.args.room.now in
    let o = c.args.self.now.options.now in
    let inlines = c.in_ok-all.all.items in
    let blocks = c.blocks-2.ensures.value ∙ ap (λ (z : UnitTree). z.blocks) c.unit.ensures in
    subst (IsReadFrom s (seam_list c.args.seam)) (sym c.new.ensures)
    (record {
      list = ap unplaced c.in_ok-found.ensures;
      read = read a;
      rendered = (
        c.in_ok-piece.ensures.html
            ∙ ap (λ z. blocks_html o (texts_html o z) false (blocks_view c.blocks-2.result.now) []) c.deref.ensures.value
            ∙ ap (λ z. blocks_html o (texts_html o inlines) false z []) blocks,
        subst (λ z. AreEnds o inlines z c.in_ok-piece.piece.ends) blocks (subst (λ z. AreEnds o z (blocks_view c.blocks-2.result.now) c.in_ok-piece.piece.ends) c.deref.ensures.value c.in_ok-piece.ensures.ends),
      );
    })
