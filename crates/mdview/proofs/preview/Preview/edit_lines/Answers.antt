use Rattle.std.proofs.Common.{◌≡◌, ◌+◌, ℕ, None, Result, false, true, ◌-◌, ◌^◌, ◌<◌, ◌≤◌, List, map, length, string_bytes, arith, ap, sym, ◌∙◌, refl, subst}
use Rattle.std.specs.Prelude.{IsErrAnd, IsSome}
use Rattle.std.proofs.lemmas.List.{length-map}
use Rattle.mdsource.specs.Calls.{Call, due_at_once, put}
use Rattle.mdsource.specs.ChangedPieces.{ChangedPieces}
use Rattle.mdsource.specs.SoonTexts.{texts_soon}
use Rattle.mdsource.specs.Stops.{lines_soon}
use Rattle.mdsource.specs.Outcome.{accepted}
use Rattle.mdsource.specs.Patch.{Brings}
use Rattle.mdsource.specs.Refusals.{nesting_refusal}
use Rattle.mdsource.specs.declared.fault.EditFault.{EditFault}
use Rattle.mdsource.specs.declared.fault.EditFault.TheVariants.{NoMemory}
use Rattle.mdview.specs.Document.{Document, pieces_of, readings_of, setting_of, source_of}
use Rattle.mdsource.specs.SourceLimits.{size_of}
use Rattle.mdview.specs.Edit.{call_of, due}
use Rattle.mdview.specs.HeldBlocks.{old_lines}
use Rattle.mdview.specs.HeldTexts.{IsRefusedBy}
use Rattle.mdview.specs.HeldUnit.{HeldUnit}
use Rattle.mdview.specs.declared.preview.Preview.TheInside.{Inside}
use Rattle.mdview.specs.declared.update.Update.{Update}
use Rattle.mdview.specs.Lists.{replaced}
use Rattle.mdview.specs.NewText.{lines_of}
use Rattle.mdview.specs.Outcome.{answer_of, is_starved, outcome_of}
use Rattle.mdview.specs.Update.{all_renewed, count_brought, units_brought, with_inset}
use Rattle.mdview.proofs.Committed.{brought_count}
use Rattle.mdview.proofs.EditOutcomes.{IsTextOf, IsUpdateOf, lines_of_call, next_blocks, next_rendered, next_texts, patch_is, pieces_brought, readings_brought, text_of_edit, texts_of_call, update_of_call}
use Rattle.mdview.proofs.FewUnits.{come_few, held_few}
use Rattle.mdview.proofs.HeldReadings.{holds_relabelled, shallow_still}
use Rattle.mdview.proofs.DueReasons.{none_due}
use Rattle.mdview.proofs.Outcomes.{accepts, refused_by_reading, returns_refusal, starves}
use Rattle.mdview.proofs.Sizes.{map_replaced}
use Rattle.mdview.proofs.preview.Preview.edit_lines.Given.{Over}
use Rattle.mdview.proofs.preview.Preview.edit_lines.Goals.{After-of, After-commit}
use Rattle.mdview.proofs.preview.Preview.edit_lines.Goals as goal

pub invariant_of-held-clause-shallow : goal.invariant_of-held-clause-shallow
invariant_of-held-clause-shallow g c =
    let p = c.self.inside in
    (shallow_still (record { entities = p.entities; options = p.options }) (map string_bytes p.lines.items) p.head p.prelude p.labels p.units.items c.self.invariant.5 c.self.invariant.7)

pub invariant_of-self-in_err-make_room : goal.invariant_of-self-in_err-make_room
invariant_of-self-in_err-make_room g c =
    let p = c.self.inside in
    rw (c.in_ok-reserve_splice.ensures.items, c.in_ok-reserve_splice-2.ensures.items) (
      c.self.invariant.0,
      c.self.invariant.1,
      c.self.invariant.2,
      c.self.invariant.3,
      c.self.invariant.4,
      c.self.invariant.5,
      c.self.invariant.6,
      holds_relabelled (record { entities = p.entities; options = p.options }) (map string_bytes p.lines.items) p.prelude p.labels c.make_room.new.self p.units.items c.make_room.ensures.same c.self.invariant.7,
    )

-- the document that a preview of these fields is
abbrev document_in : Inside → Document
document_in p = record { entities = p.entities; options = p.options; lines = map string_bytes p.lines.items; prelude = p.prelude.lines }

-- the same with other lines
abbrev with_lines : Inside → List (List ℕ) → Document
with_lines p lines = record (document_in p) { lines = lines }

abbrev lines_left : Inside → Call → List (List ℕ)
lines_left p call = (put (source_of (document_in p)) call).lines

text_is : (g : Over) (c : After-of g) → IsTextOf (document_in c.self.inside) c.args.at c.args.del c.args.add.now c.new-text.result
text_is g c =
    let lines = c.self.inside.lines.items in
    text_of_edit (document_in c.self.inside) c.args.at c.args.del c.args.add.now c.new-text.result lines lines c.in_ok-new_lines.new_lines.items c.deref.result.now refl refl c.deref.ensures.value
    c.in_ok-new_lines.ensures c.new-text.ensures.new c.new-text.ensures.old c.new-text.ensures.at c.new-text.ensures.gone c.new-text.ensures.come

-- ---- what is counted, once the text was read

stretch_of : (g : Over) (c : After-of g) → g.C.Count.lines c.of.new.count ≤ g.C.Count.lines c.args.count.now + lines_soon (setting_of c.args.self.now) (source_of c.args.self.now) (call_of c.args.at c.args.del c.args.add.now)
stretch_of g c =
    let call = call_of c.args.at c.args.del c.args.add.now in
    let due = lines_of_call (document_in c.self.inside) c.args.at c.args.del c.args.add.now c.new-text.result (text_is g c) ∙ ap (λ (d : Document). lines_soon (setting_of d) (source_of d) call) c.self.view_is in
    omega (arith, c.of.ensures.stretch, due)

inlines_of : (g : Over) (c : After-of g) → g.C.Count.inlines c.of.new.count ≤ g.C.Count.inlines c.args.count.now + texts_soon (setting_of c.args.self.now) (source_of c.args.self.now) (call_of c.args.at c.args.del c.args.add.now)
inlines_of g c =
    let call = call_of c.args.at c.args.del c.args.add.now in
    let due = texts_of_call (document_in c.self.inside) c.args.at c.args.del c.args.add.now c.new-text.result (text_is g c) ∙ ap (λ (d : Document). texts_soon (setting_of d) (source_of d) call) c.self.view_is in
    omega (arith, c.of.ensures.texts, due)

pub returns-in_err-update-clause-stretch : goal.returns-in_err-update-clause-stretch
returns-in_err-update-clause-stretch g c = stretch_of g (goal.at.returns-in_err-update-clause-stretch g c).After-of

pub returns-in_err-update-clause-inlines : goal.returns-in_err-update-clause-inlines
returns-in_err-update-clause-inlines g c = inlines_of g (goal.at.returns-in_err-update-clause-inlines g c).After-of

pub returns-in_err-patch-clause-stretch : goal.returns-in_err-patch-clause-stretch
returns-in_err-patch-clause-stretch g c = stretch_of g (goal.at.returns-in_err-patch-clause-stretch g c).After-of

pub returns-in_err-patch-clause-inlines : goal.returns-in_err-patch-clause-inlines
returns-in_err-patch-clause-inlines g c = inlines_of g (goal.at.returns-in_err-patch-clause-inlines g c).After-of

pub returns-in_err-reserve_splice-clause-stretch : goal.returns-in_err-reserve_splice-clause-stretch
returns-in_err-reserve_splice-clause-stretch g c = stretch_of g (goal.at.returns-in_err-reserve_splice-clause-stretch g c).After-of

pub returns-in_err-reserve_splice-clause-inlines : goal.returns-in_err-reserve_splice-clause-inlines
returns-in_err-reserve_splice-clause-inlines g c = inlines_of g (goal.at.returns-in_err-reserve_splice-clause-inlines g c).After-of

pub returns-in_err-reserve_splice-2-clause-stretch : goal.returns-in_err-reserve_splice-2-clause-stretch
returns-in_err-reserve_splice-2-clause-stretch g c = stretch_of g (goal.at.returns-in_err-reserve_splice-2-clause-stretch g c).After-of

pub returns-in_err-reserve_splice-2-clause-inlines : goal.returns-in_err-reserve_splice-2-clause-inlines
returns-in_err-reserve_splice-2-clause-inlines g c = inlines_of g (goal.at.returns-in_err-reserve_splice-2-clause-inlines g c).After-of

pub returns-in_err-make_room-clause-stretch : goal.returns-in_err-make_room-clause-stretch
returns-in_err-make_room-clause-stretch g c = stretch_of g (goal.at.returns-in_err-make_room-clause-stretch g c).After-of

pub returns-in_err-make_room-clause-inlines : goal.returns-in_err-make_room-clause-inlines
returns-in_err-make_room-clause-inlines g c = inlines_of g (goal.at.returns-in_err-make_room-clause-inlines g c).After-of

pub returns-clause-stretch : goal.returns-clause-stretch
returns-clause-stretch g c = stretch_of g (goal.at.returns-clause-stretch g c).After-of

pub returns-clause-inlines : goal.returns-clause-inlines
returns-clause-inlines g c = inlines_of g (goal.at.returns-clause-inlines g c).After-of

-- ---- the answers

pub returns-in_err-update-clause-outcome : goal.returns-in_err-update-clause-outcome
returns-in_err-update-clause-outcome g c =
    let held = document_in c.self.inside in
    let call : Call = call_of c.args.at c.args.del c.args.add.now in
    let fault = c.in_err-update.field-0.0 in
    let result = c.from_residual-in_err-update.result in
    let is = text_is g (goal.at.returns-in_err-update-clause-outcome g c).After-of in
    let once = ap (λ (d : Document). due d.lines call) c.self.view_is ∙ c.in_ok-size.ensures.ok.0 in
    let why = subst (λ ls. IsRefusedBy (nesting_refusal (setting_of held) (record { lines = ls; prelude = held.prelude })) fault) is.behind c.in_err-update.ensures.refused in
    subst (λ (d : Document). (answer_of result, d) ≡ outcome_of (is_starved result) d call) c.self.view_is
    (returns_refusal result fault held call c.from_residual-in_err-update.ensures.1 (refused_by_reading held call fault once why))

-- ---- memory was refused behind the reading

not_due : (g : Over) (c : After-of g) → due c.args.self.now.lines (call_of c.args.at c.args.del c.args.add.now) ≡ None
not_due g c = c.in_ok-size.ensures.ok.0

-- nothing is counted where a refusal is due at once, and none was
counted_none : (g : Over) (c : After-of g) → IsSome (due_at_once (source_of c.args.self.now) (call_of c.args.at c.args.del c.args.add.now)) → c.of.new.count ≡ c.args.count.now
counted_none g c some =
    let none : false ≡ true = subst IsSome (none_due (source_of c.args.self.now) (call_of c.args.at c.args.del c.args.add.now) (not_due g c)) some in absurd (let x : ⊥ = cc in x)

starved : (g : Over) (c : After-of g) (result : Result ChangedPieces EditFault) (new : Document) → IsErrAnd result (λ f. f ≡ NoMemory) → new ≡ c.args.self.now
    → (answer_of result, new) ≡ outcome_of (is_starved result) c.args.self.now (call_of c.args.at c.args.del c.args.add.now)
starved g c result new is same =
    let call : Call = call_of c.args.at c.args.del c.args.add.now in
    ap (λ (d : Document). (answer_of result, d)) same ∙ returns_refusal result NoMemory c.args.self.now call is (starves c.args.self.now call (not_due g c))

pub returns-in_err-reserve_splice-clause-outcome : goal.returns-in_err-reserve_splice-clause-outcome
returns-in_err-reserve_splice-clause-outcome g c =
    starved g (goal.at.returns-in_err-reserve_splice-clause-outcome g c).After-of c.from_residual-in_err-reserve_splice.result _ c.from_residual-in_err-reserve_splice.ensures.1
    (ap (λ ls. with_lines c.self.inside (map string_bytes ls)) c.reserve_splice.ensures.items ∙ c.self.view_is)

pub returns-in_err-reserve_splice-clause-uncounted : goal.returns-in_err-reserve_splice-clause-uncounted
returns-in_err-reserve_splice-clause-uncounted g c = counted_none g (goal.at.returns-in_err-reserve_splice-clause-uncounted g c).After-of

pub returns-in_err-reserve_splice-2-clause-outcome : goal.returns-in_err-reserve_splice-2-clause-outcome
returns-in_err-reserve_splice-2-clause-outcome g c =
    starved g (goal.at.returns-in_err-reserve_splice-2-clause-outcome g c).After-of c.from_residual-in_err-reserve_splice-2.result _ c.from_residual-in_err-reserve_splice-2.ensures.1
    (ap (λ ls. with_lines c.self.inside (map string_bytes ls)) c.in_ok-reserve_splice.ensures.items ∙ c.self.view_is)

pub returns-in_err-reserve_splice-2-clause-uncounted : goal.returns-in_err-reserve_splice-2-clause-uncounted
returns-in_err-reserve_splice-2-clause-uncounted g c = counted_none g (goal.at.returns-in_err-reserve_splice-2-clause-uncounted g c).After-of

pub returns-in_err-make_room-clause-outcome : goal.returns-in_err-make_room-clause-outcome
returns-in_err-make_room-clause-outcome g c =
    starved g (goal.at.returns-in_err-make_room-clause-outcome g c).After-of c.from_residual-in_err-make_room.result _ c.from_residual-in_err-make_room.ensures.1
    (ap (λ ls. with_lines c.self.inside (map string_bytes ls)) c.in_ok-reserve_splice.ensures.items ∙ c.self.view_is)

pub returns-in_err-make_room-clause-uncounted : goal.returns-in_err-make_room-clause-uncounted
returns-in_err-make_room-clause-uncounted g c = counted_none g (goal.at.returns-in_err-make_room-clause-uncounted g c).After-of

-- What is known once the update is taken in.
record Taken (g : Over) (c : After-commit g) : Type 0 where
  read : IsUpdateOf (setting_of (document_in c.self.inside)) c.self.inside.prelude.lines c.self.inside.labels c.self.inside.units.items (map string_bytes c.self.inside.lines.items)
      (lines_left c.self.inside (call_of c.args.at c.args.del c.args.add.now)) c.new-text.result c.in_ok-update.update
  lines : map string_bytes c.splice.new.self.items ≡ lines_left c.self.inside (call_of c.args.at c.args.del c.args.add.now)
  next : c.commit.new.held.items
      ≡ replaced (all_renewed c.self.inside.units.items c.in_ok-update.update.again.items) c.in_ok-update.update.first (c.in_ok-update.update.next - c.in_ok-update.update.first)
      (units_brought c.self.inside.units.items c.in_ok-update.update)
  small : length c.self.inside.units.items + count_brought c.in_ok-update.update < 2 ^ 64

taken : (g : Over) (c : After-commit g) → IsTextOf (document_in c.self.inside) c.args.at c.args.del c.args.add.now c.new-text.result → Taken g c
unfolding units_brought count_brought
taken g c is =
    let p = c.self.inside in
    let at = c.args.at in
    let del = c.args.del in
    let r = c.in_ok-update.update in
    let units : List HeldUnit = p.units.items in
    let come = c.in_ok-new_lines.new_lines.items in
    let read : IsUpdateOf (setting_of (document_in p)) p.prelude.lines p.labels units (old_lines c.new-text.result) (lines_of c.new-text.result) c.new-text.result r = record {
      replacing = c.in_ok-update.ensures.replacing;
      led = c.in_ok-update.ensures.led;
      read = c.in_ok-update.ensures.read;
      reread = c.in_ok-update.ensures.reread;
      numbers = c.in_ok-update.ensures.numbers;
      fit = c.in_ok-update.ensures.fit;
      fits = c.in_ok-update.ensures.fits;
      accepted = c.in_ok-update.ensures.accepted;
    } in
    let spliced : c.splice.new.self.items ≡ replaced p.lines.items at del come =
    c.splice.ensures ∙ ap (λ xs. replaced xs at del c.reserve_splice.new.added.items) c.in_ok-reserve_splice.ensures.items
    ∙ ap (λ xs. replaced p.lines.items at del xs) c.in_ok-reserve_splice.ensures.added in
    let call : Call = call_of at del c.args.add.now in
    let few : length (lines_left p call) ≤ 1000000 = subst (λ (d : Document). length (put (source_of d) call).lines ≤ 1000000) (sym c.self.view_is) c.in_ok-size.ensures.small.0 in
    let left : length (lines_of c.new-text.result) ≡ length (lines_left p call) = ap (λ ls. length ls) is.behind in
    let added = come_few p.entities units c.new-text.result r c.in_ok-update.ensures.replacing in
    let count = brought_count p.options units r c.in_ok-update.ensures.fit in
    let held = held_few p.entities (map string_bytes p.lines.items) p.head units c.self.invariant.5 in
    let long = length-map p.lines.items string_bytes in
    record {
      read = update_of_call (document_in p) at del c.args.add.now c.new-text.result p.labels units units r refl is read;
      lines =
          ap (map string_bytes) spliced ∙ map_replaced string_bytes p.lines.items come at del
          ∙ ap (λ xs. replaced (map string_bytes p.lines.items) at del xs) c.in_ok-new_lines.ensures;
      next =
          c.commit.ensures.units
          ∙ ap (λ us. replaced (all_renewed us r.again.items) r.first (r.next - r.first) (with_inset us c.reserve_splice-2.new.added.items r.inset)) c.in_ok-reserve_splice-2.ensures.items
          ∙ ap (λ xs. replaced (all_renewed units r.again.items) r.first (r.next - r.first) (with_inset units xs r.inset)) c.in_ok-reserve_splice-2.ensures.added;
      small = omega (arith, few, left, added, count, held, long, c.self.invariant.2);
    }

pub invariant_of-self-2 : goal.invariant_of-self-2
invariant_of-self-2 g c =
    let s = goal.at.invariant_of-self-2 g c in
    let is = text_is g s.After-of in
    let t = taken g s.After-commit is in
    let p = c.self.inside in
    let r = c.in_ok-update.update in
    let call : Call = call_of c.args.at c.args.del c.args.add.now in
    let new = lines_left p call in
    let next = c.commit.new.held.items in
    let size = c.in_ok-size.ensures.ok.1 ∙ ap (λ (d : Document). size_of (put (source_of d) call).lines) (sym c.self.view_is) in
    let few : length new ≤ 1000000 = subst (λ (d : Document). length (put (source_of d) call).lines ≤ 1000000) (sym c.self.view_is) c.in_ok-size.ensures.small.0 in
    let low : size_of new ≤ 16777216 = subst (λ (d : Document). size_of (put (source_of d) call).lines ≤ 16777216) (sym c.self.view_is) c.in_ok-size.ensures.small.1 in
    let many = length-map c.splice.new.self.items string_bytes in
    let long = ap (λ ls. length ls) t.lines in
    rw t.lines (
      size,
      omega (arith, size, low),
      omega (arith, few, many, long),
      next_rendered p.entities p.options (map string_bytes p.lines.items) p.prelude p.head p.labels p.units.items c.args.at c.args.del c.args.add.now c.new-text.result r c.self.invariant.5 c.self.invariant.7 c.self.invariant.3 is t.read next t.next,
      c.self.invariant.4,
      next_blocks p.entities p.options (map string_bytes p.lines.items) p.prelude p.head p.labels p.units.items c.args.at c.args.del c.args.add.now c.new-text.result r c.self.invariant.5 c.self.invariant.7 c.self.invariant.3 is t.read next t.next,
      t.read.fits,
      next_texts p.entities p.options (map string_bytes p.lines.items) p.prelude p.head p.labels p.units.items c.args.at c.args.del c.args.add.now c.new-text.result r c.self.invariant.5 c.self.invariant.7 c.self.invariant.3 is t.read next t.next
          c.make_room.new.self c.commit.new.labels c.make_room.ensures.same c.commit.ensures.led,
    )

pub returns-clause-outcome : goal.returns-clause-outcome
returns-clause-outcome g c =
    let s = goal.at.returns-clause-outcome g c in
    let is = text_is g s.After-of in
    let t = taken g s.After-commit is in
    let p = c.self.inside in
    let r = c.in_ok-update.update in
    let call : Call = call_of c.args.at c.args.del c.args.add.now in
    let once = ap (λ (d : Document). due d.lines call) c.self.view_is ∙ c.in_ok-size.ensures.ok.0 in
    let patch = c.in_ok-patch.patch in
    let left = with_lines p (map string_bytes c.splice.new.self.items) in
    subst (λ (d : Document). (accepted patch, left) ≡ outcome_of false d call) c.self.view_is
    (accepts (document_in p) call left patch once t.read.accepted
    (patch_is p.entities p.options (map string_bytes p.lines.items) p.prelude p.head p.labels p.units.items c.args.at c.args.del c.args.add.now c.new-text.result r c.self.invariant.5 c.self.invariant.7 c.self.invariant.3 is t.read
    patch c.in_ok-patch.ensures t.small) (ap (with_lines p) t.lines))

-- What the patch brings: of the pieces, and of what the texts of the units read as.
record Brought (g : Over) (c : After-commit g) : Type 0 where
  pieces : Brings c.in_ok-patch.patch (pieces_of c.args.self.now) (pieces_of (with_lines c.self.inside (map string_bytes c.splice.new.self.items)))
  readings : Brings c.in_ok-patch.patch (readings_of c.args.self.now) (readings_of (with_lines c.self.inside (map string_bytes c.splice.new.self.items)))

brought : (g : Over) (c : After-commit g) → IsTextOf (document_in c.self.inside) c.args.at c.args.del c.args.add.now c.new-text.result → Taken g c → Brought g c
brought g c is t = record {
  pieces = held pieces_of
      (pieces_brought p.entities p.options (map string_bytes p.lines.items) p.prelude p.head p.labels p.units.items c.args.at c.args.del c.args.add.now c.new-text.result r c.self.invariant.5 c.self.invariant.7 c.self.invariant.3 is t.read
      c.commit.new.held.items t.next patch c.make_room.new.self c.commit.new.labels c.make_room.ensures.same c.commit.ensures.led c.in_ok-patch.ensures t.small);
  readings = held readings_of
      (readings_brought p.entities p.options (map string_bytes p.lines.items) p.prelude p.head p.labels p.units.items c.args.at c.args.del c.args.add.now c.new-text.result r c.self.invariant.5 c.self.invariant.7 c.self.invariant.3 is t.read
      c.commit.new.held.items t.next patch c.make_room.new.self c.commit.new.labels c.make_room.ensures.same c.commit.ensures.led c.in_ok-patch.ensures t.small);
}
  where
    p : Inside
    p = c.self.inside

    r : Update
    r = c.in_ok-update.update

    patch : ChangedPieces
    patch = c.in_ok-patch.patch

    -- the document before is the one that was held, and the lines then are those that are left
    held : {A : Type 0} (shown : Document → List A) → Brings patch (shown (document_in p)) (shown (with_lines p (lines_left p (call_of c.args.at c.args.del c.args.add.now))))
        → Brings patch (shown c.args.self.now) (shown (with_lines p (map string_bytes c.splice.new.self.items)))
    held shown told =
        subst (λ (d : Document). Brings patch (shown d) (shown (with_lines p (map string_bytes c.splice.new.self.items)))) c.self.view_is
        (subst (λ ls. Brings patch (shown (document_in p)) (shown (with_lines p ls))) (sym t.lines) told)

pub returns-clause-patch : goal.returns-clause-patch
returns-clause-patch g c =
    let s = goal.at.returns-clause-patch g c in
    let is = text_is g s.After-of in
    (brought g s.After-commit is (taken g s.After-commit is)).pieces

pub returns-clause-units : goal.returns-clause-units
returns-clause-units g c =
    let s = goal.at.returns-clause-units g c in
    let is = text_is g s.After-of in
    (brought g s.After-commit is (taken g s.After-commit is)).readings
