use Rattle.std.proofs.Common.{sym, ◌≡◌, ℕ, false, None, ◌≤◌, ◌+◌, ◌<◌, ◌^◌, List, length, map, string_bytes, arith, ap, ◌∙◌, subst}
use Rattle.std.proofs.lemmas.List.{length-map}
use Rattle.mdsource.specs.Calls.{Call, set_prelude}
use Rattle.mdsource.specs.SoonTexts.{texts_soon}
use Rattle.mdsource.proofs.StopTexts.{soon_of_prelude}
use Rattle.mdsource.specs.Changes.{texts_read}
use Rattle.mdsource.specs.Outcome.{accepted}
use Rattle.mdsource.specs.Patch.{Brings}
use Rattle.mdsource.specs.Refusals.{prelude_refusal, undefining_line}
use Rattle.mdsource.specs.Setting.{Setting}
use Rattle.mdsource.specs.UnitTexts.{asking_texts}
use Rattle.mdview.specs.Document.{Document, pieces_of, readings_of, setting_of, source_of}
use Rattle.mdview.specs.HeldTexts.{IsRefusedBy}
use Rattle.mdview.specs.HeldUnit.{unit_in}
use Rattle.mdview.specs.declared.preview.Preview.TheInside.{Inside}
use Rattle.mdview.specs.LabelTargets.{led_by, target_held}
use Rattle.mdview.specs.Outcome.{answer_of, is_starved, outcome_of}
use Rattle.mdview.proofs.FewUnits.{few_units}
use Rattle.mdview.proofs.HeldReadings.{holds_relabelled, near_still, shallow_still}
use Rattle.mdview.proofs.Outcomes.{accepts, refused_by_reading, returns_refusal}
use Rattle.mdview.proofs.PreludeOutcomes.{IsRenewalOf, pieces_renewed, readings_renewed, renewal_patch, renewal_refused, renewal_stands, renewed_blocks, renewed_rendered, renewed_texts, texts_of_prelude}
use Rattle.mdview.proofs.preview.Preview.set_prelude.Given.{Over}
use Rattle.mdview.proofs.preview.Preview.set_prelude.Goals.{After-commit_readings, After-of_prelude, In_ok-renewal}
use Rattle.mdview.proofs.preview.Preview.set_prelude.Goals as goal

pub invariant_of-held-clause-shallow : goal.invariant_of-held-clause-shallow
invariant_of-held-clause-shallow g c =
    let p = c.self.inside in
    (shallow_still (record { entities = p.entities; options = p.options }) (map string_bytes p.lines.items) p.head p.prelude p.labels p.units.items c.self.invariant.5 c.self.invariant.7)

pub of_prelude-requires-clause-near : goal.of_prelude-requires-clause-near
of_prelude-requires-clause-near g c =
    let p = c.self.inside in
    let few : length (map string_bytes p.lines.items) ≤ 1000000 = let many = length-map p.lines.items string_bytes in omega (arith, many, c.self.invariant.2) in
    (near_still p.entities (map string_bytes p.lines.items) p.head p.units.items c.self.invariant.5 few)

pub invariant_of-self : goal.invariant_of-self
invariant_of-self g c =
    let p = c.self.inside in (
      c.self.invariant.0,
      c.self.invariant.1,
      c.self.invariant.2,
      c.self.invariant.3,
      c.self.invariant.4,
      c.self.invariant.5,
      c.self.invariant.6,
      holds_relabelled (record { entities = p.entities; options = p.options }) (map string_bytes p.lines.items) p.prelude p.labels c.make_room.new.self p.units.items c.make_room.ensures.same c.self.invariant.7,
    )

abbrev lines_in : Inside → List (List ℕ)
lines_in p = map string_bytes p.lines.items

abbrev setting_in : Inside → Setting
setting_in p = record { entities = p.entities; options = p.options }

-- the document that a preview of these fields and of a prelude of these lines is
abbrev document_in : Inside → List (List ℕ) → Document
document_in p prelude = record { entities = p.entities; options = p.options; lines = lines_in p; prelude = prelude }

inlines_of : (g : Over) (c : After-of_prelude g) → g.C.Count.inlines c.of_prelude.new.count
    ≤ g.C.Count.inlines c.args.count.now + texts_soon (setting_of c.args.self.now) (source_of c.args.self.now) (set_prelude (map (λ line. line.now) c.args.lines.now))
inlines_of g c =
    let p = c.self.inside in
    let units = map unit_in p.units.items in
    let added : List (List ℕ) = map (λ line. line.now) c.args.lines.now in
    let prelude = c.in_ok-prelude.prelude in
    let source = source_of (document_in p p.prelude.lines) in
    let due : asking_texts p.entities (target_held p.labels) (led_by units prelude) units ≡ texts_read (setting_in p) source (set_prelude added) =
    texts_of_prelude p.entities p.options (lines_in p) p.prelude prelude p.head p.labels p.units.items c.self.invariant.5 c.self.invariant.7 c.in_ok-prelude.ensures.defined added c.in_ok-prelude.ensures.read in
    let same = sym (soon_of_prelude (setting_in p) source added) ∙ ap (λ (d : Document). texts_soon (setting_of d) (source_of d) (set_prelude added)) c.self.view_is in
    omega (arith, due, same, c.of_prelude.ensures.texts, c.in_ok-prelude.ensures.inlines)

pub returns-in_err-renewal-clause-inlines : goal.returns-in_err-renewal-clause-inlines
returns-in_err-renewal-clause-inlines g c = inlines_of g (goal.at.returns-in_err-renewal-clause-inlines g c).After-of_prelude

pub returns-in_err-patch-clause-inlines : goal.returns-in_err-patch-clause-inlines
returns-in_err-patch-clause-inlines g c = inlines_of g (goal.at.returns-in_err-patch-clause-inlines g c).After-of_prelude

pub returns-in_err-make_room-clause-inlines : goal.returns-in_err-make_room-clause-inlines
returns-in_err-make_room-clause-inlines g c = inlines_of g (goal.at.returns-in_err-make_room-clause-inlines g c).After-of_prelude

pub returns-clause-inlines : goal.returns-clause-inlines
returns-clause-inlines g c = inlines_of g (goal.at.returns-clause-inlines g c).After-of_prelude

pub returns-in_err-renewal-clause-outcome : goal.returns-in_err-renewal-clause-outcome
returns-in_err-renewal-clause-outcome g c =
    let p = c.self.inside in
    let prelude = c.in_ok-prelude.prelude in
    let held = document_in p p.prelude.lines in
    let call : Call = set_prelude (map (λ line. line.now) c.args.lines.now) in
    let none = ap (undefining_line (setting_in p)) c.in_ok-prelude.ensures.read ∙ c.in_ok-prelude.ensures.definitions in
    let fault = c.in_err-renewal.field-0.0 in
    let result = c.from_residual-in_err-renewal.result in
    let why = subst (λ ls. IsRefusedBy (prelude_refusal (setting_in p) (record { lines = lines_in p; prelude = ls })) fault) c.in_ok-prelude.ensures.read
    (renewal_refused p.entities p.options (lines_in p) p.prelude prelude p.head p.labels p.units.items c.self.invariant.5 c.self.invariant.7 c.in_ok-prelude.ensures.defined fault none c.in_err-renewal.ensures.deep) in
    subst (λ (d : Document). (answer_of result, d) ≡ outcome_of (is_starved result) d call) c.self.view_is
    (returns_refusal result fault held call c.from_residual-in_err-renewal.ensures.1 (refused_by_reading held call fault c.in_ok-prelude.ensures.due why))

-- What is known once the update is made.
record Renewed (g : Over) (c : In_ok-renewal g) : Type 0 where
  read : IsRenewalOf (setting_in c.self.inside) c.self.inside.labels c.in_ok-prelude.prelude c.self.inside.head c.self.inside.units.items c.in_ok-renewal.renewal
  few : length c.self.inside.units.items < 2 ^ 64

renewed : (g : Over) (c : In_ok-renewal g) → Renewed g c
renewed g c =
    let p = c.self.inside in
    let few : length (lines_in p) ≤ 1000000 = let many = length-map p.lines.items string_bytes in omega (arith, many, c.self.invariant.2) in
    record {
      read = record {
        none = c.in_ok-renewal.ensures.none;
        led = c.in_ok-renewal.ensures.led;
        reread = c.in_ok-renewal.ensures.reread;
        numbers = c.in_ok-renewal.ensures.numbers;
        shallow = c.in_ok-renewal.ensures.shallow;
        fit = c.in_ok-renewal.ensures.fit;
      };
      few = few_units p.entities (lines_in p) p.head p.units.items c.self.invariant.5 few;
    }

pub invariant_of-self-2 : goal.invariant_of-self-2
invariant_of-self-2 g c =
    let p = c.self.inside in
    let r = c.in_ok-renewal.renewal in
    let prelude = c.in_ok-prelude.prelude in
    let defined = c.in_ok-prelude.ensures.defined in
    let w = (renewed g (goal.at.invariant_of-self-2 g c).In_ok-renewal).read in
    let next = c.commit_readings.new.held.items in
    let next_is = c.commit_readings.ensures.units in (
      c.self.invariant.0,
      c.self.invariant.1,
      c.self.invariant.2,
      renewed_rendered p.entities p.options (lines_in p) p.prelude prelude p.head p.labels p.units.items c.self.invariant.5 c.self.invariant.7 defined r c.self.invariant.3 w next next_is,
      c.self.invariant.4,
      renewed_blocks p.entities p.options (lines_in p) p.prelude prelude p.head p.labels p.units.items c.self.invariant.5 c.self.invariant.7 defined r c.self.invariant.3 w next next_is,
      c.self.invariant.6,
      renewed_texts p.entities p.options (lines_in p) p.prelude prelude p.head p.labels p.units.items c.self.invariant.5 c.self.invariant.7 defined r c.self.invariant.3 w next next_is c.make_room.new.self c.commit_readings.new.labels
          c.make_room.ensures.same c.commit_readings.ensures.led,
    )

pub returns-clause-outcome : goal.returns-clause-outcome
returns-clause-outcome g c =
    let p = c.self.inside in
    let prelude = c.in_ok-prelude.prelude in
    let defined = c.in_ok-prelude.ensures.defined in
    let added : List (List ℕ) = map (λ line. line.now) c.args.lines.now in
    let w = renewed g (goal.at.returns-clause-outcome g c).In_ok-renewal in
    let none = ap (undefining_line (setting_in p)) c.in_ok-prelude.ensures.read ∙ c.in_ok-prelude.ensures.definitions in
    let patch = c.in_ok-patch.patch in
    let stands = subst (λ ls. prelude_refusal (setting_in p) (record { lines = lines_in p; prelude = ls }) ≡ None) c.in_ok-prelude.ensures.read
    (renewal_stands p.entities p.options (lines_in p) p.prelude prelude p.head p.labels p.units.items c.self.invariant.5 c.self.invariant.7 defined none w.read.shallow) in
    subst (λ (d : Document). (accepted patch, document_in p prelude.lines) ≡ outcome_of false d (set_prelude added)) c.self.view_is
    (accepts (document_in p p.prelude.lines) (set_prelude added) (document_in p prelude.lines) patch c.in_ok-prelude.ensures.due stands
    (renewal_patch p.entities p.options (lines_in p) p.prelude prelude p.head p.labels p.units.items c.self.invariant.5 c.self.invariant.7 defined c.in_ok-renewal.renewal c.self.invariant.3 w.read patch c.in_ok-patch.ensures w.few added
    c.in_ok-prelude.ensures.read) (ap (document_in p) c.in_ok-prelude.ensures.read))

-- What the patch brings: of the pieces, and of what the texts of the units read as.
record Brought (g : Over) (c : After-commit_readings g) : Type 0 where
  pieces : Brings c.in_ok-patch.patch (pieces_of c.args.self.now) (pieces_of (document_in c.self.inside c.in_ok-prelude.prelude.lines))
  readings : Brings c.in_ok-patch.patch (readings_of c.args.self.now) (readings_of (document_in c.self.inside c.in_ok-prelude.prelude.lines))

brought : (g : Over) (c : After-commit_readings g)
    → IsRenewalOf (setting_in c.self.inside) c.self.inside.labels c.in_ok-prelude.prelude c.self.inside.head c.self.inside.units.items c.in_ok-renewal.renewal → length c.self.inside.units.items < 2 ^ 64 → Brought g c
brought g c read few =
    let p = c.self.inside in
    let prelude = c.in_ok-prelude.prelude in
    let patch = c.in_ok-patch.patch in
    record {
      pieces = subst (λ (d : Document). Brings patch (pieces_of d) (pieces_of (document_in p prelude.lines))) c.self.view_is
          (pieces_renewed p.entities p.options (lines_in p) p.prelude prelude p.head p.labels p.units.items c.self.invariant.5 c.self.invariant.7 c.in_ok-prelude.ensures.defined c.in_ok-renewal.renewal c.self.invariant.3 read
          c.commit_readings.new.held.items c.commit_readings.ensures.units patch c.make_room.new.self c.commit_readings.new.labels c.make_room.ensures.same c.commit_readings.ensures.led c.in_ok-patch.ensures few);
      readings = subst (λ (d : Document). Brings patch (readings_of d) (readings_of (document_in p prelude.lines))) c.self.view_is
          (readings_renewed p.entities p.options (lines_in p) p.prelude prelude p.head p.labels p.units.items c.self.invariant.5 c.self.invariant.7 c.in_ok-prelude.ensures.defined c.in_ok-renewal.renewal c.self.invariant.3 read
          c.commit_readings.new.held.items c.commit_readings.ensures.units patch c.make_room.new.self c.commit_readings.new.labels c.make_room.ensures.same c.commit_readings.ensures.led c.in_ok-patch.ensures few);
    }

pub returns-clause-patch : goal.returns-clause-patch
returns-clause-patch g c =
    let s = goal.at.returns-clause-patch g c in
    let w = renewed g s.In_ok-renewal in
    (brought g s.After-commit_readings w.read w.few).pieces

pub returns-clause-units : goal.returns-clause-units
returns-clause-units g c =
    let s = goal.at.returns-clause-units g c in
    let w = renewed g s.In_ok-renewal in
    (brought g s.After-commit_readings w.read w.few).readings
