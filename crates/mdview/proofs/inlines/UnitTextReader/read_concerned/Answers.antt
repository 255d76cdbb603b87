use Rattle.std.proofs.Common.{◌≤◌, ◌+◌, ◌∷◌, ◌++◌, [], Err, append_assoc, ap, map, refl, string_bytes, take, ◌∙◌}
use Rattle.mdsource.specs.Changes.{asks_changed}
use Rattle.mdsource.specs.Refusals.{is_deep}
use Rattle.mdsource.specs.View.{reading_of}
use Rattle.mdview.specs.TextSetting.{DidRead, asking, readings_as, reading_as, texts_under}
use Rattle.mdview.proofs.Concerns.{counted_next, counted_within}
use Rattle.mdview.proofs.ReadTexts.{IsTextAt, none_next, none_passes, one_passes, reading_here, taken_next}
use Rattle.mdview.proofs.ToldTexts.{on_err, told_deep}
use Rattle.mdview.proofs.inlines.UnitTextReader.read_concerned.Given.{Over}
use Rattle.mdview.proofs.inlines.UnitTextReader.read_concerned.Goals.{After-index-held-i, After-read_one}
use Rattle.mdview.proofs.inlines.UnitTextReader.read_concerned.Goals as goal

-- the text, and what is held of it
held_is : (g : Over) (c : After-index-held-i g)
    → IsTextAt c.args.texts.now (map string_bytes c.args.texts.now) c.loop-i.i c.index-texts-i.result
    × DidRead (texts_under c.args.self.now c.args.room.now) (string_bytes c.index-texts-i.result) c.index-held-i.result
held_is g c =
    let texts = c.args.texts.now in
    let w : IsTextAt texts (map string_bytes texts) c.loop-i.i c.index-texts-i.result =
    record { bytes = refl; below = c.loop-i-test.true; at = c.index-texts-i.is } in
    let s = texts_under c.args.self.now c.args.room.now in
    let read = reading_of s.entities s.before in
    let deep = is_deep s.options.max_spans in
    let here = reading_here _ _ _ _ w read deep c.args.held.now c.index-held-i.result c.requires.held.0 c.index-held-i.is in
    (w, (here, ap deep here ∙ none_passes _ _ _ _ w read deep (rw c.requires.held.0 at c.requires.held.1)))

pub read_one-requires : goal.read_one-requires
read_one-requires g c = rw (c.deref.ensures, c.loop-i.invariant.stays.0) (record { held = (held_is g (goal.at.read_one-requires g c).After-index-held-i).1 })

pub returns-in_err-read_one-clause-readings : goal.returns-in_err-read_one-clause-readings
returns-in_err-read_one-clause-readings g c =
    let h = held_is g (goal.at.returns-in_err-read_one-clause-readings g c).After-index-held-i in
    let s = texts_under c.args.self.now c.args.room.now in
    let deep = rw (c.deref.ensures, c.loop-i.invariant.stays.0) at c.in_err-read_one.ensures.reading.1.1 in (
      on_err _ c.from_residual.result _ c.from_residual.ensures.1,
      told_deep c.from_residual.result _ _ c.from_residual.ensures.1 (λ too. one_passes _ _ _ _ h.0 (reading_as s) (is_deep s.options.max_spans) (deep (ap Err too))),
    )

-- how many are read, at most
inlines_within : (g : Over) (c : After-read_one g)
    → IsTextAt c.args.texts.now (map string_bytes c.args.texts.now) c.loop-i.i c.index-texts-i.result
    × DidRead (texts_under c.args.self.now c.args.room.now) (string_bytes c.index-texts-i.result) c.index-held-i.result
    → g.C.Count.inlines c.read_one.new.count ≤ g.C.Count.inlines c.args.count.now + asking (texts_under c.args.self.now c.args.room.now) (map string_bytes c.args.texts.now)
inlines_within g c h =
    let s = texts_under c.args.self.now c.args.room.now in
    counted_within _ _ _ _ h.0 (reading_of s.entities s.before) (asks_changed s.before s.behind) c.index-held-i.result h.1.0
    (g.C.Count.inlines c.args.count.now) (g.C.Count.inlines c.loop-i.count) (g.C.Count.inlines c.read_one.new.count)
    c.read_one.ensures.inlines c.loop-i.invariant.inlines

pub returns-in_err-read_one-clause-inlines : goal.returns-in_err-read_one-clause-inlines
returns-in_err-read_one-clause-inlines g c =
    let s = goal.at.returns-in_err-read_one-clause-inlines g c in inlines_within g s.After-read_one (held_is g s.After-index-held-i)

pub returns-in_err-push-clause-inlines : goal.returns-in_err-push-clause-inlines
returns-in_err-push-clause-inlines g c =
    let s = goal.at.returns-in_err-push-clause-inlines g c in inlines_within g s.After-read_one (held_is g s.After-index-held-i)

pub loop-i-preserved : goal.loop-i-preserved
loop-i-preserved g c =
    let all = map string_bytes c.args.texts.now in
    let h = held_is g (goal.at.loop-i-preserved g c).After-index-held-i in
    let s = texts_under c.args.self.now c.args.room.now in
    let deep = is_deep s.options.max_spans in
    let had = c.args.inlines.now.items in
    let so_far = readings_as s (take c.loop-i.i all) in
    let one = c.in_ok-read_one.field-0 in
    let reading = rw (c.loop-i.invariant.stays.0, c.deref.ensures) at c.in_ok-read_one.ensures.reading in
    rw c.in_ok-push.ensures.items (record {
      readings = ap (λ l. l ++ one ∷ []) c.loop-i.invariant.readings ∙ append_assoc had so_far (one ∷ [])
          ∙ ap (λ l. had ++ l) (taken_next _ _ _ _ h.0 (reading_as s) deep so_far one refl reading.0);
      shallow = none_next _ _ _ _ h.0 (reading_as s) deep c.loop-i.invariant.shallow reading.1.0;
      stays = (c.read_one.ensures.stays.0 ∙ c.loop-i.invariant.stays.0, c.read_one.ensures.stays.1 ∙ c.loop-i.invariant.stays.1);
      inlines = counted_next _ _ _ _ h.0 (reading_of s.entities s.before) (asks_changed s.before s.behind) c.index-held-i.result h.1.0
          (g.C.Count.inlines c.args.count.now) (g.C.Count.inlines c.loop-i.count) (g.C.Count.inlines c.read_one.new.count)
          c.read_one.ensures.inlines c.loop-i.invariant.inlines;
    })
