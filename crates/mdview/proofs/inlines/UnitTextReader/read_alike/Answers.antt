use Rattle.std.proofs.Common.{◌∷◌, ◌++◌, [], Err, Some, append_assoc, arith, ap, length, map, option_map, refl, string_bytes, take, ◌∙◌, sym}
use Rattle.std.proofs.lemmas.Option.{IfSome_then, slice_get-map, slice_get_read}
use Rattle.mdsource.specs.Refusals.{is_deep}
use Rattle.mdsource.specs.View.{reading_of}
use Rattle.mdview.specs.TextSetting.{reading_as, readings_as, texts_under}
use Rattle.mdview.proofs.AlikeTexts.{at_next, few_next, fronts_next, of_both}
use Rattle.mdview.proofs.ReadTexts.{IsTextAt, none_next, one_passes, taken_next}
use Rattle.mdview.proofs.ToldTexts.{shallow_readings, on_err, told_deep}
use Rattle.mdview.proofs.inlines.UnitTextReader.read_alike.Goals as goal

pub read_or_keep-requires : goal.read_or_keep-requires
read_or_keep-requires g c =
    let s = texts_under c.args.self.now c.args.room.now in
    let read = IfSome_then c.args.held c.requires.held (λ u did. did.read) in
    let none = IfSome_then c.args.held c.requires.held (λ u did. shallow_readings s u.now did) in
    let kept = of_both _ _ _ (λ r reads passes. (reads (reading_of s.entities s.before) read, passes (is_deep s.options.max_spans) none))
    c.kept_reading-kept.result c.kept_reading-kept.ensures.reading c.kept_reading-kept.ensures.shallow in
    rw c.loop-i.invariant.stays.0 (record { kept = kept })

pub returns-in_err-read_or_keep-clause-readings : goal.returns-in_err-read_or_keep-clause-readings
returns-in_err-read_or_keep-clause-readings g c =
    let w : IsTextAt c.args.texts.now (map string_bytes c.args.texts.now) c.loop-i.i c.index-texts-i.result =
    record { bytes = refl; below = c.loop-i-test.true; at = c.index-texts-i.is } in
    let s = texts_under c.args.self.now c.args.room.now in
    let deep = rw (c.loop-i.invariant.stays.0, c.as_str-text.ensures.value) at c.in_err-read_or_keep.ensures.reading.1.1 in (
      on_err _ c.from_residual.result _ c.from_residual.ensures.1,
      told_deep c.from_residual.result _ _ c.from_residual.ensures.1 (λ too. one_passes c.args.texts.now (map string_bytes c.args.texts.now) c.loop-i.i c.index-texts-i.result w
          (reading_as s) (is_deep s.options.max_spans) (deep (ap Err too))),
    )

pub loop-i-preserved : goal.loop-i-preserved
loop-i-preserved g c =
    let w : IsTextAt c.args.texts.now (map string_bytes c.args.texts.now) c.loop-i.i c.index-texts-i.result =
    record { bytes = refl; below = c.loop-i-test.true; at = c.index-texts-i.is } in
    let s = texts_under c.args.self.now c.args.room.now in
    let deep = is_deep s.options.max_spans in
    let before = c.args.inlines.now.items in
    let so_far = readings_as s (take c.loop-i.i (map string_bytes c.args.texts.now)) in
    let one = c.in_ok-read_or_keep.field-0 in
    let reading = rw (c.loop-i.invariant.stays.0, c.as_str-text.ensures.value) at c.in_ok-read_or_keep.ensures.reading in
    rw c.in_ok-push.ensures.items (record {
      readings = ap (λ l. l ++ one ∷ []) c.loop-i.invariant.readings ∙ append_assoc before so_far (one ∷ [])
          ∙ ap (λ l. before ++ l) (taken_next c.args.texts.now (map string_bytes c.args.texts.now) c.loop-i.i c.index-texts-i.result w (reading_as s) deep so_far one refl reading.0);
      shallow = none_next c.args.texts.now (map string_bytes c.args.texts.now) c.loop-i.i c.index-texts-i.result w (reading_as s) deep c.loop-i.invariant.shallow reading.1.0;
      stays = (c.read_or_keep.ensures.stays.0 ∙ c.loop-i.invariant.stays.0, c.read_or_keep.ensures.stays.1 ∙ c.loop-i.invariant.stays.1);
      inlines = omega (arith, c.read_or_keep.ensures.inlines, c.loop-i.invariant.inlines);
      few = few_next c.kept_reading-kept.new.in_front c.loop-i.front c.loop-i.i c.same_up_to-front.result c.loop-i.invariant.few c.same_up_to-front.ensures;
      at = at_next c.kept_reading-kept.new.in_front c.loop-i.front c.loop-i.i c.same_up_to-front.result c.same_up_to-front.ensures;
      front = fronts_next (λ u. u.now.read.unit.texts) c.kept_reading-kept.new.in_front c.loop-i.front c.loop-i.i c.same_up_to-front.result c.args.held (map string_bytes c.args.texts.now) c.as_str-text.result.now c.same_up_to-front.ensures
          (slice_get-map string_bytes c.args.texts.now c.loop-i.i
          ∙ ap (option_map string_bytes) (slice_get_read c.args.texts.now (length c.args.texts.now) c.loop-i.i c.index-texts-i.result refl c.loop-i-test.true c.index-texts-i.is)
          ∙ ap (λ z. Some z) (sym c.as_str-text.ensures.value))
          (λ still. (c.loop-i.invariant.at (c.kept_reading-kept.ensures.front still).0, (c.kept_reading-kept.ensures.front still).1))
          c.loop-i.invariant.front;
    })
