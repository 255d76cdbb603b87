use Rattle.std.proofs.Common.{◌≡◌, ◌<◌, ◌≤◌, ◌++◌, ◌∷◌, [], Some, length, map, string_bytes, refl, sym, ◌∙◌, ap, arith}
use Rattle.std.proofs.lemmas.Bool.Decides.{nat_tests}
use Rattle.std.specs.Prelude.{unwrap_or, slice_get, option_map}
use Rattle.std.proofs.lemmas.List.{map-append}
use Rattle.std.proofs.lemmas.Option.{slice_get-map, slice_get_past, slice_get_read}
use Rattle.mdblock.proofs.copies.text_from.Goals as goal

pub returns-in_ok-push-in-Some-clause-texts : goal.returns-in_ok-push-in-Some-clause-texts
returns-in_ok-push-in-Some-clause-texts c =
    let texts = c.args.from.now.texts.now in
    let inside : c.args.at < length texts = grind (arith, nat_tests, c.in-Some.ensures.lookup.0) in
    let there : slice_get texts c.args.at ≡ Some c.in-Some.text.now = slice_get_read texts (length texts) c.args.at c.in-Some.text.now refl inside c.in-Some.ensures.lookup.1 in
    let old = c.args.copied.now.items in
    ap (map string_bytes) c.in_ok-push-in-Some.ensures.items
    ∙ map-append string_bytes old _
    ∙ ap (λ z. map string_bytes old ++ z ∷ []) (c.in_ok-from_str-in-Some.ensures.ok ∙ c.deref.ensures)
    ∙ ap (λ z. map string_bytes old ++ unwrap_or z [] ∷ []) (sym (slice_get-map string_bytes c.args.from.now.texts.now c.args.at ∙ ap (option_map string_bytes) there))

pub returns-in_ok-push-in-None-clause-texts : goal.returns-in_ok-push-in-None-clause-texts
returns-in_ok-push-in-None-clause-texts c =
    let texts = c.args.from.now.texts.now in
    let past : length texts ≤ c.args.at = grind (arith, nat_tests, c.in-None.ensures.lookup.0) in
    let there = slice_get_past texts c.args.at past in
    let old = c.args.copied.now.items in
    ap (map string_bytes) c.in_ok-push-in-None.ensures.items
    ∙ map-append string_bytes old _
    ∙ ap (λ z. map string_bytes old ++ z ∷ []) c.new.ensures.bytes
    ∙ ap (λ z. map string_bytes old ++ unwrap_or z [] ∷ []) (sym (slice_get-map string_bytes c.args.from.now.texts.now c.args.at ∙ ap (option_map string_bytes) there))
