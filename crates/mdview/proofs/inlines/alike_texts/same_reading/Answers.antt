use Rattle.std.proofs.Common.{◌≡◌, ◌<◌, List, ℕ, Some, length, map, option_map, string_bytes, refl, sym, ◌∙◌, ap, arith}
use Rattle.std.proofs.lemmas.Bool.Decides.{nat_tests}
use Rattle.std.proofs.lemmas.Option.{slice_get-map, slice_get_read}
use Rattle.std.specs.Prelude.{slice_get}
use Rattle.std.specs.List.{list_any}
use Rattle.inlinespec.specs.ParsedText.{ParsedText}
use Rattle.mdview.proofs.AlikeTexts.{passes_not, reads_so, same_texts}
use Rattle.mdview.proofs.inlines.alike_texts.same_reading.Goals as goal

pub returns-then-eq-clause-reading : goal.returns-then-eq-clause-reading
returns-then-eq-clause-reading c =
    λ f all.
    let texts = c.texts.result.now in
    let readings : List ParsedText = c.inlines.result.now in
    let i = c.args.i in
    let inside : i < length texts = grind (arith, nat_tests, c.in_ok-there.ensures.lookup.0) in
    let there : slice_get texts i ≡ Some c.in_ok-there.there.now = slice_get_read texts (length texts) i c.in_ok-there.there.now refl inside c.in_ok-there.ensures.lookup.1 in
    let within : i < length readings = grind (arith, nat_tests, c.in_ok-reading.ensures.lookup.0) in
    let here : slice_get readings i ≡ Some c.in_ok-reading.reading.now = slice_get_read readings (length readings) i c.in_ok-reading.reading.now refl within c.in_ok-reading.ensures.lookup.1 in
    let bytes : map string_bytes texts ≡ c.args.held.now.read.unit.texts = c.texts.ensures ∙ ap (λ z. z.texts) c.unit.ensures in
    let same : string_bytes c.in_ok-there.there.now ≡ c.args.text.now = sym c.as_str.ensures.value ∙ same_texts c.as_str.result.now c.args.text.now c.if-eq.ensures in
    reads_so f texts c.args.held.now.read.unit.texts readings i c.in_ok-there.there.now c.in_ok-reading.reading.now bytes (c.inlines.ensures.value ∙ all) there here ∙ ap f same

pub returns-then-eq-clause-shallow : goal.returns-then-eq-clause-shallow
returns-then-eq-clause-shallow c =
    λ p none.
    let readings : List ParsedText = c.inlines.result.now in
    let i = c.args.i in
    let within : i < length readings = grind (arith, nat_tests, c.in_ok-reading.ensures.lookup.0) in
    let here : slice_get readings i ≡ Some c.in_ok-reading.reading.now = slice_get_read readings (length readings) i c.in_ok-reading.reading.now refl within c.in_ok-reading.ensures.lookup.1 in
    passes_not p readings i c.in_ok-reading.reading.now (ap (λ l. list_any p l) c.inlines.ensures.value ∙ none) here

pub returns-then-eq-clause-text : goal.returns-then-eq-clause-text
returns-then-eq-clause-text c =
    λ there_is.
    let texts = c.texts.result.now in
    let i = c.args.i in
    let inside : i < length texts = grind (arith, nat_tests, c.in_ok-there.ensures.lookup.0) in
    let there : slice_get texts i ≡ Some c.in_ok-there.there.now = slice_get_read texts (length texts) i c.in_ok-there.there.now refl inside c.in_ok-there.ensures.lookup.1 in
    let bytes : map string_bytes texts ≡ c.args.held.now.read.unit.texts = c.texts.ensures ∙ ap (λ z. z.texts) c.unit.ensures in
    let same : string_bytes c.in_ok-there.there.now ≡ c.args.text.now = sym c.as_str.ensures.value ∙ same_texts c.as_str.result.now c.args.text.now c.if-eq.ensures in
    ap (λ (z : List (List ℕ)). slice_get z i) (sym bytes) ∙ slice_get-map string_bytes texts i ∙ ap (option_map string_bytes) there ∙ ap (λ z. Some z) same
