use Rattle.std.proofs.Common.{◌<◌, Ok, Err, Some, length, ap, ◌∙◌, sym, arith, subst}
use Rattle.std.proofs.lemmas.List.{length-map}
use Rattle.std.specs.List.{slice_range}
use Rattle.std.specs.Map.{lookup}
use Rattle.std.specs.Str.{IsUtf8, bytes_eq}
use Rattle.mdtext.specs.NamedTexts.{named_text, named_texts}
use Rattle.mdtext.proofs.NamedPlaces.{looked_up_nowhere, place_seen, text_found, text_is_utf8}
use Rattle.mdtext.proofs.named_texts.NamedTexts.get.Goals as goal

pub from_utf8_unchecked-requires : goal.from_utf8_unchecked-requires
from_utf8_unchecked-requires c =
    let bytes = c.self.inside.bytes.items in
    let spans = c.self.inside.spans.items in
    let place = place_seen _ bytes _ c.args.name.now _ spans (Ok c.in-Ok.place) c.deref.ensures.value c.deref-2.ensures.value c.as_bytes.ensures.value c.in-Ok.ensures in
    let within : c.in-Ok.place < length spans = omega (arith, place.0, length-map spans (named_text bytes)) in
    let span = c.index-span.result.now in
    subst (λ b. IsUtf8 (slice_range b span.text span.end)) (sym c.deref-in-Ok.ensures.value) (text_is_utf8 bytes spans c.self.invariant c.args.name.now c.in-Ok.place span span within c.index-span.ensures)

pub returns-in-Ok : goal.returns-in-Ok
returns-in-Ok c =
    let bytes = c.self.inside.bytes.items in
    let spans = c.self.inside.spans.items in
    let place = place_seen _ bytes _ c.args.name.now _ spans (Ok c.in-Ok.place) c.deref.ensures.value c.deref-2.ensures.value c.as_bytes.ensures.value c.in-Ok.ensures in
    let within : c.in-Ok.place < length spans = omega (arith, place.0, length-map spans (named_text bytes)) in
    let span = c.index-span.result.now in
    ap Some (c.from_utf8_unchecked.ensures ∙ ap (λ b. slice_range b span.text span.end) c.deref-in-Ok.ensures.value)
    ∙ text_found bytes spans c.self.invariant c.args.name.now c.in-Ok.place span span within c.index-span.ensures place
    ∙ ap (lookup (bytes_eq c.args.name.now)) c.self.view_is

pub returns-in-Err : goal.returns-in-Err
returns-in-Err c =
    let bytes = c.self.inside.bytes.items in
    let spans = c.self.inside.spans.items in
    let place = place_seen _ bytes _ c.args.name.now _ spans (Err c.in-Err.field-0) c.deref.ensures.value c.deref-2.ensures.value c.as_bytes.ensures.value c.in-Err.ensures in
    sym (looked_up_nowhere (named_texts bytes spans) c.args.name.now c.in-Err.field-0 place.1 place.2) ∙ ap (lookup (bytes_eq c.args.name.now)) c.self.view_is
