use Rattle.mdtext.proofs.NamedPlaces.{both_utf8}
use Rattle.mdtext.proofs.named_texts.NamedTextsDebug.fmt.Goals as goal

pub named_text-requires-clause-name : goal.named_text-requires-clause-name
named_text-requires-clause-name g c =
    let spans = c.deref-span-items in
    (both_utf8 c.deref.result.now c.self.inside.bytes.items spans.result.now c.self.inside.spans.items c.loop-span.span-index _ c.deref.ensures.value spans.ensures.value c.self.invariant c.loop-span-test.true).0

pub named_text-requires-clause-text : goal.named_text-requires-clause-text
named_text-requires-clause-text g c =
    let spans = c.deref-span-items in
    (both_utf8 c.deref.result.now c.self.inside.bytes.items spans.result.now c.self.inside.spans.items c.loop-span.span-index _ c.deref.ensures.value spans.ensures.value c.self.invariant c.loop-span-test.true).1
