use Rattle.std.proofs.Common.{Ok, Err, ap, ◌∙◌, sym, subst}
use Rattle.std.specs.BTreeMap.{insert_entry}
use Rattle.std.specs.Cmp.Lexicographic.{slice_cmp}
use Rattle.std.specs.Ordering.{nat_cmp}
use Rattle.mdtext.specs.NamedTexts.{AreNamedTexts, named_texts}
use Rattle.mdtext.proofs.NamedPlaces.{view_over, view_in, held_over, held_in, held_still, place_seen}
use Rattle.mdtext.proofs.named_texts.NamedTexts.put.Goals as goal

pub invariant_of-self : goal.invariant_of-self
invariant_of-self c = held_still c.self.inside.bytes.items c.keep.ensures.longer.0 c.keep.new.bytes.items c.self.inside.spans.items c.self.invariant c.keep.ensures.longer.1

pub invariant_of-self-in-Ok : goal.invariant_of-self-in-Ok
invariant_of-self-in-Ok c =
    let bytes = c.self.inside.bytes.items in
    let spans = c.self.inside.spans.items in
    let place = place_seen _ bytes _ c.args.name.now _ spans (Ok c.in-Ok.place) c.deref.ensures.value c.deref-2.ensures.value c.as_bytes.ensures.value c.in-Ok.ensures in
    let kept = c.in_ok-span.ensures.ok in
    held_over bytes c.args.name.now c.args.text.now c.keep.new.bytes.items spans c.self.invariant c.in_ok-span.span c.utf8.name c.utf8.text kept.0 kept.1 kept.2 kept.3 c.in-Ok.place place

pub invariant_of-self-in-Err : goal.invariant_of-self-in-Err
invariant_of-self-in-Err c =
    let bytes = c.self.inside.bytes.items in
    let spans = c.self.inside.spans.items in
    let place = place_seen _ bytes _ c.args.name.now _ spans (Err c.in-Err.place) c.deref.ensures.value c.deref-2.ensures.value c.as_bytes.ensures.value c.in-Err.ensures in
    let kept = c.in_ok-span.ensures.ok in
    subst (AreNamedTexts c.keep.new.bytes.items) (sym c.in_ok-insert-in-Err.ensures.items)
    (held_in bytes c.args.name.now c.args.text.now c.keep.new.bytes.items spans c.self.invariant c.in_ok-span.span c.utf8.name c.utf8.text kept.0 kept.1 kept.2 kept.3 c.in-Err.place place)

pub invariant_of-self-in_err-insert-in-Err : goal.invariant_of-self-in_err-insert-in-Err
invariant_of-self-in_err-insert-in-Err c =
    subst (AreNamedTexts c.keep.new.bytes.items) (sym c.in_err-insert-in-Err.ensures.items)
    (held_still c.self.inside.bytes.items c.keep.ensures.longer.0 c.keep.new.bytes.items c.self.inside.spans.items c.self.invariant c.keep.ensures.longer.1)

pub returns-in-Ok : goal.returns-in-Ok
returns-in-Ok c =
    let bytes = c.self.inside.bytes.items in
    let spans = c.self.inside.spans.items in
    let place = place_seen _ bytes _ c.args.name.now _ spans (Ok c.in-Ok.place) c.deref.ensures.value c.deref-2.ensures.value c.as_bytes.ensures.value c.in-Ok.ensures in
    let kept = c.in_ok-span.ensures.ok in
    view_over bytes c.args.name.now c.args.text.now c.keep.new.bytes.items spans c.self.invariant c.in_ok-span.span c.utf8.name c.utf8.text kept.0 kept.1 kept.2 kept.3 c.in-Ok.place place
    ∙ ap (λ table. insert_entry (slice_cmp nat_cmp) table c.args.name.now c.args.text.now) c.self.view_is

pub returns-in_ok-insert-in-Err : goal.returns-in_ok-insert-in-Err
returns-in_ok-insert-in-Err c =
    let bytes = c.self.inside.bytes.items in
    let spans = c.self.inside.spans.items in
    let place = place_seen _ bytes _ c.args.name.now _ spans (Err c.in-Err.place) c.deref.ensures.value c.deref-2.ensures.value c.as_bytes.ensures.value c.in-Err.ensures in
    let kept = c.in_ok-span.ensures.ok in
    ap (named_texts c.keep.new.bytes.items) c.in_ok-insert-in-Err.ensures.items
    ∙ view_in bytes c.args.name.now c.args.text.now c.keep.new.bytes.items spans c.self.invariant c.in_ok-span.span c.utf8.name c.utf8.text kept.0 kept.1 kept.2 kept.3 c.in-Err.place place
    ∙ ap (λ table. insert_entry (slice_cmp nat_cmp) table c.args.name.now c.args.text.now) c.self.view_is
