use Rattle.std.proofs.Common.{◌≡◌, ◌+◌, ◌-◌, ◌<◌, ◌++◌, [], ◌∷◌, ap, subst, ◌∙◌, arith, length, refl}
use Rattle.std.proofs.lemmas.Bool.Decides.{nat_tests}
use Rattle.std.proofs.lemmas.Option.{slice_get_read}
use Rattle.inlinespec.specs.InlineEvents.{Enter}
use Rattle.mdinline.specs.held.LeafEvents.{begun_events}
use Rattle.mdinline.specs.SpanKinds.{span_of}
use Rattle.mdinline.proofs.HandedTokens.{all_spans, next_span}
use Rattle.mdinline.proofs.handing.begin_spans.Goals as goal

pub loop-init : goal.loop-init
loop-init g c = (
  [],
  g.met.S.InlineSink.takes_none c.args.sink.now,
  ap (λ k. begun_events c.args.source.now.begun.now k c.args.run.outermost) (let e : c.args.run.begins - 0 ≡ c.args.run.begins = omega arith in e),
)

pub loop-preserved : goal.loop-preserved
loop-preserved g c =
    let so_far = c.loop.invariant in
    let begun = c.args.source.now.begun.now in
    let left = c.args.run.begins - c.loop.counter in
    let b = c.in-Some.begun.now in
    let inside : c.loop.place < length begun = grind (arith, nat_tests, c.in-Some.ensures.lookup.0) in (
      so_far.0 ++ Enter (span_of b.kind) ∷ [],
      g.met.S.InlineSink.takes_more c.args.sink.now c.loop.sink c.enter.new.self so_far.0 (Enter (span_of b.kind) ∷ []) so_far.1 c.in_ok-enter.ensures,
      ap (λ k. (so_far.0 ++ Enter (span_of b.kind) ∷ []) ++ begun_events begun k b.inner) (let e : c.args.run.begins - (c.loop.counter + 1) ≡ left - 1 = omega arith in e)
          ∙ next_span begun left c.loop.place b so_far.0 (begun_events begun c.args.run.begins c.args.run.outermost) (omega (arith, c.loop-test.true)) (slice_get_read begun (length begun) c.loop.place b refl inside c.in-Some.ensures.lookup.1) so_far.2,
    )

pub returns-after-loop : goal.returns-after-loop
returns-after-loop g c =
    let so_far = c.loop.invariant in
    let begun = c.args.source.now.begun.now in
    subst (λ es. g.S.InlineSink.takes c.args.sink.now es c.loop.sink)
    (all_spans begun (c.args.run.begins - c.loop.counter) c.loop.place so_far.0 (begun_events begun c.args.run.begins c.args.run.outermost) (omega (arith, c.loop-test.false)) so_far.2)
    so_far.1
