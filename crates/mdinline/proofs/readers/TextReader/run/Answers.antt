use Rattle.std.proofs.Common.{◌≡◌, ◌+◌, ◌-◌, ◌++◌, [], ap, sym, subst, take, drop, replicate, ◌∷◌, ◌∙◌, arith}
use Rattle.inlinespec.specs.InlineEvents.{written}
use Rattle.mdscan.specs.declared.spans.Span.{Span}
use Rattle.mdpair.specs.Neighbours.{byte_of}
use Rattle.inlinespec.specs.Pieces.{Run}
use Rattle.mdinline.specs.held.LeafEvents.{leaf_events}
use Rattle.mdinline.specs.declared.tokens.Token.TheVariants as t
use Rattle.mdinline.specs.held.ReadPending.{HoldsPieces}
use Rattle.mdinline.proofs.ReadHolding.{is_closed, holds_idle, holds_still, no_items}
use Rattle.mdinline.proofs.ReadSteps.{run_text}
use Rattle.mdinline.proofs.RunTokens.{run_token}
use Rattle.mdinline.proofs.readers.TextReader.run.Goals as goal

pub put-requires-clause-token : goal.put-requires-clause-token
put-requires-clause-token g c = run_token c.args.text.now c.args.at c.args.run c.requires.run c.requires.end c.requires.whole

pub returns-then-is_empty-clause-takes : goal.returns-then-is_empty-clause-takes
returns-then-is_empty-clause-takes g c =
    let entities = c.args.self.now.entities.now in
    let text = c.args.text.now in
    let at = c.args.at in
    let run = c.args.run in
    let old = c.args.self.now.pending in
    let span : Span = record { start = at; end = at + run.length } in
    let none = no_items old.tokens.items c.is_empty.result c.is_empty.ensures c.if-is_empty.true in
    let end = c.requires.end in
    let within = end.within in
    let size : at + run.length - at ≡ run.length = omega arith in
    let is : leaf_events entities text (t.Plain span) ≡ written (replicate run.length (byte_of run.delimiter)) =
    ap (λ n. written (take n (drop at text))) size ∙ ap written (run_text text at run c.requires.run within) in (
      leaf_events entities text (t.Plain span),
      c.in_ok-put.ensures.handed none,
      λ handed ps h.
          subst (λ p. HoldsPieces entities text (handed ++ leaf_events entities text (t.Plain span)) p (Run run ∷ ps)) (sym (c.in_ok-put.ensures.idle none))
          (holds_idle entities text handed old ps h (leaf_events entities text (t.Plain span)) run none (is_closed run.can_open c.if-not-run.true) is),
    )

pub returns-clause-takes : goal.returns-clause-takes
returns-clause-takes g c = (
  [],
  g.met.S.InlineSink.takes_none c.args.sink.now,
  λ handed ps h.
      let entities = c.args.self.now.entities.now in
      let text = c.args.text.now in
      holds_still entities text handed c.run.new.self _ (c.in_ok-run.ensures.pieces entities text handed ps h),
)
