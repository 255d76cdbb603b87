use Rattle.std.proofs.Common.{◌++◌, [], subst, refl}
use Rattle.mdinline.specs.held.LeafEvents.{token_events, tokens_events}
use Rattle.mdinline.proofs.HandedTokens.{all_tokens, next_token}
use Rattle.mdinline.proofs.handing.hand_out.Goals as goal

pub loop-token-init : goal.loop-token-init
loop-token-init g c = ([], g.met.S.InlineSink.takes_none c.args.sink.now, refl)

pub loop-token-preserved : goal.loop-token-preserved
loop-token-preserved g c =
    let so_far = c.loop-token.invariant in
    let entities = c.args.source.now.entities.now in
    let text = c.args.source.now.text.now in
    let begun = c.args.source.now.begun.now in
    let token = c.token-item.result in (
      so_far.0 ++ token_events entities text begun token,
      g.met.S.InlineSink.takes_more c.args.sink.now c.loop-token.sink c.hand.new.sink so_far.0 (token_events entities text begun token) so_far.1 c.in_ok-hand.ensures,
      next_token entities text begun c.args.tokens.now c.loop-token.token-index token so_far.0 (tokens_events entities text begun c.args.tokens.now) c.loop-token-test.true c.token-item.is so_far.2,
    )

pub returns : goal.returns
returns g c =
    let so_far = c.loop-token.invariant in
    let entities = c.args.source.now.entities.now in
    let text = c.args.source.now.text.now in
    let begun = c.args.source.now.begun.now in
    subst (λ es. g.S.InlineSink.takes c.args.sink.now es c.loop-token.sink)
    (all_tokens entities text begun c.args.tokens.now c.loop-token.token-index so_far.0 (tokens_events entities text begun c.args.tokens.now) c.loop-token-test.false so_far.2) so_far.1
