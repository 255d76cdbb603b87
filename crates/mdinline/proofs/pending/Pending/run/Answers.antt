use Rattle.std.proofs.Common.{[], ◌∷◌, ◌++◌, refl, ap, ◌∙◌}
use Rattle.mdinline.proofs.ReadPending.{holds_run}
use Rattle.mdinline.proofs.pending.Pending.run.Goals as goal

pub returns-clause-pieces : goal.returns-clause-pieces
returns-clause-pieces c = λ entities text handed ps h.
    holds_run entities text handed c.args.self.now _ ps h c.args.run c.in_ok-push-2.ensures.items c.in_ok-push-3.ensures.items
    (c.in_ok-push.ensures.items ∙ ap (λ k. c.args.self.now.places.items ++ k ∷ []) (c.len.ensures ∙ c.args.self.now.tokens.ok.0)) refl refl
