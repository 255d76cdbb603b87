use Rattle.std.proofs.Common.{refl, ◌∙◌}
use Rattle.mdinline.proofs.ReadPending.{holds_open}
use Rattle.mdinline.proofs.pending.Pending.open.Goals as goal

pub returns-clause-pieces : goal.returns-clause-pieces
returns-clause-pieces c = λ entities text handed ps h.
    holds_open entities text handed c.args.self.now _ ps h _ (c.len.ensures ∙ c.args.self.now.tokens.ok.0) (c.len-2.ensures ∙ c.args.self.now.runs.ok.0)
    c.in_ok-push-2.ensures.items refl refl refl c.in_ok-push.ensures.unused
