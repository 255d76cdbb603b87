use Rattle.std.proofs.Common.{refl}
use Rattle.mdinline.proofs.ReadPending.{holds_leaf}
use Rattle.mdinline.proofs.pending.Pending.leaf.Goals as goal

pub returns-clause-pieces : goal.returns-clause-pieces
returns-clause-pieces c = λ entities text handed ps qs leaf quiet same h.
    holds_leaf entities text handed c.args.self.now _ ps h c.args.token qs leaf quiet same c.in_ok-push.ensures.items refl refl refl refl
