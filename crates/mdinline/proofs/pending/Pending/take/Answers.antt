use Rattle.std.proofs.Common.{refl}
use Rattle.mdinline.proofs.ReadPending.{holds_after, still_there}
use Rattle.mdinline.proofs.pending.Pending.take.Goals as goal

pub returns-clause-pieces : goal.returns-clause-pieces
returns-clause-pieces c = λ entities text handed ps h.
    holds_after entities text handed c.args.self.now _ ps h c.take.result c.take.ensures.unused c.take.ensures.empty refl refl refl refl

pub returns-clause-opened : goal.returns-clause-opened
returns-clause-opened c = λ entities text handed ps h.
    let now = c.args.self.now in
    still_there entities text handed now (record { tokens = now.tokens; runs = now.runs; places = now.places; openings = c.take.new.self; pairing = now.pairing; paired = now.paired; begun = now.begun }) ps h c.take.result c.take.ensures.unused refl refl
