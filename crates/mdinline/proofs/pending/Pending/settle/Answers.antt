use Rattle.std.proofs.Common.{ℕ, Vec, Global, refl, ap, take, ◌∙◌}
use Rattle.mdpair.specs.declared.delimiter_runs.DelimiterRun.{DelimiterRun}
use Rattle.mdinline.proofs.ReadPaired.{settles}
use Rattle.mdinline.proofs.pending.Pending.settle.Goals as goal

pub returns-clause-pieces : goal.returns-clause-pieces
returns-clause-pieces c = λ entities text h.
    let from = c.args.from in
    let now = c.in_ok-pair_and_mark.ensures in
    settles entities text from c.args.self.now c.pair_and_mark.new.self _ h (now.pieces entities text h) refl refl
    (c.truncate.ensures.items ∙ ap (λ (v : Vec DelimiterRun Global). take from v.items) now.runs)
    (c.truncate-2.ensures.items ∙ ap (λ (v : Vec ℕ Global). take from v.items) now.places)
