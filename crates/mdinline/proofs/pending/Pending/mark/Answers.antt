use Rattle.mdinline.proofs.pending.Pending.mark.Goals as goal

pub returns-clause-tokens : goal.returns-clause-tokens
returns-clause-tokens c = λ text h. c.replace.ensures.tokens text tt h
