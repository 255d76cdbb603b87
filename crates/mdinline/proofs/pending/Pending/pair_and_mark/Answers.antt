use Rattle.std.proofs.Common.{ℕ, All, Vec, Global, ap, sym, subst, ◌∙◌, arith}
use Rattle.mdinline.specs.held.LeafEvents.{IsTokenOf}
use Rattle.mdinline.specs.declared.tokens.Begun.{Begun}
use Rattle.mdinline.specs.declared.tokens.Token.{Token}
use Rattle.mdinline.proofs.ReadPaired.{pairs, pairs_none}
use Rattle.mdinline.proofs.pending.Pending.pair_and_mark.Goals as goal

pub returns-clause-tokens : goal.returns-clause-tokens
returns-clause-tokens c = λ text h.
    c.mark_from.ensures.tokens text (subst (λ (v : Vec Token Global). All (IsTokenOf text) v.items) (sym c.in_ok-pair_from.ensures.paired.2) h)

pub returns-then-from-len-clause-pieces : goal.returns-then-from-len-clause-pieces
returns-then-from-len-clause-pieces c = λ entities text h. pairs_none entities text c.args.from c.args.self.now c.args.self.now c.args.self.now h (let past = c.if-from-len.true in let long = c.len.ensures ∙ c.args.self.now.runs.ok.0 in omega (arith, past, long))

pub returns-clause-pieces : goal.returns-clause-pieces
returns-clause-pieces c = λ entities text h.
    let now = c.in_ok-pair_from.ensures.paired in
    let marked = c.mark_from.ensures in
    pairs entities text c.args.from c.args.self.now c.pair_from.new.self c.mark_from.new.self h now.1.0 (let below = c.if-from-len.false in let long = c.len.ensures ∙ c.args.self.now.runs.ok.0 in omega (arith, below, long)) now.0 now.1.1 (ap (λ (v : Vec Token Global). v.items) now.2) (ap (λ (v : Vec ℕ Global). v.items) now.4)
    (ap (λ (v : Vec Begun Global). v.items) marked.same.begun)
    (marked.value entities text) marked.spans
