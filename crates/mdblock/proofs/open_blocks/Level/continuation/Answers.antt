use Rattle.std.proofs.Common.{sym, subst, ◌∙◌}
use Rattle.mdblock.specs.held.ContainerContinuations.{ContinuesInQuote, ContinuesInItem}
use Rattle.mdblock.proofs.ContinuationLaws.{leaf_lazy, leaf_continues, quote_continues, list_continues}
use Rattle.mdblock.proofs.open_blocks.Level.continuation.Goals as goal

pub returns-then-is_lazy-clause-last : goal.returns-then-is_lazy-clause-last
returns-then-is_lazy-clause-last c = λ _. leaf_lazy c.args.self.now c.in-Leaf.leaf c.args.line.now c.in-Leaf.is (sym c.is_lazy.ensures ∙ c.if-is_lazy.true)

pub returns-in-Shut-clause-last : goal.returns-in-Shut-clause-last
returns-in-Shut-clause-last c = λ _. c.outside_or_lazy.ensures.shut c.args.self.now c.in-Shut.is

pub returns-else-is_lazy-clause-last : goal.returns-else-is_lazy-clause-last
returns-else-is_lazy-clause-last c = λ _.
    leaf_continues c.args.self.now c.in-Leaf.leaf c.args.line.now c.continuation.result c.in-Leaf.is c.continuation.ensures.takes c.continuation.ensures.leaf

pub returns-in-Quote-clause-last : goal.returns-in-Quote-clause-last
returns-in-Quote-clause-last c = λ out.
    quote_continues c.args.self.now c.in-Quote.inner c.args.line.now c.continuation_in_quote.result c.in-Quote.is
    (subst (λ z. ContinuesInQuote z c.args.line.now c.continuation_in_quote.result) c.deref.ensures c.continuation_in_quote.ensures.quote) out

pub returns-in-List-clause-last : goal.returns-in-List-clause-last
returns-in-List-clause-last c = λ out.
    list_continues c.args.self.now c.in-List.inner c.in-List.list c.args.line.now c.continuation_in.result c.in-List.is
    (subst (λ z. ContinuesInItem z c.in-List.list c.args.line.now c.continuation_in.result) c.deref-in-List.ensures c.continuation_in.ensures.item)
    c.continuation_in.ensures.between out
