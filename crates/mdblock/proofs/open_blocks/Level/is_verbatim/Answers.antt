use Rattle.std.proofs.Common.{not, sym, ◌∙◌, subst}
use Rattle.mdblock.specs.held.LevelSteps.{IsVerbatim}
use Rattle.mdblock.proofs.LevelAdds.{shut_verbatim, leaf_verbatim, quote_verbatim, open_verbatim, ended_verbatim}
use Rattle.mdblock.proofs.open_blocks.Level.is_verbatim.Goals as goal

pub returns-in-Shut : goal.returns-in-Shut
returns-in-Shut c = shut_verbatim c.args.self.now.last c.in-Shut.is

pub returns-in-Leaf : goal.returns-in-Leaf
returns-in-Leaf c = subst (IsVerbatim c.args.self.now.last) (sym c.is_verbatim.ensures) (leaf_verbatim c.args.self.now.last c.in-Leaf.leaf c.in-Leaf.is)

pub returns-in-Quote : goal.returns-in-Quote
returns-in-Quote c = quote_verbatim c.args.self.now.last c.in-Quote.field-0 c.in-Quote.is

pub returns-then-is_open : goal.returns-then-is_open
returns-then-is_open c = subst (λ z. IsVerbatim c.args.self.now.last (not z.blank)) (sym c.deref.ensures) (open_verbatim c.args.self.now.last c.in-List.inner c.in-List.list c.in-List.is (sym c.is_open.ensures ∙ c.if-is_open.true))

pub returns-else-is_open : goal.returns-else-is_open
returns-else-is_open c = subst (IsVerbatim c.args.self.now.last) (sym c.if-is_open.false) (ended_verbatim c.args.self.now.last c.in-List.inner c.in-List.list c.in-List.is (sym c.is_open.ensures ∙ c.if-is_open.false))
