use Rattle.std.proofs.Common.{subst, sym, ◌∙◌}
use Rattle.mdblock.specs.held.HeldLevel.{EndsIn}
use Rattle.mdblock.proofs.TipLaws.{shut_tip, leaf_tip_is, quote_tip, item_tip, ended_tip}
use Rattle.mdblock.proofs.open_blocks.Level.+ends_in_text.Goals as goal

pub returns-in-Shut : goal.returns-in-Shut
returns-in-Shut t c = shut_tip c.args.self.now c.in-Shut.is

pub returns-in-Leaf : goal.returns-in-Leaf
returns-in-Leaf t c = subst (EndsIn c.args.self.now) (sym c.is_text.ensures) (leaf_tip_is c.args.self.now c.in-Leaf.leaf c.in-Leaf.is)

pub returns-in-Quote : goal.returns-in-Quote
returns-in-Quote t c = quote_tip c.args.self.now c.in-Quote.inner c.ends_in_text.result c.in-Quote.is (subst (λ z. EndsIn z c.ends_in_text.result) c.deref.ensures c.ends_in_text.ensures)

pub returns-then-is_open : goal.returns-then-is_open
returns-then-is_open t c =
    let r = c.ends_in_text-then-is_open.result in
    item_tip c.args.self.now c.in-List.inner c.in-List.list r c.in-List.is (sym c.is_open.ensures ∙ c.if-is_open.true) (subst (λ z. EndsIn z r) c.deref-then-is_open.ensures c.ends_in_text-then-is_open.ensures)

pub returns-else-is_open : goal.returns-else-is_open
returns-else-is_open t c = subst (EndsIn c.args.self.now) (sym c.if-is_open.false) (ended_tip c.args.self.now c.in-List.inner c.in-List.list c.in-List.is (sym c.is_open.ensures ∙ c.if-is_open.false))
