use Rattle.std.proofs.lemmas.Result.{on_ok_weaker}
use Rattle.mdblock.proofs.EndedItemLaws.{last_item_ends, shut_ends, leaf_ends, quote_ends, list_keeps}
use Rattle.mdblock.proofs.LevelAdds.{on_both}
use Rattle.mdblock.proofs.open_blocks.Level.end_item.Goals as goal

pub returns-in-Shut-clause-ends : goal.returns-in-Shut-clause-ends
returns-in-Shut-clause-ends c = shut_ends c.args.self.now c.args.gathering.now c.in-Shut.is

pub returns-in-Leaf-clause-ends : goal.returns-in-Leaf-clause-ends
returns-in-Leaf-clause-ends c = leaf_ends c.args.self.now c.args.gathering.now c.in-Leaf.field-0 c.in-Leaf.is

pub returns-in-Quote-clause-ends : goal.returns-in-Quote-clause-ends
returns-in-Quote-clause-ends c = quote_ends c.args.self.now c.args.gathering.now c.in-Quote.field-0 c.in-Quote.is

pub returns-in-List-clause-ends : goal.returns-in-List-clause-ends
returns-in-List-clause-ends c =
    let n = c.end_item.new in
    on_ok_weaker c.end_item.result
    (last_item_ends c.args.self.now c.in-List.inner c.in-List.list c.deref_mut.result.now n.inner n.list c.args.gathering.now n.gathering c.in-List.is c.deref_mut.ensures.value)
    c.end_item.ensures.ends

pub returns-in-List-clause-keeps : goal.returns-in-List-clause-keeps
returns-in-List-clause-keeps c =
    let n = c.end_item.new in
    on_both c.end_item.result (list_keeps c.args.self.now c.in-List.inner c.in-List.list n.inner n.list c.in-List.is) c.end_item.ensures.shut c.end_item.ensures.kind
