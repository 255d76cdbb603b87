use Rattle.std.proofs.Common.{sym, ◌∙◌}
use Rattle.std.proofs.lemmas.Result.{on_ok_weaker}
use Rattle.mdblock.proofs.CloseLeafLaws.{any_leaf_closes}
use Rattle.mdblock.proofs.open_blocks.Level.close_leaf.Goals as goal

pub returns-in_ok-found-in-Leaf-clause-closes : goal.returns-in_ok-found-in-Leaf-clause-closes
returns-in_ok-found-in-Leaf-clause-closes c =
    on_ok_weaker c.push_found_inside.result
    (λ pushed. any_leaf_closes c.args.self.now c.in-Leaf.leaf (sym c.replace.ensures.value ∙ c.in-Leaf.is) c.is_at_front-first.result c.is_at_front-first.ensures
    c.args.gathering.now c.end.new.gathering c.in_ok-found-in-Leaf.found c.push_found_inside.new.over.items
    c.in_ok-found-in-Leaf.ensures.left c.in_ok-found-in-Leaf.ensures.found c.in_ok-found-in-Leaf.ensures.rows pushed)
    c.push_found_inside.ensures.pushed
