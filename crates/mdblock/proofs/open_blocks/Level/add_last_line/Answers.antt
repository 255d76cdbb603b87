use Rattle.std.proofs.Common.{ap, sym, ◌∙◌, subst}
use Rattle.mdblock.specs.BlockView.{blocks_view}
use Rattle.mdblock.specs.held.ClosedViews.{found_view}
use Rattle.mdblock.specs.held.LevelSteps.{EndsLeaf, open_leaf_of}
use Rattle.mdblock.specs.held.TreesBehind.{blocks_before}
use Rattle.mdblock.specs.declared.open_blocks.OpenBlock as open_block
use Rattle.mdblock.proofs.FenceGrows.{fence_closes}
use Rattle.mdblock.proofs.LeavesGrow.{html_steps}
use Rattle.mdblock.proofs.open_blocks.Level.add_last_line.Goals as goal

pub returns-in_ok-put-in-Leaf-Fence-clause-adds : goal.returns-in_ok-put-in-Leaf-Fence-clause-adds
returns-in_ok-put-in-Leaf-Fence-clause-adds c = λ gathering.
    let f = c.in-Leaf-Fence.fence in
    let p = c.in_ok-put-in-Leaf-Fence.ensures in
    let is = sym c.replace.ensures.value ∙ c.in-Leaf-Fence.is ∙ ap open_block.Leaf c.in-Leaf-Fence.field-0-is in
    let old = blocks_view c.args.self.now.over.items in
    fence_closes c.args.self.now c.put.new.self gathering c.args.line.now f c.end.result is (subst (λ o. EndsLeaf o c.args.line.now) is c.requires) c.end.ensures.value
    (p.over ∙ ap (λ s. blocks_before old (found_view s.over)) c.over.ensures.value) (p.last ∙ ap (λ s. open_leaf_of s.going) c.over.ensures.value) (p.marks.0, p.marks.1, p.marks.3)

pub returns-in_ok-put-in-Leaf-Html-clause-adds : goal.returns-in_ok-put-in-Leaf-Html-clause-adds
returns-in_ok-put-in-Leaf-Html-clause-adds c = λ gathering.
    let p = c.in_ok-put-in-Leaf-Html.ensures in
    html_steps c.args.self.now c.put-in-Leaf-Html.new.self gathering c.args.line.now c.in-Leaf-Html.html c.in_ok-step-in-Leaf-Html.step
    (sym c.replace.ensures.value ∙ c.in-Leaf-Html.is ∙ ap open_block.Leaf c.in-Leaf-Html.field-0-is) c.in_ok-step-in-Leaf-Html.ensures.step p.over p.last (p.marks.0, p.marks.1, p.marks.3)
