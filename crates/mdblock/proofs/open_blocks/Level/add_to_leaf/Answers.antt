use Rattle.std.proofs.Common.{ap, ◌∙◌, subst}
use Rattle.std.proofs.lemmas.Result.{on_ok_weaker}
use Rattle.mdblock.specs.declared.open_blocks.OpenBlock as open_block
use Rattle.mdblock.specs.held.LevelSteps.{KeepsLeaf}
use Rattle.mdblock.proofs.FenceGrows.{bl_fence_reads}
use Rattle.mdblock.proofs.LeavesGrow.{code_reads, html_reads, row_reads}
use Rattle.mdblock.proofs.LevelGrows.{paragraph_reads}
use Rattle.mdblock.proofs.open_blocks.Level.add_to_leaf.Goals as goal

pub returns-then-ends_with-clause-adds : goal.returns-then-ends_with-clause-adds
returns-then-ends_with-clause-adds c = on_ok_weaker c.add_last_line.result (λ adds. adds c.args.gathering.now) c.add_last_line.ensures.adds

pub returns-in_ok-push_line-in-Leaf-Paragraph-clause-adds : goal.returns-in_ok-push_line-in-Leaf-Paragraph-clause-adds
returns-in_ok-push_line-in-Leaf-Paragraph-clause-adds c =
    let e = c.in_ok-push_line-in-Leaf-Paragraph.ensures in
    paragraph_reads c.args.self.now c.args.gathering.now c.args.line.now c.in-Leaf-Paragraph.paragraph c.push_line.new.self c.args.continuation
    (c.in-Leaf-Paragraph.is ∙ ap open_block.Leaf c.in-Leaf-Paragraph.field-0-is) (c.is_matched.ensures.yes c.if-not-is_matched.false) c.requires.step e.text e.last

pub returns-in_ok-push_line-in-Leaf-Fence-clause-adds : goal.returns-in_ok-push_line-in-Leaf-Fence-clause-adds
returns-in_ok-push_line-in-Leaf-Fence-clause-adds c =
    let is = c.in-Leaf-Fence.is ∙ ap open_block.Leaf c.in-Leaf-Fence.field-0-is in
    bl_fence_reads c.args.self.now c.args.gathering.now c.args.line.now c.in-Leaf-Fence.fence c.push_line-in-Leaf-Fence.new.self
    is (subst (λ o. KeepsLeaf o c.args.line.now) is (c.ends_with.ensures.goes_on c.if-ends_with.false)) c.in_ok-push_line-in-Leaf-Fence.ensures.step

pub returns-in_ok-push_row-in-Leaf-Table-clause-adds : goal.returns-in_ok-push_row-in-Leaf-Table-clause-adds
returns-in_ok-push_row-in-Leaf-Table-clause-adds c =
    let e = c.in_ok-push_row-in-Leaf-Table.ensures in
    row_reads c.args.self.now c.args.gathering.now c.push_row.new.gathering c.args.line.now c.in-Leaf-Table.table c.push_row.new.self
    (c.in-Leaf-Table.is ∙ ap open_block.Leaf c.in-Leaf-Table.field-0-is) e.row e.texts e.definitions

pub returns-in_ok-push_line-in-Leaf-Html-clause-adds : goal.returns-in_ok-push_line-in-Leaf-Html-clause-adds
returns-in_ok-push_line-in-Leaf-Html-clause-adds c =
    let is = c.in-Leaf-Html.is ∙ ap open_block.Leaf c.in-Leaf-Html.field-0-is in
    html_reads c.args.self.now c.args.gathering.now c.args.line.now c.in-Leaf-Html.html c.push_line-in-Leaf-Html.new.self
    is (subst (λ o. KeepsLeaf o c.args.line.now) is (c.ends_with.ensures.goes_on c.if-ends_with.false)) c.in_ok-push_line-in-Leaf-Html.ensures.step

pub returns-in_ok-push_line-in-Leaf-Code-clause-adds : goal.returns-in_ok-push_line-in-Leaf-Code-clause-adds
returns-in_ok-push_line-in-Leaf-Code-clause-adds c =
    code_reads c.args.self.now c.args.gathering.now c.args.line.now c.in-Leaf-Code.code c.push_line-in-Leaf-Code.new.self
    (c.in-Leaf-Code.is ∙ ap open_block.Leaf c.in-Leaf-Code.field-0-is) c.in_ok-push_line-in-Leaf-Code.ensures
