use Rattle.std.proofs.Common.{subst}
use Rattle.mdblock.specs.held.HandedIn.{gathered_texts, gathered_definitions}
use Rattle.mdblock.specs.held.OpenLeaves.{IsLeafOf}
use Rattle.mdblock.proofs.LeafEndings.{paragraph_ended, paragraph_defined, fence_ended, fence_defined, html_ended, html_defined, code_ended, code_defined, table_ended, table_defined}
use Rattle.mdblock.proofs.leaf.Leaf.end.Goals as goal

pub returns-in-Paragraph-clause-left : goal.returns-in-Paragraph-clause-left
returns-in-Paragraph-clause-left c = λ kind begin later h.
    let g = c.args.gathering.now in
    paragraph_ended g.entities.now c.args.first c.in-Paragraph.paragraph kind begin later (gathered_texts g) (gathered_texts c.end.new.gathering) c.end.result c.end.ensures.left (subst (λ w. IsLeafOf g.entities.now w kind begin later) c.in-Paragraph.is h)

pub returns-in-Paragraph-clause-found : goal.returns-in-Paragraph-clause-found
returns-in-Paragraph-clause-found c = λ kind begin later h.
    let g = c.args.gathering.now in
    paragraph_defined g.entities.now c.in-Paragraph.paragraph kind begin later (gathered_definitions g) (gathered_definitions c.end.new.gathering) c.end.result c.end.ensures.found (subst (λ w. IsLeafOf g.entities.now w kind begin later) c.in-Paragraph.is h)

pub returns-in-Fence-clause-left : goal.returns-in-Fence-clause-left
returns-in-Fence-clause-left c = λ kind begin later h.
    let g = c.args.gathering.now in
    fence_ended g.entities.now c.args.first c.in-Fence.fence kind begin later (gathered_texts g) _ c.end-in-Fence.ensures.value (subst (λ w. IsLeafOf g.entities.now w kind begin later) c.in-Fence.is h)

pub returns-in-Fence-clause-found : goal.returns-in-Fence-clause-found
returns-in-Fence-clause-found c = λ kind begin later h.
    let g = c.args.gathering.now in
    fence_defined g.entities.now c.in-Fence.fence kind begin later (gathered_definitions g) (subst (λ w. IsLeafOf g.entities.now w kind begin later) c.in-Fence.is h)

pub returns-in-Html-clause-left : goal.returns-in-Html-clause-left
returns-in-Html-clause-left c = λ kind begin later h.
    let g = c.args.gathering.now in
    html_ended g.entities.now c.args.first c.in-Html.html kind begin later (gathered_texts g) _ c.end-in-Html.ensures.value (subst (λ w. IsLeafOf g.entities.now w kind begin later) c.in-Html.is h)

pub returns-in-Html-clause-found : goal.returns-in-Html-clause-found
returns-in-Html-clause-found c = λ kind begin later h.
    let g = c.args.gathering.now in
    html_defined g.entities.now c.in-Html.html kind begin later (gathered_definitions g) (subst (λ w. IsLeafOf g.entities.now w kind begin later) c.in-Html.is h)

pub returns-in-Code-clause-left : goal.returns-in-Code-clause-left
returns-in-Code-clause-left c = λ kind begin later h.
    let g = c.args.gathering.now in
    code_ended g.entities.now c.args.first c.in-Code.code kind begin later (gathered_texts g) _ c.end-in-Code.ensures.value (subst (λ w. IsLeafOf g.entities.now w kind begin later) c.in-Code.is h)

pub returns-in-Code-clause-found : goal.returns-in-Code-clause-found
returns-in-Code-clause-found c = λ kind begin later h.
    let g = c.args.gathering.now in
    code_defined g.entities.now c.in-Code.code kind begin later (gathered_definitions g) (subst (λ w. IsLeafOf g.entities.now w kind begin later) c.in-Code.is h)

pub returns-in-Table-clause-left : goal.returns-in-Table-clause-left
returns-in-Table-clause-left c = λ kind begin later h.
    let g = c.args.gathering.now in
    table_ended g.entities.now c.args.first c.in-Table.table kind begin later (gathered_texts g) _ c.end-in-Table.ensures.value (subst (λ w. IsLeafOf g.entities.now w kind begin later) c.in-Table.is h)

pub returns-in-Table-clause-found : goal.returns-in-Table-clause-found
returns-in-Table-clause-found c = λ kind begin later h.
    let g = c.args.gathering.now in
    table_defined g.entities.now c.in-Table.table kind begin later (gathered_definitions g) (subst (λ w. IsLeafOf g.entities.now w kind begin later) c.in-Table.is h)
