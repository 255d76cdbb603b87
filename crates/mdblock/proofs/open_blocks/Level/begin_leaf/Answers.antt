use Rattle.std.proofs.Common.{ap, length, refl, sym, append-nil, ◌++◌, ◌∙◌, Some}
use Rattle.mdblock.specs.held.HandedIn.{gathered_texts}
use Rattle.mdblock.proofs.LevelLeaves.{leaf_begins, leaf_opens}
use Rattle.mdblock.proofs.open_blocks.Level.begin_leaf.Goals as goal

pub returns-clause-begins : goal.returns-clause-begins
returns-clause-begins c = λ room.
    let g = c.args.gathering.now in
    let e = c.in_ok-step.ensures in
    let p = c.in_ok-put.ensures in
    leaf_begins room c.args.self.now g c.args.line.now (Some c.args.start) c.in_ok-step.step c.put.new.self g c.requires.opening.1 (leaf_opens c.args.start c.requires.leaf) c.requires.full
    (e.step (length g.texts.items)) (sym (append-nil (gathered_texts g)) ∙ ap (λ z. gathered_texts g ++ z) (sym e.no_texts), refl, p.over, λ _. p.last, p.marks)
