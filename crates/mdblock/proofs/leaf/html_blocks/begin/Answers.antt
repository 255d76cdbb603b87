use Rattle.std.proofs.Common.{[], ◌∷◌, ◌++◌, refl, ap, sym, ◌∙◌}
use Rattle.mdblock.proofs.LeafTexts.{joined_one}
use Rattle.mdblock.proofs.leaf.html_blocks.begin.Goals as goal

pub returns-clause-step : goal.returns-clause-step
returns-clause-step c =
    let text = c.args.line.now.line.text in
    c.after.ensures.step (c.args.line.now ∷ []) (record {
      kind_is = refl;
      body = c.in_ok-push_to.ensures ∙ ap (λ t. t ++ text) c.new-body.ensures.bytes ∙ sym (joined_one text);
    })
