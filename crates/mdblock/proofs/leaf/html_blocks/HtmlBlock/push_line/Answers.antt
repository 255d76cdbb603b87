use Rattle.std.proofs.Common.{[], ◌∷◌, ◌++◌, string_bytes, ap, ◌∙◌}
use Rattle.mdblock.proofs.LeafTexts.{html_next}
use Rattle.mdblock.proofs.leaf.html_blocks.HtmlBlock.push_line.Goals as goal

pub returns-clause-step : goal.returns-clause-step
returns-clause-step c = λ kind first later h. record {
  kind_is = h.kind_is;
  body = html_next first later c.args.line.now (string_bytes c.args.self.now.body) _ _ h.body (c.in_ok-push_str.ensures.bytes ∙ ap (λ t. t ++ 10 ∷ []) c.make_room.ensures) c.in_ok-push_to.ensures;
}
