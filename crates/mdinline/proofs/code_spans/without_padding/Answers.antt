use Rattle.std.proofs.Common.{refl, sym, ◌∙◌}
use Rattle.mdinline.proofs.PaddedCode.{padded_part}
use Rattle.mdinline.proofs.code_spans.without_padding.Goals as goal

pub returns-then-is_padded-clause-value : goal.returns-then-is_padded-clause-value
returns-then-is_padded-clause-value c =
    let h = c.is_padded.ensures in
    padded_part c.args.text.now _ c.args.start c.args.end refl c.requires.inside (h.two c.if-is_padded.true) (sym h.value ∙ c.if-is_padded.true)
