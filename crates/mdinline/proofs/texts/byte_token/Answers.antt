use Rattle.std.proofs.Common.{sym, ap, ◌∙◌, get_or}
use Rattle.mdinline.specs.held.PlainText.{is_escaped}
use Rattle.mdinline.proofs.PlainTokens.{byte_plain, byte_span}
use Rattle.mdinline.proofs.texts.byte_token.Goals as goal

pub returns-then-is_escaped-clause-token : goal.returns-then-is_escaped-clause-token
returns-then-is_escaped-clause-token c = byte_span c.args.text.now c.args.at c.utf8.text c.requires.whole c.requires.inside c.requires.mark

pub returns-else-is_escaped-clause-token : goal.returns-else-is_escaped-clause-token
returns-else-is_escaped-clause-token c = (
  byte_span c.args.text.now c.args.at c.utf8.text c.requires.whole c.requires.inside c.requires.mark,
  byte_plain c.args.text.now c.args.at c.requires.inside
      (ap (λ t. is_escaped (get_or t c.args.at 0)) (sym c.as_bytes.ensures.value) ∙ sym c.is_escaped.ensures ∙ c.if-is_escaped.false),
)
