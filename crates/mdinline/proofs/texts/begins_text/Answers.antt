use Rattle.std.proofs.Common.{◌≡◌, ◌∙◌, false, get_or, sym, ap, subst, rules}
use Rattle.mdinline.specs.held.PlainText.{is_escaped, is_stop}
use Rattle.mdinline.proofs.PlainTokens.{no_stop}
use Rattle.mdinline.proofs.SignItems.{at_space}
use Rattle.mdinline.proofs.WrittenRuns.{text_there}
use Rattle.mdinline.proofs.texts.begins_text.Goals as goal

pub returns-then-byte-eq32-clause-first : goal.returns-then-byte-eq32-clause-first
returns-then-byte-eq32-clause-first c = λ h. ap is_escaped (ap (λ t. get_or t c.args.at 0) (sym c.as_bytes.ensures.value) ∙ c.if-byte-eq32.true)

pub returns-then-byte-eq32-clause-value : goal.returns-then-byte-eq32-clause-value
returns-then-byte-eq32-clause-value c = λ h entities.
    at_space entities c.args.text.now c.args.at (ap (λ t. get_or t c.args.at 0) (sym c.as_bytes.ensures.value) ∙ c.if-byte-eq32.true) ∙ c.are_spaces_alone.ensures h

pub returns-clause-first : goal.returns-clause-first
returns-clause-first c = λ h.
    let quiet : is_stop (get_or c.args.text.now c.args.at 0) ≡ false = subst (λ t. is_stop (get_or t c.args.at 0) ≡ false) c.as_bytes.ensures.value (sym c.is_stop.ensures.value ∙ search rules) in
    no_stop (get_or c.args.text.now c.args.at 0) quiet

pub returns-clause-value : goal.returns-clause-value
returns-clause-value c = λ h entities.
    let quiet : is_stop (get_or c.args.text.now c.args.at 0) ≡ false = subst (λ t. is_stop (get_or t c.args.at 0) ≡ false) c.as_bytes.ensures.value (sym c.is_stop.ensures.value ∙ search rules) in
    text_there entities c.args.text.now c.args.at quiet (λ e. c.if-byte-eq32.false (ap (λ t. get_or t c.args.at 0) c.as_bytes.ensures.value ∙ e))
