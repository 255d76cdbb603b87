use Rattle.std.proofs.Common.{◌≡◌, ℕ, ◌+◌, ◌<◌, ◌≤◌, false, get_or, length, subst, arith}
use Rattle.mdinline.specs.held.PlainText.{is_stop}
use Rattle.mdinline.proofs.PlainTokens.{plain_part}
use Rattle.mdinline.proofs.texts.plain_end.Goals as goal

pub returns-clause-token : goal.returns-clause-token
returns-clause-token c =
    let text = c.args.text.now in
    let at = c.args.at in
    let end = c.text_end.result in
    let same = c.as_bytes.ensures.value in
    let within = subst (λ t. end ≤ length t) same c.text_end.ensures.within in
    let rest = subst (λ t. (i : ℕ) → at + 1 ≤ i → i < end → is_stop (get_or t i 0) ≡ false) same c.text_end.ensures.plain in
    let mark = subst (λ t. end < length t → get_or t end 0 < 128) same c.text_end.ensures.mark in
    (record { ordered = omega (arith, c.text_end.ensures.later); within = within; starts_whole = c.requires.whole; ends_whole = (within, λ lt big. absurd (omega (arith, mark lt, big))) }, plain_part text at end c.text_end.ensures.later within c.requires.first rest)
