use Rattle.std.proofs.Common.{◌≡◌, ◌∙◌, ◌==◌, ap, arith, drop, false, get_or, is_some, length-drop, ne_eqb, refl, sym, take_all, true}
use Rattle.fast_float.specs.Text.{scan}
use Rattle.serde_json.specs.Read.{number_from, number_of}
use Rattle.mdtext.proofs.entity_reading.is_number.Goals as goal

pub returns-then-byte_at-eq45 : goal.returns-then-byte_at-eq45
unfolding number_of
returns-then-byte_at-eq45 c =
    let s = c.as_bytes-bytes.result.now in
    let signed : get_or c.args.text.now 0 0 ≡ 45 = sym c.byte_at.ensures ∙ c.if-byte_at-eq45.true in
    let parts : c.scan.result ≡ scan (drop 1 s) = c.scan.ensures.parts ∙ ap scan (take_all _ (drop 1 s) (omega (arith, length-drop 1 s))) in
    let read : number_of c.args.text.now ≡ number_from true (scan (drop 1 c.args.text.now)) = rw signed refl in
    c.is_in_range.ensures ∙ ap (λ p. is_some (number_from true p)) (parts ∙ ap (λ b. scan (drop 1 b)) c.as_bytes-bytes.ensures.value) ∙ ap is_some (sym read)

pub returns-else-byte_at-eq45 : goal.returns-else-byte_at-eq45
unfolding number_of
returns-else-byte_at-eq45 c =
    let unsigned : (get_or c.args.text.now 0 0 == 45) ≡ false = ne_eqb _ 45 (λ e. c.if-byte_at-eq45.false (c.byte_at.ensures ∙ e)) in
    let read : number_of c.args.text.now ≡ number_from false (scan c.args.text.now) = rw unsigned refl in
    c.is_in_range-else-byte_at-eq45.ensures ∙ ap (λ p. is_some (number_from false p)) (c.scan-else-byte_at-eq45.ensures.parts ∙ ap scan c.as_bytes-bytes.ensures.value) ∙ ap is_some (sym read)
