-- The content of a code span, by its place in the text.
use Rattle.std.proofs.Common.{◌≡◌, ℕ, ◌+◌, ◌-◌, ◌≤◌, ◌<◌, true, List, length, take, drop, ap, sym, ◌∙◌, arith, length-drop, if◌then◌else◌}
use Rattle.std.specs.List.{slice_range}
use Rattle.std.proofs.lemmas.List.{drop-drop, drop-take, length-take-le, take-take}
use Rattle.mdscan.specs.Spans.{part}
use Rattle.inlinespec.specs.CodeSpans.{as_one_line, is_padded, unpadded}

-- what is left where a space goes from each end
pub padded_part : (text inside : List ℕ) (start end : ℕ) → inside ≡ slice_range text start end → end ≤ length text → 1 < length inside → is_padded (as_one_line inside) ≡ true →
    part text (record { start = start + 1; end = end - 1 }) ≡ unpadded (slice_range text start end)
padded_part text inside start end is within two h =
    let long : length inside ≡ end - start = ap length is ∙ length-take-le (end - start) (drop start text) (omega (arith, length-drop start text, within)) in
    let n = length inside in
    let room : 1 + (n - 1) ≡ end - start = omega (arith, two, long) in
    let padded : is_padded (as_one_line (slice_range text start end)) ≡ true = ap (λ xs. is_padded (as_one_line xs)) (sym is) ∙ h in
    ap (λ k. take k (drop (start + 1) text)) (let k : end - 1 - (start + 1) ≡ n - 1 - 1 = omega (arith, long) in k)
    ∙ ap (λ xs. take (n - 1 - 1) xs) (ap (λ k. drop k text) (let k : start + 1 ≡ 1 + start = omega arith in k) ∙ later)
    ∙ sym (take-take (n - 1 - 1) (n - 1) (drop 1 (drop start text)) (omega arith))
    ∙ ap (λ xs. take (n - 1 - 1) xs) (sym (drop-take 1 (n - 1) (drop start text)))
    ∙ ap (λ k. take (n - 1 - 1) (drop 1 (take k (drop start text)))) room
    ∙ ap (λ xs. take (length xs - 1 - 1) (drop 1 (slice_range text start end))) is
    ∙ sym (ap (λ b. if b then slice_range (slice_range text start end) 1 (length (slice_range text start end) - 1) else slice_range text start end) padded)
  where
    later : drop (1 + start) text ≡ drop 1 (drop start text)
    later = ap (λ k. drop k text) (omega arith) ∙ sym (drop-drop 1 start text)
