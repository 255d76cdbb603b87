-- Code spans and runs of backticks as tokens.
use Rattle.std.proofs.Common.{◌≡◌, ℕ, zero, suc, ◌+◌, ◌-◌, ◌<◌, ◌≤◌, ◌==◌, Bool, true, false, nat_lt, List, length, take, drop, get_or, length-drop, refl, ap, sym, ◌∙◌, subst, arith}
use Rattle.std.specs.List.{prefix_len}
use Rattle.std.specs.Prelude.{slice_index}
use Rattle.std.specs.Str.{IsUtf8, IsCharBoundary}
use Rattle.std.proofs.lemmas.Bool.Decides.{nat_tests}
use Rattle.std.proofs.lemmas.List.{get_or-drop, get_or-take, length-take-le}
use Rattle.std.proofs.lemmas.List.Sums.{prefix_len_passes}
use Rattle.std.proofs.lemmas.Str.{IsCharBoundary-after_ascii}
use Rattle.mdscan.specs.declared.spans.Span.{Span}
use Rattle.mdscan.specs.Spans.{EndsAfterMark, IsSpanOf}
use Rattle.mdinline.specs.held.PlainText.{is_escaped}
use Rattle.mdinline.specs.held.LeafEvents.{IsTokenOf}
use Rattle.mdinline.specs.declared.tokens.Token.TheVariants as t
use Rattle.mdinline.proofs.Marks.{behind_next}
use Rattle.mdinline.proofs.PlainTokens.{plain_bytes}

pub at_mark : (text : List ℕ) (at : ℕ) → at ≤ length text → slice_index text at < 128 → IsCharBoundary text at
at_mark text at within mark = (within, λ lt big. absurd (omega (arith, mark, big)))

-- a run of backticks that is text
module _ (text line : List ℕ) (at start : ℕ) (same : line ≡ text) (u : IsUtf8 text) (inside : at < length text) (first : get_or text at 0 ≡ 96)
    (ends : EndsAfterMark line at start) (is : start ≡ at + 1 + prefix_len (λ b. b == 96) (drop (at + 1) line)) where
  there : (i : ℕ) → i < start - at → get_or text (at + i) 0 ≡ 96
  there zero lt = ap (λ k. get_or text k 0) (let e : at + 0 ≡ at = omega arith in e) ∙ first
  there (suc i) lt =
      let full : start ≡ at + 1 + prefix_len (λ b. b == 96) (drop (at + 1) text) = subst (λ t. start ≡ at + 1 + prefix_len (λ b. b == 96) (drop (at + 1) t)) same is in
      let passes : (get_or (drop (at + 1) text) i 0 == 96) ≡ true = prefix_len_passes (λ b. b == 96) (drop (at + 1) text) i 0 (omega (arith, lt, full)) in
      ap (λ k. get_or text k 0) (let e : at + suc i ≡ at + 1 + i = omega arith in e) ∙ sym (get_or-drop (at + 1) text i 0) ∙ grind (arith, nat_tests, passes)

  pub ticks_token : IsTokenOf text (t.Plain (record { start = at; end = start }))
  ticks_token =
      let end = behind_next text line at at start same u (omega arith) ends in
      let later = end.later in
      let within = end.within in (
        record { ordered = omega (arith, later); within = within; starts_whole = at_mark text at (omega (arith, inside)) (omega (arith, first)); ends_whole = end.whole },
        plain_bytes (take (start - at) (drop at text)) (λ i lt.
            let short : i < start - at = omega (arith, lt, length-take-le (start - at) (drop at text) (omega (arith, length-drop at text, within))) in
            ap is_escaped (get_or-take (start - at) (drop at text) i 0 short ∙ get_or-drop at text i 0 ∙ there i short)),
      )

-- the content of a code span
module _ (text line : List ℕ) (start close : ℕ) (span : Span) (same : line ≡ text) (u : IsUtf8 text) (within : close ≤ length text)
    (begins : IsCharBoundary text start) (ends : IsCharBoundary text close)
    (from : start ≤ span.start) (ordered : span.start ≤ span.end) (to : span.end ≤ close)
    (first : start < span.start → slice_index line (span.start - 1) < 128) (last : span.end < close → slice_index line span.end < 128) where
  starts_by : (b : Bool) → nat_lt start span.start ≡ b → IsCharBoundary text span.start
  starts_by true e =
      let lt : start < span.start = grind (arith, nat_tests, e) in
      subst (IsCharBoundary text) (let one : span.start - 1 + 1 ≡ span.start = omega (arith, lt) in one)
      (IsCharBoundary-after_ascii text (span.start - 1) u (omega (arith, lt, ordered, to, within)) (subst (λ t. slice_index t (span.start - 1) < 128) same (first lt)))
  starts_by false e = subst (IsCharBoundary text) (let eq : start ≡ span.start = grind (arith, nat_tests, e, from) in eq) begins

  ends_by : (b : Bool) → nat_lt span.end close ≡ b → IsCharBoundary text span.end
  ends_by true e =
      let lt : span.end < close = grind (arith, nat_tests, e) in
      at_mark text span.end (omega (arith, to, within)) (subst (λ t. slice_index t span.end < 128) same (last lt))
  ends_by false e = subst (IsCharBoundary text) (let eq : close ≡ span.end = grind (arith, nat_tests, e, to) in eq) ends

  pub content_span : IsSpanOf text span
  content_span = record {
    ordered = ordered;
    within = omega (arith, to, within);
    starts_whole = starts_by (nat_lt start span.start) refl;
    ends_whole = ends_by (nat_lt span.end close) refl;
  }
