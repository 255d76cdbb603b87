-- A delimiter run as text.
use Rattle.std.proofs.Common.{◌≡◌, ℕ, ◌+◌, ◌-◌, ◌<◌, false, true, eqb, List, take, drop, get_or, length-drop, Option, Some, None, refl, ap, sym, ◌∙◌, arith}
use Rattle.std.specs.Option.{option_and_then}
use Rattle.std.specs.Prelude.{slice_get}
use Rattle.std.specs.Str.{IsCharBoundary}
use Rattle.std.proofs.lemmas.Bool.Decides.{nat_tests}
use Rattle.std.proofs.lemmas.List.{get_or-take, length-take-le}
use Rattle.std.proofs.lemmas.List.Sums.{prefix_len_passes}
use Rattle.mdscan.specs.Spans.{IsEndAfter}
use Rattle.mdpair.specs.declared.delimiter_runs.DelimiterChar.{DelimiterChar}
use Rattle.mdpair.specs.declared.delimiter_runs.DelimiterChar.TheVariants.{Asterisk, Underscore, Tilde}
use Rattle.mdpair.specs.declared.delimiter_runs.DelimiterRun.{DelimiterRun}
use Rattle.mdpair.specs.Neighbours.{byte_of, char_after, char_before, delimiter_of, run_at, run_between, run_length, run_of}
use Rattle.mdinline.specs.held.LeafEvents.{IsTokenOf}
use Rattle.mdinline.specs.held.PlainText.{is_escaped}
use Rattle.mdinline.specs.declared.tokens.Token.TheVariants as t
use Rattle.mdinline.proofs.PlainTokens.{plain_bytes}

of_mark : (text : List ℕ) (at : ℕ) (o : Option DelimiterChar) (r : DelimiterRun) → Some r ≡ run_of text at o → r.length ≡ run_length r.delimiter (drop at text)
of_mark text at None r e = cc
of_mark text at (Some d) r e =
    let n = run_length d (drop at text) in
    let same : r ≡ run_between d n (char_before text at) (char_after text (at + n)) = cc in
    ap (λ (x : DelimiterRun). x.length) same ∙ sym (ap (λ (x : DelimiterRun). run_length x.delimiter (drop at text)) same)

-- its length
pub run_size : (text : List ℕ) (at : ℕ) (r : DelimiterRun) → Some r ≡ run_at text at → r.length ≡ run_length r.delimiter (drop at text)
unfolding run_at
run_size text at r e = of_mark text at (option_and_then delimiter_of (slice_get text at)) r e

no_mark : (d : DelimiterChar) → is_escaped (byte_of d) ≡ false
no_mark Asterisk = refl
no_mark Underscore = refl
no_mark Tilde = refl

pub run_token : (text : List ℕ) (at : ℕ) (r : DelimiterRun) → Some r ≡ run_at text at → IsEndAfter text at (at + r.length) → IsCharBoundary text at →
    IsTokenOf text (t.Plain (record { start = at; end = at + r.length }))
run_token text at r e end whole =
    let within = end.within in
    let size : at + r.length - at ≡ r.length = omega arith in (
      record { ordered = omega arith; within = end.within; starts_whole = whole; ends_whole = end.whole },
      plain_bytes (take (at + r.length - at) (drop at text)) (λ i lt.
          let short : i < r.length = omega (arith, lt, size, length-take-le (at + r.length - at) (drop at text) (omega (arith, length-drop at text, within))) in
          let passes : eqb (get_or (drop at text) i 0) (byte_of r.delimiter) ≡ true =
          prefix_len_passes (λ b. eqb b (byte_of r.delimiter)) (drop at text) i 0 (omega (arith, short, run_size text at r e)) in
          let is : get_or (drop at text) i 0 ≡ byte_of r.delimiter = grind (arith, nat_tests, passes) in
          ap is_escaped (get_or-take (at + r.length - at) (drop at text) i 0 (omega (arith, short, size)) ∙ is) ∙ no_mark r.delimiter),
    )
