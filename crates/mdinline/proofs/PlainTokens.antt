-- Text of which HTML escapes nothing, and bytes as tokens.
use Rattle.std.proofs.Common.{◌≡◌, ℕ, zero, suc, ◌+◌, ◌-◌, ◌<◌, ◌≤◌, true, false, not, eqb, List, [], ◌∷◌, ◌++◌, length, take, drop, get_or, length-drop, refl, ap, ap₂, sym, ◌∙◌, subst, arith}
use Rattle.std.specs.List.{position_or_len}
use Rattle.std.specs.Prelude.{slice_index}
use Rattle.std.specs.Str.{IsUtf8, IsCharBoundary}
use Rattle.std.proofs.lemmas.Bool.Decides.{nat_tests}
use Rattle.std.proofs.lemmas.List.{get_or-drop, length-take-le, get_or-take}
use Rattle.std.proofs.lemmas.List.Sums.{prefix_len_stops}
use Rattle.mdtext.specs.HtmlEscapes.{escaped, escaped_byte}
use Rattle.mdscan.specs.Spans.{IsSpanOf, part}
use Rattle.mdinline.specs.held.LeafEvents.{IsTokenOf}
use Rattle.mdinline.specs.held.PlainText.{is_escaped, is_stop}
use Rattle.mdinline.specs.declared.tokens.Token.TheVariants as t
use Rattle.mdinline.proofs.Marks.{behind}

plain_byte : (b : ℕ) → is_escaped b ≡ false → escaped_byte b ≡ b ∷ []
unfolding escaped_byte
plain_byte b h =
    let amp : eqb b 38 ≡ false = grind (arith, h) in
    let less : eqb b 60 ≡ false = grind (arith, h) in
    let more : eqb b 62 ≡ false = grind (arith, h) in
    let quote : eqb b 34 ≡ false = grind (arith, h) in
    rw (amp, less, more, quote) refl

-- bytes none of which is escaped
pub plain_bytes : (bs : List ℕ) → ((i : ℕ) → i < length bs → is_escaped (get_or bs i 0) ≡ false) → escaped bs ≡ bs
plain_bytes [] h = refl
plain_bytes (b ∷ bs) h = ap₂ ◌++◌ (plain_byte b (h 0 (omega arith))) (plain_bytes bs (λ i lt. h (suc i) (omega (arith, lt))))

-- what is no stop is not escaped
pub no_stop : (b : ℕ) → is_stop b ≡ false → is_escaped b ≡ false
no_stop b h = grind (arith, nat_tests, h)

in_part : (text : List ℕ) (start end i : ℕ) → i < end - start → end ≤ length text → get_or (take (end - start) (drop start text)) i 0 ≡ get_or text (start + i) 0
in_part text start end i lt within = get_or-take (end - start) (drop start text) i 0 lt ∙ get_or-drop start text i 0

-- a byte that is not escaped, and those behind it, which are no stops
pub plain_part : (text : List ℕ) (at end : ℕ) → at < end → end ≤ length text → is_escaped (get_or text at 0) ≡ false →
    ((i : ℕ) → at + 1 ≤ i → i < end → is_stop (get_or text i 0) ≡ false) → escaped (part text (record { start = at; end = end })) ≡ part text (record { start = at; end = end })
plain_part text at end later within first rest =
    plain_bytes (take (end - at) (drop at text)) (λ i lt. by i (short i lt))
  where
    short : (i : ℕ) → i < length (take (end - at) (drop at text)) → i < end - at
    short i lt = omega (arith, lt, length-take-le (end - at) (drop at text) (omega (arith, length-drop at text, within)))

    by : (i : ℕ) → i < end - at → is_escaped (get_or (take (end - at) (drop at text)) i 0) ≡ false
    by zero lt = subst (λ b. is_escaped b ≡ false) (sym (in_part text at end 0 lt within ∙ ap (λ k. get_or text k 0) (let e : at + 0 ≡ at = omega arith in e))) first
    by (suc i) lt = subst (λ b. is_escaped b ≡ false) (sym (in_part text at end (suc i) lt within)) (no_stop (get_or text (at + suc i) 0) (rest (at + suc i) (omega arith) (omega (arith, lt))))

-- one ASCII byte
pub byte_span : (text : List ℕ) (at : ℕ) → IsUtf8 text → IsCharBoundary text at → at < length text → slice_index text at < 128 → IsSpanOf text (record { start = at; end = at + 1 })
byte_span text at u whole inside mark = record {
  ordered = omega arith;
  within = omega (arith, inside);
  starts_whole = whole;
  ends_whole = behind text text at refl u inside mark;
}

pub byte_plain : (text : List ℕ) (at : ℕ) → at < length text → is_escaped (get_or text at 0) ≡ false →
    escaped (part text (record { start = at; end = at + 1 })) ≡ part text (record { start = at; end = at + 1 })
byte_plain text at inside first = plain_part text at (at + 1) (omega arith) (omega (arith, inside)) first (λ i from lt. absurd (omega (arith, from, lt)))

small_stop : (b : ℕ) → is_stop b ≡ true → b < 128
small_stop b h = grind (arith, nat_tests, h)

-- the first stop is an ASCII byte
pub stop_mark : (text : List ℕ) (stop : ℕ) → stop ≡ position_or_len is_stop text → stop < length text → slice_index text stop < 128
stop_mark text stop e lt =
    let stops : not (is_stop (get_or text (position_or_len is_stop text) 0)) ≡ false = prefix_len_stops (λ b. not (is_stop b)) text 0 (omega (arith, e, lt)) in
    let there : is_stop (get_or text (position_or_len is_stop text) 0) ≡ true = grind (arith, stops) in
    subst (λ k. get_or text k 0 < 128) (sym e) (small_stop (get_or text (position_or_len is_stop text) 0) there)

small_escaped : (b : ℕ) → is_escaped b ≡ true → b < 128
small_escaped b h = grind (arith, nat_tests, h)

-- a byte that HTML escapes is ASCII
pub escaped_mark : (text line : List ℕ) (at : ℕ) → line ≡ text → is_escaped (get_or line at 0) ≡ true → slice_index text at < 128
escaped_mark text line at same h = subst (λ t. get_or t at 0 < 128) same (small_escaped (get_or line at 0) h)

-- `]` as text
pub bracket_token : (text : List ℕ) (at : ℕ) → IsUtf8 text → IsCharBoundary text at → at + 1 ≤ length text → slice_index text at ≡ 93 →
    IsTokenOf text (t.Plain (record { start = at; end = at + 1 }))
bracket_token text at u whole within is =
    let inside : at < length text = omega (arith, within) in
    (byte_span text at u whole inside (omega (arith, is)), byte_plain text at inside (ap is_escaped is))
