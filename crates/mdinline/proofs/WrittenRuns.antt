-- Where no byte begins anything, each is text.
use Rattle.std.proofs.Common.{◌≡◌, ℕ, ◌+◌, ◌-◌, ◌<◌, ◌≤◌, Bool, true, false, not, ◌==◌, List, length, drop, get_or, length-drop, None, refl, ap, sym, ◌∙◌, subst, arith, eqb}
use Rattle.std.specs.List.{position_or_len}
use Rattle.std.proofs.lemmas.List.{get_or-drop}
use Rattle.std.proofs.lemmas.List.Sums.{prefix_len_passes, prefix_len_stops}
use Rattle.std.proofs.lemmas.Bool.Decides.{nat_tests}
use Rattle.mdtext.specs.EntityTable.{EntityTable}
use Rattle.mdscan.specs.Blanks.{begins_with}
use Rattle.mdinline.proofs.Marks.{mark_there}
use Rattle.inlinespec.specs.Lexing.{Other, sign_of, lex}
use Rattle.inlinespec.specs.Lexemes.{as_written}
use Rattle.inlinespec.specs.LineBreaks.{spaces, spaced_break}
use Rattle.mdinline.specs.held.PlainText.{IsWritten, is_stop}

-- a byte at which nothing begins
plain_sign : (b : ℕ) → is_stop b ≡ false → (b ≡ 32 → ⊥) → sign_of b ≡ Other
plain_sign b h other =
    let slash : eqb b 92 ≡ false = grind (arith, h) in
    let amp : eqb b 38 ≡ false = grind (arith, h) in
    let tick : eqb b 96 ≡ false = grind (arith, h) in
    let less : eqb b 60 ≡ false = grind (arith, h) in
    let space : eqb b 32 ≡ false = grind (arith, other) in
    let feed : eqb b 10 ≡ false = grind (arith, h) in
    let star : eqb b 42 ≡ false = grind (arith, h) in
    let line : eqb b 95 ≡ false = grind (arith, h) in
    let tilde : eqb b 126 ≡ false = grind (arith, h) in
    let bracket : eqb b 91 ≡ false = grind (arith, h) in
    let mark : eqb b 33 ≡ false = grind (arith, h) in
    let close : eqb b 93 ≡ false = grind (arith, h) in
    rw (slash, amp, tick, less, space, feed, star, line, tilde, bracket, mark, close) refl

at_other : (entities : EntityTable) (text : List ℕ) (i : ℕ) (b : ℕ) → get_or text i 0 ≡ b → sign_of b ≡ Other → lex entities text i ≡ as_written 1 (drop i text)
unfolding lex
at_other entities text i b e s = rw (e, s) refl

-- a byte that is text, whatever stands around it
pub text_there : (entities : EntityTable) (text : List ℕ) (i : ℕ) → is_stop (get_or text i 0) ≡ false → (get_or text i 0 ≡ 32 → ⊥) → lex entities text i ≡ as_written 1 (drop i text)
text_there entities text i h other = at_other entities text i (get_or text i 0) refl (plain_sign (get_or text i 0) h other)

no_break : (text : List ℕ) → begins_with 10 (drop (spaces text) text) ≡ false → spaced_break text ≡ None
unfolding spaced_break
no_break text h = rw h refl

at_space : (entities : EntityTable) (text : List ℕ) (i : ℕ) → get_or text i 0 ≡ 32 → spaced_break (drop i text) ≡ None → lex entities text i ≡ as_written 1 (drop i text)
unfolding lex
at_space entities text i e h = rw (e, h) refl

-- a byte among the spaces at a place
in_spaces : (text : List ℕ) (i k : ℕ) → i ≤ k → k < i + spaces (drop i text) → get_or text k 0 ≡ 32
in_spaces text i k le lt =
    let passes : (get_or (drop i text) (k - i) 0 == 32) ≡ true = prefix_len_passes (λ b. b == 32) (drop i text) (k - i) 0 (omega arith) in
    let same : i + (k - i) ≡ k = omega arith in
    let there : get_or (drop i text) (k - i) 0 ≡ get_or text k 0 = get_or-drop i text (k - i) 0 ∙ ap (λ j. get_or text j 0) same in
    grind (arith, nat_tests, passes, there)

-- the bytes before the first stop from a place on
pub before_stop : (text : List ℕ) (start i : ℕ) → start ≤ i → i < start + position_or_len is_stop (drop start text) → is_stop (get_or text i 0) ≡ false
before_stop text start i le lt =
    let passes : not (is_stop (get_or (drop start text) (i - start) 0)) ≡ true = prefix_len_passes (λ b. not (is_stop b)) (drop start text) (i - start) 0 (omega arith) in
    let same : start + (i - start) ≡ i = omega arith in
    let there : get_or (drop start text) (i - start) 0 ≡ get_or text i 0 = get_or-drop start text (i - start) 0 ∙ ap (λ j. get_or text j 0) same in
    subst (λ b. is_stop b ≡ false) there (grind (arith, passes))

at_stop : (text : List ℕ) (start : ℕ) → start ≤ length text → start + position_or_len is_stop (drop start text) < length text →
    is_stop (get_or text (start + position_or_len is_stop (drop start text)) 0) ≡ true
at_stop text start le lt =
    let n = position_or_len is_stop (drop start text) in
    let stops : not (is_stop (get_or (drop start text) n 0)) ≡ false = prefix_len_stops (λ b. not (is_stop b)) (drop start text) 0 (omega (arith, length-drop start text)) in
    subst (λ b. is_stop b ≡ true) (get_or-drop start text n 0) (grind (arith, stops))

-- no line ending stands behind the spaces at a place
no_feed : (text : List ℕ) (start end i : ℕ) → start ≤ length text → start ≤ i → i < end → end ≤ start + position_or_len is_stop (drop start text) →
    (start + position_or_len is_stop (drop start text) < length text → get_or text (start + position_or_len is_stop (drop start text)) 0 ≡ 10 → get_or text (end - 1) 0 ≡ 32 → ⊥) →
    begins_with 10 (drop (spaces (drop i text)) (drop i text)) ≡ true → ⊥
no_feed text start end i inside from lt within last h =
    let n = spaces (drop i text) in
    let stop = start + position_or_len is_stop (drop start text) in
    let there = mark_there 10 (drop i text) n h in
    let feed : get_or text (i + n) 0 ≡ 10 = sym (get_or-drop i text n 0) ∙ there.1 in
    let here : i + n < length text = omega (arith, there.0, length-drop i text) in
    let early : i + n < stop → ⊥ = λ e. (let f : is_stop 10 ≡ false = subst (λ b. is_stop b ≡ false) feed (before_stop text start (i + n) (omega arith) e) in cc) in
    let late : stop < i + n → ⊥ = λ e. (let f : is_stop 32 ≡ true = subst (λ b. is_stop b ≡ true) (in_spaces text i stop (omega arith) e) (at_stop text start inside (omega arith)) in cc) in
    let same : i + n ≡ stop = omega (arith, early, late) in
    last (omega (arith, same, here)) (ap (λ k. get_or text k 0) (sym same) ∙ feed) (in_spaces text i (end - 1) (omega arith) (omega (arith, same)))

not_true : (t : Bool) → (t ≡ true → ⊥) → t ≡ false
not_true true h = absurd (h refl)
not_true false h = refl

by_space : (entities : EntityTable) (text : List ℕ) (i : ℕ) (t : Bool) → eqb (get_or text i 0) 32 ≡ t → is_stop (get_or text i 0) ≡ false →
    (begins_with 10 (drop (spaces (drop i text)) (drop i text)) ≡ true → ⊥) → lex entities text i ≡ as_written 1 (drop i text)
by_space entities text i true e h none = at_space entities text i (grind (arith, nat_tests, e)) (no_break (drop i text) (not_true _ none))
by_space entities text i false e h none = at_other entities text i (get_or text i 0) refl (plain_sign (get_or text i 0) h (λ same. (let f : eqb (get_or text i 0) 32 ≡ true = grind (arith, nat_tests, same) in cc)))

-- the text before the first stop, without the spaces before a line ending
written_run : (text : List ℕ) (start end : ℕ) → start ≤ length text → end ≤ start + position_or_len is_stop (drop start text) →
    (start + position_or_len is_stop (drop start text) < length text → get_or text (start + position_or_len is_stop (drop start text)) 0 ≡ 10 → start < end → get_or text (end - 1) 0 ≡ 32 → ⊥) → IsWritten text start end
written_run text start end inside within last = λ entities i from lt.
    by_space entities text i (eqb (get_or text i 0) 32) refl (before_stop text start i from (omega arith))
    (no_feed text start end i inside from lt within (λ there feed. last there feed (omega arith)))

pub written_to : (text : List ℕ) (start stop end : ℕ) → stop ≡ start + position_or_len is_stop (drop start text) → start ≤ length text → end ≤ stop →
    (stop < length text → get_or text stop 0 ≡ 10 → start < end → get_or text (end - 1) 0 ≡ 32 → ⊥) → IsWritten text start end
written_to text start stop end e inside within last =
    written_run text start end inside (omega (arith, e, within)) (λ there feed. last (omega (arith, e, there)) (ap (λ k. get_or text k 0) e ∙ feed))
