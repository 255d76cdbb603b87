-- What a backslash, and spaces before a line ending, are by the bytes behind them.
use Rattle.std.proofs.Common.{◌≡◌, ℕ, ◌+◌, ◌-◌, ◌<◌, ◌≤◌, Bool, true, false, nat_le, List, [], ◌∷◌, length, take, drop, get_or, Some, None, refl, ap, sym, ◌∙◌, subst, arith, eqb, ◌&&◌, if◌then◌else◌}
use Rattle.std.specs.Char.{is_ascii_punctuation}
use Rattle.std.specs.List.{slice_range}
use Rattle.std.proofs.lemmas.List.{drop-drop}
use Rattle.std.proofs.Math.ListN.{drop_of_length-le}
use Rattle.std.proofs.lemmas.Bool.Decides.{nat_tests}
use Rattle.mdscan.proofs.Stops.{from_here}
use Rattle.mdscan.specs.Blanks.{begins_with}
use Rattle.inlinespec.specs.InlineEvents.{HardBreak, SoftBreak, written}
use Rattle.inlinespec.specs.Lexemes.{leaf, as_written}
use Rattle.inlinespec.specs.BackslashEscapes.{escape_lexeme}
use Rattle.inlinespec.specs.LineBreaks.{break_or_written, spaces, spaced_break, backslash_break, break_after}

two_front : (text : List ℕ) (at b : ℕ) → get_or text at 0 ≡ 92 → at + 1 < length text → get_or text (at + 1) 0 ≡ b → drop at text ≡ 92 ∷ b ∷ drop (at + 2) text
two_front text at b first inside second =
    let one : drop at text ≡ get_or text at 0 ∷ drop (at + 1) text = from_here text at (omega (arith, inside)) in
    let two : drop (at + 1) text ≡ get_or text (at + 1) 0 ∷ drop (at + 1 + 1) text = from_here text (at + 1) inside in
    let sum : at + 1 + 1 ≡ at + 2 = omega arith in
    one ∙ ap (λ c. c ∷ drop (at + 1) text) first ∙ ap (λ l. 92 ∷ l) (two ∙ ap (λ c. c ∷ drop (at + 1 + 1) text) second ∙ ap (λ k. b ∷ drop k text) sum)

escape_front : (b : ℕ) (rest : List ℕ) → is_ascii_punctuation b ≡ true → escape_lexeme (92 ∷ b ∷ rest) ≡ leaf 2 (written (b ∷ []))
unfolding escape_lexeme
escape_front b rest p = rw p refl

escaped : (text : List ℕ) (at b : ℕ) → get_or text at 0 ≡ 92 → at + 1 < length text → get_or text (at + 1) 0 ≡ b → is_ascii_punctuation b ≡ true → escape_lexeme (drop at text) ≡ leaf 2 (written (b ∷ []))
escaped text at b first inside second p = ap escape_lexeme (two_front text at b first inside second) ∙ escape_front b (drop (at + 2) text) p

hard_front : (rest : List ℕ) → escape_lexeme (92 ∷ 10 ∷ rest) ≡ leaf (2 + spaces rest) (HardBreak ∷ [])
unfolding escape_lexeme backslash_break
hard_front rest = refl

hard : (text : List ℕ) (at : ℕ) → get_or text at 0 ≡ 92 → at + 1 < length text → get_or text (at + 1) 0 ≡ 10 → escape_lexeme (drop at text) ≡ leaf (2 + spaces (drop (at + 2) text)) (HardBreak ∷ [])
hard text at first inside second = ap escape_lexeme (two_front text at 10 first inside second) ∙ hard_front (drop (at + 2) text)

other_front : (b : ℕ) (rest : List ℕ) → is_ascii_punctuation b ≡ false → (b ≡ 10 → ⊥) → escape_lexeme (92 ∷ b ∷ rest) ≡ as_written 1 (92 ∷ b ∷ rest)
unfolding escape_lexeme backslash_break
other_front b rest p other = let feed : eqb b 10 ≡ false = grind (arith, other) in rw (p, feed) refl

bare : (text : List ℕ) (at b : ℕ) → get_or text at 0 ≡ 92 → at + 1 < length text → get_or text (at + 1) 0 ≡ b → is_ascii_punctuation b ≡ false → (b ≡ 10 → ⊥) → escape_lexeme (drop at text) ≡ as_written 1 (drop at text)
bare text at b first inside second p other =
    let front = two_front text at b first inside second in
    ap escape_lexeme front ∙ other_front b (drop (at + 2) text) p other ∙ ap (as_written 1) (sym front)

last_front : (b : ℕ) → escape_lexeme (b ∷ []) ≡ as_written 1 (b ∷ [])
unfolding escape_lexeme backslash_break
last_front b = last (eqb b 92)
  where
    last : (t : Bool) → break_or_written (b ∷ []) (if t && false then Some (break_after 1 (b ∷ []) true) else None) ≡ as_written 1 (b ∷ [])
    last true = refl
    last false = refl

last : (text : List ℕ) (at : ℕ) → at < length text → length text ≤ at + 1 → escape_lexeme (drop at text) ≡ as_written 1 (drop at text)
last text at inside end =
    let front : drop at text ≡ get_or text at 0 ∷ [] = from_here text at inside ∙ ap (λ l. get_or text at 0 ∷ l) (drop_of_length-le text end) in
    ap escape_lexeme front ∙ last_front (get_or text at 0) ∙ ap (as_written 1) (sym front)

-- spaces and a line ending

begins_at : (mark : ℕ) (text : List ℕ) (k : ℕ) → k < length text → get_or text k 0 ≡ mark → begins_with mark (drop k text) ≡ true
begins_at mark text k inside e = let front = from_here text k inside in rw front (grind (arith, nat_tests, e))

begins_not : (mark : ℕ) (text : List ℕ) (k : ℕ) → (k < length text → get_or text k 0 ≡ mark → ⊥) → begins_with mark (drop k text) ≡ false
begins_not mark text k none = by (nat_le (length text) k) refl
  where
    by : (t : Bool) → nat_le (length text) k ≡ t → begins_with mark (drop k text) ≡ false
    by true past = let end : drop k text ≡ [] = drop_of_length-le text (grind (arith, nat_tests, past)) in rw end refl
    by false before = let inside : k < length text = grind (arith, nat_tests, before) in let front = from_here text k inside in let other = none inside in rw front (grind (arith, nat_tests, other))

found_break : (text : List ℕ) → begins_with 10 (drop (spaces text) text) ≡ true → spaced_break text ≡ Some (break_after (spaces text) text (nat_le 2 (spaces text)))
unfolding spaced_break
found_break text h = rw h refl

missed_break : (text : List ℕ) → begins_with 10 (drop (spaces text) text) ≡ false → spaced_break text ≡ None
unfolding spaced_break
missed_break text h = rw h refl

broken : (text : List ℕ) (at feed end : ℕ) → feed ≡ at + spaces (drop at text) → feed < length text → get_or text feed 0 ≡ 10 → end ≡ feed + 1 + spaces (drop (feed + 1) text) →
    break_or_written (drop at text) (spaced_break (drop at text)) ≡ leaf (end - at) ((if nat_le 2 (feed - at) then HardBreak else SoftBreak) ∷ [])
broken text at feed end e inside mark is =
    let n = spaces (drop at text) in
    let n_is : n ≡ feed - at = omega (arith, e) in
    let there : drop n (drop at text) ≡ drop feed text = drop-drop n at text ∙ ap (λ k. drop k text) (let sum : at + n ≡ feed = omega (arith, e) in sum) in
    let begins : begins_with 10 (drop n (drop at text)) ≡ true = ap (begins_with 10) there ∙ begins_at 10 text feed inside mark in
    let behind : drop (n + 1) (drop at text) ≡ drop (feed + 1) text = drop-drop (n + 1) at text ∙ ap (λ k. drop k text) (let sum : at + (n + 1) ≡ feed + 1 = omega (arith, e) in sum) in
    let size : n + 1 + spaces (drop (n + 1) (drop at text)) ≡ end - at = ap (λ l. n + 1 + spaces l) behind ∙ (let sum : n + 1 + spaces (drop (feed + 1) text) ≡ end - at = omega (arith, e, is) in sum) in
    ap (break_or_written (drop at text)) (found_break (drop at text) begins)
    ∙ ap (λ k. leaf k ((if nat_le 2 n then HardBreak else SoftBreak) ∷ [])) size
    ∙ ap (λ k. leaf (end - at) ((if nat_le 2 k then HardBreak else SoftBreak) ∷ [])) n_is

hard_break : (text : List ℕ) (at feed end : ℕ) → feed ≡ at + spaces (drop at text) → feed < length text → get_or text feed 0 ≡ 10 → end ≡ feed + 1 + spaces (drop (feed + 1) text) → 1 < feed - at →
    break_or_written (drop at text) (spaced_break (drop at text)) ≡ leaf (end - at) (HardBreak ∷ [])
hard_break text at feed end e inside mark is two =
    let many : nat_le 2 (feed - at) ≡ true = grind (arith, nat_tests, two) in
    broken text at feed end e inside mark is ∙ ap (λ (t : Bool). leaf (end - at) ((if t then HardBreak else SoftBreak) ∷ [])) many

soft_break : (text : List ℕ) (at feed end : ℕ) → feed ≡ at + spaces (drop at text) → feed < length text → get_or text feed 0 ≡ 10 → end ≡ feed + 1 + spaces (drop (feed + 1) text) → feed - at ≤ 1 →
    break_or_written (drop at text) (spaced_break (drop at text)) ≡ leaf (end - at) (SoftBreak ∷ [])
soft_break text at feed end e inside mark is one =
    let few : nat_le 2 (feed - at) ≡ false = grind (arith, nat_tests, one) in
    broken text at feed end e inside mark is ∙ ap (λ (t : Bool). leaf (end - at) ((if t then HardBreak else SoftBreak) ∷ [])) few

no_break : (text : List ℕ) (at feed : ℕ) → feed ≡ at + spaces (drop at text) → (feed < length text → get_or text feed 0 ≡ 10 → ⊥) →
    break_or_written (drop at text) (spaced_break (drop at text)) ≡ as_written 1 (drop at text)
no_break text at feed e none =
    let n = spaces (drop at text) in
    let there : drop n (drop at text) ≡ drop feed text = drop-drop n at text ∙ ap (λ k. drop k text) (let sum : at + n ≡ feed = omega (arith, e) in sum) in
    ap (break_or_written (drop at text)) (missed_break (drop at text) (ap (begins_with 10) there ∙ begins_not 10 text feed none))

-- the same, of the bytes that the code looks at

one_byte : (text : List ℕ) (k : ℕ) → k < length text → slice_range text k (k + 1) ≡ get_or text k 0 ∷ []
one_byte text k inside =
    let front = from_here text k inside in
    let size : k + 1 - k ≡ 1 = omega arith in
    ap (λ n. take n (drop k text)) size ∙ ap (take 1) front

pub escaped_there : (text line : List ℕ) (at : ℕ) → line ≡ text → get_or text at 0 ≡ 92 → at + 1 < length line → is_ascii_punctuation (get_or line (at + 1) 0) ≡ true →
    escape_lexeme (drop at text) ≡ leaf 2 (written (slice_range text (at + 1) (at + 1 + 1)))
escaped_there text line at same first inside p =
    let within : at + 1 < length text = subst (λ t. at + 1 < length t) same inside in
    escaped text at (get_or text (at + 1) 0) first within refl (subst (λ t. is_ascii_punctuation (get_or t (at + 1) 0) ≡ true) same p)
    ∙ ap (λ l. leaf 2 (written l)) (sym (one_byte text (at + 1) within))

pub hard_there : (text line : List ℕ) (at end : ℕ) → line ≡ text → get_or text at 0 ≡ 92 → at + 1 < length line → get_or line (at + 1) 0 ≡ 10 → end ≡ at + 1 + 1 + spaces (drop (at + 1 + 1) text) →
    escape_lexeme (drop at text) ≡ leaf (end - at) (HardBreak ∷ [])
hard_there text line at end same first inside feed is =
    let sum : at + 1 + 1 ≡ at + 2 = omega arith in
    let more : spaces (drop (at + 1 + 1) text) ≡ spaces (drop (at + 2) text) = ap (λ k. spaces (drop k text)) sum in
    hard text at first (subst (λ t. at + 1 < length t) same inside) (subst (λ t. get_or t (at + 1) 0 ≡ 10) same feed)
    ∙ ap (λ k. leaf k (HardBreak ∷ [])) (let size : 2 + spaces (drop (at + 2) text) ≡ end - at = omega (arith, is, more) in size)

pub bare_there : (text line : List ℕ) (at : ℕ) → line ≡ text → get_or text at 0 ≡ 92 → at + 1 < length line → is_ascii_punctuation (get_or line (at + 1) 0) ≡ false → (get_or line (at + 1) 0 ≡ 10 → ⊥) →
    escape_lexeme (drop at text) ≡ as_written 1 (drop at text)
bare_there text line at same first inside p other =
    bare text at (get_or text (at + 1) 0) first (subst (λ t. at + 1 < length t) same inside) refl (subst (λ t. is_ascii_punctuation (get_or t (at + 1) 0) ≡ false) same p)
    (subst (λ t. get_or t (at + 1) 0 ≡ 10 → ⊥) same other)

pub last_there : (text line : List ℕ) (at : ℕ) → line ≡ text → at < length text → length line ≤ at + 1 → escape_lexeme (drop at text) ≡ as_written 1 (drop at text)
last_there text line at same inside end = last text at inside (subst (λ t. length t ≤ at + 1) same end)

pub hard_break_there : (text line : List ℕ) (at feed end : ℕ) → line ≡ text → feed ≡ at + spaces (drop at line) → feed < length line → get_or line feed 0 ≡ 10 → end ≡ feed + 1 + spaces (drop (feed + 1) text) → 1 < feed - at →
    break_or_written (drop at text) (spaced_break (drop at text)) ≡ leaf (end - at) (HardBreak ∷ [])
hard_break_there text line at feed end same e inside mark is two =
    hard_break text at feed end (subst (λ t. feed ≡ at + spaces (drop at t)) same e) (subst (λ t. feed < length t) same inside) (subst (λ t. get_or t feed 0 ≡ 10) same mark) is two

pub soft_break_there : (text line : List ℕ) (at feed end : ℕ) → line ≡ text → feed ≡ at + spaces (drop at line) → feed < length line → get_or line feed 0 ≡ 10 → end ≡ feed + 1 + spaces (drop (feed + 1) text) → feed - at ≤ 1 →
    break_or_written (drop at text) (spaced_break (drop at text)) ≡ leaf (end - at) (SoftBreak ∷ [])
soft_break_there text line at feed end same e inside mark is one =
    soft_break text at feed end (subst (λ t. feed ≡ at + spaces (drop at t)) same e) (subst (λ t. feed < length t) same inside) (subst (λ t. get_or t feed 0 ≡ 10) same mark) is one

pub no_break_there : (text line : List ℕ) (at feed : ℕ) → line ≡ text → feed ≡ at + spaces (drop at line) → (feed < length line → get_or line feed 0 ≡ 10 → ⊥) →
    break_or_written (drop at text) (spaced_break (drop at text)) ≡ as_written 1 (drop at text)
no_break_there text line at feed same e none =
    no_break text at feed (subst (λ t. feed ≡ at + spaces (drop at t)) same e) (subst (λ t. feed < length t → get_or t feed 0 ≡ 10 → ⊥) same none)
