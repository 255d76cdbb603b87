-- Where the next backtick string of a length begins, string by string.
use Rattle.std.proofs.Common.{◌≡◌, ℕ, zero, suc, ◌+◌, ◌-◌, ◌<◌, ◌≤◌, Bool, true, false, not, ◌==◌, eqb, List, [], ◌∷◌, length, take, drop, get_or, length-drop, Option, Some, None, option_map, refl, ap, sym, ◌∙◌, arith, if◌then◌else◌}
use Rattle.std.specs.List.{position_or_len}
use Rattle.std.proofs.lemmas.List.{get_or-drop, take_rest}
use Rattle.std.proofs.lemmas.List.Sums.{prefix_len_passes, prefix_len_stops, prefix_len-le-length}
use Rattle.std.proofs.Math.ListN.{drop_of_length-le}
use Rattle.std.proofs.lemmas.Bool.Decides.{nat_tests}
use Rattle.mdtext.specs.ByteClass.{in_class}
use Rattle.mdscan.proofs.Stops.{from_here}
use Rattle.mdscan.specs.Blanks.{begins_with}
use Rattle.inlinespec.specs.BacktickStrings.{IsNextString}
use Rattle.inlinespec.specs.CodeSpans.{backticks, before_backticks}

-- the place of the next backtick string of a length, where the text's first byte has this place
abbrev pub string_from : (inside : Bool) → ℕ → ℕ → List ℕ → Option ℕ
string_from inside n at [] = None
string_from true n at (b ∷ rest) = string_from (b == 96) n (at + 1) rest
string_from false n at (b ∷ rest) = if backticks (b ∷ rest) == n then Some at else string_from (b == 96) n (at + 1) rest

shift : (at : ℕ) (o : Option ℕ) → option_map (λ k. at + k) (option_map (λ k. k + 1) o) ≡ option_map (λ k. at + 1 + k) o
shift at None = refl
shift at (Some k) = ap Some (let e : at + (k + 1) ≡ at + 1 + k = omega arith in e)

chosen : (t : Bool) (at : ℕ) (o : Option ℕ) → option_map (λ k. at + k) (if t then Some 0 else option_map (λ k. k + 1) o) ≡ (if t then Some at else option_map (λ k. at + 1 + k) o)
chosen true at o = ap Some (let e : at + 0 ≡ at = omega arith in e)
chosen false at o = shift at o

pub placed : (inside : Bool) (n at : ℕ) (xs : List ℕ) → option_map (λ k. at + k) (before_backticks inside n xs) ≡ string_from inside n at xs
placed inside n at [] = refl
placed true n at (b ∷ rest) = shift at (before_backticks (b == 96) n rest) ∙ placed (b == 96) n (at + 1) rest
placed false n at (b ∷ rest) =
    chosen (backticks (b ∷ rest) == n) at (before_backticks (b == 96) n rest)
    ∙ ap (λ o. if backticks (b ∷ rest) == n then Some at else o) (placed (b == 96) n (at + 1) rest)

other_byte : (n b at : ℕ) (rest : List ℕ) → 0 < n → (b ≡ 96 → ⊥) → string_from false n at (b ∷ rest) ≡ string_from false n (at + 1) rest
other_byte n b at rest some other =
    let no : eqb b 96 ≡ false = grind (arith, nat_tests, other) in
    let short : eqb 0 n ≡ false = grind (arith, nat_tests, some) in
    rw (no, short) refl

-- bytes that are no backticks are passed
plain_to : (n : ℕ) (text : List ℕ) (at k : ℕ) → 0 < n → at + k ≤ length text → ((j : ℕ) → at ≤ j → j < at + k → get_or text j 0 ≡ 96 → ⊥) →
    string_from false n at (drop at text) ≡ string_from false n (at + k) (drop (at + k) text)
plain_to n text at zero some within none = ap (λ i. string_from false n i (drop i text)) (let e : at ≡ at + 0 = omega arith in e)
plain_to n text at (suc k) some within none =
    let here = ap (string_from false n at) (from_here text at (omega (arith, within))) in
    let sum : at + 1 + k ≡ at + suc k = omega arith in
    here ∙ other_byte n (get_or text at 0) at (drop (at + 1) text) some (none at (omega arith) (omega arith))
    ∙ plain_to n text (at + 1) k some (omega (arith, within)) (λ j le lt. none j (omega arith) (omega arith))
    ∙ ap (λ i. string_from false n i (drop i text)) sum

tick_byte : (n b at : ℕ) (rest : List ℕ) → b ≡ 96 → string_from true n at (b ∷ rest) ≡ string_from true n (at + 1) rest
tick_byte n b at rest e = rw e refl

ticks_to : (n : ℕ) (text : List ℕ) (at k : ℕ) → at + k ≤ length text → ((j : ℕ) → at ≤ j → j < at + k → get_or text j 0 ≡ 96) →
    string_from true n at (drop at text) ≡ string_from true n (at + k) (drop (at + k) text)
ticks_to n text at zero within all = ap (λ i. string_from true n i (drop i text)) (let e : at ≡ at + 0 = omega arith in e)
ticks_to n text at (suc k) within all =
    let here = ap (string_from true n at) (from_here text at (omega (arith, within))) in
    let sum : at + 1 + k ≡ at + suc k = omega arith in
    here ∙ tick_byte n (get_or text at 0) at (drop (at + 1) text) (all at (omega arith) (omega arith))
    ∙ ticks_to n text (at + 1) k (omega (arith, within)) (λ j le lt. all j (omega arith) (omega arith))
    ∙ ap (λ i. string_from true n i (drop i text)) sum

-- behind a string nothing of it is left
outside : (n at : ℕ) (xs : List ℕ) → 0 < n → begins_with 96 xs ≡ false → string_from true n at xs ≡ string_from false n at xs
outside n at [] some h = refl
outside n at (b ∷ rest) some h =
    let short : eqb 0 n ≡ false = grind (arith, nat_tests, some) in
    rw (h, short) refl

pub length_here : (text : List ℕ) (at : ℕ) → at < length text → get_or text at 0 ≡ 96 → backticks (drop at text) ≡ 1 + backticks (drop (at + 1) text)
length_here text at inside e = ap backticks (from_here text at inside) ∙ ap (λ b. backticks (b ∷ drop (at + 1) text)) e

pub in_string : (text : List ℕ) (at j : ℕ) → at ≤ j → j < at + backticks (drop at text) → get_or text j 0 ≡ 96
in_string text at j le lt =
    let passes : (get_or (drop at text) (j - at) 0 == 96) ≡ true = prefix_len_passes (λ b. b == 96) (drop at text) (j - at) 0 (omega arith) in
    let same : at + (j - at) ≡ j = omega arith in
    let there : get_or (drop at text) (j - at) 0 ≡ get_or text j 0 = get_or-drop at text (j - at) 0 ∙ ap (λ i. get_or text i 0) same in
    grind (arith, nat_tests, passes, there)

pub string_within : (text : List ℕ) (at : ℕ) → at ≤ length text → at + backticks (drop at text) ≤ length text
string_within text at inside = omega (arith, prefix_len-le-length (λ b. b == 96) (drop at text), length-drop at text)

first_not : (text : List ℕ) (k : ℕ) → (k < length text → get_or text k 0 ≡ 96 → ⊥) → begins_with 96 (drop k text) ≡ false
first_not text k none = by (drop k text) (λ b rest e h. (let inside : k < length text = omega (arith, length-drop k text, ap (λ (l : List ℕ). length l) e) in none inside (ap (λ i. get_or text i 0) (let z : k ≡ k + 0 = omega arith in z) ∙ sym (get_or-drop k text 0 0) ∙ ap (λ l. get_or l 0 0) e ∙ h)))
  where
    by : (xs : List ℕ) → ((b : ℕ) (rest : List ℕ) → xs ≡ b ∷ rest → b ≡ 96 → ⊥) → begins_with 96 xs ≡ false
    by [] h = refl
    by (b ∷ rest) h = let other = h b rest refl in grind (arith, nat_tests, other)

pub behind_string : (text : List ℕ) (at : ℕ) → at ≤ length text → begins_with 96 (drop (at + backticks (drop at text)) text) ≡ false
behind_string text at within =
    let m = backticks (drop at text) in
    first_not text (at + m) (λ inside e. (
    let stops : (get_or (drop at text) m 0 == 96) ≡ false = prefix_len_stops (λ b. b == 96) (drop at text) 0 (omega (arith, length-drop at text)) in
    let there : get_or (drop at text) m 0 ≡ 96 = get_or-drop at text m 0 ∙ e in
    grind (arith, nat_tests, stops, there)))

at_string : (n : ℕ) (text : List ℕ) (at : ℕ) → at < length text → get_or text at 0 ≡ 96 →
    string_from false n at (drop at text) ≡ (if backticks (drop at text) == n then Some at else string_from true n (at + 1) (drop (at + 1) text))
at_string n text at inside e =
    let front : drop at text ≡ 96 ∷ drop (at + 1) text = from_here text at inside ∙ ap (λ b. b ∷ drop (at + 1) text) e in
    ap (string_from false n at) front ∙ ap (λ l. if backticks l == n then Some at else string_from true n (at + 1) (drop (at + 1) text)) (sym front)

string_passed : (n : ℕ) (text : List ℕ) (at end : ℕ) → 0 < n → at < length text → get_or text at 0 ≡ 96 → end ≡ at + backticks (drop at text) → (backticks (drop at text) ≡ n → ⊥) →
    string_from false n at (drop at text) ≡ string_from false n end (drop end text)
string_passed n text at end some inside e is other =
    let m = backticks (drop at text) in
    let no : eqb m n ≡ false = grind (arith, nat_tests, other) in
    let long : m ≡ 1 + backticks (drop (at + 1) text) = length_here text at inside e in
    let sum : at + 1 + (m - 1) ≡ end = omega (arith, long, is) in
    let within = string_within text at (omega (arith, inside)) in
    at_string n text at inside e
    ∙ ap (λ (t : Bool). if t then Some at else string_from true n (at + 1) (drop (at + 1) text)) no
    ∙ ticks_to n text (at + 1) (m - 1) (omega (arith, within, long)) (λ j le lt. in_string text at j (omega arith) (omega (arith, long)))
    ∙ ap (λ i. string_from true n i (drop i text)) sum
    ∙ outside n end (drop end text) some (ap (λ i. begins_with 96 (drop i text)) is ∙ behind_string text at (omega (arith, inside)))

present : (text : List ℕ) (i : ℕ) → get_or text i 0 ≡ 96 → i < length text
present [] i h = cc
present (b ∷ bs) zero h = omega arith
present (b ∷ bs) (suc i) h = let later = present bs i h in omega (arith, later)

to_string : (n : ℕ) (text : List ℕ) (from start end : ℕ) → 0 < n → IsNextString text from start end → string_from false n from (drop from text) ≡ string_from false n start (drop start text)
to_string n text from start end some s =
    let inside = present text start s.there in
    let later = s.later in
    let sum : from + (start - from) ≡ start = omega (arith, later) in
    plain_to n text from (start - from) some (omega (arith, inside, later)) (λ j le lt. s.none_before j le (omega (arith, sum, lt)))
    ∙ ap (λ i. string_from false n i (drop i text)) sum

-- a string of another length is passed
pub missed : (n : ℕ) (text : List ℕ) (from start end : ℕ) → 0 < n → IsNextString text from start end → (end - start ≡ n → ⊥) →
    string_from false n from (drop from text) ≡ string_from false n end (drop end text)
missed n text from start end some s other =
    let whole = s.whole in
    to_string n text from start end some s
    ∙ string_passed n text start end some (present text start s.there) s.there whole (λ e. other (let f : end - start ≡ n = omega (arith, whole, e) in f))

-- and one of the length is found
pub reached : (n : ℕ) (text : List ℕ) (from start end : ℕ) → 0 < n → IsNextString text from start end → end - start ≡ n →
    string_from false n from (drop from text) ≡ Some start
reached n text from start end some s e =
    let whole = s.whole in
    let yes : eqb (backticks (drop start text)) n ≡ true = (let same : backticks (drop start text) ≡ n = omega (arith, whole, e) in grind (arith, nat_tests, same)) in
    to_string n text from start end some s ∙ at_string n text start (present text start s.there) s.there
    ∙ ap (λ (t : Bool). if t then Some start else string_from true n (start + 1) (drop (start + 1) text)) yes

-- without a backtick there is none
pub absent : (n : ℕ) (text : List ℕ) (from : ℕ) → 0 < n → from ≤ length text → ((j : ℕ) → from ≤ j → get_or text j 0 ≡ 96 → ⊥) → string_from false n from (drop from text) ≡ None
absent n text from some within none =
    let k = length text - from in
    let sum : from + k ≡ length text = omega (arith, within) in
    plain_to n text from k some (omega (arith, sum)) (λ j le lt. none j le)
    ∙ ap (string_from false n (from + k)) (drop_of_length-le text (let e : length text ≤ from + k = omega (arith, sum) in e))

-- a string that a search for a backtick finds

is_tick : (class : List ℕ) (b : ℕ) → class ≡ 96 ∷ [] → in_class class b ≡ true → b ≡ 96
is_tick class b e h = (let f = rw e at h in grind (arith, nat_tests, f))

not_tick : (class : List ℕ) (b : ℕ) → class ≡ 96 ∷ [] → in_class class b ≡ false → b ≡ 96 → ⊥
not_tick class b e h is = (let f = rw (e, is) at h in cc)

module _ (text class : List ℕ) (from n : ℕ) (here : from ≤ length text) (e : class ≡ 96 ∷ []) (is : n ≡ position_or_len (in_class class) (take (length text - from) (drop from text))) where
  place_is : n ≡ position_or_len (in_class class) (drop from text)
  place_is = is ∙ ap (position_or_len (in_class class)) (take_rest text from)

  none_before : (j : ℕ) → from ≤ j → j < from + n → get_or text j 0 ≡ 96 → ⊥
  none_before j le lt same =
      let passes : not (in_class class (get_or (drop from text) (j - from) 0)) ≡ true = prefix_len_passes (λ b. not (in_class class b)) (drop from text) (j - from) 0 (omega (arith, place_is, le, lt)) in
      let sum : from + (j - from) ≡ j = omega (arith, le) in
      let there : get_or (drop from text) (j - from) 0 ≡ get_or text j 0 = get_or-drop from text (j - from) 0 ∙ ap (λ i. get_or text i 0) sum in
      not_tick class (get_or (drop from text) (j - from) 0) e (grind (arith, passes)) (there ∙ same)

  pub tick_there : from + n < length text → get_or text (from + n) 0 ≡ 96
  tick_there lt =
      let stops : not (in_class class (get_or (drop from text) (position_or_len (in_class class) (drop from text)) 0)) ≡ false = prefix_len_stops (λ b. not (in_class class b)) (drop from text) 0 (omega (arith, place_is, lt, length-drop from text)) in
      let there : get_or (drop from text) (position_or_len (in_class class) (drop from text)) 0 ≡ get_or text (from + n) 0 = ap (λ i. get_or (drop from text) i 0) (sym place_is) ∙ get_or-drop from text n 0 in
      sym there ∙ is_tick class (get_or (drop from text) (position_or_len (in_class class) (drop from text)) 0) e (grind (arith, stops))

  pub next_string : (end : ℕ) → from + n < length text → end ≡ from + n + 1 + backticks (drop (from + n + 1) text) → IsNextString text from (from + n) end
  next_string end lt ends =
      let there = tick_there lt in
      let more = length_here text (from + n) lt there in
      record {
        later = omega arith;
        none_before = none_before;
        there = there;
        whole = omega (arith, ends, more);
      }

  pub no_string : length text ≤ from + n → (j : ℕ) → from ≤ j → get_or text j 0 ≡ 96 → ⊥
  no_string past j le same = let inside = present text j same in none_before j le (omega (arith, past, inside)) same
