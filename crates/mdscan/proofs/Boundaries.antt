-- Where a text may be cut: round runs of ASCII bytes.
use Rattle.std.proofs.Common.{◌∷◌, [], ◌≡◌, ℕ, nat_eq, zero, suc, ◌+◌, ◌-◌, ◌<◌, ◌≤◌, Bool, true, List, length, take, drop, get_or, get_or-take, get_or-drop, inl, inr, refl, sym, subst, arith, add-one, reverse, length-drop, length-take, lit<, cond, false}
use Rattle.std.specs.Str.{IsUtf8, IsCharBoundary}
use Rattle.std.specs.List.{prefix_len, suffix_len}
use Rattle.std.proofs.lemmas.Str.{IsCharBoundary-start, IsCharBoundary-end, IsCharBoundary-before_ascii, IsCharBoundary-after_ascii, IsCharBoundary-from_rest, IsUtf8-drop}
use Rattle.std.proofs.lemmas.List.{get_or-reverse, take_rest}
use Rattle.std.proofs.lemmas.List.Sums.{prefix_len-le-length, prefix_len_passes, suffix_len-le-length}
use Rattle.std.proofs.Math.Nat.{eq-or-lt_of_le}
use Rattle.std.proofs.lemmas.Bool.Decides.{nat_tests}
use Rattle.mdscan.specs.Blanks.{begins_with, is_blank}
use Rattle.mdscan.specs.Spacing.{spacing_length, past_spacing}
use Rattle.mdscan.specs.Spans.{IsSpanOf, part, trimmed_from}
use Rattle.mdscan.specs.AtxHeading.{before_hashes, is_closed, content_length, heading_content}

-- a test that only ASCII bytes pass
abbrev pub OnlyAscii : (ℕ → Bool) → Type 0
OnlyAscii p = (b : ℕ) → p b ≡ true → b < 128

pub ascii_mark : (mark : ℕ) → mark < 128 → OnlyAscii (λ b. nat_eq b mark)
ascii_mark mark h b e = grind (arith, nat_tests)

pub ascii_blank : OnlyAscii is_blank
ascii_blank b e = grind (arith, nat_tests)

run_is : (p : ℕ → Bool) (text : List ℕ) (n : ℕ) → OnlyAscii p → IsUtf8 text → prefix_len p text ≡ n → IsCharBoundary text n
run_is p text zero a u e = IsCharBoundary-start text u
run_is p text (suc m) a u e =
    let within : m < length text = omega (arith, prefix_len-le-length p text) in
    let inside : m < prefix_len p text = omega arith in
    subst (λ (i : ℕ). IsCharBoundary text i) (add-one m) (IsCharBoundary-after_ascii text m u within (a _ (prefix_len_passes p text m 0 inside)))

-- after the run that a text begins with
pub run_boundary : (p : ℕ → Bool) (text : List ℕ) → OnlyAscii p → IsUtf8 text → IsCharBoundary text (prefix_len p text)
run_boundary p text a u = run_is p text (prefix_len p text) a u refl

-- after the run of a mark, whose length is n, where line holds the text's bytes
pub mark_boundary : (text line : List ℕ) (mark n : ℕ) → line ≡ text → n ≡ prefix_len (λ b. nat_eq b mark) line → mark < 128 → IsUtf8 text → IsCharBoundary text n
mark_boundary text line mark n same e h u =
    run_is (λ b. nat_eq b mark) text n (ascii_mark mark h) u (sym (subst (λ (t : List ℕ). n ≡ prefix_len (λ b. nat_eq b mark) t) same e))

-- the first of the bytes at the end of a text passes the test
tail_passes : (p : ℕ → Bool) (text : List ℕ) → 0 < suffix_len p text → p (get_or text (length text - suffix_len p text) 0) ≡ true
tail_passes p text h =
    let most = suffix_len-le-length p text in
    let k : ℕ = suffix_len p text - 1 in
    let inside : k < length text = omega arith in
    let before : k < suffix_len p text = omega arith in
    let place : length text - 1 - k ≡ length text - suffix_len p text = omega arith in
    subst (λ (i : ℕ). p (get_or text i 0) ≡ true) place (subst (λ (b : ℕ). p b ≡ true) (get_or-reverse text k 0 inside) (prefix_len_passes p (reverse text) k 0 before))

tail_is : (p : ℕ → Bool) (text : List ℕ) (n : ℕ) → OnlyAscii p → suffix_len p text ≡ n → IsCharBoundary text (length text - n)
tail_is p text zero a e = subst (λ (i : ℕ). IsCharBoundary text i) (omega arith) (IsCharBoundary-end text)
tail_is p text (suc m) a e =
    let most = suffix_len-le-length p text in
    let within : length text - suc m < length text = omega arith in
    let some : 0 < suffix_len p text = omega arith in
    IsCharBoundary-before_ascii text (length text - suc m) within (a _ (subst (λ (n : ℕ). p (get_or text (length text - n) 0) ≡ true) e (tail_passes p text some)))

-- before the run that a text ends with
pub tail_boundary : (p : ℕ → Bool) (text : List ℕ) → OnlyAscii p → IsCharBoundary text (length text - suffix_len p text)
tail_boundary p text a = tail_is p text (suffix_len p text) a refl

-- from a place on without the spaces and tabs at both ends
pub trimmed_is_span : (text : List ℕ) (at : ℕ) → IsUtf8 text → IsCharBoundary text at → IsSpanOf text (trimmed_from text at)
trimmed_is_span text at u b =
    let rest = drop at text in
    let start = at + prefix_len is_blank rest in
    let body = drop start text in
    let lead = prefix_len-le-length is_blank rest in
    let tail = suffix_len-le-length is_blank body in
    let starts = IsCharBoundary-from_rest text at (prefix_len is_blank rest) b.0 (run_boundary is_blank rest ascii_blank (IsUtf8-drop text at u b)) in
    record {
      ordered = omega arith;
      within = omega (arith, length-drop start text, starts.0);
      starts_whole = starts;
      ends_whole = IsCharBoundary-from_rest text start (length body - suffix_len is_blank body) starts.0 (tail_boundary is_blank body ascii_blank);
    }

-- after spaces and tabs, one at least, that stand at a place
pub after_blanks_boundary : (text line : List ℕ) (at n : ℕ) → line ≡ text → IsUtf8 text → n ≡ prefix_len is_blank (drop at line) → 0 < n → IsCharBoundary text (at + n)
after_blanks_boundary text line at n same u e some =
    let f = subst (λ (t : List ℕ). n ≡ prefix_len is_blank (drop at t)) same e in
    let most = prefix_len-le-length is_blank (drop at text) in
    let k : ℕ = n - 1 in
    let before : k < prefix_len is_blank (drop at text) = omega arith in
    let within : at + k < length text = omega (arith, length-drop at text) in
    let passes = prefix_len_passes is_blank (drop at text) k 0 before in
    let ascii : get_or text (at + k) 0 < 128 = ascii_blank _ (subst (λ (b : ℕ). is_blank b ≡ true) (get_or-drop at text k 0) passes) in
    let next : at + k + 1 ≡ at + n = omega arith in
    subst (λ (i : ℕ). IsCharBoundary text i) next (IsCharBoundary-after_ascii text (at + k) u within ascii)

-- a place in the front of a text
pub front_boundary : (text : List ℕ) (n i : ℕ) → IsCharBoundary text n → IsCharBoundary (take n text) i → IsCharBoundary text i
front_boundary text n i b h =
    let within : i ≤ n = omega (arith, length-take n text, h.0) in
    elim (eq-or-lt_of_le within) [
      | inr before ↦ (omega (arith, b.0), λ inside high. rw (← get_or-take n text i 0 before) (h.1 (omega (arith, length-take n text)) (rw (get_or-take n text i 0 before) high)))
      | inl same ↦ subst (λ (j : ℕ). IsCharBoundary text j) (sym same) b
    ]

-- a heading's content ends at a character
pub content_boundary : (body : List ℕ) → IsCharBoundary body (content_length body)
unfolding content_length
content_boundary body =
    let hashes = tail_boundary (λ b. nat_eq b 35) body (ascii_mark 35 (lit< tt)) in
    let front = take (before_hashes body) body in
    let size : length front ≡ before_hashes body = omega (arith, length-take (before_hashes body) body) in
    let spaces = tail_boundary is_blank front ascii_blank in
    elim (is_closed body) as (λ v. IsCharBoundary body (cond v (before_hashes body - suffix_len is_blank front) (length body))) [
      | true ↦ front_boundary body (before_hashes body) (before_hashes body - suffix_len is_blank front) hashes (subst (λ (n : ℕ). IsCharBoundary front (n - suffix_len is_blank front)) size spaces)
      | false ↦ IsCharBoundary-end body
    ]

-- what lies from one place to another ends at a character
pub inner_boundary : (text : List ℕ) (start n i : ℕ) → start ≤ length text → IsCharBoundary text (start + n) → IsCharBoundary (take n (drop start text)) i → IsCharBoundary text (start + i)
inner_boundary text start n i within ends h =
    let later : IsCharBoundary (drop start text) n = (omega (arith, length-drop start text, ends.0), λ inside high. rw get_or-drop (ends.1 (omega (arith, length-drop start text)) (rw get_or-drop at high))) in
    IsCharBoundary-from_rest text start i within (front_boundary (drop start text) n i later h)

-- a heading's content is a span of the line
pub content_is_span : (line : List ℕ) (level : ℕ) → IsUtf8 line → IsCharBoundary line level → IsSpanOf line (heading_content line level)
unfolding heading_content
content_is_span line level u b =
    let inner = trimmed_from line level in
    let whole = trimmed_is_span line level u b in
    let n : ℕ = inner.end - inner.start in
    let first : inner.start ≤ length line = omega (arith, whole.ordered, whole.within) in
    let last : inner.start + n ≡ inner.end = omega (arith, whole.ordered) in
    let ends = inner_boundary line inner.start n (content_length (part line inner)) first (subst (λ (i : ℕ). IsCharBoundary line i) (sym last) whole.ends_whole) (content_boundary (part line inner)) in
    record { ordered = omega arith; within = ends.0; starts_whole = whole.starts_whole; ends_whole = ends }

-- a line ending that stands at a place
first_byte : (rest : List ℕ) (n : ℕ) → begins_with 10 (drop n rest) ≡ true → (n < length rest) × (get_or rest n 0 ≡ 10)
first_byte [] zero h = cc
first_byte [] (suc n) h = cc
first_byte (b ∷ bs) zero h = (omega arith, grind (arith, nat_tests))
first_byte (b ∷ bs) (suc n) h = let f = first_byte bs n h in (omega (arith, f.0), f.1)

spacing_end : (rest : List ℕ) → IsUtf8 rest → IsCharBoundary rest (spacing_length rest)
unfolding spacing_length
spacing_end rest u =
    let first = run_boundary is_blank rest ascii_blank u in
    by (prefix_len is_blank rest) (begins_with 10 (drop (prefix_len is_blank rest) rest)) refl first
  where
    by : (n : ℕ) (b : Bool) → begins_with 10 (drop n rest) ≡ b → IsCharBoundary rest n → IsCharBoundary rest (cond b (n + 1 + prefix_len is_blank (drop (n + 1) rest)) n)
    by n true h first =
        let there = first_byte rest n h in
        let next = IsCharBoundary-after_ascii rest n u there.0 (omega (arith, there.1)) in
        IsCharBoundary-from_rest rest (n + 1) (prefix_len is_blank (drop (n + 1) rest)) next.0 (run_boundary is_blank (drop (n + 1) rest) ascii_blank (IsUtf8-drop rest (n + 1) u next))
    by n false h first = first

-- after spacing
pub past_spacing_boundary : (text : List ℕ) (at : ℕ) → IsUtf8 text → IsCharBoundary text at → IsCharBoundary text (past_spacing text at)
past_spacing_boundary text at u b = IsCharBoundary-from_rest text at (spacing_length (drop at text)) b.0 (spacing_end (drop at text) (IsUtf8-drop text at u b))

-- after spaces and tabs
pub blanks_boundary : (text : List ℕ) (at n : ℕ) → n ≡ prefix_len is_blank (take (length text - at) (drop at text)) → IsUtf8 text → IsCharBoundary text at → IsCharBoundary text (at + n)
blanks_boundary text at n e u b =
    let f = subst (λ (t : List ℕ). n ≡ prefix_len is_blank t) (take_rest text at) e in
    subst (λ (k : ℕ). IsCharBoundary text (at + k)) (sym f) (IsCharBoundary-from_rest text at (prefix_len is_blank (drop at text)) b.0 (run_boundary is_blank (drop at text) ascii_blank (IsUtf8-drop text at u b)))
