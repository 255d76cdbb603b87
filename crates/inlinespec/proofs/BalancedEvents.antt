-- Settled pieces end as many spans as they begin, each after it began.
use Rattle.std.proofs.Common.{◌≡◌, ℕ, suc, ◌+◌, ◌-◌, ◌<◌, ◌≤◌, Bool, true, false, eqb, nat_le, List, [], ◌∷◌, ◌++◌, length, length-append, replicate, refl, sym, ap, ◌∙◌, subst, append_assoc, arith}
use Rattle.std.specs.Prelude.{if◌then◌else◌, codes}
use Rattle.std.proofs.lemmas.Bool.Decides.{nat_tests}
use Rattle.mdpair.specs.declared.delimiter_runs.DelimiterChar.{DelimiterChar}
use Rattle.mdpair.specs.declared.emphasis.Match.{Match}
use Rattle.mdpair.specs.Neighbours.{byte_of}
use Rattle.mdpair.specs.Matches.{matches}
use Rattle.mdpair.proofs.OrderedMatches.{AreOrdered, matches_ordered}
use Rattle.inlinespec.specs.InlineTree.{Inlines, inline, code, raw, soft, hard}
use Rattle.inlinespec.specs.InlineEvents.{InlineSpan, Event, CodeSpan, RawHtml, SoftBreak, HardBreak, Enter, Leave, written, within, in_front, with_byte, closed, rows_of}
use Rattle.inlinespec.proofs.TreeEvents.{some_more, some_rows}
use Rattle.inlinespec.specs.Emphasis.{span_by, runs_of, taken, ends, begins, settled_from, settled}
use Rattle.inlinespec.specs.Pieces.{Piece, Made, Run, Opening, bracket_text}

-- how many rows there are
unfoldable pub rows : List Event → ℕ
rows es = length (rows_of es)

pub same_rows : (f : Inlines → Inlines) (rs : List Inlines) → length (in_front f rs) ≡ length rs
same_rows f [] = refl
same_rows f (r ∷ rs) = refl

pub closed_rows : (span : InlineSpan) (rs : List Inlines) → 1 < length rs → length (closed span rs) + 1 ≡ length rs
closed_rows span [] h = absurd (omega arith)
closed_rows span (r ∷ []) h = absurd (omega arith)
closed_rows span (r ∷ s ∷ rs) h = omega arith

-- events that leave the number of rows as it is, whatever follows
unfoldable pub IsBalanced : List Event → Type 0
IsBalanced es = (rest : List Event) → 0 < rows rest → rows (es ++ rest) ≡ rows rest

pub single_balanced : (e : Event) (f : Inlines → Inlines) → ((rest : List Event) → rows_of (e ∷ rest) ≡ in_front f (rows_of rest)) → IsBalanced (e ∷ [])
unfolding IsBalanced rows
single_balanced e f h = λ rest some. ap length (h rest) ∙ same_rows f (rows_of rest)

pub written_balanced : (s : List ℕ) → IsBalanced (written s)
unfolding IsBalanced rows rows_of
written_balanced [] = λ rest h. refl
written_balanced (b ∷ bs) = λ rest h. same_rows (with_byte b) (rows_of (written bs ++ rest)) ∙ written_balanced bs rest h

pub code_balanced : (s : List ℕ) → IsBalanced (CodeSpan s ∷ [])
unfolding rows_of
code_balanced s = single_balanced (CodeSpan s) (inline (code s)) (λ rest. refl)

pub raw_balanced : (s : List ℕ) → IsBalanced (RawHtml s ∷ [])
unfolding rows_of
raw_balanced s = single_balanced (RawHtml s) (inline (raw s)) (λ rest. refl)

pub soft_balanced : IsBalanced (SoftBreak ∷ [])
unfolding rows_of
soft_balanced = single_balanced SoftBreak (inline soft) (λ rest. refl)

pub hard_balanced : IsBalanced (HardBreak ∷ [])
unfolding rows_of
hard_balanced = single_balanced HardBreak (inline hard) (λ rest. refl)

left_rows : (rest : List Event) → rows (Leave ∷ rest) ≡ suc (rows rest)
unfolding rows rows_of
left_rows rest = refl

entered_rows : (span : InlineSpan) (rest : List Event) → 1 < rows rest → rows (Enter span ∷ rest) + 1 ≡ rows rest
unfolding rows rows_of
entered_rows span rest h = closed_rows span (rows_of rest) h

pub within_balanced : (span : InlineSpan) (inside : List Event) → IsBalanced inside → IsBalanced (within span inside)
unfolding IsBalanced
within_balanced span inside h = λ rest some.
    let leaves = left_rows rest in
    let middle = h (Leave ∷ rest) (omega arith) in
    let shape : (inside ++ Leave ∷ []) ++ rest ≡ inside ++ Leave ∷ rest = append_assoc inside (Leave ∷ []) rest in
    let same : rows ((inside ++ Leave ∷ []) ++ rest) ≡ rows (inside ++ Leave ∷ rest) = ap rows shape in
    let enters = entered_rows span ((inside ++ Leave ∷ []) ++ rest) (omega arith) in
    omega arith

-- how many matches close, or open, at the nth run or behind it

one_if : Bool → ℕ
one_if true = 1
one_if false = 0

closings : ℕ → List Match → ℕ
closings n [] = 0
closings n (t ∷ ts) = one_if (nat_le n t.closer) + closings n ts

openings : ℕ → List Match → ℕ
openings n [] = 0
openings n (t ∷ ts) = one_if (nat_le n t.opener) + openings n ts

stands : (n m : ℕ) → one_if (nat_le n m) ≡ one_if (eqb m n) + one_if (nat_le (n + 1) m)
unfolding one_if
stands n m = by (nat_le n m) (eqb m n) (nat_le (n + 1) m) refl refl refl
  where
    by : (s t u : Bool) → nat_le n m ≡ s → eqb m n ≡ t → nat_le (n + 1) m ≡ u → one_if s ≡ one_if t + one_if u
    by true true true e f g = absurd (grind (arith, nat_tests))
    by true true false e f g = refl
    by true false true e f g = refl
    by true false false e f g = absurd (grind (arith, nat_tests))
    by false true u e f g = absurd (grind (arith, nat_tests))
    by false false true e f g = absurd (grind (arith, nat_tests))
    by false false false e f g = refl

closings_at : (n : ℕ) (ts : List Match) → closings n ts ≡ length (ends n ts) + closings (n + 1) ts
unfolding closings one_if
closings_at n [] = refl
closings_at n (t ∷ ts) = let here = stands n t.closer in let more = closings_at n ts in by (eqb t.closer n) here more
  where
    by : (b : Bool) → one_if (nat_le n t.closer) ≡ one_if b + one_if (nat_le (n + 1) t.closer) → closings n ts ≡ length (ends n ts) + closings (n + 1) ts →
        one_if (nat_le n t.closer) + closings n ts ≡ length (if b then Leave ∷ ends n ts else ends n ts) + (one_if (nat_le (n + 1) t.closer) + closings (n + 1) ts)
    by true here more = omega arith
    by false here more = omega arith

openings_at : (n : ℕ) (d : DelimiterChar) (ts : List Match) → openings n ts ≡ length (begins n d ts) + openings (n + 1) ts
unfolding openings one_if
openings_at n d [] = refl
openings_at n d (t ∷ ts) = let here = stands n t.opener in let more = openings_at n d ts in by (eqb t.opener n) here more
  where
    by : (b : Bool) → one_if (nat_le n t.opener) ≡ one_if b + one_if (nat_le (n + 1) t.opener) → openings n ts ≡ length (begins n d ts) + openings (n + 1) ts →
        one_if (nat_le n t.opener) + openings n ts ≡ length (if b then begins n d ts ++ Enter (span_by d t.width) ∷ [] else begins n d ts) + (one_if (nat_le (n + 1) t.opener) + openings (n + 1) ts)
    by true here more = let long = length-append (begins n d ts) (Enter (span_by d t.width) ∷ []) in omega arith
    by false here more = omega arith

one_fewer : (n o c : ℕ) → o < c → one_if (nat_le n o) ≤ one_if (nat_le (n + 1) c)
unfolding one_if
one_fewer n o c h = by (nat_le n o) (nat_le (n + 1) c) refl refl
  where
    by : (s t : Bool) → nat_le n o ≡ s → nat_le (n + 1) c ≡ t → one_if s ≤ one_if t
    by false t e f = omega arith
    by true true e f = omega arith
    by true false e f = absurd (grind (arith, nat_tests))

fewer : (n m : ℕ) (ts : List Match) → AreOrdered m ts → openings n ts ≤ closings (n + 1) ts
unfolding openings closings AreOrdered
fewer n m [] h = omega arith
fewer n m (t ∷ ts) h = let one = one_fewer n t.opener t.closer h.0 in let more = fewer n m ts h.2 in omega arith

none_past : (n c : ℕ) → c < n → one_if (nat_le n c) ≡ 0
unfolding one_if
none_past n c h = by (nat_le n c) refl
  where
    by : (s : Bool) → nat_le n c ≡ s → one_if s ≡ 0
    by false e = refl
    by true e = absurd (grind (arith, nat_tests))

past_closings : (m : ℕ) (ts : List Match) → AreOrdered m ts → closings m ts ≡ 0
unfolding closings AreOrdered
past_closings m [] h = refl
past_closings m (t ∷ ts) h = let one = none_past m t.closer h.1 in let more = past_closings m ts h.2 in omega arith

past_openings : (m : ℕ) (ts : List Match) → AreOrdered m ts → openings m ts ≡ 0
unfolding openings AreOrdered
past_openings m [] h = refl
past_openings m (t ∷ ts) h =
    let lt : t.opener < m = let a = h.0 in let b = h.1 in omega arith in
    let one = none_past m t.opener lt in let more = past_openings m ts h.2 in omega arith

all_from_zero : (k : ℕ) → one_if (nat_le 0 k) ≡ 1
unfolding one_if
all_from_zero k = by (nat_le 0 k) refl
  where
    by : (s : Bool) → nat_le 0 k ≡ s → one_if s ≡ 1
    by true e = refl
    by false e = absurd (grind (arith, nat_tests))

as_many : (ts : List Match) → openings 0 ts ≡ closings 0 ts
unfolding openings closings
as_many [] = refl
as_many (t ∷ ts) = let one = all_from_zero t.opener in let other = all_from_zero t.closer in let more = as_many ts in omega arith

-- the rows of a run

ends_rows : (n : ℕ) (ts : List Match) (rest : List Event) → rows (ends n ts ++ rest) ≡ length (ends n ts) + rows rest
ends_rows n [] rest = omega arith
ends_rows n (t ∷ ts) rest = let more = ends_rows n ts rest in by (eqb t.closer n) more
  where
    by : (b : Bool) → rows (ends n ts ++ rest) ≡ length (ends n ts) + rows rest →
        rows ((if b then Leave ∷ ends n ts else ends n ts) ++ rest) ≡ length (if b then Leave ∷ ends n ts else ends n ts) + rows rest
    by true more = let one = left_rows (ends n ts ++ rest) in omega arith
    by false more = more

begins_rows : (n : ℕ) (d : DelimiterChar) (ts : List Match) (rest : List Event) → length (begins n d ts) < rows rest → rows (begins n d ts ++ rest) + length (begins n d ts) ≡ rows rest
begins_rows n d [] rest h = omega arith
begins_rows n d (t ∷ ts) rest h = by (eqb t.opener n) h (λ next g. begins_rows n d ts next g)
  where
    by : (b : Bool) → length (if b then begins n d ts ++ Enter (span_by d t.width) ∷ [] else begins n d ts) < rows rest →
        ((next : List Event) → length (begins n d ts) < rows next → rows (begins n d ts ++ next) + length (begins n d ts) ≡ rows next) →
        rows ((if b then begins n d ts ++ Enter (span_by d t.width) ∷ [] else begins n d ts) ++ rest) + length (if b then begins n d ts ++ Enter (span_by d t.width) ∷ [] else begins n d ts) ≡ rows rest
    by false h go = go rest h
    by true h go =
        let long = length-append (begins n d ts) (Enter (span_by d t.width) ∷ []) in
        let one = entered_rows (span_by d t.width) rest (omega arith) in
        let more = go (Enter (span_by d t.width) ∷ rest) (omega arith) in
        let shape : (begins n d ts ++ Enter (span_by d t.width) ∷ []) ++ rest ≡ begins n d ts ++ Enter (span_by d t.width) ∷ rest = append_assoc (begins n d ts) (Enter (span_by d t.width) ∷ []) rest in
        let same : rows ((begins n d ts ++ Enter (span_by d t.width) ∷ []) ++ rest) ≡ rows (begins n d ts ++ Enter (span_by d t.width) ∷ rest) = ap rows shape in
        omega arith

-- the pieces

unfoldable pub AreBalanced : List Piece → Type 0
AreBalanced [] = Unit {0}
AreBalanced (Made has_link es ∷ ps) = IsBalanced es × AreBalanced ps
AreBalanced (Run r ∷ ps) = AreBalanced ps
AreBalanced (Opening image begin ∷ ps) = AreBalanced ps

pub bracket_balanced : (image : Bool) → IsBalanced (bracket_text image)
bracket_balanced true = written_balanced (codes "![")
bracket_balanced false = written_balanced (codes "[")

rows_some : (es : List Event) → 0 < rows es
unfolding rows
rows_some es = some_more (rows_of es) (some_rows es)

balanced_front : (es more rest : List Event) → IsBalanced es → rows ((es ++ more) ++ rest) ≡ rows (more ++ rest)
unfolding IsBalanced
balanced_front es more rest h = ap rows (append_assoc es more rest) ∙ h (more ++ rest) (rows_some (more ++ rest))

written_front : (s : List ℕ) (rest : List Event) → rows (written s ++ rest) ≡ rows rest
unfolding IsBalanced
written_front s rest = written_balanced s rest (rows_some rest)

settled_rows : (n m : ℕ) (ts : List Match) (ps : List Piece) (rest : List Event) → n + length (runs_of ps) ≡ m → AreOrdered m ts → AreBalanced ps →
    rows (settled_from n ts ps ++ rest) + openings n ts ≡ rows rest + closings n ts
unfolding AreBalanced
settled_rows n m ts [] rest is ordered h =
    let same : n ≡ m = omega arith in
    let none = past_openings m ts ordered in
    let nor = past_closings m ts ordered in
    let some : openings n ts ≡ closings n ts = subst (λ (k : ℕ). openings k ts ≡ closings k ts) (sym same) (none ∙ sym nor) in
    omega arith
settled_rows n m ts (Made has_link es ∷ ps) rest is ordered h =
    let more = settled_rows n m ts ps rest is ordered h.1 in
    let here = balanced_front es (settled_from n ts ps) rest h.0 in
    omega arith
settled_rows n m ts (Opening image begin ∷ ps) rest is ordered h =
    let more = settled_rows n m ts ps rest is ordered h in
    let here = balanced_front (bracket_text image) (settled_from n ts ps) rest (bracket_balanced image) in
    omega arith
settled_rows n m ts (Run r ∷ ps) rest is ordered h =
    let S = settled_from (n + 1) ts ps ++ rest in
    let B = begins n r.delimiter ts in
    let W = written (replicate (r.length - taken n ts) (byte_of r.delimiter)) in
    let E = ends n ts in
    let more : rows S + openings (n + 1) ts ≡ rows rest + closings (n + 1) ts = settled_rows (n + 1) m ts ps rest (omega arith) ordered h in
    let some = rows_some rest in
    let few = fewer n m ts ordered in
    let opens = openings_at n r.delimiter ts in
    let closes = closings_at n ts in
    let begun : rows (B ++ S) + length B ≡ rows S = begins_rows n r.delimiter ts S (omega arith) in
    let plain : rows (W ++ (B ++ S)) ≡ rows (B ++ S) = written_front (replicate (r.length - taken n ts) (byte_of r.delimiter)) (B ++ S) in
    let ended : rows (E ++ (W ++ (B ++ S))) ≡ length E + rows (W ++ (B ++ S)) = ends_rows n ts (W ++ (B ++ S)) in
    let shape : settled_from n ts (Run r ∷ ps) ++ rest ≡ E ++ (W ++ (B ++ S)) = simp append_assoc in
    let same : rows (settled_from n ts (Run r ∷ ps) ++ rest) ≡ rows (E ++ (W ++ (B ++ S))) = ap rows shape in
    omega arith

pub settled_balanced : (ps : List Piece) → AreBalanced ps → IsBalanced (settled ps)
unfolding settled IsBalanced
settled_balanced ps h = λ rest some.
    let all = settled_rows 0 (length (runs_of ps)) (matches (runs_of ps)) ps rest (omega arith) (matches_ordered (runs_of ps)) h in
    let even = as_many (matches (runs_of ps)) in
    omega arith
