-- Each item takes some bytes, and no more than there are.
use Rattle.std.proofs.Common.{◌≡◌, ℕ, ◌+◌, ◌-◌, ◌<◌, ◌≤◌, Bool, true, false, ◌&&◌, ◌||◌, cond, eqb, List, [], ◌∷◌, length, take, drop, length-drop, length-take, Option, Some, None, IfSome, option_map, option_and_then, refl, sym, ap, ◌∙◌, subst, add-one, arith}
use Rattle.std.specs.Prelude.{if◌then◌else◌, nat_eq, nat_le, slice_index, slice_get}
use Rattle.std.proofs.Math.Seq.{drop-cons}
use Rattle.std.proofs.lemmas.Bool.{eqb-true}
use Rattle.std.proofs.lemmas.Option.{slice_get-get_or}
use Rattle.std.proofs.lemmas.List.Sums.{prefix_len-le-length}
use Rattle.std.proofs.lemmas.Bool.{and_parts}
use Rattle.mdtext.specs.EntityTable.{EntityTable}
use Rattle.mdtext.specs.CharacterReferences.{Meaning, reference}
use Rattle.mdscan.specs.declared.autolinks.Auto.{Auto}
use Rattle.mdscan.specs.declared.spans.Span.{Span}
use Rattle.mdscan.specs.declared.link_tails.Tail.{Tail}
use Rattle.mdscan.specs.Autolink.{autolink_at}
use Rattle.mdscan.specs.Blanks.{begins_with}
use Rattle.mdscan.specs.BackslashEscapes.{begins_escape}
use Rattle.mdscan.specs.LinkTail.{inline_tail_at}
use Rattle.mdscan.specs.LinkLabel.{label_at}
use Rattle.mdscan.specs.RawHtml.{raw_html}
use Rattle.mdtext.specs.Labels.{label_of}
use Rattle.mdscan.specs.Spans.{part}
use Rattle.mdpair.specs.declared.delimiter_runs.DelimiterChar.{DelimiterChar}
use Rattle.mdpair.specs.declared.delimiter_runs.DelimiterChar.TheVariants.{Asterisk, Underscore, Tilde}
use Rattle.mdpair.specs.declared.delimiter_runs.DelimiterRun.{DelimiterRun}
use Rattle.mdpair.specs.Neighbours.{delimiter_of, run_length, run_of, run_at}
use Rattle.inlinespec.specs.LabelMap.{LinkTarget}
use Rattle.inlinespec.specs.InlineEvents.{written}
use Rattle.inlinespec.specs.CodeSpans.{backticks, before_backticks, code_inside, code_lexeme}
use Rattle.inlinespec.specs.LineBreaks.{LineBreak, spaces, break_after, spaced_break, backslash_break, break_or_written}
use Rattle.inlinespec.specs.Lexemes.{Kind, Leaf, Delimiters, OpenBracket, CloseBracket, leaf, as_written, bracket_lexeme}
use Rattle.inlinespec.specs.Lexing.{Sign, Backslash, Ampersand, Backtick, LessThan, Blank, DelimiterMark, Bracket, Exclamation, ClosingBracket, Other, sign_of, lexeme_by, lex}
use Rattle.inlinespec.specs.BackslashEscapes.{escape_lexeme}
use Rattle.inlinespec.specs.CharacterReferences.{reference_lexeme}
use Rattle.inlinespec.specs.RawHtml.{angle_lexeme}
use Rattle.inlinespec.specs.Strikethrough.{is_lone_tilde, kept_run}
use Rattle.inlinespec.specs.DelimiterRuns.{run_lexeme}
use Rattle.inlinespec.specs.LinkTails.{Table, LinkTail, Direct, ByLabel, NoLabel, by_label, empty_brackets_at, link_tail_by, link_tail_at}
use Rattle.inlinespec.specs.Pieces.{Piece}
use Rattle.inlinespec.specs.Links.{Opened, nearest_opener, is_live}
use Rattle.inlinespec.specs.TextReading.{closing_bracket, looked_up, by_link_tail, closing, item_by, item_at}
use Rattle.inlinespec.proofs.FrontEnds.{IsSizeIn, IsEndIn, when, mapped, begins_below, behind, autolink_ends, raw_html_size, reference_size}
use Rattle.inlinespec.proofs.TailEnds.{label_ends, inline_tail_ends}

-- line breaks

break_after_size : (before : ℕ) (text : List ℕ) (is_hard : Bool) → before < length text → IsSizeIn text (break_after before text is_hard).size
break_after_size before text is_hard h =
    let run = prefix_len-le-length (λ b. nat_eq b 32) (drop (before + 1) text) in
    let long = length-drop (before + 1) text in
    (omega arith, omega arith)

spaced_size : (text : List ℕ) → IfSome (spaced_break text) (λ b. IsSizeIn text b.size)
unfolding spaced_break
spaced_size text = when _ _ (λ b. IsSizeIn text b.size) (λ h. break_after_size (spaces text) text (nat_le 2 (spaces text)) (begins_below 10 (spaces text) text h))

backslash_size : (text : List ℕ) → IfSome (backslash_break text) (λ b. IsSizeIn text b.size)
unfolding backslash_break
backslash_size text = when _ _ (λ b. IsSizeIn text b.size) (λ h. break_after_size 1 text true (begins_below 10 1 text (and_parts _ _ h).1))

break_size : (text : List ℕ) (r : Option LineBreak) → 0 < length text → IfSome r (λ b. IsSizeIn text b.size) → IsSizeIn text (break_or_written text r).size
break_size text None some h = (omega arith, omega arith)
break_size text (Some b) some h = h

-- escapes, references, code

escape_below : (text : List ℕ) → begins_escape text ≡ true → 2 ≤ length text
escape_below [] h = cc
escape_below (b ∷ []) h = cc
escape_below (b ∷ c ∷ rest) h = omega arith

escape_size : (text : List ℕ) → 0 < length text → IsSizeIn text (escape_lexeme text).size
unfolding escape_lexeme
escape_size text some = by (begins_escape text) (escape_below text)
  where
    by : (t : Bool) → (t ≡ true → 2 ≤ length text) → IsSizeIn text ((if t then leaf 2 (written (take 1 (drop 1 text))) else break_or_written text (backslash_break text)).size)
    by true h = (omega arith, h refl)
    by false h = break_size text (backslash_break text) some (backslash_size text)

referred_size : (text : List ℕ) (r : Option Meaning) → 0 < length text → IfSome r (λ m. (0 < m.0) × (m.0 ≤ 1 + length (drop 1 text))) → IsSizeIn text (reference_lexeme text r).size
referred_size text None some h = (omega arith, omega arith)
referred_size text (Some m) some h = let long = length-drop 1 text in (h.0, omega arith)

ticks_within : (inside : Bool) (n : ℕ) (text : List ℕ) → IfSome (before_backticks inside n text) (λ k. k + n ≤ length text)
ticks_within inside n [] = tt
ticks_within true n (b ∷ rest) =
    mapped (before_backticks (nat_eq b 96) n rest) (λ k. k + 1) (λ k. k + n ≤ length rest) (λ k. k + n ≤ length (b ∷ rest)) (λ k h. omega arith) (ticks_within (nat_eq b 96) n rest)
ticks_within false n (b ∷ rest) = by (nat_eq (backticks (b ∷ rest)) n) (λ h. short h) (ticks_within (nat_eq b 96) n rest)
  where
    short : nat_eq (backticks (b ∷ rest)) n ≡ true → n ≤ length (b ∷ rest)
    short h =
        let run : backticks (b ∷ rest) ≤ length (b ∷ rest) = prefix_len-le-length (λ c. nat_eq c 96) (b ∷ rest) in
        let same : backticks (b ∷ rest) ≡ n = eqb-true (backticks (b ∷ rest)) n h in
        subst (λ (m : ℕ). m ≤ length (b ∷ rest)) same run

    by : (t : Bool) → (t ≡ true → n ≤ length (b ∷ rest)) → IfSome (before_backticks (nat_eq b 96) n rest) (λ k. k + n ≤ length rest) →
        IfSome (if t then Some 0 else option_map (λ k. k + 1) (before_backticks (nat_eq b 96) n rest)) (λ k. k + n ≤ length (b ∷ rest))
    by true h more = let fits = h refl in omega arith
    by false h more = mapped (before_backticks (nat_eq b 96) n rest) (λ k. k + 1) (λ k. k + n ≤ length rest) (λ k. k + n ≤ length (b ∷ rest)) (λ k h. omega arith) more

code_size : (text : List ℕ) → 0 < backticks text → IsSizeIn text (code_lexeme text (code_inside text)).size
unfolding code_inside
code_size text some = by (before_backticks false n (drop n text)) (ticks_within false n (drop n text))
  where
    n : ℕ
    n = backticks text

    room : n ≤ length text
    room = prefix_len-le-length (λ c. nat_eq c 96) text

    by : (r : Option ℕ) → IfSome r (λ k. k + n ≤ length (drop n text)) → IsSizeIn text (code_lexeme text (option_map (λ k. take k (drop n text)) r)).size
    by None h = (some, room)
    by (Some k) h = let long = length-drop n text in let short = length-take k (drop n text) in (omega arith, omega arith)

-- autolinks and raw HTML

angle_size : (entities : EntityTable) (text : List ℕ) (at : ℕ) (r : Option Auto) (s : Option ℕ) → at < length text → IfSome r (λ auto. IsEndIn text at auto.end) →
    IfSome s (IsSizeIn (drop at text)) → IsSizeIn (drop at text) (angle_lexeme entities text at r s).size
angle_size entities text at (Some auto) s below h k = let long = length-drop at text in (omega arith, omega arith)
angle_size entities text at None (Some size) below h k = k
angle_size entities text at None None below h k = let long = length-drop at text in (omega arith, omega arith)

-- delimiter runs

run_begins : (d : DelimiterChar) (b : ℕ) (rest : List ℕ) → delimiter_of b ≡ Some d → 0 < run_length d (b ∷ rest)
run_begins d b rest h = by (eqb b 42) (eqb b 95) (eqb b 126) refl refl refl h
  where
    by : (s t u : Bool) → eqb b 42 ≡ s → eqb b 95 ≡ t → eqb b 126 ≡ u →
        cond s (Some Asterisk) (cond t (Some Underscore) (cond u (Some Tilde) None)) ≡ Some d → 0 < run_length d (b ∷ rest)
    by true t u e f g h =
        let same : Asterisk ≡ d = cc in
        subst (λ (c : DelimiterChar). 0 < run_length c (b ∷ rest)) same (rw e (omega arith))
    by false true u e f g h =
        let same : Underscore ≡ d = cc in
        subst (λ (c : DelimiterChar). 0 < run_length c (b ∷ rest)) same (rw f (omega arith))
    by false false true e f g h =
        let same : Tilde ≡ d = cc in
        subst (λ (c : DelimiterChar). 0 < run_length c (b ∷ rest)) same (rw g (omega arith))
    by false false false e f g h = cc

pub byte_at : (text : List ℕ) (at : ℕ) → at < length text → drop at text ≡ slice_index text at ∷ drop (at + 1) text
byte_at text at h = rw (add-one, drop-cons text at 0) refl

run_size_by : (text : List ℕ) (at : ℕ) (o : Option DelimiterChar) → ((d : DelimiterChar) → o ≡ Some d → 0 < run_length d (drop at text)) → 0 < length (drop at text) →
    IsSizeIn (drop at text) (run_lexeme (drop at text) (run_of text at o)).size
run_size_by text at None h some = (omega arith, omega arith)
run_size_by text at (Some d) h some = (h d refl, prefix_len-le-length _ (drop at text))

get_at : (text : List ℕ) (at : ℕ) → at < length text → slice_get text at ≡ Some (slice_index text at)
get_at text at h = slice_get-get_or text at 0 h

run_size : (text : List ℕ) (at : ℕ) → at < length text → 0 < length (drop at text) → IsSizeIn (drop at text) (run_lexeme (drop at text) (run_at text at)).size
unfolding run_at
run_size text at below some =
    run_size_by text at (option_and_then delimiter_of (slice_get text at))
    (λ d h. subst (λ (rest : List ℕ). 0 < run_length d rest) (sym (byte_at text at below))
    (run_begins d (slice_index text at) (drop (at + 1) text) (ap (option_and_then delimiter_of) (sym (get_at text at below)) ∙ h)))
    some

kept_size : (entities : EntityTable) (rest : List ℕ) (o : Option DelimiterRun) → 0 < length rest → IsSizeIn rest (run_lexeme rest o).size → IsSizeIn rest (run_lexeme rest (kept_run entities o)).size
kept_size entities rest None some h = h
kept_size entities rest (Some run) some h = by (is_lone_tilde run.delimiter run.length && entities.double_tilde)
  where
    by : (t : Bool) → IsSizeIn rest (run_lexeme rest (if t then None else Some run)).size
    by true = (omega arith, some)
    by false = h

-- what begins at a place

backtick_only : (b : ℕ) → sign_of b ≡ Backtick → nat_eq b 96 ≡ true
backtick_only b h = by (nat_eq b 92) (nat_eq b 38) (nat_eq b 96) (nat_eq b 60) (nat_eq b 32 || nat_eq b 10) (nat_eq b 42 || nat_eq b 95 || nat_eq b 126) (nat_eq b 91) (nat_eq b 33) (nat_eq b 93) h
  where
    by : (o p q r s t u v w : Bool) →
        (if o then Backslash else if p then Ampersand else if q then Backtick else if r then LessThan else if s then Blank else
        if t then DelimiterMark else if u then Bracket else if v then Exclamation else if w then ClosingBracket else Other) ≡ Backtick → q ≡ true
    by o p true r s t u v w h = refl
    by true p false r s t u v w h = cc
    by false true false r s t u v w h = cc
    by false false false true s t u v w h = cc
    by false false false false true t u v w h = cc
    by false false false false false true u v w h = cc
    by false false false false false false true v w h = cc
    by false false false false false false false true w h = cc
    by false false false false false false false false true h = cc
    by false false false false false false false false false h = cc

lexeme_size : (entities : EntityTable) (text : List ℕ) (at : ℕ) → at < length text → (s : Sign) → sign_of (slice_index text at) ≡ s →
    IsSizeIn (drop at text) (lexeme_by entities text at (drop at text) s).size
lexeme_size entities text at below s e = by s e
  where
    some : 0 < length (drop at text)
    some = let long = length-drop at text in omega arith

    single : IsSizeIn (drop at text) 1
    single = (omega arith, some)

    ticks : sign_of (slice_index text at) ≡ Backtick → 0 < backticks (drop at text)
    ticks e = subst (λ (rest : List ℕ). 0 < backticks rest) (sym (byte_at text at below)) (rw (backtick_only (slice_index text at) e) (omega arith))

    image : (t : Bool) → (t ≡ true → 1 < length (drop at text)) → IsSizeIn (drop at text) ((if t then bracket_lexeme 2 true else as_written 1 (drop at text)).size)
    image true h = (omega arith, h refl)
    image false h = single

    by : (s : Sign) → sign_of (slice_index text at) ≡ s → IsSizeIn (drop at text) (lexeme_by entities text at (drop at text) s).size
    by Backslash e = escape_size (drop at text) some
    by Ampersand e = referred_size (drop at text) (reference entities (drop 1 (drop at text))) some (reference_size entities (drop 1 (drop at text)))
    by Backtick e = code_size (drop at text) (ticks e)
    by LessThan e = angle_size entities text at (autolink_at text at) (raw_html (drop at text)) below (autolink_ends text at) (raw_html_size (drop at text))
    by Blank e = break_size (drop at text) (spaced_break (drop at text)) some (spaced_size (drop at text))
    by DelimiterMark e = kept_size entities (drop at text) (run_at text at) some (run_size text at below some)
    by Bracket e = single
    by Exclamation e = image (begins_with 91 (drop 1 (drop at text))) (begins_below 91 1 (drop at text))
    by ClosingBracket e = single
    by Other e = single

lex_size : (entities : EntityTable) (text : List ℕ) (at : ℕ) → at < length text → IsSizeIn (drop at text) (lex entities text at).size
unfolding lex
lex_size entities text at below = lexeme_size entities text at below (sign_of (slice_index text at)) refl

-- a `]` with what stands behind it

empty_end : (text : List ℕ) (at : ℕ) → at ≤ length text → at ≤ (if empty_brackets_at text at then at + 2 else at)
empty_end text at h = by (empty_brackets_at text at)
  where
    by : (t : Bool) → at ≤ (if t then at + 2 else at)
    by true = omega arith
    by false = omega arith

empty_within : (text : List ℕ) (at : ℕ) → at ≤ length text → (if empty_brackets_at text at then at + 2 else at) ≤ length text
empty_within text at h = by (empty_brackets_at text at) (λ e. begins_below 93 (at + 1) text (and_parts _ _ e).1)
  where
    by : (t : Bool) → (t ≡ true → at + 1 < length text) → (if t then at + 2 else at) ≤ length text
    by true k = let below = k refl in omega arith
    by false k = h

abbrev IsTailEnd : List ℕ → ℕ → ℕ → Type 0
IsTailEnd text after end = (after ≤ end) × (end ≤ length text)

-- a tail that is there ends so
EndsWithin : List ℕ → ℕ → LinkTail → Type 0
EndsWithin text after (Direct target end) = IsTailEnd text after end
EndsWithin text after (ByLabel label end) = IsTailEnd text after end
EndsWithin text after NoLabel = Unit {0}

labelled_ends : (text : List ℕ) (after end : ℕ) (label : Option (List ℕ)) → IsTailEnd text after end → EndsWithin text after (by_label label end)
unfolding EndsWithin
labelled_ends text after end None h = tt
labelled_ends text after end (Some label) h = h

reference_ends : (entities : EntityTable) (text : List ℕ) (after : ℕ) (inside : List ℕ) (r : Option Tail) (s : Option Span) → after ≤ length text →
    IfSome r (λ tail. IsEndIn text after tail.end) → IfSome s (λ span. IsEndIn text after (span.end + 1)) →
    EndsWithin text after (link_tail_by entities text after inside r s)
unfolding EndsWithin
reference_ends entities text after inside (Some tail) s le h k = (omega arith, h.1)
reference_ends entities text after inside None (Some span) le h k = labelled_ends text after (span.end + 1) (label_of (part text span)) (omega arith, k.1)
reference_ends entities text after inside None None le h k =
    labelled_ends text after (if empty_brackets_at text after then after + 2 else after) (label_of inside) (empty_end text after le, empty_within text after le)

abbrev Fits : List ℕ → ℕ → ℕ → Type 0
Fits text at size = (0 < size) × (at + size ≤ length text)

looked_up_fits : (text : List ℕ) (at end : ℕ) (label : List ℕ) (r : Option LinkTarget) → at < length text → at + 1 ≤ end → end ≤ length text → Fits text at (looked_up at end label r).size
looked_up_fits text at end label None below le within = (omega arith, omega arith)
looked_up_fits text at end label (Some target) below le within = (omega arith, omega arith)

by_link_tail_fits : (table : Table) (text : List ℕ) (at : ℕ) (r : LinkTail) → at < length text → EndsWithin text (at + 1) r → Fits text at (by_link_tail table at r).size
unfolding EndsWithin
by_link_tail_fits table text at (Direct target end) below h = (omega arith, omega arith)
by_link_tail_fits table text at NoLabel below h = (omega arith, omega arith)
by_link_tail_fits table text at (ByLabel label end) below h = looked_up_fits text at end label (table label) below h.0 h.1

reference_fits : (entities : EntityTable) (table : Table) (text : List ℕ) (at : ℕ) (inside : List ℕ) → at < length text →
    Fits text at (by_link_tail table at (link_tail_at entities text (at + 1) inside)).size
unfolding link_tail_at
reference_fits entities table text at inside below =
    by_link_tail_fits table text at (link_tail_by entities text (at + 1) inside (inline_tail_at text (at + 1)) (label_at text (at + 1))) below
    (reference_ends entities text (at + 1) inside (inline_tail_at text (at + 1)) (label_at text (at + 1)) (omega arith) (inline_tail_ends text (at + 1)) (label_ends text (at + 1)))

closing_fits : (entities : EntityTable) (table : Table) (text : List ℕ) (at : ℕ) (r : Option Opened) → at < length text → Fits text at (closing entities table text at r).size
closing_fits entities table text at None below = (omega arith, omega arith)
closing_fits entities table text at (Some o) below = by (is_live o)
  where
    by : (t : Bool) → Fits text at ((if t then by_link_tail table at (link_tail_at entities text (at + 1) (take (at - o.begin) (drop o.begin text))) else closing_bracket []).size)
    by true = reference_fits entities table text at (take (at - o.begin) (drop o.begin text)) below
    by false = (omega arith, omega arith)

item_by_fits : (entities : EntityTable) (table : Table) (text : List ℕ) (at : ℕ) (ps : List Piece) (size : ℕ) (k : Kind) → at < length text → Fits text at size →
    Fits text at (item_by entities table text at ps size k).size
item_by_fits entities table text at ps size (Leaf es) below h = h
item_by_fits entities table text at ps size (Delimiters r) below h = h
item_by_fits entities table text at ps size (OpenBracket image) below h = h
item_by_fits entities table text at ps size CloseBracket below h = closing_fits entities table text at (nearest_opener ps) below

pub item_fits : (entities : EntityTable) (table : Table) (text : List ℕ) (at : ℕ) (ps : List Piece) → at < length text → Fits text at (item_at entities table text at ps).size
unfolding item_at
item_fits entities table text at ps below =
    let l = lex entities text at in
    let size = lex_size entities text at below in
    item_by_fits entities table text at ps l.size l.kind below (size.0, behind text at l.size size.0 size.1)
