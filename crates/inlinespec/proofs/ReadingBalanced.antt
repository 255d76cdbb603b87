-- In the events of a reading each span that begins also ends.
use Rattle.std.proofs.Common.{◌≡◌, ℕ, zero, suc, ◌+◌, ◌-◌, Bool, true, false, List, [], ◌∷◌, ◌++◌, length, take, drop, reverse, Option, Some, None, IfSome, sym, subst}
use Rattle.std.specs.Prelude.{if◌then◌else◌, slice_index}
use Rattle.std.proofs.lemmas.Grind.{reverse_onto}
use Rattle.mdtext.specs.EntityTable.{EntityTable}
use Rattle.mdtext.specs.CharacterReferences.{Meaning, reference}
use Rattle.mdscan.specs.declared.autolinks.Auto.{Auto}
use Rattle.mdscan.specs.Autolink.{autolink_at}
use Rattle.mdscan.specs.Blanks.{begins_with}
use Rattle.mdscan.specs.BackslashEscapes.{begins_escape}
use Rattle.mdscan.specs.RawHtml.{raw_html}
use Rattle.mdpair.specs.declared.delimiter_runs.DelimiterRun.{DelimiterRun}
use Rattle.inlinespec.specs.LabelMap.{LinkTarget}
use Rattle.inlinespec.specs.Autolinks.{autolink_text, autolink_target}
use Rattle.inlinespec.specs.CodeSpans.{backticks, code_content, code_inside, code_lexeme}
use Rattle.inlinespec.specs.InlineEvents.{Event, HardBreak, SoftBreak, LinkTo, written, rows_of}
use Rattle.inlinespec.specs.LineBreaks.{LineBreak, spaced_break, backslash_break, break_or_written}
use Rattle.inlinespec.specs.Lexemes.{Kind, Leaf, Delimiters, OpenBracket, CloseBracket, leaf, as_written, bracket_lexeme}
use Rattle.inlinespec.specs.Lexing.{Sign, Backslash, Ampersand, Backtick, LessThan, Blank, DelimiterMark, Bracket, Exclamation, ClosingBracket, Other, sign_of, lexeme_by, lex}
use Rattle.inlinespec.specs.BackslashEscapes.{escape_lexeme}
use Rattle.inlinespec.specs.CharacterReferences.{reference_lexeme}
use Rattle.inlinespec.specs.RawHtml.{angle_lexeme}
use Rattle.inlinespec.specs.DelimiterRuns.{delimiters_at, run_lexeme}
use Rattle.inlinespec.specs.LinkTails.{Table, LinkTail, Direct, ByLabel, NoLabel, link_tail_at}
use Rattle.inlinespec.specs.Pieces.{Piece, Made, Run, Opening}
use Rattle.inlinespec.specs.Emphasis.{settled}
use Rattle.inlinespec.specs.Links.{Opened, opened_with, nearest_opener, is_live, linked}
use Rattle.inlinespec.specs.TextReading.{Deed, Adds, Spends, Links, closing_bracket, looked_up, by_link_tail, closing, item_by, item_at, spent, after_deed, items_from, reading, pieces_after}
use Rattle.inlinespec.specs.Images.{span_to}
use Rattle.inlinespec.specs.SpanEnds.{EndSpans}
use Rattle.inlinespec.specs.TextTree.{events_of}
use Rattle.inlinespec.proofs.TreeEvents.{some_more, some_rows}
use Rattle.inlinespec.proofs.BalancedEvents.{IsBalanced, written_balanced, code_balanced, raw_balanced, soft_balanced, hard_balanced, within_balanced, AreBalanced, bracket_balanced, settled_balanced, rows}
use Rattle.inlinespec.proofs.PairedSpans.{spans_paired}

-- leaves

IsLeafBalanced : Kind → Type 0
IsLeafBalanced (Leaf es) = IsBalanced es
IsLeafBalanced (Delimiters r) = Unit {0}
IsLeafBalanced (OpenBracket image) = Unit {0}
IsLeafBalanced CloseBracket = Unit {0}

break_balanced : (text : List ℕ) (r : Option LineBreak) → IsLeafBalanced (break_or_written text r).kind
unfolding IsLeafBalanced
break_balanced text None = written_balanced (take 1 text)
break_balanced text (Some b) = by b.is_hard
  where
    by : (t : Bool) → IsBalanced ((if t then HardBreak else SoftBreak) ∷ [])
    by true = hard_balanced
    by false = soft_balanced

escape_balanced : (text : List ℕ) → IsLeafBalanced (escape_lexeme text).kind
unfolding IsLeafBalanced escape_lexeme
escape_balanced text = by (begins_escape text)
  where
    by : (t : Bool) → IsLeafBalanced ((if t then leaf 2 (written (take 1 (drop 1 text))) else break_or_written text (backslash_break text)).kind)
    by true = written_balanced (take 1 (drop 1 text))
    by false = break_balanced text (backslash_break text)

reference_balanced : (text : List ℕ) (r : Option Meaning) → IsLeafBalanced (reference_lexeme text r).kind
unfolding IsLeafBalanced
reference_balanced text None = written_balanced (take 1 text)
reference_balanced text (Some m) = written_balanced m.1

ticks_balanced : (text : List ℕ) (r : Option (List ℕ)) → IsLeafBalanced (code_lexeme text r).kind
unfolding IsLeafBalanced
ticks_balanced text None = written_balanced (take (backticks text) text)
ticks_balanced text (Some inside) = code_balanced (code_content inside)

angle_balanced : (entities : EntityTable) (text : List ℕ) (at : ℕ) (r : Option Auto) (s : Option ℕ) → IsLeafBalanced (angle_lexeme entities text at r s).kind
unfolding IsLeafBalanced
angle_balanced entities text at (Some auto) s =
    let shown = autolink_text entities text at auto in
    within_balanced (LinkTo (autolink_target auto shown)) (written shown) (written_balanced shown)
angle_balanced entities text at None (Some size) = raw_balanced (take size (drop at text))
angle_balanced entities text at None None = written_balanced (take 1 (drop at text))

run_balanced : (text : List ℕ) (r : Option DelimiterRun) → IsLeafBalanced (run_lexeme text r).kind
unfolding IsLeafBalanced
run_balanced text None = written_balanced (take 1 text)
run_balanced text (Some r) = tt

image_balanced : (text : List ℕ) → IsLeafBalanced ((if begins_with 91 (drop 1 text) then bracket_lexeme 2 true else as_written 1 text).kind)
unfolding IsLeafBalanced
image_balanced text = by (begins_with 91 (drop 1 text))
  where
    by : (t : Bool) → IsLeafBalanced ((if t then bracket_lexeme 2 true else as_written 1 text).kind)
    by true = tt
    by false = written_balanced (take 1 text)

lexeme_balanced : (entities : EntityTable) (text : List ℕ) (at : ℕ) (rest : List ℕ) (s : Sign) → IsLeafBalanced (lexeme_by entities text at rest s).kind
unfolding IsLeafBalanced
lexeme_balanced entities text at rest Backslash = escape_balanced rest
lexeme_balanced entities text at rest Ampersand = reference_balanced rest (reference entities (drop 1 rest))
lexeme_balanced entities text at rest Backtick = ticks_balanced rest (code_inside rest)
lexeme_balanced entities text at rest LessThan = angle_balanced entities text at (autolink_at text at) (raw_html rest)
lexeme_balanced entities text at rest Blank = break_balanced rest (spaced_break rest)
lexeme_balanced entities text at rest DelimiterMark = run_balanced rest (delimiters_at entities text at)
lexeme_balanced entities text at rest Bracket = tt
lexeme_balanced entities text at rest Exclamation = image_balanced rest
lexeme_balanced entities text at rest ClosingBracket = tt
lexeme_balanced entities text at rest Other = written_balanced (take 1 rest)

lex_balanced : (entities : EntityTable) (text : List ℕ) (at : ℕ) → IsLeafBalanced (lex entities text at).kind
unfolding lex
lex_balanced entities text at = lexeme_balanced entities text at (drop at text) (sign_of (slice_index text at))

-- items

IsDeedBalanced : Deed → Type 0
IsDeedBalanced (Adds p) = AreBalanced (p ∷ [])
IsDeedBalanced Spends = Unit {0}
IsDeedBalanced (Links target) = Unit {0}

found_balanced : (at end : ℕ) (label : List ℕ) (r : Option LinkTarget) → IsDeedBalanced (looked_up at end label r).deed
unfolding IsDeedBalanced
found_balanced at end label None = tt
found_balanced at end label (Some target) = tt

referred_balanced : (table : Table) (at : ℕ) (r : LinkTail) → IsDeedBalanced (by_link_tail table at r).deed
unfolding IsDeedBalanced
referred_balanced table at (Direct target end) = tt
referred_balanced table at NoLabel = tt
referred_balanced table at (ByLabel label end) = found_balanced at end label (table label)

closing_balanced : (entities : EntityTable) (table : Table) (text : List ℕ) (at : ℕ) (r : Option Opened) → IsDeedBalanced (closing entities table text at r).deed
unfolding IsDeedBalanced
closing_balanced entities table text at None = tt
closing_balanced entities table text at (Some o) = by (is_live o)
  where
    by : (t : Bool) → IsDeedBalanced ((if t then by_link_tail table at (link_tail_at entities text (at + 1) (take (at - o.begin) (drop o.begin text))) else closing_bracket []).deed)
    by true = referred_balanced table at (link_tail_at entities text (at + 1) (take (at - o.begin) (drop o.begin text)))
    by false = tt

item_by_balanced : (entities : EntityTable) (table : Table) (text : List ℕ) (at : ℕ) (ps : List Piece) (size : ℕ) (k : Kind) → IsLeafBalanced k →
    IsDeedBalanced (item_by entities table text at ps size k).deed
unfolding IsLeafBalanced IsDeedBalanced AreBalanced
item_by_balanced entities table text at ps size (Leaf es) h = (h, tt)
item_by_balanced entities table text at ps size (Delimiters r) h = tt
item_by_balanced entities table text at ps size (OpenBracket image) h = tt
item_by_balanced entities table text at ps size CloseBracket h = closing_balanced entities table text at (nearest_opener ps)

item_balanced : (entities : EntityTable) (table : Table) (text : List ℕ) (at : ℕ) (ps : List Piece) → IsDeedBalanced (item_at entities table text at ps).deed
unfolding item_at
item_balanced entities table text at ps =
    item_by_balanced entities table text at ps (lex entities text at).size (lex entities text at).kind (lex_balanced entities text at)

-- pieces

added : (p : Piece) (ps : List Piece) → AreBalanced (p ∷ []) → AreBalanced ps → AreBalanced (p ∷ ps)
unfolding AreBalanced
added (Made has_link es) ps h k = (h.0, k)
added (Run r) ps h k = k
added (Opening image begin) ps h k = k

spent_balanced : (ps : List Piece) → AreBalanced ps → AreBalanced (spent ps)
unfolding AreBalanced
spent_balanced [] h = tt
spent_balanced (Opening image begin ∷ below) h = (bracket_balanced image, h)
spent_balanced (Made has_link es ∷ below) h = (h.0, spent_balanced below h.1)
spent_balanced (Run r ∷ below) h = spent_balanced below h

abbrev IsOpenedBalanced : Opened → Type 0
IsOpenedBalanced o = AreBalanced o.inside × AreBalanced o.below

opened_balanced : (inside ps : List Piece) → AreBalanced inside → AreBalanced ps → IfSome (opened_with inside ps) IsOpenedBalanced
unfolding AreBalanced
opened_balanced inside [] h k = tt
opened_balanced inside (Opening image begin ∷ below) h k = (h, k)
opened_balanced inside (Made has_link es ∷ below) h k = opened_balanced (Made has_link es ∷ inside) below (k.0, h) k.1
opened_balanced inside (Run r ∷ below) h k = opened_balanced (Run r ∷ inside) below h k

linked_balanced : (target : LinkTarget) (ps : List Piece) (r : Option Opened) → AreBalanced ps → IfSome r IsOpenedBalanced → AreBalanced (linked target ps r)
unfolding AreBalanced
linked_balanced target ps None h k = h
linked_balanced target ps (Some o) h k = (within_balanced (span_to o.image target) (settled o.inside) (settled_balanced o.inside k.0), k.1)

nothing_balanced : AreBalanced []
unfolding AreBalanced
nothing_balanced = tt

deed_balanced : (d : Deed) (ps : List Piece) → IsDeedBalanced d → AreBalanced ps → AreBalanced (after_deed d ps)
unfolding IsDeedBalanced AreBalanced
deed_balanced (Adds p) ps h k = added p ps h k
deed_balanced Spends ps h k = (written_balanced (93 ∷ []), spent_balanced ps k)
deed_balanced (Links target) ps h k = linked_balanced target ps (nearest_opener ps) k (opened_balanced [] ps nothing_balanced k)

pieces_balanced : (entities : EntityTable) (table : Table) (text rest : List ℕ) (at skip : ℕ) (ps : List Piece) → AreBalanced ps →
    AreBalanced (pieces_after (items_from entities table text at skip ps rest) ps)
unfolding items_from pieces_after
pieces_balanced entities table text [] at zero ps h = h
pieces_balanced entities table text [] at (suc skip) ps h = h
pieces_balanced entities table text (b ∷ rest) at (suc skip) ps h = pieces_balanced entities table text rest (at + 1) skip ps h
pieces_balanced entities table text (b ∷ rest) at zero ps h =
    let x = item_at entities table text at ps in
    pieces_balanced entities table text rest (at + 1) (x.size - 1) (after_deed x.deed ps) (deed_balanced x.deed ps (item_balanced entities table text at ps) h)

joined_balanced : (xs ys : List Piece) → AreBalanced xs → AreBalanced ys → AreBalanced (xs ++ ys)
unfolding AreBalanced
joined_balanced [] ys h k = k
joined_balanced (Made has_link es ∷ xs) ys h k = (h.0, joined_balanced xs ys h.1 k)
joined_balanced (Run r ∷ xs) ys h k = joined_balanced xs ys h k
joined_balanced (Opening image begin ∷ xs) ys h k = joined_balanced xs ys h k

apart : (p : Piece) (ps : List Piece) → AreBalanced (p ∷ ps) → AreBalanced (p ∷ []) × AreBalanced ps
unfolding AreBalanced
apart (Made has_link es) ps h = ((h.0, tt), h.1)
apart (Run r) ps h = (tt, h)
apart (Opening image begin) ps h = (tt, h)

reverse_balanced : (ps : List Piece) → AreBalanced ps → AreBalanced (reverse ps)
reverse_balanced [] h = nothing_balanced
reverse_balanced (p ∷ ps) h =
    let parts = apart p ps h in
    subst AreBalanced (sym (reverse_onto ps p [])) (joined_balanced (reverse ps) (p ∷ []) (reverse_balanced ps parts.1) parts.0)

pub reading_balanced : (entities : EntityTable) (table : Table) (text : List ℕ) (rest : List Event) → length (rows_of (events_of (reading entities table text) ++ rest)) ≡ length (rows_of rest)
unfolding IsBalanced rows
reading_balanced entities table text rest =
    let pieces = pieces_after (reading entities table text) [] in
    let made = pieces_balanced entities table text text 0 0 [] nothing_balanced in
    settled_balanced (reverse pieces) (reverse_balanced pieces made) rest (some_more (rows_of rest) (some_rows rest))

-- Spans begin and end in pairs.
pub reading_paired : (entities : EntityTable) (table : Table) (text : List ℕ) → EndSpans 0 (events_of (reading entities table text))
reading_paired entities table text = spans_paired (events_of (reading entities table text)) (reading_balanced entities table text)
