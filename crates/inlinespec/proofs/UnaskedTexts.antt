-- In a text in which no bracket closes no label is looked up.
use Rattle.std.proofs.Common.{◌≡◌, ℕ, zero, suc, ◌+◌, ◌-◌, Bool, true, false, ◌==◌, ◌||◌, take, drop, List, [], ◌∷◌, ◌++◌, Option, Some, None, refl, sym, ap, ◌∙◌, subst, cond, eqb, arith}
use Rattle.std.specs.Prelude.{get_or, slice_index}
use Rattle.std.specs.List.{list_any}
use Rattle.std.proofs.lemmas.Bool.{or_parts}
use Rattle.std.proofs.lemmas.List.{drop-drop, get_or-drop}
use Rattle.mdtext.specs.EntityTable.{EntityTable}
use Rattle.mdtext.specs.CharacterReferences.{Meaning, reference}
use Rattle.mdscan.specs.declared.autolinks.Auto.{Auto}
use Rattle.mdscan.specs.Autolink.{autolink_at}
use Rattle.mdscan.specs.Blanks.{begins_with}
use Rattle.mdscan.specs.BackslashEscapes.{begins_escape}
use Rattle.mdscan.specs.RawHtml.{raw_html}
use Rattle.mdpair.specs.declared.delimiter_runs.DelimiterRun.{DelimiterRun}
use Rattle.inlinespec.specs.CodeSpans.{code_inside, code_lexeme}
use Rattle.inlinespec.specs.InlineEvents.{written}
use Rattle.inlinespec.specs.Lexemes.{Kind, Leaf, Delimiters, OpenBracket, CloseBracket, leaf, as_written, bracket_lexeme}
use Rattle.inlinespec.specs.Lexing.{Sign, Backslash, Ampersand, Backtick, LessThan, Blank, DelimiterMark, Bracket, Exclamation, ClosingBracket, Other, sign_of, lexeme_by, lex}
use Rattle.inlinespec.specs.LineBreaks.{break_or_written, LineBreak, spaced_break, backslash_break}
use Rattle.inlinespec.specs.BackslashEscapes.{escape_lexeme}
use Rattle.inlinespec.specs.CharacterReferences.{reference_lexeme}
use Rattle.inlinespec.specs.RawHtml.{angle_lexeme}
use Rattle.inlinespec.specs.DelimiterRuns.{delimiters_at, run_lexeme}
use Rattle.inlinespec.specs.LinkTails.{Table}
use Rattle.inlinespec.specs.Pieces.{Piece}
use Rattle.inlinespec.specs.TextReading.{item_by, item_at, after_deed, items_from, asks_of}
use Rattle.inlinespec.specs.TextTree.{inl, asked, Agree, as_set}
use Rattle.inlinespec.proofs.AskedLabels.{same_inl}

-- ---- no bracket closes where none stands

ClosesNone : Sign → Type 0
ClosesNone ClosingBracket = ⊥
ClosesNone Backslash = Unit {0}
ClosesNone Ampersand = Unit {0}
ClosesNone Backtick = Unit {0}
ClosesNone LessThan = Unit {0}
ClosesNone Blank = Unit {0}
ClosesNone DelimiterMark = Unit {0}
ClosesNone Bracket = Unit {0}
ClosesNone Exclamation = Unit {0}
ClosesNone Other = Unit {0}

either_sign : (t : Bool) (one other : Sign) → ClosesNone one → ClosesNone other → ClosesNone (cond t one other)
either_sign true one other h k = h
either_sign false one other h k = k

sign_closes_none : (b : ℕ) → eqb b 93 ≡ false → ClosesNone (sign_of b)
unfolding ClosesNone
sign_closes_none b none =
    either_sign (b == 92) Backslash _ tt (either_sign (b == 38) Ampersand _ tt (either_sign (b == 96) Backtick _ tt (either_sign (b == 60) LessThan _ tt
    (either_sign (b == 32 || b == 10) Blank _ tt (either_sign (b == 42 || b == 95 || b == 126) DelimiterMark _ tt (either_sign (b == 91) Bracket _ tt
    (either_sign (b == 33) Exclamation _ tt (subst (λ t. ClosesNone (cond t ClosingBracket Other)) (sym none) tt))))))))

IsOther : Kind → Type 0
IsOther CloseBracket = ⊥
IsOther (Leaf events) = Unit {0}
IsOther (Delimiters run) = Unit {0}
IsOther (OpenBracket image) = Unit {0}

break_is_other : (text : List ℕ) (b : Option LineBreak) → IsOther (break_or_written text b).kind
unfolding IsOther
break_is_other text None = tt
break_is_other text (Some b) = tt

escape_is_other : (text : List ℕ) → IsOther (escape_lexeme text).kind
unfolding escape_lexeme IsOther
escape_is_other text = by (begins_escape text)
  where
    by : (t : Bool) → IsOther (cond t (leaf 2 (written (take 1 (drop 1 text)))) (break_or_written text (backslash_break text))).kind
    by true = tt
    by false = break_is_other text (backslash_break text)

reference_is_other : (text : List ℕ) (m : Option Meaning) → IsOther (reference_lexeme text m).kind
unfolding IsOther
reference_is_other text None = tt
reference_is_other text (Some m) = tt

code_is_other : (text : List ℕ) (inside : Option (List ℕ)) → IsOther (code_lexeme text inside).kind
unfolding IsOther
code_is_other text None = tt
code_is_other text (Some inside) = tt

angle_is_other : (e : EntityTable) (text : List ℕ) (at : ℕ) (auto : Option Auto) (tag : Option ℕ) → IsOther (angle_lexeme e text at auto tag).kind
unfolding IsOther
angle_is_other e text at (Some auto) tag = tt
angle_is_other e text at None (Some size) = tt
angle_is_other e text at None None = tt

run_is_other : (text : List ℕ) (run : Option DelimiterRun) → IsOther (run_lexeme text run).kind
unfolding IsOther
run_is_other text None = tt
run_is_other text (Some run) = tt

image_is_other : (t : Bool) (text : List ℕ) → IsOther (cond t (bracket_lexeme 2 true) (as_written 1 text)).kind
unfolding IsOther
image_is_other true text = tt
image_is_other false text = tt

lexeme_is_other : (e : EntityTable) (text : List ℕ) (at : ℕ) (rest : List ℕ) (s : Sign) → ClosesNone s → IsOther (lexeme_by e text at rest s).kind
unfolding ClosesNone IsOther
lexeme_is_other e text at rest Backslash h = escape_is_other rest
lexeme_is_other e text at rest Ampersand h = reference_is_other rest (reference e (drop 1 rest))
lexeme_is_other e text at rest Backtick h = code_is_other rest (code_inside rest)
lexeme_is_other e text at rest LessThan h = angle_is_other e text at (autolink_at text at) (raw_html rest)
lexeme_is_other e text at rest Blank h = break_is_other rest (spaced_break rest)
lexeme_is_other e text at rest DelimiterMark h = run_is_other rest (delimiters_at e text at)
lexeme_is_other e text at rest Bracket h = tt
lexeme_is_other e text at rest Exclamation h = image_is_other (begins_with 91 (drop 1 rest)) rest
lexeme_is_other e text at rest ClosingBracket h = absurd h
lexeme_is_other e text at rest Other h = tt

-- ---- so no label is looked up

other_asks_none : (e : EntityTable) (table : Table) (text : List ℕ) (at : ℕ) (ps : List Piece) (size : ℕ) (k : Kind) → IsOther k → (item_by e table text at ps size k).asks ≡ []
unfolding IsOther
other_asks_none e table text at ps size (Leaf es) h = refl
other_asks_none e table text at ps size (Delimiters r) h = refl
other_asks_none e table text at ps size (OpenBracket image) h = refl
other_asks_none e table text at ps size CloseBracket h = absurd h

item_asks_none : (e : EntityTable) (table : Table) (text : List ℕ) (at : ℕ) (ps : List Piece) → eqb (slice_index text at) 93 ≡ false → (item_at e table text at ps).asks ≡ []
unfolding item_at lex
item_asks_none e table text at ps none =
    other_asks_none e table text at ps (lex e text at).size (lex e text at).kind
    (lexeme_is_other e text at (drop at text) (sign_of (slice_index text at)) (sign_closes_none (slice_index text at) none))

next_byte : (text : List ℕ) (at b : ℕ) (rest : List ℕ) → drop at text ≡ b ∷ rest → slice_index text at ≡ b
next_byte text at b rest h =
    let e : at ≡ at + 0 = omega arith in
    ap (λ n. get_or text n 0) e ∙ sym (get_or-drop at text 0 0) ∙ ap (λ l. get_or l 0 0) h

items_ask_none : (e : EntityTable) (table : Table) (text : List ℕ) (at skip : ℕ) (ps : List Piece) (rest : List ℕ) → drop at text ≡ rest
    → list_any (λ b. b == 93) rest ≡ false → asks_of (items_from e table text at skip ps rest) ≡ []
unfolding items_from asks_of
items_ask_none e table text at skip ps [] is none = refl
items_ask_none e table text at (suc skip) ps (b ∷ rest) is none =
    items_ask_none e table text (at + 1) skip ps rest (sym (drop-drop 1 at text) ∙ ap (drop 1) is) (or_parts (b == 93) (list_any (λ b. b == 93) rest) none).1
items_ask_none e table text at zero ps (b ∷ rest) is none =
    let parts = or_parts (b == 93) (list_any (λ b. b == 93) rest) none in
    let x = item_at e table text at ps in
    ap (λ asks. asks ++ asks_of (items_from e table text (at + 1) (x.size - 1) (after_deed x.deed ps) rest))
    (item_asks_none e table text at ps (ap (λ c. eqb c 93) (next_byte text at b rest is) ∙ parts.0))
    ∙ items_ask_none e table text (at + 1) (x.size - 1) (after_deed x.deed ps) rest (sym (drop-drop 1 at text) ∙ ap (drop 1) is) parts.1

pub asks_none : (e : EntityTable) (table : Table) (text : List ℕ) → list_any (λ b. b == 93) text ≡ false → asked e table text ≡ []
unfolding asked
asks_none e table text none = ap as_set (items_ask_none e table text 0 0 [] text refl none)

pub reads_alike : (e : EntityTable) (one other : Table) (text : List ℕ) → list_any (λ b. b == 93) text ≡ false → inl e one text ≡ inl e other text
reads_alike e one other text none = same_inl one other e text (subst (Agree one other) (sym (asks_none e one text none)) tt)
