-- What stands at a place, by the byte there.
use Rattle.std.proofs.Common.{◌≡◌, ℕ, ◌+◌, ◌<◌, ◌≤◌, Bool, true, false, ◌||◌, ◌==◌, eqb, not, List, [], ◌∷◌, length, take, drop, get_or, length-drop, Option, Some, None, refl, ap, ◌∙◌, arith, if◌then◌else◌}
use Rattle.std.proofs.lemmas.List.{get_or-drop, drop-drop}
use Rattle.std.proofs.lemmas.Bool.Decides.{nat_tests}
use Rattle.mdtext.specs.EntityTable.{EntityTable}
use Rattle.mdtext.specs.CharacterReferences.{Meaning, reference}
use Rattle.mdscan.specs.declared.autolinks.Auto.{Auto}
use Rattle.mdscan.specs.Autolink.{autolink_at}
use Rattle.mdscan.specs.Blanks.{begins_with}
use Rattle.mdscan.specs.BackslashEscapes.{begins_escape}
use Rattle.mdscan.specs.RawHtml.{raw_html}
use Rattle.mdpair.specs.declared.delimiter_runs.DelimiterRun.{DelimiterRun}
use Rattle.inlinespec.specs.CodeSpans.{code_inside, code_lexeme}
use Rattle.inlinespec.specs.InlineEvents.{written}
use Rattle.inlinespec.specs.Lexemes.{CloseBracket, leaf, as_written, bracket_lexeme}
use Rattle.inlinespec.specs.Lexing.{Sign, Backslash, Ampersand, Backtick, LessThan, Blank, DelimiterMark, Bracket, Exclamation, ClosingBracket, Other, sign_of, lex, lexeme_by}
use Rattle.inlinespec.specs.BackslashEscapes.{escape_lexeme}
use Rattle.inlinespec.specs.CharacterReferences.{reference_lexeme}
use Rattle.inlinespec.specs.RawHtml.{angle_lexeme}
use Rattle.inlinespec.specs.DelimiterRuns.{delimiters_at, run_lexeme}
use Rattle.inlinespec.specs.LineBreaks.{break_or_written, LineBreak, spaced_break, backslash_break}
use Rattle.mdinline.specs.held.PlainText.{is_bracket}

module _ (entities : EntityTable) (text : List ℕ) (at : ℕ) where
  pub at_backslash : get_or text at 0 ≡ 92 → lex entities text at ≡ escape_lexeme (drop at text)
  unfolding lex
  at_backslash e = rw e refl

  pub at_ampersand : get_or text at 0 ≡ 38 → lex entities text at ≡ reference_lexeme (drop at text) (reference entities (drop (at + 1) text))
  unfolding lex
  at_ampersand e = rw e (ap (λ l. reference_lexeme (drop at text) (reference entities l)) (drop-drop 1 at text))

  pub at_backtick : get_or text at 0 ≡ 96 → lex entities text at ≡ code_lexeme (drop at text) (code_inside (drop at text))
  unfolding lex
  at_backtick e = rw e refl

  pub at_less_than : get_or text at 0 ≡ 60 → lex entities text at ≡ angle_lexeme entities text at (autolink_at text at) (raw_html (drop at text))
  unfolding lex
  at_less_than e = rw e refl

  pub at_space : get_or text at 0 ≡ 32 → lex entities text at ≡ break_or_written (drop at text) (spaced_break (drop at text))
  unfolding lex
  at_space e = rw e refl

  pub at_feed : get_or text at 0 ≡ 10 → lex entities text at ≡ break_or_written (drop at text) (spaced_break (drop at text))
  unfolding lex
  at_feed e = rw e refl

  pub at_quotation : get_or text at 0 ≡ 34 → lex entities text at ≡ as_written 1 (drop at text)
  unfolding lex
  at_quotation e = rw e refl

  pub at_greater : get_or text at 0 ≡ 62 → lex entities text at ≡ as_written 1 (drop at text)
  unfolding lex
  at_greater e = rw e refl

  pub at_bracket : get_or text at 0 ≡ 91 → lex entities text at ≡ bracket_lexeme 1 false
  unfolding lex
  at_bracket e = rw e refl

  pub at_closing : get_or text at 0 ≡ 93 → lex entities text at ≡ record { size = 1; kind = CloseBracket }
  unfolding lex
  at_closing e = rw e refl

  at_exclamation : get_or text at 0 ≡ 33 → lex entities text at ≡ (if begins_with 91 (drop 1 (drop at text)) then bracket_lexeme 2 true else as_written 1 (drop at text))
  unfolding lex
  at_exclamation e = rw e refl

  next_first : (b : ℕ) → at + 1 < length text → get_or text (at + 1) 0 ≡ b → begins_with 91 (drop 1 (drop at text)) ≡ (b == 91)
  next_first b inside e = by (drop (at + 1) text) (drop-drop 1 at text) (let long : 0 < length (drop (at + 1) text) = omega (arith, length-drop (at + 1) text, inside) in long)
      (get_or-drop (at + 1) text 0 0 ∙ ap (λ k. get_or text k 0) (let z : at + 1 + 0 ≡ at + 1 = omega arith in z) ∙ e)
    where
      by : (xs : List ℕ) → drop 1 (drop at text) ≡ xs → 0 < length xs → get_or xs 0 0 ≡ b → begins_with 91 (drop 1 (drop at text)) ≡ (b == 91)
      by [] s long first = absurd (omega (arith, long))
      by (c ∷ rest) s long first = ap (begins_with 91) s ∙ ap (λ k. k == 91) first

  pub at_image : get_or text at 0 ≡ 33 → at + 1 < length text → get_or text (at + 1) 0 ≡ 91 → lex entities text at ≡ bracket_lexeme 2 true
  at_image e inside next = at_exclamation e ∙ ap (λ (t : Bool). if t then bracket_lexeme 2 true else as_written 1 (drop at text)) (next_first 91 inside next)

  nothing_next : length text ≤ at + 1 → begins_with 91 (drop 1 (drop at text)) ≡ false
  nothing_next past = by (drop (at + 1) text) (drop-drop 1 at text) (let none : length (drop (at + 1) text) ≡ 0 = omega (arith, length-drop (at + 1) text, past) in none)
    where
      by : (xs : List ℕ) → drop 1 (drop at text) ≡ xs → length xs ≡ 0 → begins_with 91 (drop 1 (drop at text)) ≡ false
      by [] s none = ap (begins_with 91) s
      by (c ∷ rest) s none = absurd (omega (arith, none))

  other_next : at + 1 < length text → (get_or text (at + 1) 0 ≡ 91 → ⊥) → begins_with 91 (drop 1 (drop at text)) ≡ false
  other_next inside other = next_first (get_or text (at + 1) 0) inside refl ∙ (let no : eqb (get_or text (at + 1) 0) 91 ≡ false = grind (arith, nat_tests, other) in no)

  plain_mark : get_or text at 0 ≡ 33 → begins_with 91 (drop 1 (drop at text)) ≡ false → lex entities text at ≡ as_written 1 (drop at text)
  plain_mark e other = at_exclamation e ∙ ap (λ (t : Bool). if t then bracket_lexeme 2 true else as_written 1 (drop at text)) other

  pub lone_mark : get_or text at 0 ≡ 33 → length text ≤ at + 1 → lex entities text at ≡ as_written 1 (drop at text)
  lone_mark e past = plain_mark e (nothing_next past)

  pub mark_and_other : get_or text at 0 ≡ 33 → at + 1 < length text → (get_or text (at + 1) 0 ≡ 91 → ⊥) → lex entities text at ≡ as_written 1 (drop at text)
  mark_and_other e inside other = plain_mark e (other_next inside other)

-- what is no bracket

escape_not : (rest : List ℕ) → is_bracket (escape_lexeme rest).kind ≡ false
unfolding escape_lexeme
escape_not rest = by (begins_escape rest) (backslash_break rest)
  where
    by : (t : Bool) (o : Option LineBreak) → is_bracket (if t then leaf 2 (written (take 1 (drop 1 rest))) else break_or_written rest o).kind ≡ false
    by true o = refl
    by false None = refl
    by false (Some b) = refl

break_not : (rest : List ℕ) (o : Option LineBreak) → is_bracket (break_or_written rest o).kind ≡ false
break_not rest None = refl
break_not rest (Some b) = refl

reference_not : (rest : List ℕ) (o : Option Meaning) → is_bracket (reference_lexeme rest o).kind ≡ false
reference_not rest None = refl
reference_not rest (Some m) = refl

code_not : (rest : List ℕ) (o : Option (List ℕ)) → is_bracket (code_lexeme rest o).kind ≡ false
code_not rest None = refl
code_not rest (Some m) = refl

run_not : (rest : List ℕ) (o : Option DelimiterRun) → is_bracket (run_lexeme rest o).kind ≡ false
run_not rest None = refl
run_not rest (Some m) = refl

angle_not : (entities : EntityTable) (text : List ℕ) (at : ℕ) (auto : Option Auto) (tag : Option ℕ) → is_bracket (angle_lexeme entities text at auto tag).kind ≡ false
angle_not entities text at (Some auto) tag = refl
angle_not entities text at None None = refl
angle_not entities text at None (Some size) = refl

abbrev brackets : Sign → Bool
brackets Bracket = true
brackets Exclamation = true
brackets ClosingBracket = true
brackets _ = false

sign_not : (entities : EntityTable) (text : List ℕ) (at : ℕ) (s : Sign) → brackets s ≡ false → is_bracket (lexeme_by entities text at (drop at text) s).kind ≡ false
sign_not entities text at Backslash h = escape_not (drop at text)
sign_not entities text at Ampersand h = reference_not (drop at text) (reference entities (drop 1 (drop at text)))
sign_not entities text at Backtick h = code_not (drop at text) (code_inside (drop at text))
sign_not entities text at LessThan h = angle_not entities text at (autolink_at text at) (raw_html (drop at text))
sign_not entities text at Blank h = break_not (drop at text) (spaced_break (drop at text))
sign_not entities text at DelimiterMark h = run_not (drop at text) (delimiters_at entities text at)
sign_not entities text at Bracket h = cc
sign_not entities text at Exclamation h = cc
sign_not entities text at ClosingBracket h = cc
sign_not entities text at Other h = refl

first_tests : (b : ℕ) → (b ≡ 91 → ⊥) → (b ≡ 33 → ⊥) → (b ≡ 93 → ⊥) → brackets (sign_of b) ≡ false
first_tests b bracket mark closing =
    let one : eqb b 91 ≡ false = grind (arith, nat_tests, bracket) in
    let two : eqb b 33 ≡ false = grind (arith, nat_tests, mark) in
    let three : eqb b 93 ≡ false = grind (arith, nat_tests, closing) in
    rw (one, two, three) (by (eqb b 92) (eqb b 38) (eqb b 96) (eqb b 60) (eqb b 32 || eqb b 10) (eqb b 42 || eqb b 95 || eqb b 126))
  where
    by : (s t u v w x : Bool) → brackets (if s then Backslash else if t then Ampersand else if u then Backtick else if v then LessThan else if w then Blank else if x then DelimiterMark else if false then Bracket else if false then Exclamation else if false then ClosingBracket else Other) ≡ false
    by true t u v w x = refl
    by false true u v w x = refl
    by false false true v w x = refl
    by false false false true w x = refl
    by false false false false true x = refl
    by false false false false false true = refl
    by false false false false false false = refl

pub no_bracket : (entities : EntityTable) (text : List ℕ) (at : ℕ) → (get_or text at 0 ≡ 91 → ⊥) → (get_or text at 0 ≡ 33 → ⊥) → (get_or text at 0 ≡ 93 → ⊥) → is_bracket (lex entities text at).kind ≡ false
unfolding lex
no_bracket entities text at bracket mark closing = sign_not entities text at (sign_of (get_or text at 0)) (first_tests (get_or text at 0) bracket mark closing)

-- a byte at which nothing begins but a run or a bracket

abbrev leads : Sign → Bool
leads DelimiterMark = false
leads Other = false
leads s = not (brackets s)

quiet : (entities : EntityTable) (text : List ℕ) (at : ℕ) (s : Sign) → leads s ≡ false → delimiters_at entities text at ≡ None → is_bracket (lexeme_by entities text at (drop at text) s).kind ≡ false →
    lexeme_by entities text at (drop at text) s ≡ as_written 1 (drop at text)
quiet entities text at Backslash h none k = cc
quiet entities text at Ampersand h none k = cc
quiet entities text at Backtick h none k = cc
quiet entities text at LessThan h none k = cc
quiet entities text at Blank h none k = cc
quiet entities text at DelimiterMark h none k = ap (run_lexeme (drop at text)) none
quiet entities text at Bracket h none k = cc
quiet entities text at Exclamation h none k = by (begins_with 91 (drop 1 (drop at text))) k
  where
    by : (t : Bool) → is_bracket (if t then bracket_lexeme 2 true else as_written 1 (drop at text)).kind ≡ false → (if t then bracket_lexeme 2 true else as_written 1 (drop at text)) ≡ as_written 1 (drop at text)
    by true k = cc
    by false k = refl
quiet entities text at ClosingBracket h none k = cc
quiet entities text at Other h none k = refl

later_tests : (b : ℕ) → (b ≡ 92 → ⊥) → (b ≡ 38 → ⊥) → (b ≡ 96 → ⊥) → (b ≡ 60 → ⊥) → (b ≡ 32 → ⊥) → (b ≡ 10 → ⊥) → leads (sign_of b) ≡ false
later_tests b slash amp tick less space feed =
    let one : eqb b 92 ≡ false = grind (arith, nat_tests, slash) in
    let two : eqb b 38 ≡ false = grind (arith, nat_tests, amp) in
    let three : eqb b 96 ≡ false = grind (arith, nat_tests, tick) in
    let four : eqb b 60 ≡ false = grind (arith, nat_tests, less) in
    let five : eqb b 32 ≡ false = grind (arith, nat_tests, space) in
    let six : eqb b 10 ≡ false = grind (arith, nat_tests, feed) in
    rw (one, two, three, four, five, six) (by (eqb b 42 || eqb b 95 || eqb b 126) (eqb b 91) (eqb b 33) (eqb b 93))
  where
    by : (s t u v : Bool) → leads (if false then Backslash else if false then Ampersand else if false then Backtick else if false then LessThan else if false || false then Blank else if s then DelimiterMark else if t then Bracket else if u then Exclamation else if v then ClosingBracket else Other) ≡ false
    by true t u v = refl
    by false true u v = refl
    by false false true v = refl
    by false false false true = refl
    by false false false false = refl

pub at_quiet : (entities : EntityTable) (text : List ℕ) (at : ℕ) → (get_or text at 0 ≡ 92 → ⊥) → (get_or text at 0 ≡ 38 → ⊥) → (get_or text at 0 ≡ 96 → ⊥) → (get_or text at 0 ≡ 60 → ⊥) → (get_or text at 0 ≡ 32 → ⊥) → (get_or text at 0 ≡ 10 → ⊥) →
    delimiters_at entities text at ≡ None → is_bracket (lex entities text at).kind ≡ false → lex entities text at ≡ as_written 1 (drop at text)
unfolding lex
at_quiet entities text at slash amp tick less space feed none k = quiet entities text at (sign_of (get_or text at 0)) (later_tests (get_or text at 0) slash amp tick less space feed) none k
