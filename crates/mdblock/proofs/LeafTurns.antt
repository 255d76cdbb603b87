-- What a later line leaves of an open leaf is what the definition's step says.
use Rattle.std.proofs.Common.{◌≡◌, ℕ, ◌-◌, Bool, true, false, ◌&&◌, List, [], ◌∷◌, ◌++◌, length, length-append, map, take, drop, Option, Some, None, Result, Ok, Err, IfOk, refl, ap, sym, ◌∙◌, subst, arith, nat_lt}
use Rattle.std.proofs.lemmas.List.{map-append, take_all, take-append-le}
use Rattle.std.proofs.lemmas.List.FromFn.{length-range_with_len}
use Rattle.std.specs.List.{range_with_len}
use Rattle.std.specs.Option.{MatchOption}
use Rattle.mdtext.specs.EntityTable.{EntityTable}
use Rattle.mdleaf.specs.CodeLanguage.{code_language, code_meta}
use Rattle.mdleaf.specs.ParagraphText.{joined_lines}
use Rattle.mdleaf.specs.Tables.{row_aligns, row_texts}
use Rattle.mdleaf.proofs.CellTexts.{length_filled}
use Rattle.blockspec.proofs.OpenLeafLaws.{table_push, pushed_rows}
use Rattle.blockspec.proofs.StartKinds.{Kinds, IfBegun, start_kinds}
use Rattle.blockspec.specs.BlockLine.{BlockLine, rest, without_last}
use Rattle.blockspec.specs.BlankLines.{is_blank_line}
use Rattle.blockspec.specs.OpenLeaf.{leaf_from, row_of, table_from}
use Rattle.mdblock.specs.held.HeldTables.{IsTableOf, IsHeaderLeaf, IsRowMore, IsTableBehind, first_rows, held_rows}
use Rattle.blockspec.specs.BlockKinds.{Kind, Paragraph, SetextHeading, AtxHeading, ThematicBreak, FencedCode, IndentedCode, HtmlBlock, Table, Holds, Inside}
use Rattle.blockspec.specs.Tables.{last_text}
use Rattle.blockspec.specs.BlockStart.{start}
use Rattle.blockspec.specs.BlockTree.{code_block}
use Rattle.blockspec.specs.Laziness.{Tip}
use Rattle.blockspec.specs.LeafContents.{code_text}
use Rattle.mdblock.specs.held.OpenLeaves.{IsFenceOf, IsHtmlOf, IsCodeOf, IsLeafOf, IsGoing, IsOver, IsHtmlLeaf, IsHtmlStep, IsCodeLeaf, IsFenceStep, IsParagraphLeaf, IsLeft, IsTableIn}
use Rattle.mdblock.specs.held.ParagraphLines.{HeldText, HoldsLines}
use Rattle.blockspec.specs.Stretches.{Continues, continues_if, fence_step, closes, html_step, ends_html, is_code, is_row, paragraph_step, step}
use Rattle.mdblock.specs.declared.leaf.fenced_code.Fence.{Fence}
use Rattle.mdblock.specs.declared.leaf.html_blocks.HtmlBlock as html
use Rattle.mdblock.specs.declared.leaf.indented_code.IndentedCode as code
use Rattle.mdblock.specs.declared.leaf.tables.Table as table
use Rattle.mdblock.specs.declared.leaf.Leaf.{Leaf}
use Rattle.mdblock.specs.declared.leaf.Leaf.TheVariants as leaf
use Rattle.mdblock.specs.declared.leaf.LeafAfter.{LeafAfter}
use Rattle.std.proofs.Math.Bool.{and-false}
use Rattle.mdblock.proofs.HtmlEnds.{no_end_in_blank}

if_ok : {E : Type 0} (r : Result LeafAfter E) (P Q : LeafAfter → Type 0) → ((s : LeafAfter) → P s → Q s) → IfOk r P → IfOk r Q
if_ok (Ok s) P Q f h = f s h
if_ok (Err e) P Q f h = h

all_ok : {E : Type 0} (r : Result LeafAfter E) (P : LeafAfter → Type 0) → ((s : LeafAfter) → P s) → IfOk r P
all_ok (Ok s) P f = f s
all_ok (Err e) P f = tt

-- ---- fenced code

before_last : (ls : List BlockLine) (l : BlockLine) → without_last (ls ++ l ∷ []) ≡ ls
before_last ls l =
    let n : length (ls ++ l ∷ []) - 1 ≡ length ls = omega (arith, length-append ls (l ∷ [])) in
    ap (λ k. take k (ls ++ l ∷ [])) n ∙ take-append-le (length ls) ls (l ∷ []) (omega arith) ∙ take_all (length ls) ls (omega arith)

fence_left : (entities : EntityTable) (indentation mark length : ℕ) (info : List ℕ) (closed : Bool) (first : BlockLine) (later : List BlockLine) (l : BlockLine) (s : LeafAfter)
    → IsFenceStep closed entities indentation mark length info later l s → IsLeft entities (fence_step closed (FencedCode indentation mark length info)) first (later ++ l ∷ []) s
fence_left entities indentation mark length info true first later l s h =
    subst (λ ls. IsOver (code_block (code_language entities info) (code_meta entities info) (code_text indentation ls)) s) (sym (before_last later l)) h
fence_left entities indentation mark length info false first later l s h = h

same_three : (P : ℕ → ℕ → ℕ → Type 0) (a b c i m n : ℕ) → a ≡ i → b ≡ m → c ≡ n → P a b c → P i m n
same_three P a b c i m n p q r h = subst (λ x. P x m n) p (subst (λ y. P a y n) q (subst (λ z. P a b z) r h))

pub fence_added : {E : Type 0} (entities : EntityTable) (f : Fence) (kind : Kind) (first : BlockLine) (later : List BlockLine) (tip : List BlockLine → Tip) (l : BlockLine) (r : Result LeafAfter E)
    → ((entities : EntityTable) (info : List ℕ) (later : List BlockLine) → IsFenceOf entities f.indent f.mark f.length info later f
    → IfOk r (λ s. IsFenceStep (closes f.mark f.length l) entities f.indent f.mark f.length info later l s))
    → IsLeafOf entities (leaf.Fence f) kind first later → IfOk r (IsLeft entities (step tip kind first later l) first (later ++ l ∷ []))
unfolding step
fence_added entities f (FencedCode indentation mark length info closed) first later tip l r e h =
    let own : IsFenceOf entities f.indent f.mark f.length info later f = record {
      mark_is = refl;
      length_is = refl;
      indentation_is = refl;
      language = h.language;
      meta = h.meta;
      body = h.body ∙ ap (λ n. code_text n later) (sym h.indentation_is);
    } in
    let left : IfOk r (λ s. IsFenceStep (closes mark length l) entities indentation mark length info later l s) =
    same_three (λ i m n. IfOk r (λ s. IsFenceStep (closes m n l) entities i m n info later l s)) f.indent f.mark f.length indentation mark length h.indentation_is h.mark_is h.length_is (e entities info later own) in
    if_ok r _ _ (λ s. fence_left entities indentation mark length info (closes mark length l) first later l s) left
fence_added entities f kind first later tip l r e h = absurd h

-- ---- HTML blocks

no_end_where_blank : (kind : ℕ) (l : BlockLine) → is_blank_line l ≡ true → ends_html kind l ≡ false
no_end_where_blank kind l h = ap (λ t. nat_lt kind 6 && t) (no_end_in_blank kind l.line.text h) ∙ and-false (nat_lt kind 6)

html_taken : (entities : EntityTable) (t : Bool) (kind : ℕ) (first : BlockLine) (later : List BlockLine) (s : LeafAfter)
    → IsGoing (IsHtmlLeaf kind (first ∷ later)) s → IsLeft entities (continues_if t (HtmlBlock kind)) first later s
html_taken entities true kind first later s h = h
html_taken entities false kind first later s h = tt

html_left : (entities : EntityTable) (blank ends : Bool) (kind : ℕ) (first : BlockLine) (later : List BlockLine) (s : LeafAfter) → (blank ≡ true → ends ≡ false)
    → IsHtmlStep ends kind (first ∷ later) s → IsLeft entities (html_step blank ends kind) first later s
html_left entities true true kind first later s b h = absurd (cc (b refl))
html_left entities true false kind first later s b h = html_taken entities (nat_lt kind 6) kind first later s h
html_left entities false true kind first later s b h = h
html_left entities false false kind first later s b h = h

pub html_added : {E : Type 0} (entities : EntityTable) (b : html.HtmlBlock) (kind : Kind) (first : BlockLine) (later : List BlockLine) (tip : List BlockLine → Tip) (l : BlockLine) (r : Result LeafAfter E)
    → ((first : BlockLine) (later : List BlockLine) → IsHtmlOf b.kind (first ∷ later) b → IfOk r (λ s. IsHtmlStep (ends_html b.kind l) b.kind (first ∷ later ++ l ∷ []) s))
    → IsLeafOf entities (leaf.Html b) kind first later → IfOk r (IsLeft entities (step tip kind first later l) first (later ++ l ∷ []))
unfolding step
html_added entities b (HtmlBlock kind) first later tip l r e h =
    let own : IsHtmlOf b.kind (first ∷ later) b = record { kind_is = refl; body = h.body } in
    let left : IfOk r (λ s. IsHtmlStep (ends_html kind l) kind (first ∷ later ++ l ∷ []) s) =
    subst (λ k. IfOk r (λ s. IsHtmlStep (ends_html k l) k (first ∷ later ++ l ∷ []) s)) h.kind_is (e first later own) in
    if_ok r _ _ (λ s. html_left entities (is_blank_line l) (ends_html kind l) kind first (later ++ l ∷ []) s (no_end_where_blank kind l)) left
html_added entities b kind first later tip l r e h = absurd h

-- ---- indented code, paragraphs and tables

code_left : (entities : EntityTable) (t : Bool) (first : BlockLine) (later : List BlockLine) (s : LeafAfter)
    → IsGoing (IsCodeLeaf (first ∷ later)) s → IsLeft entities (continues_if t IndentedCode) first later s
code_left entities true first later s h = h
code_left entities false first later s h = tt

pub code_added : {E : Type 0} (entities : EntityTable) (c : code.IndentedCode) (kind : Kind) (first : BlockLine) (later : List BlockLine) (tip : List BlockLine → Tip) (l : BlockLine) (r : Result LeafAfter E)
    → ((lines : List BlockLine) → IsCodeOf lines c → IfOk r (λ s. IsGoing (IsCodeLeaf (lines ++ l ∷ [])) s))
    → IsLeafOf entities (leaf.Code c) kind first later → IfOk r (IsLeft entities (step tip kind first later l) first (later ++ l ∷ []))
unfolding step
code_added entities c IndentedCode first later tip l r e h =
    if_ok r _ _ (λ s. code_left entities (is_code l) first (later ++ l ∷ []) s) (e (first ∷ later) h)
code_added entities c kind first later tip l r e h = absurd h

-- ---- tables

row_shape : (above : List ℕ) (rows : List (List ℕ)) (row : List ℕ) (n : ℕ) (t : table.Table) (next : Leaf) → IsTableOf (table_from above rows) (leaf.Table t) → IsRowMore n t next →
    IsTableOf (table_from above (rows ++ row ∷ [])) next
row_shape above [] row n t next h m = absurd h
row_shape above (a ∷ []) row n t next h m = absurd h
row_shape above (head ∷ delimiters ∷ rows) row n t (leaf.Table u) h m =
    let aligns = row_aligns delimiters in
    let positions = range_with_len n (length t.aligns.items) in (
      m.0 ∙ h.0,
      ap length m.1 ∙ h.1,
      ap (map length) m.2
          ∙ map-append length (held_rows t) (positions ∷ [])
          ∙ ap (λ z. z ++ length positions ∷ []) h.2
          ∙ ap (λ k. map length (map (row_of aligns) rows) ++ k ∷ []) (length-range_with_len n (length t.aligns.items) ∙ ap length h.0 ∙ sym (length_filled (length aligns) (row_texts row)))
          ∙ sym (map-append length (map (row_of aligns) rows) (row_of aligns row ∷ []))
          ∙ ap (map length) (sym (map-append (row_of aligns) rows (row ∷ []))),
    )
row_shape above (head ∷ delimiters ∷ rows) row n t (leaf.Paragraph p) h m = absurd m
row_shape above (head ∷ delimiters ∷ rows) row n t (leaf.Fence p) h m = absurd m
row_shape above (head ∷ delimiters ∷ rows) row n t (leaf.Html p) h m = absurd m
row_shape above (head ∷ delimiters ∷ rows) row n t (leaf.Code p) h m = absurd m

row_in : (above : ℕ) (first : BlockLine) (later : List BlockLine) (l : BlockLine) (n : ℕ) (t : table.Table) (o : Option Leaf) → IsTableIn above first later (leaf.Table t) →
    MatchOption o ⊥ (IsRowMore n t) → MatchOption o ⊥ (IsTableIn above first (later ++ l ∷ []))
unfolding leaf_from
row_in above first later l n t None h m = absurd m
row_in above first later l n t (Some next) h m = (
  h.0,
  omega (arith, h.1, length-append later (l ∷ [])),
  subst (λ z. IsTableOf z next) (sym (pushed_rows above first later l h.0 h.1))
      (row_shape (joined_lines (take (above - 1) (map rest (first ∷ later)))) (drop (above - 1) (map rest (first ∷ later))) (rest l) n t next h.2 m),
)

header_in : (first : BlockLine) (later : List BlockLine) (l : BlockLine) (n : ℕ) (next : Leaf) → IsHeaderLeaf n (first_rows (last_text (first ∷ later)) (rest l)) next →
    IsTableIn (length (first ∷ later)) first (later ++ l ∷ []) next
header_in first later l n (leaf.Table t) h = (
  omega arith,
  omega (arith, length-append later (l ∷ [])),
  subst (λ z. IsTableOf z (leaf.Table t)) (sym (table_push first later l)) (
    h.0,
    ap length h.1 ∙ length-range_with_len n (length (row_texts (last_text (first ∷ later)))),
    ap (λ rows. map length (map (λ row. row.items) rows)) h.2,
  ),
)
header_in first later l n (leaf.Paragraph p) h = absurd h
header_in first later l n (leaf.Fence p) h = absurd h
header_in first later l n (leaf.Html p) h = absurd h
header_in first later l n (leaf.Code p) h = absurd h

header_found : (first : BlockLine) (later : List BlockLine) (l : BlockLine) (above n : ℕ) (o : Option Leaf) → above ≡ length (first ∷ later) →
    MatchOption o ⊥ (IsHeaderLeaf n (first_rows (last_text (first ∷ later)) (rest l))) → MatchOption o ⊥ (IsTableIn above first (later ++ l ∷ []))
header_found first later l above n None e h = absurd h
header_found first later l above n (Some next) e h = subst (λ k. IsTableIn k first (later ++ l ∷ []) next) (sym e) (header_in first later l n next h)

-- a table that a line begins behind a paragraph has all its lines above the delimiter row
abbrev IsAbove : ℕ → Kind → Type 0
IsAbove n (Table above) = above ≡ n
IsAbove n kind = Unit {0}

kinds_above : (lines : List BlockLine) (l : BlockLine) → Kinds (IsAbove (length lines)) Inside lines l
kinds_above lines l = record {
  quote = tt;
  atx = λ level content. tt;
  fence = λ i m n info. tt;
  html = λ kind. tt;
  underline = λ level. tt;
  break = tt;
  item = λ m e. tt;
  rows = λ e. refl;
  code = tt;
}

above_by : (lazy blank : Bool) (k : Option Kind) (n above : ℕ) → IfBegun (IsAbove n) k → paragraph_step lazy blank k ≡ Continues (Table above) → above ≡ n
above_by true blank k n above w e = cc
above_by false true k n above w e = cc
above_by false false None n above w e = cc
above_by false false (Some (Table a)) n above w e = let same : a ≡ above = cc in sym same ∙ w
above_by false false (Some (SetextHeading level)) n above w e = cc
above_by false false (Some Paragraph) n above w e = cc
above_by false false (Some (AtxHeading level content)) n above w e = cc
above_by false false (Some ThematicBreak) n above w e = cc
above_by false false (Some (FencedCode i m size info closed)) n above w e = cc
above_by false false (Some IndentedCode) n above w e = cc
above_by false false (Some (HtmlBlock kind)) n above w e = cc
above_by false false (Some (Holds container)) n above w e = cc

pub table_above : (first : BlockLine) (later : List BlockLine) (l : BlockLine) (above : ℕ) → paragraph_step l.lazy (is_blank_line l) (start Inside (first ∷ later) l) ≡ Continues (Table above) → above ≡ length (first ∷ later)
table_above first later l above is =
    let lines = first ∷ later in
    above_by l.lazy (is_blank_line l) (start Inside lines l) (length lines) above (start_kinds (IsAbove (length lines)) Inside lines l (kinds_above lines l)) is

-- ---- paragraphs

by_step : {E : Type 0} (entities : EntityTable) (lazy blank : Bool) (k : Option Kind) (first : BlockLine) (later : List BlockLine) (r : Result LeafAfter E)
    → (paragraph_step lazy blank k ≡ Continues Paragraph → IfOk r (λ s. IsGoing (IsParagraphLeaf (first ∷ later)) s))
    → ((above : ℕ) → paragraph_step lazy blank k ≡ Continues (Table above) → IfOk r (λ s. MatchOption s.going ⊥ (IsTableIn above first later)))
    → IfOk r (IsLeft entities (paragraph_step lazy blank k) first later)
by_step entities true blank k first later r g d = g refl
by_step entities false true k first later r g d = all_ok r _ (λ s. tt)
by_step entities false false None first later r g d = g refl
by_step entities false false (Some (SetextHeading level)) first later r g d = all_ok r _ (λ s. tt)
by_step entities false false (Some (Table above)) first later r g d = d above refl
by_step entities false false (Some kind) first later r g d = all_ok r _ (λ s. tt)

pub paragraph_added : {E : Type 0} (entities : EntityTable) (p : HeldText) (kind : Kind) (first : BlockLine) (later : List BlockLine) (tip : List BlockLine → Tip) (l : BlockLine) (r : Result LeafAfter E)
    (at_front : Bool) (above : List ℕ) (old new : List (List ℕ))
    → ((first : BlockLine) (later : List BlockLine) → HoldsLines (first ∷ later) p → paragraph_step l.lazy (is_blank_line l) (start Inside (first ∷ later) l) ≡ Continues Paragraph
    → IfOk r (λ s. IsGoing (IsParagraphLeaf (first ∷ later ++ l ∷ [])) s))
    → ((lines : List BlockLine) (n : ℕ) → HoldsLines lines p → paragraph_step l.lazy (is_blank_line l) (start Inside lines l) ≡ Continues (Table n)
    → IfOk r (IsTableBehind at_front above (first_rows (last_text lines) (rest l)) old new))
    → IsLeafOf entities (leaf.Paragraph p) kind first later → IfOk r (IsLeft entities (step tip kind first later l) first (later ++ l ∷ []))
unfolding step
paragraph_added entities p Paragraph first later tip l r at_front above old new e d h =
    let lines = first ∷ later in
    by_step entities l.lazy (is_blank_line l) (start Inside lines l) first (later ++ l ∷ []) r (e first later h)
    (λ n is. if_ok r _ _ (λ s b. header_found first later l n (length b.between) s.going
    (above_by l.lazy (is_blank_line l) (start Inside lines l) (length lines) n (start_kinds (IsAbove (length lines)) Inside lines l (kinds_above lines l)) is) b.begun) (d lines n h is))
paragraph_added entities p kind first later tip l r at_front above old new e d h = absurd h

table_left : (entities : EntityTable) (b : Bool) (above : ℕ) (first : BlockLine) (later : List BlockLine) (l : BlockLine) (n : ℕ) (t : table.Table) (s : LeafAfter) → IsTableIn above first later (leaf.Table t) →
    IsGoing (IsRowMore n t) s → IsLeft entities (continues_if b (Table above)) first (later ++ l ∷ []) s
table_left entities true above first later l n t s h g = row_in above first later l n t s.going h g.going
table_left entities false above first later l n t s h g = tt

pub table_added : {E : Type 0} (entities : EntityTable) (t : table.Table) (kind : Kind) (first : BlockLine) (later : List BlockLine) (tip : List BlockLine → Tip) (l : BlockLine) (r : Result LeafAfter E) (n : ℕ)
    → IfOk r (λ s. IsGoing (IsRowMore n t) s)
    → IsLeafOf entities (leaf.Table t) kind first later → IfOk r (IsLeft entities (step tip kind first later l) first (later ++ l ∷ []))
unfolding step
table_added entities t (Table above) first later tip l r n e h = if_ok r _ _ (λ s g. table_left entities (is_row l) above first later l n t s h g) e
table_added entities t kind first later tip l r n e h = absurd h
