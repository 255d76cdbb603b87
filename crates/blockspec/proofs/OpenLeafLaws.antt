-- One line more of a leaf: what has to be kept of its lines follows from what was kept of those before.
use Rattle.std.proofs.Common.{◌≡◌, ℕ, zero, suc, ◌+◌, ◌-◌, ◌≤◌, Bool, true, false, List, [], ◌∷◌, ◌++◌, length, map, take, drop, Option, Some, None, refl, sym, ◌∙◌, ap, append_assoc, arith, nat_lt}
use Rattle.std.proofs.Math.Seq.{take-append_seam}
use Rattle.std.proofs.lemmas.Grind.{flat_map-append}
use Rattle.std.proofs.lemmas.List.{map-append, append-nil, length-append, length-map, take-append-le, drop-append-le, take-append-drop, take-map, take_all, drop_all, reverse-append}
use Rattle.std.proofs.lemmas.List.Sums.{suffix_len-le-length}
use Rattle.std.specs.List.{suffix_len, prefix_len}
use Rattle.std.specs.Option.{option_or, option_map}
use Rattle.std.specs.Prelude.{cond, nat_le}
use Rattle.mdtext.specs.EntityTable.{EntityTable}
use Rattle.mdscan.specs.declared.atx_headings.AtxLine.{AtxLine}
use Rattle.mdscan.specs.declared.code_fences.FenceLine.{FenceLine}
use Rattle.mdscan.specs.declared.list_markers.Marker.{Marker}
use Rattle.mdscan.specs.AtxHeading.{atx_heading}
use Rattle.mdscan.specs.BlockQuote.{is_quote_marker}
use Rattle.mdscan.specs.CodeFence.{opening_fence}
use Rattle.mdscan.specs.HtmlBlock.{html_kind}
use Rattle.mdscan.specs.ListMarker.{marker}
use Rattle.mdscan.specs.SetextHeading.{underline_level}
use Rattle.mdscan.specs.Spans.{part}
use Rattle.mdscan.specs.ThematicBreak.{is_thematic_break}
use Rattle.mdleaf.specs.ParagraphText.{joined_lines}
use Rattle.mdleaf.specs.Tables.{row_aligns, row_texts, begins_table}
use Rattle.blockspec.specs.BlockLine.{BlockLine, indentation, rest, behind_marker, without_last}
use Rattle.blockspec.specs.BlankLines.{is_blank_line}
use Rattle.blockspec.specs.BlockKinds.{Mode, Inside, Quote, Kind, Paragraph, SetextHeading, Table, AtxHeading, ThematicBreak, FencedCode, IndentedCode, HtmlBlock, Holds}
use Rattle.blockspec.specs.BlockQuotes.{begins_quote}
use Rattle.blockspec.specs.AtxHeadings.{begins_atx}
use Rattle.blockspec.specs.FencedCode.{begins_fence, fenced_lines}
use Rattle.blockspec.specs.HtmlBlocks.{html_by, begins_html}
use Rattle.blockspec.specs.SetextHeadings.{underlines, heading_end}
use Rattle.blockspec.specs.ThematicBreaks.{begins_break}
use Rattle.blockspec.specs.ListItems.{item_of, may_begin_item, item_by, begins_item}
use Rattle.blockspec.specs.Tables.{last_text, rows_end, table_end}
use Rattle.blockspec.specs.BlockStart.{start_near, start_at, start_where, start}
use Rattle.blockspec.specs.BlockUnits.{part_at}
use Rattle.blockspec.specs.Laziness.{Tip, Closed}
use Rattle.blockspec.specs.LeafContents.{code_text, leaves_of}
use Rattle.blockspec.specs.IndentedCode.{without_end_blank_lines}
use Rattle.blockspec.specs.Lists.{Leaves, Group}
use Rattle.blockspec.specs.OpenLeaf.{open_text, open_table, open_fence, open_code, open_html, done_heading, open_tip, text_leaves, open_leaves, row_of, table_from, end_blank_lines, leaf_from, NextLeaf, ContinuesAs, EndsAs, EndedBefore, continues_as_if, text_more, level_under, next_near, next_text, next_html, code_line, code_more, next_fence, next_leaf, is_parted}
use Rattle.blockspec.specs.Paragraphs.{paragraph_end}
use Rattle.blockspec.specs.Stretches.{Step, Continues, IsLastLine, IsOverBefore, continues_if, closes, ends_html, fence_step, html_step, interrupted, paragraph_step, is_row, is_code, step, tip_at}
use Rattle.blockspec.specs.UnitBegin.{is_stop}
use Rattle.blockspec.proofs.LeafSteps.{IsLeaf, IsMade}

-- ---- at its end

table_leaves : (e : EntityTable) (above : List ℕ) (rows : List (List ℕ)) → text_leaves e above ++ rows_end rows ≡ open_leaves e (table_from above rows)
unfolding open_leaves
table_leaves e above [] = append-nil (text_leaves e above)
table_leaves e above (row ∷ []) = append-nil (text_leaves e above)
table_leaves e above (head ∷ delimiters ∷ rows) = refl

-- What the lines of a leaf give follows from what is kept of them.
pub leaf_leaves : (e : EntityTable) (k : Kind) (f : BlockLine) (r : List BlockLine) → IsLeaf k → leaves_of e k f r ≡ open_leaves e (leaf_from k f r)
unfolding leaves_of open_leaves leaf_from paragraph_end heading_end table_end
leaf_leaves e (Holds container) f r w = absurd w
leaf_leaves e Paragraph f r w = refl
leaf_leaves e (SetextHeading level) f r w = refl
leaf_leaves e (Table above) f r w = table_leaves e (joined_lines (take (above - 1) (map rest (f ∷ r)))) (drop (above - 1) (map rest (f ∷ r)))
leaf_leaves e (AtxHeading level content) f r w = refl
leaf_leaves e ThematicBreak f r w = refl
leaf_leaves e (FencedCode i m n info c) f r w = refl
leaf_leaves e IndentedCode f r w = refl
leaf_leaves e (HtmlBlock kind) f r w = refl

pub leaf_part : (e : EntityTable) (R : List BlockLine → List Group) (k : Kind) (f : BlockLine) (r : List BlockLine) → IsLeaf k → part_at e R k f r ≡ Leaves (open_leaves e (leaf_from k f r))
leaf_part e R (Holds container) f r w = absurd w
leaf_part e R Paragraph f r w = ap Leaves (leaf_leaves e Paragraph f r tt)
leaf_part e R (SetextHeading level) f r w = ap Leaves (leaf_leaves e (SetextHeading level) f r tt)
leaf_part e R (Table above) f r w = ap Leaves (leaf_leaves e (Table above) f r tt)
leaf_part e R (AtxHeading level content) f r w = ap Leaves (leaf_leaves e (AtxHeading level content) f r tt)
leaf_part e R ThematicBreak f r w = ap Leaves (leaf_leaves e ThematicBreak f r tt)
leaf_part e R (FencedCode i m n info c) f r w = ap Leaves (leaf_leaves e (FencedCode i m n info c) f r tt)
leaf_part e R IndentedCode f r w = ap Leaves (leaf_leaves e IndentedCode f r tt)
leaf_part e R (HtmlBlock kind) f r w = ap Leaves (leaf_leaves e (HtmlBlock kind) f r tt)

-- ---- the contents of one line more

pub joined_next : (x : List ℕ) (xs : List (List ℕ)) (y : List ℕ) → joined_lines (x ∷ xs ++ y ∷ []) ≡ joined_lines (x ∷ xs) ++ 10 ∷ y
unfolding joined_lines
joined_next x [] y = refl
joined_next x (z ∷ xs) y = ap (λ w. x ++ 10 ∷ w) (joined_next z xs y) ∙ sym (append_assoc x (10 ∷ joined_lines (z ∷ xs)) (10 ∷ y))

pub drops_last : {A : Type 0} (xs : List A) (x : A) → without_last (xs ++ x ∷ []) ≡ xs
drops_last xs x =
    let n = length-append xs (x ∷ []) in
    let e : length (xs ++ x ∷ []) - 1 ≡ length xs = omega (arith, n) in
    ap (λ z. take z (xs ++ x ∷ [])) e ∙ take-append_seam xs (x ∷ [])

pub last_next : (f : BlockLine) (r : List BlockLine) (l : BlockLine) → last_text (f ∷ r ++ l ∷ []) ≡ rest l
last_next f [] l = refl
last_next f (x ∷ r) l = last_next x r l

last_dropped : (f : BlockLine) (r : List BlockLine) (l : BlockLine) → drop (length r) (map rest (f ∷ r ++ l ∷ [])) ≡ last_text (f ∷ r) ∷ rest l ∷ []
last_dropped f [] l = refl
last_dropped f (x ∷ r) l = last_dropped x r l

pub code_push : (columns : ℕ) (ls : List BlockLine) (l : BlockLine) → code_text columns (ls ++ l ∷ []) ≡ code_text columns ls ++ code_line columns l
code_push columns [] l = append-nil (code_line columns l)
code_push columns (x ∷ ls) l = ap (λ z. code_line columns x ++ z) (code_push columns ls l) ∙ sym (append_assoc (code_line columns x) (code_text columns ls) (code_line columns l))

abbrev text_of : BlockLine → List BlockLine → List ℕ
text_of f r = joined_lines (map rest (f ∷ r))

abbrev above_of : BlockLine → List BlockLine → List ℕ
above_of f r = joined_lines (map rest (without_last (f ∷ r)))

text_push : (f : BlockLine) (r : List BlockLine) (l : BlockLine) → leaf_from Paragraph f (r ++ l ∷ []) ≡ text_more (text_of f r) l
unfolding leaf_from
text_push f r l =
    let whole : joined_lines (map rest (f ∷ r ++ l ∷ [])) ≡ text_of f r ++ 10 ∷ rest l =
    ap (λ z. joined_lines (rest f ∷ z)) (map-append rest r (l ∷ [])) ∙ joined_next (rest f) (map rest r) (rest l) in
    ap (λ z. open_text z (last_text (f ∷ r ++ l ∷ [])) (joined_lines (map rest (without_last (f ∷ r ++ l ∷ []))))) whole
    ∙ ap (λ z. open_text (text_of f r ++ 10 ∷ rest l) z (joined_lines (map rest (without_last (f ∷ r ++ l ∷ []))))) (last_next f r l)
    ∙ ap (λ z. open_text (text_of f r ++ 10 ∷ rest l) (rest l) (joined_lines (map rest z))) (drops_last (f ∷ r) l)

heading_push : (level : ℕ) (f : BlockLine) (r : List BlockLine) (l : BlockLine) →
    leaf_from (SetextHeading level) f (r ++ l ∷ []) ≡ done_heading level (text_of f r)
unfolding leaf_from
heading_push level f r l = ap (λ z. done_heading level (joined_lines (map rest z))) (drops_last (f ∷ r) l)

-- the rows of a table that begins with the last line of a paragraph
pub table_push : (f : BlockLine) (r : List BlockLine) (l : BlockLine) →
    leaf_from (Table (length (f ∷ r))) f (r ++ l ∷ []) ≡ open_table (above_of f r) (row_aligns (rest l)) (row_texts (last_text (f ∷ r))) []
unfolding leaf_from
table_push f r l =
    let n : length (f ∷ r) - 1 ≡ length r = omega arith in
    let k : length r ≤ length (map rest (f ∷ r)) = let p = length-map (f ∷ r) rest in omega (arith, p) in
    let both : map rest (f ∷ r ++ l ∷ []) ≡ map rest (f ∷ r) ++ rest l ∷ [] = map-append rest (f ∷ r) (l ∷ []) in
    let front : take (length (f ∷ r) - 1) (map rest (f ∷ r ++ l ∷ [])) ≡ map rest (without_last (f ∷ r)) =
    ap (λ z. take z (map rest (f ∷ r ++ l ∷ []))) n
    ∙ ap (take (length r)) both
    ∙ take-append-le (length r) (map rest (f ∷ r)) (rest l ∷ []) k
    ∙ take-map rest (length r) (f ∷ r)
    ∙ ap (λ z. map rest (take z (f ∷ r))) (sym n) in
    let rows : drop (length (f ∷ r) - 1) (map rest (f ∷ r ++ l ∷ [])) ≡ last_text (f ∷ r) ∷ rest l ∷ [] =
    ap (λ z. drop z (map rest (f ∷ r ++ l ∷ []))) n ∙ last_dropped f r l in
    ap (λ z. table_from (joined_lines z) (drop (length (f ∷ r) - 1) (map rest (f ∷ r ++ l ∷ [])))) front
    ∙ ap (λ z. table_from (above_of f r) z) rows

-- ---- blank lines at the end

one_suffix : (p : BlockLine → Bool) (ls : List BlockLine) (l : BlockLine) → suffix_len p (ls ++ l ∷ []) ≡ cond (p l) (1 + suffix_len p ls) 0
one_suffix p ls l = ap (prefix_len p) (reverse-append ls (l ∷ []))

blank_push : (ls : List BlockLine) (l : BlockLine) → is_blank_line l ≡ true →
    open_code (code_text 4 (without_end_blank_lines (ls ++ l ∷ []))) (code_text 4 (end_blank_lines (ls ++ l ∷ [])))
    ≡ open_code (code_text 4 (without_end_blank_lines ls)) (code_text 4 (end_blank_lines ls) ++ code_line 4 l)
blank_push ls l e =
    let k = suffix_len is_blank_line ls in
    let h = suffix_len-le-length is_blank_line ls in
    let a = length-append ls (l ∷ []) in
    let s : suffix_len is_blank_line (ls ++ l ∷ []) ≡ 1 + k = one_suffix is_blank_line ls l ∙ ap (λ z. cond z (1 + k) 0) e in
    let n : length (ls ++ l ∷ []) - suffix_len is_blank_line (ls ++ l ∷ []) ≡ length ls - k = omega (arith, a, s, h) in
    ap (λ z. open_code (code_text 4 (take z (ls ++ l ∷ []))) (code_text 4 (drop z (ls ++ l ∷ [])))) n
    ∙ ap (λ z. open_code (code_text 4 z) (code_text 4 (drop (length ls - k) (ls ++ l ∷ [])))) (take-append-le (length ls - k) ls (l ∷ []) (omega arith))
    ∙ ap (λ z. open_code (code_text 4 (without_end_blank_lines ls)) (code_text 4 z)) (drop-append-le (length ls - k) ls (l ∷ []) (omega arith))
    ∙ ap (λ z. open_code (code_text 4 (without_end_blank_lines ls)) z) (code_push 4 (end_blank_lines ls) l)

visible_push : (ls : List BlockLine) (l : BlockLine) → is_blank_line l ≡ false →
    open_code (code_text 4 (without_end_blank_lines (ls ++ l ∷ []))) (code_text 4 (end_blank_lines (ls ++ l ∷ [])))
    ≡ open_code (code_text 4 (without_end_blank_lines ls) ++ code_text 4 (end_blank_lines ls) ++ code_line 4 l) []
visible_push ls l e =
    let all = ls ++ l ∷ [] in
    let m = length ls - suffix_len is_blank_line ls in
    let s : suffix_len is_blank_line all ≡ 0 = one_suffix is_blank_line ls l ∙ ap (λ z. cond z (1 + suffix_len is_blank_line ls) 0) e in
    let n : length all - suffix_len is_blank_line all ≡ length all = omega (arith, s) in
    let parts : code_text 4 ls ≡ code_text 4 (take m ls) ++ code_text 4 (drop m ls) =
    ap (code_text 4) (sym (take-append-drop m ls)) ∙ flat_map-append (code_line 4) (take m ls) (drop m ls) in
    ap (λ z. open_code (code_text 4 (take z all)) (code_text 4 (drop z all))) n
    ∙ ap (λ z. open_code (code_text 4 z) (code_text 4 (drop (length all) all))) (take_all (length all) all (omega arith))
    ∙ ap (λ z. open_code (code_text 4 all) (code_text 4 z)) (drop_all (length all) all (omega arith))
    ∙ ap (λ z. open_code z []) (code_push 4 ls l ∙ ap (λ z. z ++ code_line 4 l) parts)

code_law : (b : Bool) (ls : List BlockLine) (l : BlockLine) → is_blank_line l ≡ b →
    open_code (code_text 4 (without_end_blank_lines (ls ++ l ∷ []))) (code_text 4 (end_blank_lines (ls ++ l ∷ [])))
    ≡ code_more b (code_text 4 (without_end_blank_lines ls)) (code_text 4 (end_blank_lines ls)) (code_line 4 l)
code_law true ls l e = blank_push ls l e
code_law false ls l e = visible_push ls l e

-- ---- the steps

-- what a step of the definitions is to what is kept
abbrev pub next_by : (first : BlockLine) → (lines : List BlockLine) → Step → NextLeaf
next_by f r (Continues kind) = ContinuesAs (leaf_from kind f r)
next_by f r (IsLastLine kind) = EndsAs (leaf_from kind f r)
next_by f r IsOverBefore = EndedBefore

-- Where a block begins in a paragraph, the paragraph is over, but for an underline and a delimiter row.
abbrev Halts : Option Kind → Type 0
Halts None = Unit {0}
Halts (Some kind) = interrupted (Some kind) ≡ IsOverBefore

if_halts : (b : Bool) (k : Kind) → interrupted (Some k) ≡ IsOverBefore → Halts (cond b (Some k) None)
if_halts true k w = w
if_halts false k w = tt

map_halts : {A : Type 0} (g : A → Kind) (o : Option A) → ((a : A) → interrupted (Some (g a)) ≡ IsOverBefore) → Halts (option_map g o)
map_halts g None w = tt
map_halts g (Some a) w = w a

html_halts : (free : Bool) (o : Option ℕ) → Halts (html_by free o)
html_halts free None = tt
html_halts free (Some kind) = if_halts _ (HtmlBlock kind) refl

item_halts : (mode : Mode) (l : BlockLine) (o : Option Marker) → Halts (item_by mode l o)
item_halts mode l None = tt
item_halts mode l (Some m) = if_halts (may_begin_item mode m (behind_marker l m.width)) (Holds (item_of l m)) refl

level_kind : (b : Bool) (o : Option ℕ) → cond b (option_map SetextHeading o) None ≡ option_map SetextHeading (cond b o None)
level_kind true o = refl
level_kind false o = refl

near_law : (f : BlockLine) (r : List BlockLine) (l : BlockLine) (q a h w : Option Kind) (level : Option ℕ) (b i : Option Kind) (D : Bool) →
    Halts q → Halts a → Halts h → Halts w → Halts b → Halts i →
    next_by f (r ++ l ∷ []) (interrupted (option_or q (option_or a (option_or h (option_or w (option_or (option_map SetextHeading level) (option_or b (option_or i (cond D (Some (Table (length (f ∷ r)))) None)))))))))
    ≡ next_near (text_of f r) (last_text (f ∷ r)) (above_of f r) (option_or q (option_or a (option_or h w))) level (option_or b i) D l
near_law f r l (Some k) a h w level b i D s1 s2 s3 s4 s5 s6 = ap (next_by f (r ++ l ∷ [])) s1
near_law f r l None (Some k) h w level b i D s1 s2 s3 s4 s5 s6 = ap (next_by f (r ++ l ∷ [])) s2
near_law f r l None None (Some k) w level b i D s1 s2 s3 s4 s5 s6 = ap (next_by f (r ++ l ∷ [])) s3
near_law f r l None None None (Some k) level b i D s1 s2 s3 s4 s5 s6 = ap (next_by f (r ++ l ∷ [])) s4
near_law f r l None None None None (Some level) b i D s1 s2 s3 s4 s5 s6 = ap EndsAs (heading_push level f r l)
near_law f r l None None None None None (Some k) i D s1 s2 s3 s4 s5 s6 = ap (next_by f (r ++ l ∷ [])) s5
near_law f r l None None None None None None (Some k) D s1 s2 s3 s4 s5 s6 = ap (next_by f (r ++ l ∷ [])) s6
near_law f r l None None None None None None None true s1 s2 s3 s4 s5 s6 = ap ContinuesAs (table_push f r l)
near_law f r l None None None None None None None false s1 s2 s3 s4 s5 s6 = ap ContinuesAs (text_push f r l)

at_law : (f : BlockLine) (r : List BlockLine) (l : BlockLine) (near : Bool) →
    next_by f (r ++ l ∷ []) (interrupted (start_at near Inside (f ∷ r) l)) ≡ next_text (text_of f r) (last_text (f ∷ r)) (above_of f r) false false near l
unfolding start_near
at_law f r l false = ap ContinuesAs (text_push f r l)
at_law f r l true =
    let D = begins_table (last_text (f ∷ r)) (rest l) in
    ap (λ z. next_by f (r ++ l ∷ []) (interrupted (option_or (begins_quote l) (option_or (begins_atx l) (option_or (begins_fence l) (option_or (begins_html Inside l) (option_or z (option_or (begins_break l) (option_or (begins_item Inside l) (cond D (Some (Table (length (f ∷ r)))) None))))))))))
    (level_kind (underlines Inside (f ∷ r)) (underline_level (rest l)))
    ∙ near_law f r l (begins_quote l) (begins_atx l) (begins_fence l) (begins_html Inside l) (level_under (text_of f r) l) (begins_break l) (begins_item Inside l) D
    (if_halts (is_quote_marker (rest l)) (Holds Quote) refl)
    (map_halts (λ (heading : AtxLine). AtxHeading heading.level (part (rest l) heading.content)) (atx_heading (rest l)) (λ _. refl))
    (map_halts (λ (fence : FenceLine). FencedCode (indentation l) fence.mark fence.length (part (rest l) fence.info) false) (opening_fence (rest l)) (λ _. refl))
    (html_halts false (html_kind (rest l)))
    (if_halts (is_thematic_break (rest l)) ThematicBreak refl)
    (item_halts Inside l (marker (rest l)))

text_law : (f : BlockLine) (r : List BlockLine) (l : BlockLine) (lazy blank : Bool) →
    next_by f (r ++ l ∷ []) (paragraph_step lazy blank (start_where blank Inside (f ∷ r) l))
    ≡ next_text (text_of f r) (last_text (f ∷ r)) (above_of f r) lazy blank (nat_le (indentation l) 3) l
text_law f r l true blank = ap ContinuesAs (text_push f r l)
text_law f r l false true = refl
text_law f r l false false = at_law f r l (nat_le (indentation l) 3)

abbrev HasTwo : List (List ℕ) → Type 0
HasTwo [] = ⊥
HasTwo (a ∷ []) = ⊥
HasTwo (a ∷ b ∷ cs) = Unit {0}

two_left : (k : ℕ) (xs : List (List ℕ)) → k + 2 ≤ length xs → HasTwo (drop k xs)
two_left zero [] h = absurd (omega (arith, h))
two_left zero (a ∷ []) h = absurd (omega (arith, h))
two_left zero (a ∷ b ∷ cs) h = tt
two_left (suc k) [] h = absurd (omega (arith, h))
two_left (suc k) (x ∷ xs) h = two_left k xs (omega (arith, h))

two_rows : (above : ℕ) (f : BlockLine) (r : List BlockLine) → (1 ≤ above) × (above ≤ length r) → HasTwo (drop (above - 1) (map rest (f ∷ r)))
two_rows above f r v = two_left (above - 1) (map rest (f ∷ r)) (let p = length-map (f ∷ r) rest in omega (arith, p, v.0, v.1))

-- ---- what is open at its end

table_tip : (above : List ℕ) (rows : List (List ℕ)) → HasTwo rows → Closed ≡ open_tip (table_from above rows)
table_tip above [] w = absurd w
table_tip above (row ∷ []) w = absurd w
table_tip above (head ∷ delimiters ∷ rows) w = refl

-- So does what is open at their end.
pub leaf_tip : (T : List BlockLine → Tip) (k : Kind) (f : BlockLine) (r : List BlockLine) → IsLeaf k → IsMade k r → tip_at T k f r ≡ open_tip (leaf_from k f r)
unfolding leaf_from
leaf_tip T (Holds container) f r w v = absurd w
leaf_tip T Paragraph f r w v = refl
leaf_tip T (SetextHeading level) f r w v = refl
leaf_tip T (Table above) f r w v = table_tip (joined_lines (take (above - 1) (map rest (f ∷ r)))) (drop (above - 1) (map rest (f ∷ r))) (two_rows above f r v)
leaf_tip T (AtxHeading level content) f r w v = refl
leaf_tip T ThematicBreak f r w v = refl
leaf_tip T (FencedCode i m n info c) f r w v = refl
leaf_tip T IndentedCode f r w v = refl
leaf_tip T (HtmlBlock kind) f r w v = refl

row_push : (above : List ℕ) (rows : List (List ℕ)) (l : BlockLine) → HasTwo rows →
    continues_as_if (is_row l) (table_from above (rows ++ rest l ∷ [])) ≡ next_leaf (table_from above rows) l
unfolding next_leaf
row_push above [] l w = absurd w
row_push above (a ∷ []) l w = absurd w
row_push above (head ∷ delimiters ∷ rows) l w =
    ap (λ z. continues_as_if (is_row l) (open_table above (row_aligns delimiters) (row_texts head) z)) (map-append (row_of (row_aligns delimiters)) rows (rest l ∷ []))

pub pushed_rows : (above : ℕ) (f : BlockLine) (r : List BlockLine) (l : BlockLine) → 1 ≤ above → above ≤ length r →
    leaf_from (Table above) f (r ++ l ∷ []) ≡ table_from (joined_lines (take (above - 1) (map rest (f ∷ r)))) (drop (above - 1) (map rest (f ∷ r)) ++ rest l ∷ [])
unfolding leaf_from
pushed_rows above f r l p q =
    let n = above - 1 in
    let k : n ≤ length (map rest (f ∷ r)) = let s = length-map (f ∷ r) rest in omega (arith, s, q) in
    let both : map rest (f ∷ r ++ l ∷ []) ≡ map rest (f ∷ r) ++ rest l ∷ [] = map-append rest (f ∷ r) (l ∷ []) in
    ap (λ z. table_from (joined_lines (take n z)) (drop n z)) both
    ∙ ap (λ z. table_from (joined_lines z) (drop n (map rest (f ∷ r) ++ rest l ∷ []))) (take-append-le n (map rest (f ∷ r)) (rest l ∷ []) k)
    ∙ ap (λ z. table_from (joined_lines (take n (map rest (f ∷ r)))) z) (drop-append-le n (map rest (f ∷ r)) (rest l ∷ []) k)

if_next : (f : BlockLine) (r : List BlockLine) (b : Bool) (k : Kind) → next_by f r (continues_if b k) ≡ continues_as_if b (leaf_from k f r)
if_next f r true k = refl
if_next f r false k = refl

fence_law : (f : BlockLine) (r : List BlockLine) (l : BlockLine) (i m n : ℕ) (info : List ℕ) (closed : Bool) →
    next_by f (r ++ l ∷ []) (fence_step closed (FencedCode i m n info)) ≡ next_fence closed i m n info (code_text i r) (code_line i l)
unfolding leaf_from
fence_law f r l i m n info true = ap (λ z. EndsAs (open_fence i m n info (code_text i z))) (drops_last r l)
fence_law f r l i m n info false = ap (λ z. ContinuesAs (open_fence i m n info z)) (code_push i r l)

html_push : (kind : ℕ) (f : BlockLine) (r : List BlockLine) (l : BlockLine) →
    leaf_from (HtmlBlock kind) f (r ++ l ∷ []) ≡ open_html kind (joined_lines (map (λ (x : BlockLine). x.line.text) (f ∷ r)) ++ 10 ∷ l.line.text)
unfolding leaf_from
html_push kind f r l =
    let text = λ (x : BlockLine). x.line.text in
    ap (λ z. open_html kind (joined_lines (f.line.text ∷ z))) (map-append text r (l ∷ [])) ∙ ap (open_html kind) (joined_next f.line.text (map text r) l.line.text)

html_law : (f : BlockLine) (r : List BlockLine) (l : BlockLine) (blank ends : Bool) (kind : ℕ) →
    next_by f (r ++ l ∷ []) (html_step blank ends kind) ≡ next_html blank ends kind (joined_lines (map (λ (x : BlockLine). x.line.text) (f ∷ r)) ++ 10 ∷ l.line.text)
html_law f r l true ends kind = if_next f (r ++ l ∷ []) (nat_lt kind 6) (HtmlBlock kind) ∙ ap (continues_as_if (nat_lt kind 6)) (html_push kind f r l)
html_law f r l false true kind = ap EndsAs (html_push kind f r l)
html_law f r l false false kind = ap ContinuesAs (html_push kind f r l)

-- What one line more makes of a leaf follows from what is kept of its lines.
pub leaf_next : (T : List BlockLine → Tip) (k : Kind) (f : BlockLine) (r : List BlockLine) (l : BlockLine) → IsLeaf k → IsMade k r →
    next_by f (r ++ l ∷ []) (step T k f r l) ≡ next_leaf (leaf_from k f r) l
unfolding step leaf_from next_leaf start
leaf_next T (Holds container) f r l w v = absurd w
leaf_next T Paragraph f r l w v = text_law f r l l.lazy (is_blank_line l)
leaf_next T (SetextHeading level) f r l w v = refl
leaf_next T (Table above) f r l w v =
    if_next f (r ++ l ∷ []) (is_row l) (Table above)
    ∙ ap (continues_as_if (is_row l)) (pushed_rows above f r l v.0 v.1)
    ∙ row_push (joined_lines (take (above - 1) (map rest (f ∷ r)))) (drop (above - 1) (map rest (f ∷ r))) l (two_rows above f r v)
leaf_next T (AtxHeading level content) f r l w v = refl
leaf_next T ThematicBreak f r l w v = refl
leaf_next T (FencedCode i m n info closed) f r l w v =
    fence_law f r l i m n info (closes m n l) ∙ ap (λ z. next_fence (closes m n l) i m n info (code_text i (fenced_lines z r)) (code_line i l)) (sym v)
leaf_next T IndentedCode f r l w v =
    if_next f (r ++ l ∷ []) (is_code l) IndentedCode ∙ ap (continues_as_if (is_code l)) (code_law (is_blank_line l) (f ∷ r) l refl)
leaf_next T (HtmlBlock kind) f r l w v = html_law f r l (is_blank_line l) (ends_html kind l) kind

-- whether the leaf is over before the line
pub next_parts : (f : BlockLine) (r : List BlockLine) (st : Step) → is_stop st ≡ is_parted (next_by f r st)
next_parts f r (Continues kind) = refl
next_parts f r (IsLastLine kind) = refl
next_parts f r IsOverBefore = refl
