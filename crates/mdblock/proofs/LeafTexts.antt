-- What one line more makes of the text that an open leaf holds.
use Rattle.std.proofs.Common.{◌≡◌, ℕ, ◌+◌, ◌-◌, ◌<◌, ◌≤◌, Bool, true, false, not, List, [], ◌∷◌, ◌++◌, append_assoc, length, map, reverse, take, drop, refl, ap, sym, ◌∙◌, subst, arith, ◌⊎◌, inl, inr}
use Rattle.std.proofs.Math.Nat.{eq-or-lt_of_le}
use Rattle.std.proofs.lemmas.Bool.Decides.{nat_tests}
use Rattle.std.proofs.lemmas.Grind.{flat_map-append}
use Rattle.std.proofs.lemmas.List.{append-nil, map-append, reverse-append, take_all, drop_all, take-append-drop}
use Rattle.std.proofs.lemmas.List.Sums.{prefix_len-le-length, prefix_len_stops}
use Rattle.std.proofs.lemmas.Str.{IsCharBoundary-end, IsCharBoundary-before_ascii, IsCharBoundary-after_ascii}
use Rattle.std.specs.List.{flat_map, prefix_len, slice_index, suffix_len}
use Rattle.std.specs.Str.{IsCharBoundary, IsUtf8}
use Rattle.mdtext.specs.EntityTable.{EntityTable}
use Rattle.mdtext.specs.Unescaped.{unescaped}
use Rattle.mdleaf.specs.CodeLanguage.{behind_word, code_language, code_meta, ends_language}
use Rattle.mdleaf.specs.ParagraphText.{joined_lines}
use Rattle.blockspec.proofs.OpenLeafLaws.{joined_next}
use Rattle.blockspec.specs.BlockLine.{BlockLine, without_columns}
use Rattle.blockspec.specs.BlankLines.{is_blank_line}
use Rattle.blockspec.specs.LeafContents.{code_text}
use Rattle.blockspec.specs.IndentedCode.{without_end_blank_lines}
use Rattle.blockspec.specs.OpenLeaf.{end_blank_lines}

-- ---- lines with a line ending between them

pub joined_more : (x y : List ℕ) (ys : List (List ℕ)) → joined_lines (x ∷ y ∷ ys) ≡ x ++ 10 ∷ joined_lines (y ∷ ys)
unfolding joined_lines
joined_more x y ys = refl

pub joined_one : (x : List ℕ) → joined_lines (x ∷ []) ≡ x
unfolding joined_lines
joined_one x = refl

pub html_next : (first : BlockLine) (later : List BlockLine) (l : BlockLine) (old ended new : List ℕ)
    → old ≡ joined_lines (map (λ l. l.line.text) (first ∷ later)) → ended ≡ old ++ 10 ∷ [] → new ≡ ended ++ l.line.text
    → new ≡ joined_lines (map (λ l. l.line.text) (first ∷ later ++ l ∷ []))
html_next first later l old ended new o e n =
    let texts = map (λ (l : BlockLine). l.line.text) later in
    n ∙ ap (λ t. t ++ l.line.text) e ∙ append_assoc old (10 ∷ []) l.line.text ∙ ap (λ t. t ++ 10 ∷ l.line.text) o
    ∙ sym (joined_next first.line.text texts l.line.text)
    ∙ ap (λ ts. joined_lines (first.line.text ∷ ts)) (sym (map-append (λ (l : BlockLine). l.line.text) later (l ∷ [])))

-- ---- lines of code

pub code_next : (columns : ℕ) (ls : List BlockLine) (l : BlockLine) (old mid new : List ℕ)
    → old ≡ code_text columns ls → mid ≡ old ++ (without_columns l columns).line.text → new ≡ mid ++ 10 ∷ []
    → new ≡ code_text columns (ls ++ l ∷ [])
code_next columns ls l old mid new o m n =
    let row = λ (l : BlockLine). (without_columns l columns).line.text ++ 10 ∷ [] in
    n ∙ ap (λ t. t ++ 10 ∷ []) m ∙ append_assoc old (without_columns l columns).line.text (10 ∷ [])
    ∙ ap (λ t. t ++ row l) o ∙ ap (λ t. code_text columns ls ++ t) (sym (append-nil (row l)))
    ∙ sym (flat_map-append row ls (l ∷ []))

suffix_front : (p : BlockLine → Bool) (ls : List BlockLine) (l : BlockLine) (n : ℕ) → n ≡ prefix_len p (l ∷ reverse ls) → suffix_len p (ls ++ l ∷ []) ≡ n
suffix_front p ls l n e = ap (prefix_len p) (reverse-append ls (l ∷ [])) ∙ sym e

suffix_none : (ls : List BlockLine) (l : BlockLine) → is_blank_line l ≡ false → suffix_len is_blank_line (ls ++ l ∷ []) ≡ 0
suffix_none ls l h = suffix_front is_blank_line ls l 0 (rw h refl)

pub front_is_all : (ls : List BlockLine) (l : BlockLine) → is_blank_line l ≡ false → without_end_blank_lines (ls ++ l ∷ []) ≡ ls ++ l ∷ []
front_is_all ls l h = take_all _ (ls ++ l ∷ []) (omega (arith, suffix_none ls l h))

pub end_is_none : (ls : List BlockLine) (l : BlockLine) → is_blank_line l ≡ false → end_blank_lines (ls ++ l ∷ []) ≡ []
end_is_none ls l h = drop_all _ (ls ++ l ∷ []) (omega (arith, suffix_none ls l h))

-- both parts of the lines make their text
pub code_parts : (columns : ℕ) (ls : List BlockLine) → code_text columns (without_end_blank_lines ls) ++ code_text columns (end_blank_lines ls) ≡ code_text columns ls
code_parts columns ls =
    let row = λ (l : BlockLine). (without_columns l columns).line.text ++ 10 ∷ [] in
    let n : ℕ = length ls - suffix_len is_blank_line ls in
    sym (flat_map-append row (take n ls) (drop n ls)) ∙ ap (flat_map row) (take-append-drop n ls)

pub body_next : (ls : List BlockLine) (l : BlockLine) (body blanks mid ended new : List ℕ) → is_blank_line l ≡ false
    → body ≡ code_text 4 (without_end_blank_lines ls) → blanks ≡ code_text 4 (end_blank_lines ls)
    → mid ≡ blanks ++ (without_columns l 4).line.text → ended ≡ mid ++ 10 ∷ [] → new ≡ body ++ ended
    → new ≡ code_text 4 (without_end_blank_lines (ls ++ l ∷ []))
body_next ls l body blanks mid ended new h b k m e n =
    let row = λ (l : BlockLine). (without_columns l 4).line.text ++ 10 ∷ [] in
    n ∙ ap (λ t. t ++ ended) b ∙ ap (λ t. code_text 4 (without_end_blank_lines ls) ++ t) (code_next 4 (end_blank_lines ls) l blanks mid ended k m e ∙ flat_map-append row (end_blank_lines ls) (l ∷ []))
    ∙ sym (append_assoc (code_text 4 (without_end_blank_lines ls)) (code_text 4 (end_blank_lines ls)) (flat_map row (l ∷ [])))
    ∙ ap (λ t. t ++ flat_map row (l ∷ [])) (code_parts 4 ls)
    ∙ sym (flat_map-append row ls (l ∷ []))
    ∙ ap (code_text 4) (sym (front_is_all ls l h))

-- ---- the language of fenced code

ends_ascii : (b : ℕ) → not (ends_language b) ≡ false → b < 128
ends_ascii b h = by_test (ends_language b) refl h where
  by_test : (t : Bool) → ends_language b ≡ t → not t ≡ false → b < 128
  by_test true e g = grind (arith, nat_tests, e)
  by_test false e g = cc

-- at the end of the first word stands what ends it
word_stops : (text : List ℕ) (n : ℕ) → n ≡ prefix_len (λ b. not (ends_language b)) text → n < length text → slice_index text n < 128
word_stops text n e less =
    let p = λ (b : ℕ). not (ends_language b) in
    let stops : p (slice_index text n) ≡ false = subst (λ k. p (slice_index text k) ≡ false) (sym e) (prefix_len_stops p text 0 (omega (arith, e, less))) in
    ends_ascii (slice_index text n) stops

word_within : (text : List ℕ) (n : ℕ) → n ≡ prefix_len (λ b. not (ends_language b)) text → (n ≡ length text) ⊎ (n < length text) → IsCharBoundary text n
word_within text n e (inl all) = subst (IsCharBoundary text) (sym all) (IsCharBoundary-end text)
word_within text n e (inr less) = IsCharBoundary-before_ascii text n less (word_stops text n e less)

-- behind the first word a text may be cut
pub word_ends : (text : List ℕ) (n : ℕ) → n ≡ prefix_len (λ b. not (ends_language b)) text → IsCharBoundary text n
word_ends text n e =
    let most = prefix_len-le-length (λ (b : ℕ). not (ends_language b)) text in
    word_within text n e (eq-or-lt_of_le (omega (arith, e, most)))

pub word_le : (text : List ℕ) (n : ℕ) → n ≡ prefix_len (λ b. not (ends_language b)) text → n ≤ length text
word_le text n e = omega (arith, e, prefix_len-le-length (λ (b : ℕ). not (ends_language b)) text)

-- and behind what ends it
pub word_end_behind : (text : List ℕ) (n : ℕ) → IsUtf8 text → n ≡ prefix_len (λ b. not (ends_language b)) text → n < length text → IsCharBoundary text (n + 1)
word_end_behind text n u e less = IsCharBoundary-after_ascii text n u less (word_stops text n e less)

pub language_is : (entities : EntityTable) (info text new : List ℕ) (n : ℕ) → text ≡ unescaped entities info → n ≡ prefix_len (λ b. not (ends_language b)) text
    → new ≡ take n text → new ≡ code_language entities info
unfolding code_language
language_is entities info text new n t e f =
    f ∙ ap (λ k. take k text) e ∙ ap (λ t. take (prefix_len (λ b. not (ends_language b)) t) t) t

pub meta_is : (entities : EntityTable) (info text new : List ℕ) → text ≡ unescaped entities info → new ≡ behind_word text → new ≡ code_meta entities info
unfolding code_meta
meta_is entities info text new t e = e ∙ ap behind_word t
