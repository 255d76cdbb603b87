-- A text without its indentation: columns that are skipped leave it as it is.
use Rattle.std.proofs.Common.{◌≡◌, ℕ, zero, suc, ◌+◌, ◌-◌, ◌*◌, ◌^◌, ◌<◌, ◌≤◌, Bool, true, false, List, [], ◌∷◌, length, drop, get_or, length-drop, refl, ap, sym, ◌∙◌, arith, add-one, subst, ◌⊎◌, inl, inr, nat_le}
use Rattle.std.proofs.lemmas.Bool.Decides.{nat_tests}
use Rattle.std.proofs.lemmas.List.{drop_more, drop_all}
use Rattle.std.proofs.lemmas.Str.{IsCharBoundary-start, IsCharBoundary-after_ascii}
use Rattle.std.proofs.lemmas.List.Sums.{prefix_len-le-length, prefix_len_passes}
use Rattle.std.specs.List.{prefix_len}
use Rattle.std.specs.Str.{IsUtf8, IsCharBoundary}
use Rattle.mdtext.specs.Columns.{Place, is_space_or_tab, width, indent_at, indent, line_at, skip_from, skip, unindented}
use Rattle.mdtext.proofs.Indents.{steps, lands, indent_nil, indent_spaces, width_bounds}

pub at_most_or_more : (m n : ℕ) → (m ≤ n) ⊎ (n < m)
at_most_or_more m n = by_test (nat_le m n) refl where
  by_test : (t : Bool) → nat_le m n ≡ t → (m ≤ n) ⊎ (n < m)
  by_test true e = inl (grind (arith, nat_tests, e))
  by_test false e = inr (grind (arith, nat_tests, e))

drop_one : (n b : ℕ) (bs : List ℕ) → drop (1 + n) (b ∷ bs) ≡ drop n bs
drop_one n b bs = let e : 1 + n ≡ suc n = omega arith in rw e refl

pub unindented_blank : (b : ℕ) (bs : List ℕ) → is_space_or_tab b ≡ true → unindented (b ∷ bs) ≡ unindented bs
unfolding unindented
unindented_blank b bs h = rw h (drop_one (prefix_len is_space_or_tab bs) b bs)

pub unindented_other : (b : ℕ) (bs : List ℕ) → is_space_or_tab b ≡ false → unindented (b ∷ bs) ≡ b ∷ bs
unfolding unindented
unindented_other b bs h = rw h refl

pub unindented_nil : unindented [] ≡ []
unfolding unindented
unindented_nil = refl

blank_indents : (column b : ℕ) (bs : List ℕ) → is_space_or_tab b ≡ false → indent_at column (b ∷ bs) ≡ 0
unfolding indent_at
blank_indents column b bs h = rw h refl

indent_is : (column b : ℕ) (bs : List ℕ) → is_space_or_tab b ≡ true → indent_at column (b ∷ bs) ≡ width column b + indent_at (column + width column b) bs
unfolding indent_at
indent_is column b bs h = rw h refl

pub is_bool : (t : Bool) → (t ≡ true) ⊎ (t ≡ false)
is_bool true = inl refl
is_bool false = inr refl

-- where there is indentation, a space or tab stands first
first_is : (column b : ℕ) (bs : List ℕ) → 0 < indent_at column (b ∷ bs) → is_space_or_tab b ≡ true
first_is column b bs h = elim (is_bool (is_space_or_tab b)) [ inl is ↦ is | inr other ↦ absurd (let none = blank_indents column b bs other in omega (arith, none, h)) ]

skipped : (column left columns : ℕ) (rest : List ℕ) → columns ≤ left + indent_at (column + left) rest → unindented (skip_from column left columns rest).rest ≡ unindented rest
skipped column left columns [] h = ap (λ (p : Place). unindented p.rest) (lands column left columns [] (omega (arith, h, indent_nil (column + left))))
skipped column left columns (b ∷ bs) h = elim (at_most_or_more columns left) [
  | inl few ↦ ap (λ (p : Place). unindented p.rest) (lands column left columns (b ∷ bs) few)
  | inr many ↦
      let s = steps column left columns (b ∷ bs) many h in
      let blank = first_is (column + left) b bs (omega (arith, h, many)) in
      ap (λ (p : Place). unindented p.rest) s.place
      ∙ skipped (column + left) (width (column + left) b) (columns - left) bs (omega (arith, h, s.indent, many))
      ∙ sym (unindented_blank b bs blank)
]

-- the text behind the indentation stays
pub text_stays : (place : Place) (columns : ℕ) → columns ≤ indent (line_at place) → unindented (skip place columns).rest ≡ unindented place.rest
text_stays place columns h = skipped place.column place.left columns place.rest (omega (arith, h, indent_spaces place.column place.left place.rest))

-- ---- how long it is, and where it may be cut

-- how many of the first bytes are spaces or tabs, counted up to one of them
pub record CountsBlanks (at : ℕ) (text : List ℕ) : Type 0 where
  pub so_far : at + prefix_len is_space_or_tab (drop at text) ≡ prefix_len is_space_or_tab text

pub front_blank : (b : ℕ) (bs : List ℕ) → is_space_or_tab b ≡ true → prefix_len is_space_or_tab (b ∷ bs) ≡ 1 + prefix_len is_space_or_tab bs
front_blank b bs h = rw h refl

pub front_other : (b : ℕ) (bs : List ℕ) → is_space_or_tab b ≡ false → prefix_len is_space_or_tab (b ∷ bs) ≡ 0
front_other b bs h = rw h refl

pub blanks_more : (at : ℕ) (text : List ℕ) → CountsBlanks at text → at < length text → is_space_or_tab (get_or text at 0) ≡ true → CountsBlanks (at + 1) text
blanks_more at text k h is =
    let one : prefix_len is_space_or_tab (drop at text) ≡ 1 + prefix_len is_space_or_tab (drop (at + 1) text) =
    ap (prefix_len is_space_or_tab) (drop_more text at 0 h) ∙ front_blank (get_or text at 0) (drop (at + 1) text) is in
    record { so_far = omega (arith, k.so_far, one) }

pub blanks_end : (at : ℕ) (text : List ℕ) → CountsBlanks at text → at < length text → is_space_or_tab (get_or text at 0) ≡ false → at ≡ prefix_len is_space_or_tab text
blanks_end at text k h other =
    let none : prefix_len is_space_or_tab (drop at text) ≡ 0 = ap (prefix_len is_space_or_tab) (drop_more text at 0 h) ∙ front_other (get_or text at 0) (drop (at + 1) text) other in
    omega (arith, k.so_far, none)

pub blanks_all : (at : ℕ) (text : List ℕ) → CountsBlanks at text → length text ≤ at → length text ≡ prefix_len is_space_or_tab text
blanks_all at text k h =
    let none : prefix_len is_space_or_tab (drop at text) ≡ 0 = ap (prefix_len is_space_or_tab) (drop_all at text h) in
    omega (arith, k.so_far, none, prefix_len-le-length is_space_or_tab text)

ascii : (b : ℕ) → is_space_or_tab b ≡ true → b < 128
ascii b e = grind (arith, nat_tests)

run_is : (text : List ℕ) (n : ℕ) → IsUtf8 text → prefix_len is_space_or_tab text ≡ n → IsCharBoundary text n
run_is text zero u e = IsCharBoundary-start text u
run_is text (suc m) u e =
    let within : m < length text = omega (arith, prefix_len-le-length is_space_or_tab text) in
    let inside : m < prefix_len is_space_or_tab text = omega arith in
    subst (λ (i : ℕ). IsCharBoundary text i) (add-one m) (IsCharBoundary-after_ascii text m u within (ascii _ (prefix_len_passes is_space_or_tab text m 0 inside)))

-- behind the indentation a text may be cut
pub indentation_ends : (text bytes : List ℕ) (n : ℕ) → IsUtf8 text → bytes ≡ text → n ≡ prefix_len is_space_or_tab bytes → IsCharBoundary text n
indentation_ends text bytes n u same e = run_is text n u (sym (subst (λ (t : List ℕ). n ≡ prefix_len is_space_or_tab t) same e))

-- what is left there
pub behind : (text bytes rest : List ℕ) (n : ℕ) → bytes ≡ text → n ≡ prefix_len is_space_or_tab bytes → rest ≡ drop n text → rest ≡ unindented text
unfolding unindented
behind text bytes rest n same e d = d ∙ ap (λ k. drop k text) (subst (λ (t : List ℕ). n ≡ prefix_len is_space_or_tab t) same e)

-- the indentation takes at most four columns a byte
pub indentation_reaches : (column : ℕ) (text : List ℕ) → indent_at column text + 4 * length (unindented text) ≤ 4 * length text
indentation_reaches column [] = omega (arith, indent_nil column, ap length unindented_nil)
indentation_reaches column (b ∷ bs) = elim (is_bool (is_space_or_tab b)) [
  | inl is ↦
      let bounds = width_bounds column b in
      let more = indent_is column b bs is in
      let shorter = ap length (unindented_blank b bs is) in
      let next = indentation_reaches (column + width column b) bs in
      omega (arith, more, shorter, next, bounds.1)
  | inr other ↦
      let none = blank_indents column b bs other in
      let same = ap length (unindented_other b bs other) in
      omega (arith, none, same)
]

-- a mark behind the indentation ends within what the line reaches
pub mark_reaches : (column left indent n : ℕ) (rest after : List ℕ) → indent ≡ left + indent_at (column + left) rest → column + left + 4 * length rest < 2 ^ 64
    → n ≤ length (unindented rest) → after ≡ drop n (unindented rest) → column + indent + n + 4 * length after < 2 ^ 64
mark_reaches column left indent n rest after e short within d =
    let less = indentation_reaches (column + left) rest in
    let long = ap length d ∙ length-drop n (unindented rest) in
    omega (arith, e, short, within, less, long)

-- the place behind such a mark
pub behind_mark : (column left columns n : ℕ) (rest : List ℕ) (old : Place) (after : List ℕ) → columns ≡ left + indent_at (column + left) rest
    → (let p : Place = record { column = column; left = left; rest = rest } in p) ≡ old → after ≡ drop n (unindented old.rest)
    → (let p : Place = record { column = column + columns + n; left = 0; rest = after } in p) ≡ record { column = old.column + indent (line_at old) + n; left = 0; rest = drop n (unindented old.rest) }
behind_mark column left columns n rest old after e is d =
    let same : columns ≡ indent (line_at old) = e ∙ sym (indent_spaces column left rest) ∙ ap (λ (p : Place). indent (line_at p)) is in
    let column_is : column + columns + n ≡ old.column + indent (line_at old) + n = ap (λ k. column + k + n) same ∙ ap (λ (p : Place). p.column + indent (line_at old) + n) is in
    ap (λ k. let p : Place = record { column = k; left = 0; rest = after } in p) column_is
    ∙ ap (λ r. let p : Place = record { column = old.column + indent (line_at old) + n; left = 0; rest = r } in p) d

same_column : (column : ℕ) → column ≡ column + 0
same_column column = omega arith

-- where no columns are left of a tab
pub none_left : (column columns : ℕ) (text : List ℕ) → columns ≡ indent_at column text → columns ≡ 0 + indent_at (column + 0) text
none_left column columns text e = e ∙ ap (λ k. indent_at k text) (same_column column) ∙ omega arith

-- no columns further on
pub skip_none : (place : Place) (columns : ℕ) → columns ≡ 0 → place ≡ skip place columns
skip_none place columns e =
    let column : place.column ≡ place.column + columns = omega (arith, e) in
    let left : place.left ≡ place.left - columns = omega (arith, e) in
    ap (λ k. let p : Place = record { column = k; left = place.left; rest = place.rest } in p) column
    ∙ ap (λ k. let p : Place = record { column = place.column + columns; left = k; rest = place.rest } in p) left
    ∙ sym (lands place.column place.left columns place.rest (omega (arith, e)))
