-- How far a line reaches, and what is left of it behind columns and marks.
use Rattle.std.proofs.Common.{◌≡◌, ℕ, zero, suc, ◌+◌, ◌-◌, ◌*◌, ◌^◌, ◌<◌, ◌≤◌, ◌==◌, true, false, List, [], ◌∷◌, ◌++◌, length, drop, length-drop, replicate, refl, ap, sym, ◌∙◌, arith, inl, inr}
use Rattle.std.proofs.lemmas.Bool.Decides.{nat_tests}
use Rattle.std.specs.List.{list_all}
use Rattle.mdtext.specs.Columns.{Place, is_space_or_tab, width, indent_at, indent, line_at, skip_from, skip, unindented}
use Rattle.mdtext.proofs.Indents.{steps, lands, indent_nil, indent_spaces, width_bounds}
use Rattle.mdtext.proofs.Unindented.{at_most_or_more, is_bool, unindented_blank, unindented_other, unindented_nil, indentation_reaches}
use Rattle.mdscan.specs.Blanks.{is_blank}

-- spaces in front go with the indentation
pub unindented_spaces : (n : ℕ) (text : List ℕ) → unindented (replicate n 32 ++ text) ≡ unindented text
unindented_spaces zero text = refl
unindented_spaces (suc n) text = unindented_blank 32 (replicate n 32 ++ text) refl ∙ unindented_spaces n text

pub unindented_line : (place : Place) → unindented (line_at place).text ≡ unindented place.rest
unindented_line place = unindented_spaces place.left place.rest

-- how far a line reaches at most, each byte being counted as a tab
abbrev pub reach : Place → ℕ
reach place = place.column + place.left + 4 * length place.rest

reach_from : (column left columns : ℕ) (rest : List ℕ) → columns ≤ left + indent_at (column + left) rest → reach (skip_from column left columns rest) ≤ column + left + 4 * length rest
reach_from column left columns [] h =
    let few = lands column left columns [] (omega (arith, h, indent_nil (column + left))) in
    let same : reach (skip_from column left columns []) ≡ column + columns + (left - columns) + 4 * 0 = ap (λ (p : Place). reach p) few in
    omega (arith, same, h, indent_nil (column + left))
reach_from column left columns (b ∷ bs) h = elim (at_most_or_more columns left) [
  | inl few ↦
      let same : reach (skip_from column left columns (b ∷ bs)) ≡ column + columns + (left - columns) + 4 * length (b ∷ bs) = ap (λ (p : Place). reach p) (lands column left columns (b ∷ bs) few) in
      omega (arith, same, few)
  | inr many ↦
      let s = steps column left columns (b ∷ bs) many h in
      let bounds = width_bounds (column + left) b in
      let same : reach (skip_from column left columns (b ∷ bs)) ≡ reach (skip_from (column + left) (width (column + left) b) (columns - left) bs) = ap (λ (p : Place). reach p) s.place in
      let next = reach_from (column + left) (width (column + left) b) (columns - left) bs (omega (arith, h, s.indent, many)) in
      omega (arith, same, next, bounds.1)
]

-- columns that are skipped reach no further
pub reach_stays : (place : Place) (columns : ℕ) → columns ≤ indent (line_at place) → reach (skip place columns) ≤ reach place
reach_stays place columns h = reach_from place.column place.left columns place.rest (omega (arith, h, indent_spaces place.column place.left place.rest))

-- the indentation is a part of what the line reaches
pub indent_within : (place : Place) → place.column + indent (line_at place) ≤ reach place
indent_within place = omega (arith, indent_spaces place.column place.left place.rest, indentation_reaches (place.column + place.left) place.rest)

-- what a line keeps of its length, where columns are taken off
pub columns_taken : (old new : Place) (columns : ℕ) → columns ≤ indent (line_at old) → new ≡ skip old columns → reach old + 3 < 2 ^ 64 → reach new + 3 < 2 ^ 64
columns_taken old new columns h e short =
    let less = reach_stays old columns h in
    let same : reach new ≡ reach (skip old columns) = ap (λ (p : Place). reach p) e in
    omega (arith, less, same, short)

-- the place behind the indentation and a mark
abbrev pub behind_mark : (old : Place) (width : ℕ) → Place
behind_mark old width = record { column = old.column + indent (line_at old) + width; left = 0; rest = drop width (unindented old.rest) }

-- which reaches no further
pub mark_taken : (old new : Place) (width : ℕ) → new ≡ behind_mark old width → width ≤ length (unindented old.rest) → reach old + 3 < 2 ^ 64 → reach new + 3 < 2 ^ 64
mark_taken old new width e within short =
    let there : reach new ≡ old.column + indent (line_at old) + width + 0 + 4 * length (drop width (unindented old.rest)) = ap (λ (p : Place). reach p) e in
    let indent_is = indent_spaces old.column old.left old.rest in
    let less = indentation_reaches (old.column + old.left) old.rest in
    omega (arith, there, indent_is, less, length-drop width (unindented old.rest), within, short)

-- and is the line behind them
pub mark_line : (old new : Place) (width : ℕ) → new ≡ behind_mark old width
    → line_at new ≡ record { column = old.column + indent (line_at old) + width; text = drop width (unindented (line_at old).text) }
mark_line old new width e =
    ap line_at e ∙ ap (λ t. record { column = old.column + indent (line_at old) + width; text = drop width t }) (sym (unindented_line old))

pub never_empty : (n : ℕ) → false ≡ (suc n == 0)
never_empty n = grind (arith, nat_tests)

blank_front : (b : ℕ) (bs : List ℕ) → is_space_or_tab b ≡ true → list_all is_blank (b ∷ bs) ≡ list_all is_blank bs
blank_front b bs h = rw h refl

-- a text is blank where nothing is left without its indentation
pub blank_text : (text : List ℕ) → list_all is_blank text ≡ (length (unindented text) == 0)
blank_text [] = rw unindented_nil refl
blank_text (b ∷ bs) = elim (is_bool (is_space_or_tab b)) [
  | inl is ↦ blank_front b bs is ∙ blank_text bs ∙ ap (λ t. length t == 0) (sym (unindented_blank b bs is))
  | inr other ↦ rw (unindented_other b bs other) (rw other (never_empty (length bs)))
]
