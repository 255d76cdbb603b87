-- Going over columns is taking them off the line.
use Rattle.std.proofs.Common.{◌≡◌, ℕ, zero, suc, ◌+◌, ◌-◌, ◌<◌, ◌≤◌, Bool, true, false, List, [], ◌∷◌, ◌++◌, replicate, refl, ap, sym, ◌∙◌, arith, nat_le, min, ◌⊎◌, inl, inr, eqb}
use Rattle.std.proofs.lemmas.Bool.Decides.{nat_tests}
use Rattle.mdtext.specs.Columns.{Line, Place, width, indent_at, indent, strip_at, strip, line_at, skip_from, skip}
use Rattle.mdtext.proofs.Indents.{width_space, indent_nil, indent_spaces, steps, lands}

at_most_or_more : (m n : ℕ) → (m ≤ n) ⊎ (n < m)
at_most_or_more m n = by_test (nat_le m n) refl where
  by_test : (t : Bool) → nat_le m n ≡ t → (m ≤ n) ⊎ (n < m)
  by_test true e = inl (grind (arith, nat_tests, e))
  by_test false e = inr (grind (arith, nat_tests, e))

strip_none : (column : ℕ) (text : List ℕ) → strip_at column 0 text ≡ text
unfolding strip_at
strip_none column [] = refl
strip_none column (b ∷ bs) = refl

strip_more : (column columns b : ℕ) (bs : List ℕ) → 0 < columns → width column b ≤ columns → strip_at column columns (b ∷ bs) ≡ strip_at (column + width column b) (columns - width column b) bs
unfolding strip_at
strip_more column columns b bs h e =
    let some : eqb columns 0 ≡ false = grind (arith, nat_tests, h) in
    let fits : nat_le (width column b) columns ≡ true = grind (arith, nat_tests, e) in
    rw (some, fits) refl

strip_cut : (column columns b : ℕ) (bs : List ℕ) → 0 < columns → columns < width column b → strip_at column columns (b ∷ bs) ≡ replicate (width column b - columns) 32 ++ bs
unfolding strip_at
strip_cut column columns b bs h e =
    let some : eqb columns 0 ≡ false = grind (arith, nat_tests, h) in
    let fits : nat_le (width column b) columns ≡ false = grind (arith, nat_tests, e) in
    rw (some, fits) refl

strip_space : (column columns : ℕ) (bs : List ℕ) → 0 < columns → strip_at column columns (32 ∷ bs) ≡ strip_at (column + 1) (columns - 1) bs
strip_space column columns bs h =
    strip_more column columns 32 bs h (omega (arith, width_space column, h)) ∙ ap (λ w. strip_at (column + w) (columns - w) bs) (width_space column)

-- equal numbers give equal results
at_places : (a b c d : ℕ) (bs : List ℕ) → a ≡ b → c ≡ d → strip_at a c bs ≡ strip_at b d bs
at_places a b c d bs e f = ap (λ k. strip_at k c bs) e ∙ ap (λ k. strip_at b k bs) f

spaces_then : (m n : ℕ) (bs : List ℕ) → m ≡ n → replicate m 32 ++ bs ≡ replicate n 32 ++ bs
spaces_then m n bs e = ap (λ k. replicate k 32 ++ bs) e

strip_within : (column left columns : ℕ) (rest : List ℕ) → columns ≤ left → strip_at column columns (replicate left 32 ++ rest) ≡ replicate (left - columns) 32 ++ rest
strip_within column zero columns rest h = at_places column column columns 0 rest refl (omega (arith, h)) ∙ strip_none column rest ∙ spaces_then 0 (0 - columns) rest (omega (arith, h))
strip_within column (suc left) zero rest h = strip_none column (replicate (suc left) 32 ++ rest) ∙ spaces_then (suc left) (suc left - 0) rest (omega arith)
strip_within column (suc left) (suc columns) rest h =
    strip_space column (suc columns) (replicate left 32 ++ rest) (omega arith)
    ∙ strip_within (column + 1) left (suc columns - 1) rest (omega (arith, h)) ∙ spaces_then _ _ rest (omega arith)

strip_past : (column left columns : ℕ) (rest : List ℕ) → left ≤ columns → strip_at column columns (replicate left 32 ++ rest) ≡ strip_at (column + left) (columns - left) rest
strip_past column zero columns rest h = at_places _ _ _ _ rest (omega arith) (omega arith)
strip_past column (suc left) columns rest h =
    strip_space column columns (replicate left 32 ++ rest) (omega (arith, h))
    ∙ strip_past (column + 1) left (columns - 1) rest (omega (arith, h)) ∙ at_places _ _ _ _ rest (omega arith) (omega (arith, h))

-- a tab is as good as its columns
strip_tab : (column columns b : ℕ) (bs : List ℕ) → 0 < columns → strip_at column columns (b ∷ bs) ≡ strip_at column columns (replicate (width column b) 32 ++ bs)
strip_tab column columns b bs h = elim (at_most_or_more (width column b) columns) [
  | inl few ↦ strip_more column columns b bs h few ∙ sym (strip_past column (width column b) columns bs few)
  | inr many ↦ strip_cut column columns b bs h many ∙ sym (strip_within column (width column b) columns bs (omega (arith, many)))
]

record IsStripped (column left columns : ℕ) (rest : List ℕ) (place : Place) : Type 0 where
  pub further : place.column ≡ column + columns
  pub text : replicate place.left 32 ++ place.rest ≡ strip_at column columns (replicate left 32 ++ rest)

here : (column left columns : ℕ) (rest : List ℕ) → columns ≤ left → IsStripped column left columns rest (skip_from column left columns rest)
here column left columns rest h = rw (lands column left columns rest h) (record { further = refl; text = sym (strip_within column left columns rest h) })

stripped : (column left columns : ℕ) (rest : List ℕ) → columns ≤ left + indent_at (column + left) rest → IsStripped column left columns rest (skip_from column left columns rest)
stripped column left columns [] h = here column left columns [] (omega (arith, h, indent_nil (column + left)))
stripped column left columns (b ∷ bs) h = elim (at_most_or_more columns left) [
  | inl few ↦ here column left columns (b ∷ bs) few
  | inr many ↦
      let s = steps column left columns (b ∷ bs) many h in
      let w = width (column + left) b in
      let next = stripped (column + left) w (columns - left) bs (omega (arith, h, s.indent, many)) in
      rw s.place (record {
        further = next.further ∙ omega (arith, many);
        text = next.text ∙ sym (strip_tab (column + left) (columns - left) b bs (omega (arith, many))) ∙ sym (strip_past column left columns (b ∷ bs) (omega (arith, many)));
      })
]

same_line : (c d : ℕ) (s t : List ℕ) → c ≡ d → s ≡ t → (let x : Line = record { column = c; text = s } in x) ≡ (let y : Line = record { column = d; text = t } in y)
same_line c d s t e f = ap (λ k. let x : Line = record { column = k; text = s } in x) e ∙ ap (λ k. let x : Line = record { column = d; text = k } in x) f

-- the line at a place that is columns further on
pub line_skip : (place : Place) (columns : ℕ) → columns ≤ indent (line_at place) → line_at (skip place columns) ≡ strip (line_at place) columns
line_skip place columns h =
    let all = indent_spaces place.column place.left place.rest in
    let s = stripped place.column place.left columns place.rest (omega (arith, h, all)) in
    let taken : columns ≡ min columns (indent (line_at place)) = omega (arith, h) in
    same_line _ _ _ _ (s.further ∙ ap (λ k. place.column + k) taken) (s.text ∙ ap (λ k. strip_at place.column k (replicate place.left 32 ++ place.rest)) taken)
