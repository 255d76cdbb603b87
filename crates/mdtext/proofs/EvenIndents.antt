-- Indentation of which each space or tab takes one column.
use Rattle.std.proofs.Common.{◌≡◌, ℕ, zero, suc, ◌+◌, ◌-◌, ◌*◌, ◌^◌, ◌<◌, ◌≤◌, true, List, [], ◌∷◌, length, drop, length-drop, refl, ap, sym, subst, add-one, ◌∙◌, arith, inl, inr}
use Rattle.std.proofs.lemmas.Bool.Decides.{nat_tests}
use Rattle.std.proofs.lemmas.Str.{IsCharBoundary-start, IsCharBoundary-after_ascii}
use Rattle.std.proofs.lemmas.List.Sums.{prefix_len-le-length, prefix_len_passes}
use Rattle.std.specs.List.{prefix_len}
use Rattle.std.specs.Str.{IsUtf8, IsCharBoundary}
use Rattle.mdtext.specs.Columns.{Place, is_space_or_tab, width, indent_at, indent, line_at, skip_from, skip, unindented}
use Rattle.mdtext.proofs.Indents.{width_bounds, indent_cons, indent_spaces, is_bool, steps, lands}
use Rattle.mdtext.proofs.Unindented.{front_blank, front_other, text_stays}

-- each takes a column at least
takes_one : (column : ℕ) (bs : List ℕ) → prefix_len is_space_or_tab bs ≤ indent_at column bs
takes_one column [] = omega arith
takes_one column (b ∷ bs) = elim (is_bool (is_space_or_tab b)) [
  | inl is ↦
      let bounds = width_bounds column b in
      omega (arith, front_blank b bs is, indent_cons column b bs is, bounds.0, takes_one (column + width column b) bs)
  | inr other ↦ omega (arith, front_other b bs other)
]

first_blank : (b : ℕ) (bs : List ℕ) → 0 < prefix_len is_space_or_tab (b ∷ bs) → is_space_or_tab b ≡ true
first_blank b bs h = elim (is_bool (is_space_or_tab b)) [ inl is ↦ is | inr other ↦ absurd (omega (arith, front_other b bs other, h)) ]

record Even (column b : ℕ) (bs : List ℕ) : Type 0 where
  pub one : width column b ≡ 1
  pub later : indent_at (column + 1) bs ≡ prefix_len is_space_or_tab bs
  pub front : prefix_len is_space_or_tab (b ∷ bs) ≡ 1 + prefix_len is_space_or_tab bs

even : (column b : ℕ) (bs : List ℕ) → indent_at column (b ∷ bs) ≡ prefix_len is_space_or_tab (b ∷ bs) → 0 < prefix_len is_space_or_tab (b ∷ bs) → Even column b bs
even column b bs e h =
    let is = first_blank b bs h in
    let bounds = width_bounds column b in
    let front = front_blank b bs is in
    let more = indent_cons column b bs is in
    let least = takes_one (column + width column b) bs in
    let one : width column b ≡ 1 = omega (arith, e, front, more, least, bounds.0) in
    let at : indent_at (column + width column b) bs ≡ indent_at (column + 1) bs = ap (λ w. indent_at (column + w) bs) one in
    record { one = one; later = omega (arith, e, front, more, one, at); front = front }

place_at : (a b c d : ℕ) (bs : List ℕ) → a ≡ b → c ≡ d → (let p : Place = record { column = a; left = c; rest = bs } in p) ≡ (let p : Place = record { column = b; left = d; rest = bs } in p)
place_at a b c d bs e f = ap (λ k. let p : Place = record { column = k; left = c; rest = bs } in p) e ∙ ap (λ k. let p : Place = record { column = b; left = k; rest = bs } in p) f

skip_at : (a b c d m n : ℕ) (bs : List ℕ) → a ≡ b → c ≡ d → m ≡ n → skip_from a c m bs ≡ skip_from b d n bs
skip_at a b c d m n bs e f g = ap (λ k. skip_from k c m bs) e ∙ ap (λ k. skip_from b k m bs) f ∙ ap (λ k. skip_from b d k bs) g

-- one column stands over
walk_over : (column columns : ℕ) (bs : List ℕ) → indent_at (column + 1) bs ≡ prefix_len is_space_or_tab bs → columns ≤ prefix_len is_space_or_tab bs
    → skip_from column 1 (columns + 1) bs ≡ record { column = column + (columns + 1); left = 0; rest = drop columns bs }
walk_over column zero bs e h = lands column 1 1 bs (omega arith)
walk_over column (suc k) [] e h = absurd (omega (arith, h))
walk_over column (suc k) (b ∷ bs) e h =
    let s = even (column + 1) b bs e (omega (arith, h)) in
    let one = steps column 1 (suc k + 1) (b ∷ bs) (omega arith) (omega (arith, e, h)) in
    one.place
    ∙ skip_at _ _ _ 1 _ (k + 1) bs refl s.one (omega arith)
    ∙ walk_over (column + 1) k bs s.later (omega (arith, h, s.front))
    ∙ place_at _ _ _ _ (drop k bs) (omega arith) refl

walk : (column columns : ℕ) (bs : List ℕ) → indent_at column bs ≡ prefix_len is_space_or_tab bs → columns ≤ prefix_len is_space_or_tab bs
    → skip_from column 0 columns bs ≡ record { column = column + columns; left = 0; rest = drop columns bs }
walk column zero bs e h = lands column 0 0 bs (omega arith)
walk column (suc k) [] e h = absurd (omega (arith, h))
walk column (suc k) (b ∷ bs) e h =
    let s = even column b bs e (omega (arith, h)) in
    let at : indent_at (column + 0) (b ∷ bs) ≡ indent_at column (b ∷ bs) = ap (λ c. indent_at c (b ∷ bs)) (omega arith) in
    let one = steps column 0 (suc k) (b ∷ bs) (omega arith) (omega (arith, e, h, at)) in
    let wide : width (column + 0) b ≡ 1 = ap (λ c. width c b) (omega arith) ∙ s.one in
    one.place
    ∙ skip_at _ column _ 1 _ (k + 1) bs (omega arith) wide (omega arith)
    ∙ walk_over column k bs s.later (omega (arith, h, s.front))
    ∙ place_at _ _ _ _ (drop k bs) (omega arith) refl

-- what is left of it
left_over : (column columns : ℕ) (bs : List ℕ) → indent_at column bs ≡ prefix_len is_space_or_tab bs → columns ≤ prefix_len is_space_or_tab bs
    → columns + indent_at (column + columns) (drop columns bs) ≡ indent_at column bs
left_over column zero bs e h = let at : indent_at (column + 0) bs ≡ indent_at column bs = ap (λ c. indent_at c bs) (omega arith) in omega (arith, at)
left_over column (suc k) [] e h = absurd (omega (arith, h))
left_over column (suc k) (b ∷ bs) e h =
    let s = even column b bs e (omega (arith, h)) in
    let next = left_over (column + 1) k bs s.later (omega (arith, h, s.front)) in
    let at : indent_at (column + suc k) (drop k bs) ≡ indent_at (column + 1 + k) (drop k bs) = ap (λ c. indent_at c (drop k bs)) (omega arith) in
    omega (arith, next, s.later, s.front, e, at)

-- the spaces and tabs of a text and what stands behind them
pub both_parts : (text : List ℕ) → length (unindented text) + prefix_len is_space_or_tab text ≡ length text
unfolding unindented
both_parts text = omega (arith, length-drop (prefix_len is_space_or_tab text) text, prefix_len-le-length is_space_or_tab text)

-- a place at which each takes one column, and none is left of a tab
pub record EvenAt (column left columns : ℕ) (rest : List ℕ) : Type 0 where
  pub none : left ≡ 0
  pub even : indent_at column rest ≡ prefix_len is_space_or_tab rest
  pub within : columns ≤ prefix_len is_space_or_tab rest

pub even_at : (column left columns : ℕ) (rest : List ℕ) (old : Place) → (let p : Place = record { column = column; left = left; rest = rest } in p) ≡ old → old.left ≡ 0
    → indent (line_at old) ≡ prefix_len is_space_or_tab old.rest → columns ≤ indent (line_at old) → EvenAt column left columns rest
even_at column left columns rest old is none e h =
    let none' : left ≡ 0 = ap (λ (p : Place). p.left) is ∙ none in
    let at : indent_at (column + left) rest ≡ indent_at column rest = ap (λ k. indent_at k rest) (omega (arith, none')) in
    let here : left + indent_at (column + left) rest ≡ indent (line_at old) = sym (indent_spaces column left rest) ∙ ap (λ (p : Place). indent (line_at p)) is in
    let front : prefix_len is_space_or_tab rest ≡ prefix_len is_space_or_tab old.rest = ap (λ (p : Place). prefix_len is_space_or_tab p.rest) is in
    record { none = none'; even = omega (arith, none', at, here, e, front); within = omega (arith, h, e, front) }

pub even_fits : (column left columns : ℕ) (rest : List ℕ) → EvenAt column left columns rest → column + left + 4 * length rest < 2 ^ 64 → column + columns < 2 ^ 64
even_fits column left columns rest a short = omega (arith, short, a.within, prefix_len-le-length is_space_or_tab rest)

ascii : (b : ℕ) → is_space_or_tab b ≡ true → b < 128
ascii b e = grind (arith, nat_tests)

pub even_cut : (column left columns : ℕ) (rest : List ℕ) → IsUtf8 rest → EvenAt column left columns rest → IsCharBoundary rest columns
even_cut column left zero rest u a = IsCharBoundary-start rest u
even_cut column left (suc m) rest u a =
    let within : m < length rest = omega (arith, a.within, prefix_len-le-length is_space_or_tab rest) in
    let inside : m < prefix_len is_space_or_tab rest = omega (arith, a.within) in
    subst (λ (i : ℕ). IsCharBoundary rest i) (add-one m) (IsCharBoundary-after_ascii rest m u within (ascii _ (prefix_len_passes is_space_or_tab rest m 0 inside)))

pub even_place : (column left columns : ℕ) (rest after : List ℕ) (old : Place) → (let p : Place = record { column = column; left = left; rest = rest } in p) ≡ old
    → EvenAt column left columns rest → after ≡ drop columns rest → (let p : Place = record { column = column + columns; left = left; rest = after } in p) ≡ skip old columns
even_place column left columns rest after old is a d =
    ap (λ r. let p : Place = record { column = column + columns; left = left; rest = r } in p) d
    ∙ place_at _ (column + columns) _ 0 (drop columns rest) refl a.none
    ∙ sym (walk column columns rest a.even a.within)
    ∙ skip_at _ _ _ _ _ _ rest refl (sym a.none) refl
    ∙ ap (λ p. skip p columns) is

pub record IsKept (column left columns indented : ℕ) (after text : List ℕ) : Type 0 where
  pub indent : indented - columns ≡ left + indent_at (column + columns + left) after
  pub short : column + columns + left + 4 * length after < 2 ^ 64
  pub same : text ≡ unindented after

pub even_kept : (column left columns indented : ℕ) (rest after text : List ℕ) → EvenAt column left columns rest → indented ≡ left + indent_at (column + left) rest
    → column + left + 4 * length rest < 2 ^ 64 → text ≡ unindented rest → after ≡ drop columns rest → IsKept column left columns indented after text
even_kept column left columns indented rest after text a e short same d =
    let place : Place = record { column = column; left = left; rest = rest } in
    let at : indent_at (column + left) rest ≡ indent_at column rest = ap (λ k. indent_at k rest) (omega (arith, a.none)) in
    let there : indent_at (column + columns + left) after ≡ indent_at (column + columns) (drop columns rest) =
    ap (λ r. indent_at (column + columns + left) r) d ∙ ap (λ k. indent_at k (drop columns rest)) (omega (arith, a.none)) in
    let over = left_over column columns rest a.even a.within in
    let stays = text_stays place columns (omega (arith, indent_spaces column left rest, at, a.even, a.within)) in
    record {
      indent = omega (arith, e, at, there, over, a.none);
      short = omega (arith, short, ap length d, length-drop columns rest, a.within, prefix_len-le-length is_space_or_tab rest);
      same = same ∙ sym stays ∙ sym (ap (λ (p : Place). unindented p.rest) (even_place column left columns rest after place refl a d));
    }
