-- Indentation, one character after another.
use Rattle.std.proofs.Common.{◌≡◌, ℕ, zero, suc, ◌+◌, ◌-◌, ◌*◌, ◌%◌, ◌^◌, ◌<◌, ◌≤◌, Bool, true, false, List, [], ◌∷◌, ◌++◌, length, drop, get_or, replicate, refl, ap, sym, ◌∙◌, arith, cond, nat_le, eqb, ◌⊎◌, inl, inr}
use Rattle.std.proofs.lemmas.Bool.Decides.{nat_tests}
use Rattle.std.proofs.Common.{subst}
use Rattle.std.proofs.lemmas.List.{drop_more, drop_all, length-drop}
use Rattle.std.proofs.lemmas.Str.{IsCharBoundary-after_ascii}
use Rattle.std.specs.Str.{IsUtf8, IsCharBoundary}
use Rattle.mdtext.specs.Columns.{Place, is_space_or_tab, width, indent_at, skip_from, AreMarks}

pub width_bounds : (column b : ℕ) → (1 ≤ width column b) × (width column b ≤ 4)
unfolding width
width_bounds column b = by_tab (eqb b 9) where
  by_tab : (t : Bool) → (1 ≤ cond t (4 - column % 4) 1) × (cond t (4 - column % 4) 1 ≤ 4)
  by_tab true = (omega arith, omega arith)
  by_tab false = (omega arith, omega arith)

pub indent_cons : (column b : ℕ) (bs : List ℕ) → is_space_or_tab b ≡ true → indent_at column (b ∷ bs) ≡ width column b + indent_at (column + width column b) bs
unfolding indent_at
indent_cons column b bs h = rw h refl

pub indent_other : (column b : ℕ) (bs : List ℕ) → is_space_or_tab b ≡ false → indent_at column (b ∷ bs) ≡ 0
unfolding indent_at
indent_other column b bs h = rw h refl

pub indent_nil : (column : ℕ) → indent_at column [] ≡ 0
unfolding indent_at
indent_nil column = refl

-- one more space or tab
pub indent_more : (column i : ℕ) (bs : List ℕ) → i < length bs → is_space_or_tab (get_or bs i 0) ≡ true → indent_at column (drop i bs) ≡ width column (get_or bs i 0) + indent_at (column + width column (get_or bs i 0)) (drop (i + 1) bs)
indent_more column i bs h e = ap (indent_at column) (drop_more bs i 0 h) ∙ indent_cons column _ _ e

-- another character ends the indentation
pub indent_ends : (column i : ℕ) (bs : List ℕ) → i < length bs → is_space_or_tab (get_or bs i 0) ≡ false → indent_at column (drop i bs) ≡ 0
indent_ends column i bs h e = ap (indent_at column) (drop_more bs i 0 h) ∙ indent_other column _ _ e

pub width_space : (column : ℕ) → width column 32 ≡ 1
unfolding width
width_space column = refl

one_space : (column : ℕ) (bs : List ℕ) → indent_at column (32 ∷ bs) ≡ 1 + indent_at (column + 1) bs
one_space column bs = indent_cons column 32 bs refl ∙ ap (λ w. w + indent_at (column + w) bs) (width_space column)

next_column : (column left : ℕ) → column + 1 + left ≡ column + suc left
next_column column left = omega arith

same_column : (column : ℕ) → column ≡ column + 0
same_column column = omega arith

-- spaces count one column each
pub indent_spaces : (column left : ℕ) (rest : List ℕ) → indent_at column (replicate left 32 ++ rest) ≡ left + indent_at (column + left) rest
indent_spaces column zero rest = ap (λ c. indent_at c rest) (same_column column) ∙ omega arith
indent_spaces column (suc left) rest =
    one_space column (replicate left 32 ++ rest) ∙ ap (λ n. 1 + n) (indent_spaces (column + 1) left rest)
    ∙ ap (λ c. 1 + (left + indent_at c rest)) (next_column column left) ∙ omega arith

pub is_bool : (t : Bool) → (t ≡ true) ⊎ (t ≡ false)
is_bool true = inl refl
is_bool false = inr refl

-- where there is indentation, a space or tab stands first
indented_first : (column b : ℕ) (bs : List ℕ) → 0 < indent_at column (b ∷ bs) → is_space_or_tab b ≡ true
indented_first column b bs h = elim (is_bool (is_space_or_tab b)) [ inl is ↦ is | inr other ↦ absurd (let none = indent_other column b bs other in omega (arith, none, h)) ]

pub record Steps (column left columns : ℕ) (bs : List ℕ) : Type 0 where
  pub some : 0 < length bs
  pub ascii : get_or bs 0 0 < 128
  pub indent : indent_at (column + left) bs ≡ width (column + left) (get_or bs 0 0) + indent_at (column + left + width (column + left) (get_or bs 0 0)) (drop 1 bs)
  pub place : skip_from column left columns bs ≡ skip_from (column + left) (width (column + left) (get_or bs 0 0)) (columns - left) (drop 1 bs)

skip_cons : (column left columns b : ℕ) (bs : List ℕ) → left < columns → skip_from column left columns (b ∷ bs) ≡ skip_from (column + left) (width (column + left) b) (columns - left) bs
unfolding skip_from
skip_cons column left columns b bs h = let no : nat_le columns left ≡ false = grind (arith, nat_tests, h) in rw no refl

pub steps : (column left columns : ℕ) (bs : List ℕ) → left < columns → columns ≤ left + indent_at (column + left) bs → Steps column left columns bs
steps column left columns [] h e = absurd (let none = indent_nil (column + left) in omega (arith, none, e, h))
steps column left columns (b ∷ bs) h e =
    let first = indented_first (column + left) b bs (omega (arith, e, h)) in
    record {
      some = omega arith;
      ascii = grind (arith, first);
      indent = indent_cons (column + left) b bs first;
      place = skip_cons column left columns b bs h;
    }

-- the columns that are left of a tab are enough
pub lands : (column left columns : ℕ) (rest : List ℕ) → columns ≤ left → skip_from column left columns rest ≡ record { column = column + columns; left = left - columns; rest = rest }
unfolding skip_from
lands column left columns [] h = refl
lands column left columns (b ∷ bs) h = let yes' : nat_le columns left ≡ true = grind (arith, nat_tests, h) in rw yes' refl

-- a step over one character, as the cursor takes it
pub record Walks (column left columns total asked : ℕ) (rest : List ℕ) (place : Place) : Type 0 where
  pub enough : columns ≤ left + indent_at (column + left) rest
  pub room : column + left + 4 * length rest < 2 ^ 64
  pub counted : left + indent_at (column + left) rest + asked ≡ total + columns
  pub same : skip_from column left columns rest ≡ place

pub walks_on : (column left columns total asked w : ℕ) (rest after : List ℕ) (place : Place) → Walks column left columns total asked rest place → left < columns
    → w ≡ width (column + left) (get_or rest 0 0) → after ≡ drop 1 rest → length after + 1 ≡ length rest
    → Walks (column + left) w (columns - left) total asked after place
walks_on column left columns total asked w rest after place v h e d n =
    let s = steps column left columns rest h v.enough in
    let bounds = width_bounds (column + left) (get_or rest 0 0) in
    let indented : indent_at (column + left) rest ≡ w + indent_at (column + left + w) after =
    s.indent ∙ ap (λ k. k + indent_at (column + left + k) (drop 1 rest)) (sym e) ∙ ap (λ r. w + indent_at (column + left + w) r) (sym d) in
    record {
      enough = omega (arith, v.enough, indented, h);
      room = omega (arith, v.room, bounds.1, e, n);
      counted = omega (arith, v.counted, indented, h);
      same = ap (λ k. skip_from (column + left) k (columns - left) after) e ∙ ap (λ r. skip_from (column + left) (width (column + left) (get_or rest 0 0)) (columns - left) r) d ∙ sym s.place ∙ v.same;
    }

sums : (column left columns : ℕ) → columns ≤ left → column + columns + (left - columns) ≡ column + left
sums column left columns h = omega arith

-- where the steps end
pub walked : (column left columns total asked : ℕ) (rest : List ℕ) (place : Place) → Walks column left columns total asked rest place → columns ≤ left
    → (total - asked ≡ (left - columns) + indent_at (column + columns + (left - columns)) rest) × (column + columns + (left - columns) + 4 * length rest < 2 ^ 64)
walked column left columns total asked rest place v h =
    let at_end : indent_at (column + columns + (left - columns)) rest ≡ indent_at (column + left) rest = ap (λ k. indent_at k rest) (sums column left columns h) in
    (omega (arith, v.counted, at_end, h), omega (arith, v.room, h))

-- a text of which the indentation is counted up to a byte
pub record Counts (column end i : ℕ) (text : List ℕ) : Type 0 where
  pub from : column ≤ end
  pub room : end + 4 * length (drop i text) < 2 ^ 64
  pub so_far : end + indent_at end (drop i text) ≡ column + indent_at column text

pub count_more : (column end w i : ℕ) (text : List ℕ) → Counts column end i text → i < length text → w ≡ width end (get_or text i 0) → is_space_or_tab (get_or text i 0) ≡ true → Counts column (end + w) (i + 1) text
count_more column end w i text k h e is =
    let more : indent_at end (drop i text) ≡ w + indent_at (end + w) (drop (i + 1) text) = indent_more end i text h is ∙ ap (λ n. n + indent_at (end + n) (drop (i + 1) text)) (sym e) in
    let bounds = width_bounds end (get_or text i 0) in
    let shorter : length (drop (i + 1) text) + 1 ≡ length (drop i text) = omega (arith, length-drop (i + 1) text, length-drop i text, h) in
    record {
      from = omega (arith, k.from);
      room = omega (arith, k.room, shorter, bounds.1, e);
      so_far = omega (arith, k.so_far, more);
    }

pub count_fits : (column end w i : ℕ) (text : List ℕ) → Counts column end i text → i < length text → w ≡ width end (get_or text i 0) → end + w < 2 ^ 64
count_fits column end w i text k h e =
    let bounds = width_bounds end (get_or text i 0) in
    omega (arith, k.room, length-drop i text, h, bounds.1, e)

pub count_ends : (column end i : ℕ) (text : List ℕ) → Counts column end i text → i < length text → is_space_or_tab (get_or text i 0) ≡ false → end - column ≡ indent_at column text
count_ends column end i text k h other = omega (arith, k.so_far, indent_ends end i text h other)

pub count_all : (column end i : ℕ) (text : List ℕ) → Counts column end i text → length text ≤ i → end - column ≡ indent_at column text
count_all column end i text k h =
    let none : indent_at end (drop i text) ≡ 0 = ap (indent_at end) (drop_all i text h) ∙ indent_nil end in
    omega (arith, k.so_far, none)

-- a mark of ASCII bytes ends where a character begins
pub mark_ends : (bs : List ℕ) (n : ℕ) → IsUtf8 bs → AreMarks n bs → 0 < n → IsCharBoundary bs n
mark_ends bs zero u m h = absurd (omega (arith, h))
mark_ends bs (suc n) u m h =
    let one : n + 1 ≡ suc n = omega arith in
    subst (IsCharBoundary bs) one (IsCharBoundary-after_ascii bs n u (omega (arith, m.0)) (m.1 n (omega arith)).0)
