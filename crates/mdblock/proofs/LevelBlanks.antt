-- A line stays blank, or not, where columns are taken off; and a blank line where an item is open is one of what it holds.
use Rattle.std.proofs.Common.{◌≡◌, ℕ, zero, suc, ◌+◌, ◌-◌, ◌≤◌, Bool, true, false, not, ◌&&◌, ◌||◌, List, [], ◌∷◌, ◌++◌, length, is_none, refl, sym, ◌∙◌, ap, subst, arith, replicate, cond}
use Rattle.std.specs.List.{list_all}
use Rattle.std.specs.Prelude.{nat_le, ◌==◌, min}
use Rattle.mdtext.specs.Columns.{indent, indent_at, strip_at, width, is_space_or_tab}
use Rattle.mdtext.specs.EntityTable.{EntityTable}
use Rattle.mdscan.specs.Blanks.{is_blank}
use Rattle.mdscan.specs.BlockQuote.{is_quote_marker}
use Rattle.blockspec.specs.BlockLine.{BlockLine, indentation, rest, without_columns}
use Rattle.blockspec.specs.BlankLines.{is_blank_line}
use Rattle.blockspec.specs.BlockKinds.{Lazy, Container, Quote, Item}
use Rattle.blockspec.specs.BlockStart.{start}
use Rattle.blockspec.specs.ContainerLines.{matches, inside_where, inside}
use Rattle.blockspec.specs.Laziness.{Tip, is_text, continues_lazily}
use Rattle.blockspec.specs.LineSummary.{Summary, summary, Last, nothing_yet, ended_block, open_leaf, open_container, last_in, summary_tip, ended_last, begin_after, line_added, is_apart_after}
use Rattle.blockspec.specs.OpenLeaf.{NextLeaf, ContinuesAs, EndsAs, EndedBefore, next_leaf}
use Rattle.blockspec.specs.Stretches.{goes_on}
use Rattle.mdblock.specs.held.HeldLevel.{IsLazyRight, Fits}
use Rattle.mdblock.specs.held.LevelSteps.{WasBlank}
use Rattle.mdblock.proofs.LevelLines.{apart_added, container_added, leaf_added, leaf_grown, added_blank, is_last_blank}
use Rattle.mdblock.proofs.Skips.{blank_text, never_empty}

spaces_blank : (n : ℕ) (bs : List ℕ) → list_all is_blank (replicate n 32 ++ bs) ≡ list_all is_blank bs
spaces_blank zero bs = refl
spaces_blank (suc n) bs = spaces_blank n bs

strip_blank : (column columns : ℕ) (text : List ℕ) → columns ≤ indent_at column text → list_all is_blank (strip_at column columns text) ≡ list_all is_blank text
unfolding strip_at indent_at
strip_blank column columns [] h = refl
strip_blank column columns (b ∷ bs) h =
    go (columns == 0) (is_space_or_tab b) (nat_le (width column b) columns) refl refl refl (strip_blank (column + width column b) (columns - width column b) bs) h
  where
    w : ℕ
    w = width column b

    go : (none space whole : Bool) → (columns == 0) ≡ none → is_space_or_tab b ≡ space → nat_le w columns ≡ whole →
        (columns - w ≤ indent_at (column + w) bs → list_all is_blank (strip_at (column + w) (columns - w) bs) ≡ list_all is_blank bs) →
        columns ≤ cond space (w + indent_at (column + w) bs) 0 →
        list_all is_blank (cond none (b ∷ bs) (cond whole (strip_at (column + w) (columns - w) bs) (replicate (w - columns) 32 ++ bs))) ≡ (is_blank b && list_all is_blank bs)
    go true space whole n s f ih h = refl
    go false false whole n s f ih h = absurd (let z : columns ≡ 0 = omega (arith, h) in let e : (columns == 0) ≡ true = rw z refl in let x : ⊥ = cc in x)
    go false true true n s f ih h = ih (omega (arith, h)) ∙ ap (λ z. z && list_all is_blank bs) (sym s)
    go false true false n s f ih h = spaces_blank (w - columns) bs ∙ ap (λ z. z && list_all is_blank bs) (sym s)

pub columns_blank : (l : BlockLine) (columns : ℕ) → is_blank_line (without_columns l columns) ≡ is_blank_line l
columns_blank l columns = strip_blank l.line.column (min columns (indent l.line)) l.line.text (omega arith)

-- ---- what a container holds of a blank line

no_marker : (text : List ℕ) → (length text == 0) ≡ true → is_quote_marker text ≡ false
unfolding is_quote_marker
no_marker [] h = refl
no_marker (b ∷ text) h = absurd (let e = never_empty (length text) in let x : ⊥ = cc in x)

and_false : (a b : Bool) → (a && b && false) ≡ false
and_false true true = refl
and_false true false = refl
and_false false b = refl

pub blank_unquoted : (l : BlockLine) → is_blank_line l ≡ true → matches Quote l ≡ false
unfolding matches
blank_unquoted l h =
    ap (λ z. not l.lazy && nat_le (indentation l) 3 && z) (no_marker (rest l) (sym (blank_text l.line.text) ∙ h)) ∙ and_false (not l.lazy) (nat_le (indentation l) 3)

pub quoted_full : (l : BlockLine) → matches Quote l ≡ true → is_blank_line l ≡ false
quoted_full l h = go (is_blank_line l) refl
  where
    go : (b : Bool) → is_blank_line l ≡ b → b ≡ false
    go false e = refl
    go true e = absurd (let n = blank_unquoted l e in let x : ⊥ = cc in x)

pub inside_blank : (c : Container) (l : BlockLine) → is_blank_line l ≡ true → is_blank_line (inside c l) ≡ true
unfolding inside
inside_blank Quote l h = ap (λ z. is_blank_line (inside_where z Quote l)) (blank_unquoted l h) ∙ h
inside_blank (Item marker needed) l h = go (matches (Item marker needed) l)
  where
    go : (m : Bool) → is_blank_line (inside_where m (Item marker needed) l) ≡ true
    go true = columns_blank l needed ∙ h
    go false = h

pub item_blank : (m : _) (needed : ℕ) (l : BlockLine) → is_blank_line (inside (Item m needed) l) ≡ is_blank_line l
unfolding inside
item_blank marker needed l = go (matches (Item marker needed) l)
  where
    go : (m : Bool) → is_blank_line (inside_where m (Item marker needed) l) ≡ is_blank_line l
    go true = columns_blank l needed
    go false = refl

-- a line that is read lazily is not blank
pub lazily_full : (tip : Tip) (l : BlockLine) → (l.lazy ≡ true → is_blank_line l ≡ false) → continues_lazily tip l ≡ true → is_blank_line l ≡ false
unfolding continues_lazily
lazily_full tip l right h = go l.lazy (is_text tip) (is_blank_line l) refl refl h
  where
    go : (lazy text blank : Bool) → l.lazy ≡ lazy → is_blank_line l ≡ blank → (lazy || (text && not blank && is_none (start Lazy [] l))) ≡ true → is_blank_line l ≡ false
    go true text blank a b h = right a
    go false text false a b h = b
    go false true true a b h = absurd (let x : ⊥ = cc in x)
    go false false true a b h = absurd (let x : ⊥ = cc in x)

-- ---- a blank line where an item is open at the end

ended_blank : (e : EntityTable) (last : Last) → WasBlank (ended_last e last)
unfolding ended_last
ended_blank e nothing_yet = tt
ended_blank e (ended_block g) = tt
ended_blank e (open_leaf b gap leaf) = tt
ended_blank e (open_container b gap bare c i) = tt

begin_blank : (e : EntityTable) (more : Summary → BlockLine → Summary) (s : Summary) (l : BlockLine) → WasBlank (last_in (begin_after e more true s l))
unfolding begin_after
begin_blank e more (summary before last blank lines) l = ended_blank e last

grown_blank : (e : EntityTable) (b : ℕ) (gap : Bool) (n : NextLeaf) → WasBlank (leaf_grown e b gap n)
grown_blank e b gap (ContinuesAs leaf) = tt
grown_blank e b gap (EndsAs leaf) = tt
grown_blank e b gap EndedBefore = tt

container_blank : (e : EntityTable) (less : ℕ) (b : ℕ) (gap : Bool) (c : Container) (i : Summary) (l : BlockLine) → is_blank_line l ≡ true → matches Quote l ≡ false → (c ≡ Quote → ⊥) →
    WasBlank (open_container b gap false c (line_added e (suc less) i (inside c l)))
container_blank e less b gap Quote i l h m not_quote = absurd (not_quote refl)
container_blank e less b gap (Item marker needed) i l h m not_quote = go (line_added e (suc less) i (inside (Item marker needed) l)) (added_blank e less i (inside (Item marker needed) l) ∙ inside_blank (Item marker needed) l h)
  where
    go : (s : Summary) → is_last_blank s ≡ true → WasBlank (open_container b gap false (Item marker needed) s)
    go (summary before last blank lines) h = h

not_quote_case : (bare : Bool) (tip : Tip) (l : BlockLine) (c : Container) → is_blank_line l ≡ true → (l.lazy ≡ true → is_blank_line l ≡ false) → not (goes_on c bare tip l) ≡ false → c ≡ Quote → ⊥
not_quote_case bare tip l c blank right apart is = bad (matches Quote l) (continues_lazily tip l) (blank_unquoted l blank) refl (ap (λ z. not (goes_on z bare tip l)) (sym is) ∙ apart)
  where
    bad : (m z : Bool) → m ≡ false → continues_lazily tip l ≡ z → not ((m && not (bare && is_blank_line l)) || z) ≡ false → ⊥
    bad true z e f h = let x : ⊥ = cc in x
    bad false true e f h = let full = lazily_full tip l right f in let x : ⊥ = cc in x
    bad false false e f h = let x : ⊥ = cc in x

pub was_blank : (e : EntityTable) (room : ℕ) (s : Summary) (l : BlockLine) → IsLazyRight s l → Fits room s → is_blank_line l ≡ true → WasBlank (last_in (line_added e (suc room) s l))
unfolding is_apart_after
was_blank e room (summary before last blank lines) l right fits h = go (is_apart_after last l) refl
  where
    apart_case : is_apart_after last l ≡ true → WasBlank (last_in (line_added e (suc room) (summary before last blank lines) l))
    apart_case a =
        subst (λ z. WasBlank (last_in z)) (sym (apart_added e room (summary before last blank lines) l a ∙ ap (λ z. begin_after e (line_added e room) z (summary before last blank lines) l) h))
        (begin_blank e (line_added e room) (summary before last blank lines) l)

    taken : (last : Last) (room : ℕ) → Fits room (summary before last blank lines) → is_apart_after last l ≡ false → WasBlank (last_in (line_added e (suc room) (summary before last blank lines) l))
    taken nothing_yet room fits a = absurd (let x : ⊥ = cc in x)
    taken (ended_block g) room fits a = absurd (let x : ⊥ = cc in x)
    taken (open_leaf b gap leaf) room fits a = subst (λ z. WasBlank (last_in z)) (sym (leaf_added e room before b gap leaf blank lines l a)) (grown_blank e b gap (next_leaf leaf l))
    taken (open_container b gap bare c i) zero fits a = absurd fits
    taken (open_container b gap bare c i) (suc less) fits a =
        subst (λ z. WasBlank (last_in z)) (sym (container_added e (suc less) before b gap bare c i blank lines l a))
        (container_blank e less b gap c i l h (blank_unquoted l h) (not_quote_case bare (summary_tip i) l c h (λ z. (right z).0) a))

    go : (a : Bool) → is_apart_after last l ≡ a → WasBlank (last_in (line_added e (suc room) (summary before last blank lines) l))
    go true a = apart_case a
    go false a = taken last room fits a
