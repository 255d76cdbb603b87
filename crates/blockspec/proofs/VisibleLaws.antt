-- A container holds fewer visible characters than its lines have, since its marker is one.
use Rattle.std.proofs.Common.{◌≡◌, ℕ, zero, suc, ◌+◌, ◌-◌, ◌≤◌, ◌<◌, Bool, true, false, ◌&&◌, List, [], ◌∷◌, ◌++◌, map, drop, replicate, Option, Some, None, refl, sym, ◌∙◌, ap, subst, arith}
use Rattle.std.specs.Prelude.{nat_le, ◌==◌, min, cond}
use Rattle.std.specs.Char.{is_ascii_digit}
use Rattle.std.specs.List.{prefix_len}
use Rattle.mdtext.specs.Columns.{indent, strip_at, width, is_space_or_tab, unindented}
use Rattle.mdscan.specs.Blanks.{is_blank, is_blank_text}
use Rattle.mdscan.specs.declared.list_markers.Marker.{Marker}
use Rattle.mdscan.specs.ListMarker.{bullet as bullet_marker, ordered as marker_of, is_ordered, ordered_marker, marker}
use Rattle.blockspec.specs.BlockLine.{BlockLine, rest, without_columns, behind_marker}
use Rattle.blockspec.specs.BlankLines.{is_blank_line}
use Rattle.blockspec.specs.BlockKinds.{Free, Container, Quote, Item, Kind, Paragraph, SetextHeading, Table, AtxHeading, ThematicBreak, FencedCode, IndentedCode, HtmlBlock, Holds}
use Rattle.blockspec.specs.ListItems.{padding}
use Rattle.blockspec.specs.BlockStart.{begun}
use Rattle.blockspec.specs.BlockUnits.{visible, visible_in}
use Rattle.blockspec.specs.ContainerLines.{matches, opened, taken_off, inside_where, inside, inner}
use Rattle.blockspec.specs.BlockQuotes.{unquoted}
use Rattle.blockspec.proofs.StartKinds.{Kinds, begun_kinds}

-- ---- what a container takes off a line

abbrev counted : Bool → ℕ → ℕ
counted true n = n
counted false n = suc n

counted_more : (b : Bool) (n m : ℕ) → n ≤ m → n ≤ counted b m
counted_more true n m h = h
counted_more false n m h = omega (arith, h)

visible_cons : (b : ℕ) (bs : List ℕ) → visible (b ∷ bs) ≡ counted (is_blank b) (visible bs)
unfolding visible
visible_cons b bs = go (is_blank b)
  where
    go : (w : Bool) → cond w (visible bs) (suc (visible bs)) ≡ counted w (visible bs)
    go true = refl
    go false = refl

at_most : (b : ℕ) (bs : List ℕ) → visible bs ≤ visible (b ∷ bs)
at_most b bs = subst (λ z. visible bs ≤ z) (sym (visible_cons b bs)) (counted_more (is_blank b) (visible bs) (visible bs) (omega arith))

-- a text without some of its front has no more
drop_visible : (n : ℕ) (text : List ℕ) → visible (drop n text) ≤ visible text
drop_visible zero text = omega arith
drop_visible (suc n) [] = omega arith
drop_visible (suc n) (b ∷ bs) = let h = drop_visible n bs in let k = at_most b bs in omega (arith, h, k)

spaces_visible : (n : ℕ) (text : List ℕ) → visible (replicate n 32 ++ text) ≡ visible text
unfolding visible
spaces_visible zero text = refl
spaces_visible (suc n) text = spaces_visible n text

strip_visible : (column columns : ℕ) (text : List ℕ) → visible (strip_at column columns text) ≤ visible text
unfolding strip_at
strip_visible column columns [] = omega arith
strip_visible column columns (b ∷ bs) = go (columns == 0) (nat_le (width column b) columns) (strip_visible (column + width column b) (columns - width column b) bs)
  where
    go : (none whole : Bool) → visible (strip_at (column + width column b) (columns - width column b) bs) ≤ visible bs →
        visible (cond none (b ∷ bs) (cond whole (strip_at (column + width column b) (columns - width column b) bs) (replicate (width column b - columns) 32 ++ bs))) ≤ visible (b ∷ bs)
    go true whole h = omega arith
    go false true h = let k = at_most b bs in omega (arith, h, k)
    go false false h = let k = at_most b bs in let e = spaces_visible (width column b - columns) bs in omega (arith, k, e)

columns_visible : (l : BlockLine) (n : ℕ) → visible (without_columns l n).line.text ≤ visible l.line.text
columns_visible l n = strip_visible l.line.column (min n (indent l.line)) l.line.text

rest_visible : (l : BlockLine) → visible (rest l) ≤ visible l.line.text
unfolding unindented
rest_visible l = drop_visible (prefix_len is_space_or_tab l.line.text) l.line.text

marker_visible : (l : BlockLine) (n : ℕ) → visible (behind_marker l n).line.text ≤ visible l.line.text
marker_visible l n = let h = drop_visible n (rest l) in let k = rest_visible l in omega (arith, h, k)

unquoted_visible : (l : BlockLine) → visible (unquoted l).line.text ≤ visible l.line.text
unquoted_visible l = let h = columns_visible (behind_marker l 1) 1 in let k = marker_visible l 1 in omega (arith, h, k)

taken_visible : (c : Container) (l : BlockLine) → visible (taken_off c l).line.text ≤ visible l.line.text
taken_visible Quote l = unquoted_visible l
taken_visible (Item marker needed) l = columns_visible l needed

inside_visible : (c : Container) (l : BlockLine) → visible (inside c l).line.text ≤ visible l.line.text
unfolding inside
inside_visible c l = go (matches c l)
  where
    go : (matched : Bool) → visible (inside_where matched c l).line.text ≤ visible l.line.text
    go true = taken_visible c l
    go false = omega arith

all_inside : (c : Container) (ls : List BlockLine) → visible_in (map (inside c) ls) ≤ visible_in ls
unfolding visible_in
all_inside c [] = omega arith
all_inside c (l ∷ ls) = let h = inside_visible c l in let k = all_inside c ls in omega (arith, h, k)

-- ---- the first line loses its marker

-- how wide a marker is
abbrev pub marker_width : Container → ℕ
marker_width Quote = 1
marker_width (Item marker needed) = marker.width

-- text that is not blank begins, without its indentation, with a character that counts
one_dropped : (n : ℕ) (text : List ℕ) → is_blank_text text ≡ false → visible (drop (suc n) (unindented text)) < visible text
unfolding unindented visible
one_dropped n [] e = absurd (let x : ⊥ = cc in x)
one_dropped n (b ∷ bs) e = go (is_blank b) e (one_dropped n bs)
  where
    go : (w : Bool) → (w && is_blank_text bs) ≡ false → (is_blank_text bs ≡ false → visible (drop (suc n) (unindented bs)) < visible bs) →
        visible (drop (suc n) (drop (cond w (1 + prefix_len is_space_or_tab bs) 0) (b ∷ bs))) < cond w (visible bs) (suc (visible bs))
    go true f later = let p = prefix_len is_space_or_tab bs in let e : 1 + p ≡ suc p = omega arith in subst (λ z. visible (drop (suc n) (drop z (b ∷ bs))) < visible bs) (sym e) (later f)
    go false f later = let h = drop_visible n bs in omega (arith, h)

first_visible : (c : Container) (l : BlockLine) → is_blank_line l ≡ false → 1 ≤ marker_width c → visible (opened c l).line.text < visible l.line.text
unfolding opened
first_visible Quote l e w = let h = columns_visible (behind_marker l 1) 1 in let k = one_dropped 0 l.line.text e in omega (arith, h, k)
first_visible (Item marker needed) l e w =
    let n = marker.width - 1 in
    let m : suc n ≡ marker.width = omega (arith, w) in
    let h = columns_visible (behind_marker l marker.width) (padding (behind_marker l marker.width)) in
    let k = one_dropped n l.line.text e in
    let q : visible (drop marker.width (rest l)) < visible l.line.text = subst (λ z. visible (drop z (rest l)) < visible l.line.text) m k in
    omega (arith, h, q)

-- What a container holds has fewer characters that count than its lines have.
pub inner_visible : (c : Container) (f : BlockLine) (r : List BlockLine) → is_blank_line f ≡ false → 1 ≤ marker_width c → visible_in (inner c f r) < visible_in (f ∷ r)
unfolding visible_in
inner_visible c f r e w = let h = first_visible c f e w in let k = all_inside c r in omega (arith, h, k)

pub visible_append : (xs ys : List BlockLine) → visible_in (xs ++ ys) ≡ visible_in xs + visible_in ys
unfolding visible_in
visible_append [] ys = let e : visible_in ys ≡ 0 + visible_in ys = omega arith in e
visible_append (x ∷ xs) ys =
    let h = visible_append xs ys in
    let e : visible x.line.text + (visible_in xs + visible_in ys) ≡ visible x.line.text + visible_in xs + visible_in ys = omega arith in
    ap (λ z. visible x.line.text + z) h ∙ e

-- ---- a container's marker is one

abbrev pub HasWidth : Kind → Type 0
HasWidth (Holds container) = 1 ≤ marker_width container
HasWidth Paragraph = Unit {0}
HasWidth (SetextHeading level) = Unit {0}
HasWidth (Table above) = Unit {0}
HasWidth (AtxHeading level content) = Unit {0}
HasWidth ThematicBreak = Unit {0}
HasWidth (FencedCode i mark n info closed) = Unit {0}
HasWidth IndentedCode = Unit {0}
HasWidth (HtmlBlock kind) = Unit {0}

MarkerWide : Option Marker → Type 0
MarkerWide None = Unit {0}
MarkerWide (Some m) = 1 ≤ m.width

ordered_where : (b : Bool) (digits : ℕ) (text : List ℕ) → MarkerWide (cond b (Some (marker_of digits text)) None)
unfolding MarkerWide
ordered_where true digits text = omega arith
ordered_where false digits text = tt

ordered_wide : (text : List ℕ) → MarkerWide (ordered_marker text)
unfolding ordered_marker
ordered_wide text = ordered_where (is_ordered (prefix_len is_ascii_digit text) text) (prefix_len is_ascii_digit text) text

marker_wide : (text : List ℕ) → MarkerWide (marker text)
unfolding marker MarkerWide
marker_wide text = go _ (ordered_wide text)
  where
    go : (b : Bool) → MarkerWide (ordered_marker text) → MarkerWide (cond b (Some (bullet_marker text)) (ordered_marker text))
    go true h = let one : 1 ≤ 1 = omega arith in one
    go false h = h

wide_at : (o : Option Marker) (m : Marker) → MarkerWide o → o ≡ Some m → 1 ≤ m.width
unfolding MarkerWide
wide_at o m w e = subst (λ z. MarkerWide z) e w

pub begun_width : (l : BlockLine) → HasWidth (begun l)
begun_width l = begun_kinds (λ k. HasWidth k) l widths tt
  where
    widths : Kinds (λ k. HasWidth k) Free [] l
    widths = record {
      quote = omega arith;
      atx = λ level content. tt;
      fence = λ i mark n info. tt;
      html = λ kind. tt;
      underline = λ level. tt;
      break = tt;
      item = λ m e. wide_at (marker (rest l)) m (marker_wide (rest l)) e;
      rows = λ e. tt;
      code = tt;
    }
