-- What may interrupt a paragraph, inside it or lazily, begins the same block where no paragraph is open (CommonMark 4.8, 5.1).
use Rattle.std.proofs.Common.{◌≡◌, ℕ, ◌==◌, Bool, true, false, not, ◌&&◌, ◌||◌, List, [], ◌∷◌, Option, Some, None, refl, ap, sym, ◌∙◌, cond, arith, nat_le, nat_lt}
use Rattle.std.proofs.lemmas.Bool.Decides.{nat_tests}
use Rattle.std.specs.Char.{is_ascii_digit}
use Rattle.std.specs.Option.{option_or, option_map, is_none}
use Rattle.mdscan.specs.AtxHeading.{atx_heading}
use Rattle.mdscan.specs.Blanks.{begins_with}
use Rattle.mdscan.specs.BlockQuote.{is_quote_marker}
use Rattle.mdscan.specs.CodeFence.{opening_fence}
use Rattle.mdscan.specs.HtmlBlock.{html_kind}
use Rattle.mdscan.specs.ListMarker.{marker}
use Rattle.mdscan.specs.ThematicBreak.{is_thematic_break}
use Rattle.mdscan.specs.Spans.{part}
use Rattle.mdscan.specs.declared.atx_headings.AtxLine.{AtxLine}
use Rattle.mdscan.specs.declared.code_fences.FenceLine.{FenceLine}
use Rattle.mdscan.specs.declared.list_markers.Marker.{Marker}
use Rattle.blockspec.specs.BlockLine.{BlockLine, rest, indentation, behind_marker}
use Rattle.blockspec.specs.BlankLines.{is_blank_line}
use Rattle.blockspec.specs.BlockKinds.{Mode, Free, Inside, Lazy, Kind, AtxHeading, ThematicBreak, FencedCode, HtmlBlock, Holds, Quote, is_inside}
use Rattle.blockspec.specs.BlockQuotes.{begins_quote}
use Rattle.blockspec.specs.AtxHeadings.{begins_atx}
use Rattle.blockspec.specs.FencedCode.{begins_fence}
use Rattle.blockspec.specs.HtmlBlocks.{html_by}
use Rattle.blockspec.specs.ThematicBreaks.{begins_break}
use Rattle.blockspec.specs.ListItems.{item_by, item_of, may_begin_item}
use Rattle.blockspec.specs.BlockStart.{start_near, start_at, start_where, start}
use Rattle.blockspec.specs.IndentedCode.{start_far}
use Rattle.mdblock.specs.held.StartKind.{stays_lazy}
use Rattle.mdblock.specs.held.StartParts.{begins_marker, start_before_underline, start_after_underline}
use Rattle.mdblock.proofs.FirstBytes.{none_first, none_behind, no_kind}
use Rattle.mdblock.proofs.StartLaws.{near_in_parts, or_assoc, or_none}

-- ---- a blank line begins nothing

pub blank_begins : (mode : Mode) (paragraph : List BlockLine) (l : BlockLine) → is_blank_line l ≡ true → start mode paragraph l ≡ None
unfolding start
blank_begins mode paragraph l h = ap (λ t. start_where t mode paragraph l) h

pub near_begins : (mode : Mode) (paragraph : List BlockLine) (l : BlockLine) → is_blank_line l ≡ false → nat_le (indentation l) 3 ≡ true → start mode paragraph l ≡ start_near mode paragraph l
unfolding start
near_begins mode paragraph l h near = ap (λ t. start_where t mode paragraph l) h ∙ ap (λ t. start_at t mode paragraph l) near

-- where no paragraph is open whose containers all match
near_alone : (mode : Mode) (l : BlockLine) → is_inside mode ≡ false → start_near mode [] l ≡ option_or (start_before_underline mode l) (start_after_underline mode l)
near_alone Free l h = near_in_parts Free [] l ∙ ap (option_or (start_before_underline Free l)) (or_none (start_after_underline Free l))
near_alone Inside l h = cc
near_alone Lazy l h = near_in_parts Lazy [] l ∙ ap (option_or (start_before_underline Lazy l)) (or_none (start_after_underline Lazy l))

-- ---- inside

widen : (front a b : Option Kind) (k : Kind) → (a ≡ Some k → b ≡ Some k) → option_or front a ≡ Some k → option_or front b ≡ Some k
widen None a b k f h = f h
widen (Some x) a b k f h = h

wider_html : (found : Option ℕ) (k : Kind) → html_by false found ≡ Some k → html_by true found ≡ Some k
wider_html None k h = cc
wider_html (Some kind) k h = by (nat_lt kind 7) h where
  by : (t : Bool) → cond (t || false) (Some (HtmlBlock kind)) None ≡ Some k → cond (t || true) (Some (HtmlBlock kind)) None ≡ Some k
  by true h = h
  by false h = cc

wider_before : (l : BlockLine) (k : Kind) → start_before_underline Inside l ≡ Some k → start_before_underline Free l ≡ Some k
unfolding start_before_underline
wider_before l k h =
    widen (begins_quote l) _ _ k (widen (begins_atx l) _ _ k (widen (begins_fence l) _ _ k (wider_html (html_kind (rest l)) k))) h

pub interrupts_before : (l : BlockLine) (k : Kind) → is_blank_line l ≡ false → nat_le (indentation l) 3 ≡ true → start_before_underline Inside l ≡ Some k → start Free [] l ≡ Some k
interrupts_before l k blank near h =
    near_begins Free [] l blank near ∙ near_alone Free l refl ∙ ap (λ z. option_or z (start_after_underline Free l)) (wider_before l k h)

wider_item : (l : BlockLine) (found : Option Marker) (k : Kind) → item_by Inside l found ≡ Some k → item_by Free l found ≡ Some k
wider_item l None k h = cc
wider_item l (Some m) k h = by (may_begin_item Inside m (behind_marker l m.width)) h where
  by : (t : Bool) → cond t (Some (Holds (item_of l m))) None ≡ Some k → Some (Holds (item_of l m)) ≡ Some k
  by true h = h
  by false h = cc

wider_after : (l : BlockLine) (k : Kind) → start_after_underline Inside l ≡ Some k → start_after_underline Free l ≡ Some k
unfolding start_after_underline
wider_after l k h = widen (begins_break l) _ _ k (wider_item l (marker (rest l)) k) h

is_not : (t : Bool) (P : Type 0) → (t ≡ false → P) → (t ≡ true → P) → P
is_not true P f g = g refl
is_not false P f g = f refl

marked : (mode : Mode) (l : BlockLine) (k : Kind) → start_after_underline mode l ≡ Some k → begins_marker (rest l) ≡ true
marked mode l k h = is_not (begins_marker (rest l)) _ (λ e. cc (none_behind mode l e, h)) (λ e. e)

not_marker : (b c : ℕ) (bs : List ℕ) → ((c == 42) || (c == 45) || (c == 95) || (c == 43) || is_ascii_digit c) ≡ false → begins_marker (b ∷ bs) ≡ true → (b == c) ≡ false
not_marker b c bs other h = is_not (b == c) _ (λ e. e) (λ e. let same : b ≡ c = grind (arith, nat_tests, e) in cc (same, other, h))

pub not_first : (c : ℕ) (text : List ℕ) → ((c == 42) || (c == 45) || (c == 95) || (c == 43) || is_ascii_digit c) ≡ false → begins_marker text ≡ true → begins_with c text ≡ false
not_first c [] other h = refl
not_first c (b ∷ bs) other h = not_marker b c bs other h

pub interrupts_after : (l : BlockLine) (k : Kind) → is_blank_line l ≡ false → nat_le (indentation l) 3 ≡ true → start_after_underline Inside l ≡ Some k → start Free [] l ≡ Some k
interrupts_after l k blank near h =
    let t = rest l in
    let m = marked Inside l k h in
    let none = none_first Free l (not_first 62 t refl m) (not_first 35 t refl m) (not_first 60 t refl m) (not_first 126 t refl m) (not_first 96 t refl m) in
    near_begins Free [] l blank near ∙ near_alone Free l refl ∙ ap (λ z. option_or z (start_after_underline Free l)) none ∙ wider_after l k h

-- ---- lazily

kept : (front a b : Option Kind) → ((k : Kind) → front ≡ Some k → stays_lazy (Some k) ≡ false) → is_none a ≡ stays_lazy b → is_none (option_or front a) ≡ stays_lazy (option_or front b)
kept None a b f h = h
kept (Some x) a b f h = sym (f x refl)

quote_kind : (l : BlockLine) (k : Kind) → begins_quote l ≡ Some k → stays_lazy (Some k) ≡ false
quote_kind l k h = by (is_quote_marker (rest l)) h where
  by : (t : Bool) → cond t (Some (Holds Quote)) None ≡ Some k → stays_lazy (Some k) ≡ false
  by true e = ap stays_lazy (sym e)
  by false e = cc

heading_kind : (l : BlockLine) (k : Kind) → begins_atx l ≡ Some k → stays_lazy (Some k) ≡ false
heading_kind l k h = by (atx_heading (rest l)) h where
  by : (x : Option AtxLine) → option_map (λ heading. AtxHeading heading.level (part (rest l) heading.content)) x ≡ Some k → stays_lazy (Some k) ≡ false
  by None e = cc
  by (Some x) e = ap stays_lazy (sym e)

fence_kind : (l : BlockLine) (k : Kind) → begins_fence l ≡ Some k → stays_lazy (Some k) ≡ false
fence_kind l k h = by (opening_fence (rest l)) h where
  by : (x : Option FenceLine) → option_map (λ fence. FencedCode (indentation l) fence.mark fence.length (part (rest l) fence.info) false) x ≡ Some k → stays_lazy (Some k) ≡ false
  by None e = cc
  by (Some x) e = ap stays_lazy (sym e)

same_item : (l : BlockLine) (found : Option Marker) → item_by Lazy l found ≡ item_by Free l found
same_item l None = refl
same_item l (Some m) = refl

same_after : (l : BlockLine) → start_after_underline Lazy l ≡ start_after_underline Free l
unfolding start_after_underline
same_after l = ap (option_or (begins_break l)) (same_item l (marker (rest l)))

item_kind : (l : BlockLine) (found : Option Marker) → is_none (item_by Free l found) ≡ stays_lazy (item_by Free l found)
item_kind l None = refl
item_kind l (Some m) = refl

break_kind : (l : BlockLine) (k : Kind) → begins_break l ≡ Some k → stays_lazy (Some k) ≡ false
break_kind l k h = by (is_thematic_break (rest l)) h where
  by : (t : Bool) → cond t (Some ThematicBreak) None ≡ Some k → stays_lazy (Some k) ≡ false
  by true e = ap stays_lazy (sym e)
  by false e = cc

after_kind : (l : BlockLine) → is_none (start_after_underline Free l) ≡ stays_lazy (start_after_underline Free l)
unfolding start_after_underline
after_kind l = kept (begins_break l) _ _ (break_kind l) (item_kind l (marker (rest l)))

-- a line of HTML has no marker
none_of_html : (l : BlockLine) (kind : ℕ) → html_kind (rest l) ≡ Some kind → start_after_underline Free l ≡ None
none_of_html l kind h =
    let t = rest l in
    is_not (begins_marker t) _ (none_behind Free l) (λ m. cc (no_kind t (not_first 60 t refl m), h))

html_part : (l : BlockLine) → is_none (option_or (html_by false (html_kind (rest l))) (start_after_underline Lazy l)) ≡ stays_lazy (option_or (html_by true (html_kind (rest l))) (start_after_underline Free l))
html_part l = by (html_kind (rest l)) refl where
  small : (kind : ℕ) (t : Bool) → nat_lt kind 7 ≡ t → html_kind (rest l) ≡ Some kind
      → is_none (option_or (cond (t || false) (Some (HtmlBlock kind)) None) (start_after_underline Lazy l)) ≡ stays_lazy (option_or (cond (t || true) (Some (HtmlBlock kind)) None) (start_after_underline Free l))
  small kind true e h = ap not (sym e)
  small kind false e h = ap is_none (same_after l ∙ none_of_html l kind h) ∙ ap not (sym e)

  by : (found : Option ℕ) → html_kind (rest l) ≡ found → is_none (option_or (html_by false found) (start_after_underline Lazy l)) ≡ stays_lazy (option_or (html_by true found) (start_after_underline Free l))
  by None h = ap is_none (same_after l) ∙ after_kind l
  by (Some kind) h = small kind (nat_lt kind 7) refl h

flat : (q a f h after : Option Kind) → option_or (option_or q (option_or a (option_or f h))) after ≡ option_or q (option_or a (option_or f (option_or h after)))
flat q a f h after =
    or_assoc q (option_or a (option_or f h)) after ∙ ap (option_or q) (or_assoc a (option_or f h) after) ∙ ap (λ z. option_or q (option_or a z)) (or_assoc f h after)

near_lazily : (l : BlockLine) → is_none (option_or (start_before_underline Lazy l) (start_after_underline Lazy l)) ≡ stays_lazy (option_or (start_before_underline Free l) (start_after_underline Free l))
unfolding start_before_underline
near_lazily l =
    let q = begins_quote l in
    let a = begins_atx l in
    let f = begins_fence l in
    let lazy = html_by false (html_kind (rest l)) in
    let free = html_by true (html_kind (rest l)) in
    ap is_none (flat q a f lazy (start_after_underline Lazy l))
    ∙ kept q _ _ (quote_kind l) (kept a _ _ (heading_kind l) (kept f _ _ (fence_kind l) (html_part l)))
    ∙ sym (ap stays_lazy (flat q a f free (start_after_underline Free l)))

far_begins : (mode : Mode) (l : BlockLine) → is_blank_line l ≡ false → nat_le (indentation l) 3 ≡ false → start mode [] l ≡ start_far mode
unfolding start
far_begins mode l h near = ap (λ t. start_where t mode [] l) h ∙ ap (λ t. start_at t mode [] l) near

lazy_start : (l : BlockLine) → is_none (start Lazy [] l) ≡ stays_lazy (start Free [] l)
lazy_start l = is_not (is_blank_line l) _ seen (λ e. ap is_none (blank_begins Lazy [] l e) ∙ sym (ap stays_lazy (blank_begins Free [] l e))) where
  seen : is_blank_line l ≡ false → is_none (start Lazy [] l) ≡ stays_lazy (start Free [] l)
  seen e = is_not (nat_le (indentation l) 3) _
      (λ far. ap is_none (far_begins Lazy l e far) ∙ sym (ap stays_lazy (far_begins Free l e far)))
      (λ near. ap is_none (near_begins Lazy [] l e near ∙ near_alone Lazy l refl) ∙ near_lazily l ∙ sym (ap stays_lazy (near_begins Free [] l e near ∙ near_alone Free l refl)))

-- whether a line continues a paragraph lazily, by what it begins where none is open
pub lazily_none : (l : BlockLine) → None ≡ start Free [] l → not (is_blank_line l) ≡ (not (is_blank_line l) && is_none (start Lazy [] l))
lazily_none l e = by (not (is_blank_line l)) ∙ ap (λ z. not (is_blank_line l) && z) (sym (lazy_start l ∙ ap stays_lazy (sym e))) where
  by : (t : Bool) → t ≡ (t && true)
  by true = refl
  by false = refl

pub lazily_some : (l : BlockLine) (k : Kind) → Some k ≡ start Free [] l → stays_lazy (Some k) ≡ (not (is_blank_line l) && is_none (start Lazy [] l))
lazily_some l k e =
    let seen : is_blank_line l ≡ false = is_not (is_blank_line l) _ (λ h. h) (λ h. cc (blank_begins Free [] l h, e)) in
    ap stays_lazy e ∙ sym (lazy_start l) ∙ ap (λ z. not z && is_none (start Lazy [] l)) (sym seen)
