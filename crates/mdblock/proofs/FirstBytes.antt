-- The first byte of a line tells which of the recognisers may find anything (CommonMark 4, 5).
use Rattle.std.proofs.Common.{◌≡◌, ℕ, ◌==◌, Bool, true, false, ◌||◌, List, [], ◌∷◌, Option, Some, None, refl, ap, ◌∙◌, arith}
use Rattle.std.proofs.lemmas.Bool.Decides.{nat_tests}
use Rattle.std.specs.Char.{is_ascii_digit}
use Rattle.std.specs.Option.{option_or}
use Rattle.mdscan.specs.AtxHeading.{atx_heading}
use Rattle.mdscan.specs.Blanks.{begins_with}
use Rattle.mdscan.specs.BlockQuote.{is_quote_marker}
use Rattle.mdscan.specs.CodeFence.{opening_fence, opening_backticks}
use Rattle.mdscan.specs.HtmlBlock.{html_kind, begins_raw, begins_block, begins_whole_tag}
use Rattle.mdscan.specs.ListMarker.{marker, ordered_marker}
use Rattle.mdscan.specs.Tag.{first_is, open_tag, closing_tag}
use Rattle.mdscan.specs.ThematicBreak.{is_thematic_break, is_break_of}
use Rattle.blockspec.specs.BlockLine.{BlockLine, rest}
use Rattle.blockspec.specs.BlockKinds.{Mode, Kind, Quote, Holds, is_free}
use Rattle.blockspec.specs.BlockQuotes.{begins_quote}
use Rattle.blockspec.specs.AtxHeadings.{begins_atx}
use Rattle.blockspec.specs.FencedCode.{begins_fence}
use Rattle.blockspec.specs.HtmlBlocks.{begins_html, html_by}
use Rattle.blockspec.specs.ThematicBreaks.{begins_break}
use Rattle.blockspec.specs.ListItems.{begins_item, item_by}
use Rattle.mdblock.specs.held.StartParts.{start_before_underline, start_after_underline, begins_marker}
use Rattle.mdblock.proofs.StartLaws.{or_none}

-- ---- one recogniser after the other

no_hashes : (text : List ℕ) → begins_with 35 text ≡ false → atx_heading text ≡ None
unfolding atx_heading
no_hashes [] h = refl
no_hashes (b ∷ bs) h = rw h refl

no_fence : (text : List ℕ) → begins_with 126 text ≡ false → begins_with 96 text ≡ false → opening_fence text ≡ None
unfolding opening_fence opening_backticks
no_fence [] h g = refl
no_fence (b ∷ bs) h g = rw (h, g) refl

pub no_kind : (text : List ℕ) → begins_with 60 text ≡ false → html_kind text ≡ None
unfolding html_kind begins_raw begins_block begins_whole_tag open_tag closing_tag
no_kind [] h = refl
no_kind (b ∷ bs) h = let other : (60 == b) ≡ false = grind (arith, nat_tests, h) in rw (h, other) refl

no_break : (text : List ℕ) → begins_with 42 text ≡ false → begins_with 45 text ≡ false → begins_with 95 text ≡ false → is_thematic_break text ≡ false
unfolding is_thematic_break is_break_of
no_break [] h g k = refl
no_break (b ∷ bs) h g k = rw (h, g, k) refl

no_digits : (text : List ℕ) → first_is is_ascii_digit text ≡ false → ordered_marker text ≡ None
unfolding ordered_marker
no_digits [] h = refl
no_digits (b ∷ bs) h = rw h refl

no_marker : (text : List ℕ) → begins_with 42 text ≡ false → begins_with 45 text ≡ false → begins_with 43 text ≡ false → first_is is_ascii_digit text ≡ false → marker text ≡ None
unfolding marker
no_marker [] h g k d = no_digits [] d
no_marker (b ∷ bs) h g k d = rw (h, g, k) (no_digits (b ∷ bs) d)

-- where one mark stands first, another does not
pub not_other : (a b : ℕ) (text : List ℕ) → (a == b) ≡ false → begins_with a text ≡ true → begins_with b text ≡ false
not_other a b [] e h = cc
not_other a b (c ∷ cs) e h = let same : c ≡ a = grind (arith, nat_tests, h) in rw same e

no_quote : (l : BlockLine) → begins_with 62 (rest l) ≡ false → begins_quote l ≡ None
unfolding is_quote_marker
no_quote l h = rw h refl

-- ---- before an underline is tried

parts : (mode : Mode) (l : BlockLine) (quote heading fence html : Option Kind) → begins_quote l ≡ quote → begins_atx l ≡ heading → begins_fence l ≡ fence → begins_html mode l ≡ html
    → start_before_underline mode l ≡ option_or quote (option_or heading (option_or fence html))
unfolding start_before_underline
parts mode l quote heading fence html q a f h =
    ap (λ k. option_or k (option_or (begins_atx l) (option_or (begins_fence l) (begins_html mode l)))) q
    ∙ ap (λ k. option_or quote (option_or k (option_or (begins_fence l) (begins_html mode l)))) a
    ∙ ap (λ k. option_or quote (option_or heading (option_or k (begins_html mode l)))) f
    ∙ ap (λ k. option_or quote (option_or heading (option_or fence k))) h

no_heading : (l : BlockLine) → begins_with 35 (rest l) ≡ false → begins_atx l ≡ None
no_heading l h = rw (no_hashes (rest l) h) refl

no_code : (l : BlockLine) → begins_with 126 (rest l) ≡ false → begins_with 96 (rest l) ≡ false → begins_fence l ≡ None
no_code l h g = rw (no_fence (rest l) h g) refl

no_html : (mode : Mode) (l : BlockLine) → begins_with 60 (rest l) ≡ false → begins_html mode l ≡ None
no_html mode l h = ap (html_by (is_free mode)) (no_kind (rest l) h)

pub quote_first : (mode : Mode) (l : BlockLine) → begins_with 62 (rest l) ≡ true → start_before_underline mode l ≡ Some (Holds Quote)
unfolding is_quote_marker
quote_first mode l h = parts mode l (Some (Holds Quote)) _ _ _ (rw h refl) refl refl refl

pub heading_first : (mode : Mode) (l : BlockLine) → begins_with 35 (rest l) ≡ true → start_before_underline mode l ≡ begins_atx l
heading_first mode l h =
    let t = rest l in
    parts mode l None (begins_atx l) None None (no_quote l (not_other 35 62 t refl h)) refl (no_code l (not_other 35 126 t refl h) (not_other 35 96 t refl h)) (no_html mode l (not_other 35 60 t refl h))
    ∙ or_none (begins_atx l)

pub html_first : (mode : Mode) (l : BlockLine) → begins_with 60 (rest l) ≡ true → start_before_underline mode l ≡ begins_html mode l
html_first mode l h =
    let t = rest l in
    parts mode l None None None (begins_html mode l) (no_quote l (not_other 60 62 t refl h)) (no_heading l (not_other 60 35 t refl h)) (no_code l (not_other 60 126 t refl h) (not_other 60 96 t refl h)) refl

pub fence_or_none : (mode : Mode) (l : BlockLine) → begins_with 62 (rest l) ≡ false → begins_with 35 (rest l) ≡ false → begins_with 60 (rest l) ≡ false
    → start_before_underline mode l ≡ begins_fence l
fence_or_none mode l q a h =
    parts mode l None None (begins_fence l) None (no_quote l q) (no_heading l a) refl (no_html mode l h) ∙ or_none (begins_fence l)

pub none_first : (mode : Mode) (l : BlockLine) → begins_with 62 (rest l) ≡ false → begins_with 35 (rest l) ≡ false → begins_with 60 (rest l) ≡ false
    → begins_with 126 (rest l) ≡ false → begins_with 96 (rest l) ≡ false → start_before_underline mode l ≡ None
none_first mode l q a h f g = fence_or_none mode l q a h ∙ no_code l f g

-- ---- behind it

or_false : (a b : Bool) → (a || b) ≡ false → (a ≡ false) × (b ≡ false)
or_false true b h = cc
or_false false b h = (refl, h)

no_item : (mode : Mode) (l : BlockLine) → marker (rest l) ≡ None → begins_item mode l ≡ None
no_item mode l e = ap (item_by mode l) e

no_rule : (l : BlockLine) → is_thematic_break (rest l) ≡ false → begins_break l ≡ None
no_rule l e = rw e refl

pub none_behind : (mode : Mode) (l : BlockLine) → begins_marker (rest l) ≡ false → start_after_underline mode l ≡ None
unfolding start_after_underline
none_behind mode l h =
    let t = rest l in
    let a = or_false (begins_with 42 t || begins_with 45 t || begins_with 95 t || begins_with 43 t) (first_is is_ascii_digit t) h in
    let b = or_false (begins_with 42 t || begins_with 45 t || begins_with 95 t) (begins_with 43 t) a.0 in
    let c = or_false (begins_with 42 t || begins_with 45 t) (begins_with 95 t) b.0 in
    let d = or_false (begins_with 42 t) (begins_with 45 t) c.0 in
    ap (λ k. option_or k (begins_item mode l)) (no_rule l (no_break t d.0 d.1 c.1)) ∙ no_item mode l (no_marker t d.0 d.1 b.1 a.1)
