-- What holds of each kind of block that a line can begin holds of the one that it begins.
use Rattle.std.proofs.Common.{◌≡◌, ℕ, Bool, true, false, ◌&&◌, ◌||◌, List, [], length, Option, Some, None, refl}
use Rattle.std.specs.Option.{option_or, option_map}
use Rattle.std.specs.Prelude.{unwrap_or, nat_lt, nat_le, cond}
use Rattle.mdscan.specs.declared.atx_headings.AtxLine.{AtxLine}
use Rattle.mdscan.specs.declared.code_fences.FenceLine.{FenceLine}
use Rattle.mdscan.specs.declared.list_markers.Marker.{Marker}
use Rattle.mdscan.specs.AtxHeading.{atx_heading}
use Rattle.mdscan.specs.BlockQuote.{is_quote_marker}
use Rattle.mdscan.specs.CodeFence.{opening_fence}
use Rattle.mdscan.specs.HtmlBlock.{html_kind}
use Rattle.mdscan.specs.ListMarker.{marker}
use Rattle.mdscan.specs.SetextHeading.{underline_level}
use Rattle.mdscan.specs.Spans.{part}
use Rattle.mdscan.specs.ThematicBreak.{is_thematic_break}
use Rattle.mdleaf.specs.Tables.{begins_table}
use Rattle.blockspec.specs.BlockLine.{BlockLine, indentation, rest, behind_marker}
use Rattle.blockspec.specs.BlankLines.{is_blank_line}
use Rattle.blockspec.specs.BlockKinds.{Mode, Free, Quote, Kind, Paragraph, SetextHeading, Table, AtxHeading, ThematicBreak, FencedCode, IndentedCode, HtmlBlock, Holds, is_free, is_inside}
use Rattle.blockspec.specs.SetextHeadings.{underlines, begins_underline}
use Rattle.blockspec.specs.Tables.{last_text}
use Rattle.blockspec.specs.ListItems.{may_begin_item, item_of, item_by, begins_item}
use Rattle.blockspec.specs.BlockQuotes.{begins_quote}
use Rattle.blockspec.specs.AtxHeadings.{begins_atx}
use Rattle.blockspec.specs.FencedCode.{begins_fence}
use Rattle.blockspec.specs.HtmlBlocks.{html_by, begins_html}
use Rattle.blockspec.specs.ThematicBreaks.{begins_break}
use Rattle.blockspec.specs.BlockStart.{start_near, start_at, start_where, start, begun}

pub record Kinds (P : Kind → Type 0) (mode : Mode) (paragraph : List BlockLine) (l : BlockLine) : Type 0 where
  pub quote : P (Holds Quote)
  pub atx : (level : ℕ) (content : List ℕ) → P (AtxHeading level content)
  pub fence : (indentation mark length : ℕ) (info : List ℕ) → P (FencedCode indentation mark length info false)
  pub html : (kind : ℕ) → P (HtmlBlock kind)
  pub underline : (level : ℕ) → P (SetextHeading level)
  pub break : P ThematicBreak
  pub item : (m : Marker) → marker (rest l) ≡ Some m → P (Holds (item_of l m))
  pub rows : is_inside mode ≡ true → P (Table (length paragraph))
  pub code : P IndentedCode

abbrev pub IfBegun : (Kind → Type 0) → Option Kind → Type 0
IfBegun P None = Unit {0}
IfBegun P (Some k) = P k

or_kinds : (P : Kind → Type 0) (p q : Option Kind) → IfBegun P p → IfBegun P q → IfBegun P (option_or p q)
or_kinds P None q v w = w
or_kinds P (Some k) q v w = v

if_kinds : (P : Kind → Type 0) (b : Bool) (k : Kind) → P k → IfBegun P (cond b (Some k) None)
if_kinds P true k w = w
if_kinds P false k w = tt

map_kinds : {A : Type 0} (P : Kind → Type 0) (f : A → Kind) (o : Option A) → ((a : A) → P (f a)) → IfBegun P (option_map f o)
map_kinds P f None w = tt
map_kinds P f (Some a) w = w a

html_kinds : (P : Kind → Type 0) (free : Bool) (o : Option ℕ) → ((kind : ℕ) → P (HtmlBlock kind)) → IfBegun P (html_by free o)
html_kinds P free None w = tt
html_kinds P free (Some kind) w = if_kinds P (nat_lt kind 7 || free) (HtmlBlock kind) (w kind)

underline_kinds : (P : Kind → Type 0) (b : Bool) (o : Option ℕ) → ((level : ℕ) → P (SetextHeading level)) → IfBegun P (cond b (option_map SetextHeading o) None)
underline_kinds P true o w = map_kinds P SetextHeading o w
underline_kinds P false o w = tt

item_kinds : (P : Kind → Type 0) (mode : Mode) (l : BlockLine) (o : Option Marker) → ((m : Marker) → o ≡ Some m → P (Holds (item_of l m))) → IfBegun P (item_by mode l o)
item_kinds P mode l None w = tt
item_kinds P mode l (Some m) w = if_kinds P (may_begin_item mode m (behind_marker l m.width)) (Holds (item_of l m)) (w m refl)

rows_kinds : (P : Kind → Type 0) (inside begins : Bool) (k : Kind) → (inside ≡ true → P k) → IfBegun P (cond (inside && begins) (Some k) None)
rows_kinds P true begins k w = if_kinds P begins k (w refl)
rows_kinds P false begins k w = tt

near_kinds : (P : Kind → Type 0) (mode : Mode) (p : List BlockLine) (l : BlockLine) → Kinds P mode p l → IfBegun P (start_near mode p l)
unfolding start_near
near_kinds P mode p l w =
    or_kinds P (begins_quote l) _ (if_kinds P (is_quote_marker (rest l)) (Holds Quote) w.quote)
    (or_kinds P (begins_atx l) _ (map_kinds P (λ (a : AtxLine). AtxHeading a.level (part (rest l) a.content)) (atx_heading (rest l)) (λ a. w.atx a.level (part (rest l) a.content)))
    (or_kinds P (begins_fence l) _ (map_kinds P (λ (f : FenceLine). FencedCode (indentation l) f.mark f.length (part (rest l) f.info) false) (opening_fence (rest l)) (λ f. w.fence (indentation l) f.mark f.length (part (rest l) f.info)))
    (or_kinds P (begins_html mode l) _ (html_kinds P (is_free mode) (html_kind (rest l)) w.html)
    (or_kinds P (begins_underline mode p l) _ (underline_kinds P (underlines mode p) (underline_level (rest l)) w.underline)
    (or_kinds P (begins_break l) _ (if_kinds P (is_thematic_break (rest l)) ThematicBreak w.break)
    (or_kinds P (begins_item mode l) _ (item_kinds P mode l (marker (rest l)) w.item)
    (rows_kinds P (is_inside mode) (begins_table (last_text p) (rest l)) (Table (length p)) w.rows)))))))

at_kinds : (P : Kind → Type 0) (near : Bool) (mode : Mode) (p : List BlockLine) (l : BlockLine) → Kinds P mode p l → IfBegun P (start_at near mode p l)
at_kinds P true mode p l w = near_kinds P mode p l w
at_kinds P false mode p l w = if_kinds P (is_free mode) IndentedCode w.code

where_kinds : (P : Kind → Type 0) (blank : Bool) (mode : Mode) (p : List BlockLine) (l : BlockLine) → Kinds P mode p l → IfBegun P (start_where blank mode p l)
where_kinds P true mode p l w = tt
where_kinds P false mode p l w = at_kinds P (nat_le (indentation l) 3) mode p l w

pub start_kinds : (P : Kind → Type 0) (mode : Mode) (p : List BlockLine) (l : BlockLine) → Kinds P mode p l → IfBegun P (start mode p l)
unfolding start
start_kinds P mode p l w = where_kinds P (is_blank_line l) mode p l w

or_paragraph : (P : Kind → Type 0) (o : Option Kind) → IfBegun P o → P Paragraph → P (unwrap_or o Paragraph)
or_paragraph P None w v = v
or_paragraph P (Some k) w v = w

pub begun_kinds : (P : Kind → Type 0) (l : BlockLine) → Kinds P Free [] l → P Paragraph → P (begun l)
begun_kinds P l w v = or_paragraph P (start Free [] l) (start_kinds P Free [] l w) v
