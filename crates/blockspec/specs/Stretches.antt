-- Lines cut into blocks: a block's stretch is the longest front of the lines each of which goes on with it.
use Rattle.std.specs.Prelude.{ℕ, zero, suc, Bool, true, false, not, ◌||◌, ◌&&◌, nat_lt, nat_le, is_none, List, [], ◌∷◌, ◌++◌, Option, Some, None}
use Rattle.mdscan.specs.CodeFence.{is_closing_fence}
use Rattle.mdscan.specs.HtmlBlock.{holds_end}
use Rattle.blockspec.specs.BlockLine.{BlockLine, indentation, rest}
use Rattle.blockspec.specs.BlankLines.{is_blank_line}
use Rattle.blockspec.specs.BlockKinds.{Free, Inside, Container, Kind, Paragraph, SetextHeading, Table, AtxHeading, ThematicBreak, FencedCode, IndentedCode, HtmlBlock, Holds}
use Rattle.blockspec.specs.BlockStart.{start, begun}
use Rattle.blockspec.specs.ContainerLines.{matches, inner, is_bare}
use Rattle.blockspec.specs.Laziness.{Tip, Text, Verbatim, Closed, is_verbatim, continues_lazily}

-- the lines of one block; how many lines stand before them, and whether there is a gap just before them
pub record Stretch : Type 0 where
  pub begin : ℕ
  pub gap : Bool
  pub kind : Kind
  pub first : BlockLine
  pub later : List BlockLine

-- What the next line does to an open block: it is one of its lines; its last one; the block is over before it. A line
-- can tell that the block is of another kind: an underline, a delimiter row, a closing fence.
pub data Step : Type 0 where
  Continues : Kind → Step
  IsLastLine : Kind → Step
  IsOverBefore : Step

abbrev pub continues_if : Bool → Kind → Step
continues_if true kind = Continues kind
continues_if false kind = IsOverBefore

-- Containers (CommonMark 5.1, 5.2): a line that matches, or is lazy here. An item can begin with one blank line, so a
-- second one ends it.
abbrev pub goes_on : Container → (bare : Bool) → Tip → BlockLine → Bool
goes_on container bare tip l = (matches container l && not (bare && is_blank_line l)) || continues_lazily tip l

-- Fenced code (CommonMark 4.5): up to a closing fence.
abbrev pub closes : (mark length : ℕ) → BlockLine → Bool
closes mark length l = nat_le (indentation l) 3 && is_closing_fence mark length (rest l)

abbrev pub fence_step : (closed : Bool) → (Bool → Kind) → Step
fence_step true fence = IsLastLine (fence true)
fence_step false fence = Continues (fence false)

-- HTML block (CommonMark 4.6): kinds 1 to 5 up to the line that holds what ends them, kinds 6 and 7 before a blank line.
abbrev pub ends_html : (kind : ℕ) → BlockLine → Bool
ends_html kind l = nat_lt kind 6 && holds_end kind l.line.text

abbrev pub html_step : (blank ends : Bool) → (kind : ℕ) → Step
html_step true ends kind = continues_if (nat_lt kind 6) (HtmlBlock kind)
html_step false true kind = IsLastLine (HtmlBlock kind)
html_step false false kind = Continues (HtmlBlock kind)

-- Paragraph (CommonMark 4.8): up to a blank line or one that begins a block. An underline is its last line (CommonMark
-- 4.3); a delimiter row makes a table of it and its last line (GFM Tables (extension)).
abbrev pub interrupted : Option Kind → Step
interrupted None = Continues Paragraph
interrupted (Some (SetextHeading level)) = IsLastLine (SetextHeading level)
interrupted (Some (Table above)) = Continues (Table above)
interrupted (Some kind) = IsOverBefore

abbrev pub paragraph_step : (lazy blank : Bool) → Option Kind → Step
paragraph_step true blank kind = Continues Paragraph
paragraph_step false true kind = IsOverBefore
paragraph_step false false kind = interrupted kind

-- Table (GFM Tables (extension)): up to a blank line or one that begins a block.
abbrev pub is_row : BlockLine → Bool
is_row l = not l.lazy && not (is_blank_line l) && is_none (start Free [] l)

-- Indented code (CommonMark 4.4). The blank lines at its end are not part of it; they are left out where its text is
-- made, and stand in its stretch here.
abbrev pub is_code : BlockLine → Bool
is_code l = is_blank_line l || nat_le 4 (indentation l)

-- What the next line does to the block of these lines, where `tip` tells what is open at the end of a container's lines.
unfoldable pub step : (tip : List BlockLine → Tip) → Kind → (first : BlockLine) → (later : List BlockLine) → BlockLine → Step
step tip (Holds container) first later l =
    continues_if (goes_on container (is_bare container first later) (tip (inner container first later)) l) (Holds container)
step tip (FencedCode indentation mark length info closed) first later l = fence_step (closes mark length l) (FencedCode indentation mark length info)
step tip (HtmlBlock kind) first later l = html_step (is_blank_line l) (ends_html kind l) kind
step tip Paragraph first later l = paragraph_step l.lazy (is_blank_line l) (start Inside (first ∷ later) l)
step tip (Table above) first later l = continues_if (is_row l) (Table above)
step tip IndentedCode first later l = continues_if (is_code l) IndentedCode
step tip (SetextHeading level) first later l = IsOverBefore
step tip (AtxHeading level content) first later l = IsOverBefore
step tip ThematicBreak first later l = IsOverBefore

-- a block that is over with its first line
unfoldable pub is_single : Kind → BlockLine → Bool
is_single (AtxHeading level content) l = true
is_single ThematicBreak l = true
is_single (HtmlBlock kind) l = ends_html kind l
is_single kind l = false

-- The last block: there is none; lines may go on with it; it is over.
pub data Tail : Type 0 where
  Empty : Tail
  Going : Stretch → Tail
  Over : Stretch → Tail

-- Some lines, cut: the blocks before the last one; the last one; whether the last line is blank; how many lines they are.
pub record Cut : Type 0 where
  pub before : List Stretch
  pub tail : Tail
  pub blank : Bool
  pub lines : ℕ

abbrev pub no_lines : Cut
no_lines = record { before = []; tail = Empty; blank = false; lines = 0 }

unfoldable pub all_of : List Stretch → Tail → List Stretch
all_of before Empty = before
all_of before (Going s) = before ++ s ∷ []
all_of before (Over s) = before ++ s ∷ []

-- all blocks of a cut
abbrev pub stretches : Cut → List Stretch
stretches cut = all_of cut.before cut.tail

abbrev pub ended : Tail → Tail
ended Empty = Empty
ended (Going s) = Over s
ended (Over s) = Over s

-- what is open at the end of a block's lines
abbrev pub tip_at : (tip : List BlockLine → Tip) → Kind → (first : BlockLine) → (later : List BlockLine) → Tip
tip_at tip (Holds container) first later = tip (inner container first later)
tip_at tip Paragraph first later = Text
tip_at tip (FencedCode indentation mark length info closed) first later = Verbatim
tip_at tip (HtmlBlock kind) first later = Verbatim
tip_at tip kind first later = Closed

unfoldable pub tip_of : (tip : List BlockLine → Tip) → Tail → Tip
tip_of tip Empty = Closed
tip_of tip (Going s) = tip_at tip s.kind s.first s.later
tip_of tip (Over s) = Closed

-- There is a gap before a block if the line just before it is blank and no content of fenced code or of an HTML block.
abbrev pub gap_behind : (tip : List BlockLine → Tip) → Cut → Bool
gap_behind tip cut = cut.blank && not (is_verbatim (tip_of tip cut.tail))

abbrev pub first_of : ℕ → Bool → BlockLine → Stretch
first_of lines gap l = record { begin = lines; gap = gap; kind = begun l; first = l; later = [] }

abbrev pub tail_of : (single : Bool) → Stretch → Tail
tail_of true s = Over s
tail_of false s = Going s

-- a line that goes on with no block: it is blank, or begins one
unfoldable pub begin_where : (blank : Bool) → (tip : List BlockLine → Tip) → Cut → BlockLine → Cut
begin_where true tip cut l = record { before = cut.before; tail = ended cut.tail; blank = true; lines = suc cut.lines }
begin_where false tip cut l = record {
  before = stretches cut;
  tail = tail_of (is_single (begun l) l) (first_of cut.lines (gap_behind tip cut) l);
  blank = false;
  lines = suc cut.lines;
}

abbrev pub begin : (tip : List BlockLine → Tip) → Cut → BlockLine → Cut
begin tip cut l = begin_where (is_blank_line l) tip cut l

abbrev pub grown : Stretch → Kind → BlockLine → Stretch
grown s kind l = record { begin = s.begin; gap = s.gap; kind = kind; first = s.first; later = s.later ++ l ∷ [] }

unfoldable pub after_step : (tip : List BlockLine → Tip) → Cut → Stretch → BlockLine → Step → Cut
after_step tip cut s l (Continues kind) = record { before = cut.before; tail = Going (grown s kind l); blank = is_blank_line l; lines = suc cut.lines }
after_step tip cut s l (IsLastLine kind) = record { before = cut.before; tail = Over (grown s kind l); blank = is_blank_line l; lines = suc cut.lines }
after_step tip cut s l IsOverBefore = begin tip cut l

unfoldable pub add_at : (tip : List BlockLine → Tip) → Cut → BlockLine → Tail → Cut
add_at tip cut l Empty = begin tip cut l
add_at tip cut l (Over s) = begin tip cut l
add_at tip cut l (Going s) = after_step tip cut s l (step tip s.kind s.first s.later l)

-- one line more
abbrev pub add : (tip : List BlockLine → Tip) → Cut → BlockLine → Cut
add tip cut l = add_at tip cut l cut.tail

unfoldable pub cut_from : (tip : List BlockLine → Tip) → Cut → List BlockLine → Cut
cut_from tip cut [] = cut
cut_from tip cut (l ∷ ls) = cut_from tip (add tip cut l) ls

abbrev pub cut_by : (tip : List BlockLine → Tip) → List BlockLine → Cut
cut_by tip ls = cut_from tip no_lines ls

-- what is open at the end of some lines, in which containers lie in one another at most so deep
unfoldable pub tip_within : (depth : ℕ) → List BlockLine → Tip
tip_within zero ls = Closed
tip_within (suc depth) ls = tip_of (tip_within depth) (cut_by (tip_within depth) ls).tail

-- some lines, cut, where the containers in them lie in one another at most so deep
abbrev pub cut_within : (depth : ℕ) → List BlockLine → Cut
cut_within depth ls = cut_by (tip_within depth) ls
