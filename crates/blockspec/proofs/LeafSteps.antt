-- What is known of the leaves of a cut, line by line.
use Rattle.std.proofs.Common.{◌≡◌, ℕ, ◌≤◌, Bool, true, false, List, [], ◌∷◌, ◌++◌, length, Option, Some, None, refl, arith, nat_lt}
use Rattle.std.proofs.lemmas.List.{length-append}
use Rattle.blockspec.specs.BlockLine.{BlockLine}
use Rattle.blockspec.specs.BlankLines.{is_blank_line}
use Rattle.blockspec.specs.BlockKinds.{Mode, Free, Inside, is_inside, Container, Kind, Paragraph, SetextHeading, Table, AtxHeading, ThematicBreak, FencedCode, IndentedCode, HtmlBlock, Holds}
use Rattle.blockspec.specs.BlockStart.{start, begun}
use Rattle.blockspec.specs.Laziness.{Tip}
use Rattle.blockspec.specs.ContainerLines.{inner, is_bare}
use Rattle.blockspec.specs.Stretches.{Stretch, Step, Continues, IsLastLine, IsOverBefore, continues_if, goes_on, closes, ends_html, is_row, is_code, fence_step, html_step, interrupted, paragraph_step, step, is_single, Tail, Empty, Going, Over, Cut, ended, gap_behind, first_of, tail_of, begin_where, after_step, add_at, add, cut_from}
use Rattle.blockspec.proofs.StartKinds.{Kinds, IfBegun, start_kinds, begun_kinds}

-- ---- a leaf stays one

abbrev pub IsLeaf : Kind → Type 0
IsLeaf (Holds container) = ⊥
IsLeaf Paragraph = Unit {0}
IsLeaf (SetextHeading level) = Unit {0}
IsLeaf (Table above) = Unit {0}
IsLeaf (AtxHeading level content) = Unit {0}
IsLeaf ThematicBreak = Unit {0}
IsLeaf (FencedCode i m n info c) = Unit {0}
IsLeaf IndentedCode = Unit {0}
IsLeaf (HtmlBlock kind) = Unit {0}

-- a kind is a container or a leaf
pub data Sort : Kind → Type 0 where
  is_container : {c : Container} → Sort (Holds c)
  is_leaf : {k : Kind} → IsLeaf k → Sort k

pub sort_of : (k : Kind) → Sort k
sort_of (Holds c) = is_container
sort_of Paragraph = is_leaf tt
sort_of (SetextHeading level) = is_leaf tt
sort_of (Table above) = is_leaf tt
sort_of (AtxHeading level content) = is_leaf tt
sort_of ThematicBreak = is_leaf tt
sort_of (FencedCode i m n info c) = is_leaf tt
sort_of IndentedCode = is_leaf tt
sort_of (HtmlBlock kind) = is_leaf tt

abbrev pub LeafStep : Step → Type 0
LeafStep (Continues kind) = IsLeaf kind
LeafStep (IsLastLine kind) = IsLeaf kind
LeafStep IsOverBefore = Unit {0}

takes_leaf : (b : Bool) (k : Kind) → IsLeaf k → LeafStep (continues_if b k)
takes_leaf true k w = w
takes_leaf false k w = tt

fence_leaf : (b : Bool) (i m n : ℕ) (info : List ℕ) → LeafStep (fence_step b (FencedCode i m n info))
fence_leaf true i m n info = tt
fence_leaf false i m n info = tt

leaf_of_html : (blank ends : Bool) (kind : ℕ) → LeafStep (html_step blank ends kind)
leaf_of_html true ends kind = takes_leaf (nat_lt kind 6) (HtmlBlock kind) tt
leaf_of_html false true kind = tt
leaf_of_html false false kind = tt

interrupted_leaf : (k : Option Kind) → LeafStep (interrupted k)
interrupted_leaf None = tt
interrupted_leaf (Some (SetextHeading level)) = tt
interrupted_leaf (Some (Table above)) = tt
interrupted_leaf (Some (Holds container)) = tt
interrupted_leaf (Some Paragraph) = tt
interrupted_leaf (Some (AtxHeading level content)) = tt
interrupted_leaf (Some ThematicBreak) = tt
interrupted_leaf (Some (FencedCode i m n info c)) = tt
interrupted_leaf (Some IndentedCode) = tt
interrupted_leaf (Some (HtmlBlock kind)) = tt

leaf_of_paragraph : (lazy blank : Bool) (k : Option Kind) → LeafStep (paragraph_step lazy blank k)
leaf_of_paragraph true blank k = tt
leaf_of_paragraph false true k = tt
leaf_of_paragraph false false k = interrupted_leaf k

pub step_leaf : (T : List BlockLine → Tip) (k : Kind) (f : BlockLine) (r : List BlockLine) (l : BlockLine) → IsLeaf k → LeafStep (step T k f r l)
unfolding step
step_leaf T (Holds container) f r l w = absurd w
step_leaf T (FencedCode i m n info c) f r l w = fence_leaf (closes m n l) i m n info
step_leaf T (HtmlBlock kind) f r l w = leaf_of_html (is_blank_line l) (ends_html kind l) kind
step_leaf T Paragraph f r l w = leaf_of_paragraph l.lazy (is_blank_line l) (start Inside (f ∷ r) l)
step_leaf T (Table above) f r l w = takes_leaf (is_row l) (Table above) tt
step_leaf T IndentedCode f r l w = takes_leaf (is_code l) IndentedCode tt
step_leaf T (SetextHeading level) f r l w = tt
step_leaf T (AtxHeading level content) f r l w = tt
step_leaf T ThematicBreak f r l w = tt

-- ---- a table has its first two rows, and fenced code that lines may go on with has no closing fence

abbrev pub IsMade : Kind → (later : List BlockLine) → Type 0
IsMade (Table above) later = (1 ≤ above) × (above ≤ length later)
IsMade (FencedCode i m n info closed) later = closed ≡ false
IsMade Paragraph later = Unit {0}
IsMade (SetextHeading level) later = Unit {0}
IsMade (AtxHeading level content) later = Unit {0}
IsMade ThematicBreak later = Unit {0}
IsMade IndentedCode later = Unit {0}
IsMade (HtmlBlock kind) later = Unit {0}
IsMade (Holds container) later = Unit {0}

abbrev StepMade : (later : List BlockLine) → Step → Type 0
StepMade later (Continues kind) = IsMade kind later
StepMade later (IsLastLine kind) = Unit {0}
StepMade later IsOverBefore = Unit {0}

takes_made : (later : List BlockLine) (b : Bool) (k : Kind) → IsMade k later → StepMade later (continues_if b k)
takes_made later true k w = w
takes_made later false k w = tt

fence_made : (later : List BlockLine) (b : Bool) (i m n : ℕ) (info : List ℕ) → StepMade later (fence_step b (FencedCode i m n info))
fence_made later true i m n info = tt
fence_made later false i m n info = refl

html_made : (later : List BlockLine) (blank ends : Bool) (kind : ℕ) → StepMade later (html_step blank ends kind)
html_made later true ends kind = takes_made later (nat_lt kind 6) (HtmlBlock kind) tt
html_made later false true kind = tt
html_made later false false kind = tt

interrupted_made : (later : List BlockLine) (k : Option Kind) → IfBegun (λ z. IsMade z later) k → StepMade later (interrupted k)
interrupted_made later None w = tt
interrupted_made later (Some (SetextHeading level)) w = tt
interrupted_made later (Some (Table above)) w = w
interrupted_made later (Some (Holds container)) w = tt
interrupted_made later (Some Paragraph) w = tt
interrupted_made later (Some (AtxHeading level content)) w = tt
interrupted_made later (Some ThematicBreak) w = tt
interrupted_made later (Some (FencedCode i m n info c)) w = tt
interrupted_made later (Some IndentedCode) w = tt
interrupted_made later (Some (HtmlBlock kind)) w = tt

paragraph_made : (later : List BlockLine) (lazy blank : Bool) (k : Option Kind) → IfBegun (λ z. IsMade z later) k → StepMade later (paragraph_step lazy blank k)
paragraph_made later true blank k w = tt
paragraph_made later false true k w = tt
paragraph_made later false false k w = interrupted_made later k w

-- a block that a line begins, if the rows of a table are there
kinds_made : (later : List BlockLine) (mode : Mode) (p : List BlockLine) (l : BlockLine) → (is_inside mode ≡ true → IsMade (Table (length p)) later) →
    Kinds (λ z. IsMade z later) mode p l
kinds_made later mode p l w = record {
  quote = tt;
  atx = λ level content. tt;
  fence = λ i m n info. refl;
  html = λ kind. tt;
  underline = λ level. tt;
  break = tt;
  item = λ m e. tt;
  rows = w;
  code = tt;
}

-- behind a paragraph, or where none is open
next_made : (f : BlockLine) (r : List BlockLine) (l : BlockLine) → Kinds (λ z. IsMade z (r ++ l ∷ [])) Inside (f ∷ r) l
next_made f r l = kinds_made (r ++ l ∷ []) Inside (f ∷ r) l (λ e. (omega arith, let p = length-append r (l ∷ []) in omega (arith, p)))

begins_made : (l : BlockLine) → Kinds (λ z. IsMade z []) Free [] l
begins_made l = kinds_made [] Free [] l (λ e. absurd (let x : ⊥ = cc in x))

pub begun_made : (l : BlockLine) → IsMade (begun l) []
begun_made l = begun_kinds (λ z. IsMade z []) l (begins_made l) tt

step_made : (T : List BlockLine → Tip) (k : Kind) (f : BlockLine) (r : List BlockLine) (l : BlockLine) → IsMade k r → StepMade (r ++ l ∷ []) (step T k f r l)
unfolding step
step_made T (Holds container) f r l w = takes_made (r ++ l ∷ []) (goes_on container (is_bare container f r) (T (inner container f r)) l) (Holds container) tt
step_made T (FencedCode i m n info c) f r l w = fence_made (r ++ l ∷ []) (closes m n l) i m n info
step_made T (HtmlBlock kind) f r l w = html_made (r ++ l ∷ []) (is_blank_line l) (ends_html kind l) kind
step_made T Paragraph f r l w =
    paragraph_made (r ++ l ∷ []) l.lazy (is_blank_line l) (start Inside (f ∷ r) l) (start_kinds (λ z. IsMade z (r ++ l ∷ [])) Inside (f ∷ r) l (next_made f r l))
step_made T (Table above) f r l w = takes_made (r ++ l ∷ []) (is_row l) (Table above) (w.0, let p = length-append r (l ∷ []) in omega (arith, p, w.1))
step_made T IndentedCode f r l w = takes_made (r ++ l ∷ []) (is_code l) IndentedCode tt
step_made T (SetextHeading level) f r l w = tt
step_made T (AtxHeading level content) f r l w = tt
step_made T ThematicBreak f r l w = tt

abbrev pub TailMade : Tail → Type 0
TailMade Empty = Unit {0}
TailMade (Going s) = IsMade s.kind s.later
TailMade (Over s) = Unit {0}

ended_made : (t : Tail) → TailMade (ended t)
ended_made Empty = tt
ended_made (Going s) = tt
ended_made (Over s) = tt

single_made : (b : Bool) (m : ℕ) (g : Bool) (l : BlockLine) → TailMade (tail_of b (first_of m g l))
single_made true m g l = tt
single_made false m g l = begun_made l

begin_made : (T : List BlockLine → Tip) (c : Cut) (l : BlockLine) (blank : Bool) → TailMade (begin_where blank T c l).tail
unfolding begin_where
begin_made T c l true = ended_made c.tail
begin_made T c l false = single_made (is_single (begun l) l) c.lines (gap_behind T c) l

after_made : (T : List BlockLine → Tip) (c : Cut) (s : Stretch) (l : BlockLine) (st : Step) → StepMade (s.later ++ l ∷ []) st → TailMade (after_step T c s l st).tail
unfolding after_step
after_made T c s l (Continues kind) w = w
after_made T c s l (IsLastLine kind) w = tt
after_made T c s l IsOverBefore w = begin_made T c l (is_blank_line l)

add_made : (T : List BlockLine → Tip) (c : Cut) (l : BlockLine) (t : Tail) → TailMade t → TailMade (add_at T c l t).tail
unfolding add_at
add_made T c l Empty w = begin_made T c l (is_blank_line l)
add_made T c l (Over s) w = begin_made T c l (is_blank_line l)
add_made T c l (Going s) w = after_made T c s l (step T s.kind s.first s.later l) (step_made T s.kind s.first s.later l w)

pub cut_made : (T : List BlockLine → Tip) (c : Cut) (xs : List BlockLine) → TailMade c.tail → TailMade (cut_from T c xs).tail
unfolding cut_from
cut_made T c [] w = w
cut_made T c (x ∷ xs) w = cut_made T (add T c x) xs (add_made T c x c.tail w)
