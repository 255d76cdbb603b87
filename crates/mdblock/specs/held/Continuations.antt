-- How a line continues what is open, and what it begins where it does not (CommonMark 4.3, 4.8, 5.1, 5.2; GFM Tables (extension)).
use Rattle.std.specs.Prelude.{◌≡◌, ℕ, Bool, true, false, not, List, [], length, drop, Option, None, IfSome}
use Rattle.std.specs.Option.{option_map}
use Rattle.mdtext.specs.Columns.{AreMarks}
use Rattle.mdleaf.specs.Tables.{begins_table}
use Rattle.blockspec.specs.BlockLine.{BlockLine, rest}
use Rattle.blockspec.specs.BlankLines.{is_blank_line}
use Rattle.blockspec.specs.BlockKinds.{Free, Inside, Paragraph, SetextHeading, Table}
use Rattle.blockspec.specs.BlockStart.{start}
use Rattle.blockspec.specs.Stretches.{Step, Continues, IsLastLine, IsOverBefore, paragraph_step}
use Rattle.mdblock.specs.held.ParagraphLines.{HoldsLines}
use Rattle.mdblock.specs.held.StartKind.{kind_of_start}
use Rattle.mdblock.specs.held.StartSpans.{IsStartOf}
use Rattle.mdblock.specs.declared.block_starts.BlockStart.{BlockStart}
use Rattle.mdblock.specs.declared.leaf.Leaf.{Leaf}
use Rattle.mdblock.specs.declared.leaf.Leaf.TheVariants as leaf
use Rattle.mdblock.specs.declared.open_blocks.Continuation.{Continuation}
use Rattle.mdblock.specs.declared.open_blocks.Continuation.TheVariants as continuation
use Rattle.mdblock.specs.declared.open_blocks.OpenBlock.{OpenBlock}
use Rattle.mdblock.specs.declared.open_blocks.OpenBlock as open_block

-- the block that a line begins where no paragraph is open, as it was found; none of a blank line and of text
abbrev pub IsBeginningOf : BlockLine → Option BlockStart → Type 0
IsBeginningOf l opening = IfSome opening (λ o. IsStartOf (rest l) o) × (option_map (kind_of_start l) opening ≡ start Free [] l)

-- The marker of a list's next item is one of the line; a line of no open block begins what was found.
abbrev pub IsContinuationOf : BlockLine → Continuation → Type 0
IsContinuationOf l continuation.Matched = Unit {0}
IsContinuationOf l (continuation.Underlines level) = Unit {0}
IsContinuationOf l continuation.Delimits = Unit {0}
IsContinuationOf l continuation.Lazy = Unit {0}
IsContinuationOf l continuation.Between = Unit {0}
IsContinuationOf l (continuation.Next marker) = AreMarks marker.width (rest l)
IsContinuationOf l (continuation.Outside opening) = IsBeginningOf l opening

-- whether the line is one of the open leaf
abbrev pub goes_on : Continuation → Bool
goes_on continuation.Matched = true
goes_on (continuation.Underlines level) = true
goes_on continuation.Delimits = true
goes_on continuation.Lazy = true
goes_on continuation.Between = false
goes_on (continuation.Next marker) = false
goes_on (continuation.Outside opening) = false

-- no line of a list, and no lazy one
abbrev pub IsOfLeaf : Continuation → Type 0
IsOfLeaf continuation.Matched = Unit {0}
IsOfLeaf (continuation.Underlines level) = Unit {0}
IsOfLeaf continuation.Delimits = Unit {0}
IsOfLeaf continuation.Lazy = ⊥
IsOfLeaf continuation.Between = ⊥
IsOfLeaf (continuation.Next marker) = ⊥
IsOfLeaf (continuation.Outside opening) = Unit {0}

-- and none that makes another block of a paragraph
abbrev pub IsPlain : Continuation → Type 0
IsPlain continuation.Matched = Unit {0}
IsPlain (continuation.Underlines level) = ⊥
IsPlain continuation.Delimits = ⊥
IsPlain continuation.Lazy = ⊥
IsPlain continuation.Between = ⊥
IsPlain (continuation.Next marker) = ⊥
IsPlain (continuation.Outside opening) = Unit {0}

-- what makes another block of a paragraph
abbrev pub IsTurn : Continuation → Type 0
IsTurn continuation.Matched = ⊥
IsTurn (continuation.Underlines level) = Unit {0}
IsTurn continuation.Delimits = Unit {0}
IsTurn continuation.Lazy = ⊥
IsTurn continuation.Between = ⊥
IsTurn (continuation.Next marker) = ⊥
IsTurn (continuation.Outside opening) = ⊥

-- what that does to a paragraph of so many lines
abbrev pub step_view : (lines : ℕ) → Continuation → Step
step_view lines continuation.Matched = Continues Paragraph
step_view lines (continuation.Underlines level) = IsLastLine (SetextHeading level)
step_view lines continuation.Delimits = Continues (Table lines)
step_view lines continuation.Lazy = Continues Paragraph
step_view lines continuation.Between = IsOverBefore
step_view lines (continuation.Next marker) = IsOverBefore
step_view lines (continuation.Outside opening) = IsOverBefore

-- Of an open paragraph it is what the definition says, and a delimiter row fits what is held of the last line. No line turns another leaf.
abbrev pub ContinuesLeaf : Leaf → BlockLine → Continuation → Type 0
ContinuesLeaf (leaf.Paragraph p) l c =
    ((lines : List BlockLine) → HoldsLines lines p → step_view (length lines) c ≡ paragraph_step l.lazy (is_blank_line l) (start Inside lines l))
    × (c ≡ continuation.Delimits → begins_table (drop p.last p.text) (rest l) ≡ true)
    × IsOfLeaf c
ContinuesLeaf (leaf.Fence f) l c = IsPlain c
ContinuesLeaf (leaf.Html h) l c = IsPlain c
ContinuesLeaf (leaf.Code k) l c = IsPlain c
ContinuesLeaf (leaf.Table t) l c = IsPlain c

-- An item goes on with a lazy line, or with a blank one, where a line has not its columns.
abbrev pub ContinuesList : BlockLine → Continuation → Type 0
ContinuesList l continuation.Matched = is_blank_line l ≡ true
ContinuesList l (continuation.Underlines level) = ⊥
ContinuesList l continuation.Delimits = ⊥
ContinuesList l continuation.Lazy = Unit {0}
ContinuesList l continuation.Between = Unit {0}
ContinuesList l (continuation.Next marker) = Unit {0}
ContinuesList l (continuation.Outside opening) = Unit {0}

abbrev pub ContinuesOpen : OpenBlock → BlockLine → Continuation → Type 0
ContinuesOpen open_block.Shut l c = Unit {0}
ContinuesOpen (open_block.Leaf held) l c = ContinuesLeaf held l c
ContinuesOpen (open_block.Quote' p over last in_item begun blank spaced) l c = Unit {0}
ContinuesOpen (open_block.List' p over last in_item begun blank spaced list) l c = ContinuesList l c

-- what a line of no open block begins
abbrev pub opening_of : Continuation → Option BlockStart
opening_of continuation.Matched = None
opening_of (continuation.Underlines level) = None
opening_of continuation.Delimits = None
opening_of continuation.Lazy = None
opening_of continuation.Between = None
opening_of (continuation.Next marker) = None
opening_of (continuation.Outside opening) = opening

-- whether it begins the next item of a list
abbrev pub begins_item : Continuation → Bool
begins_item continuation.Matched = false
begins_item (continuation.Underlines level) = false
begins_item continuation.Delimits = false
begins_item continuation.Lazy = false
begins_item continuation.Between = false
begins_item (continuation.Next marker) = true
begins_item (continuation.Outside opening) = false

-- Whether it begins a block, which no list holds: at the outermost level a unit.
abbrev pub begins_block : Continuation → BlockLine → Bool
begins_block continuation.Matched l = false
begins_block (continuation.Underlines level) l = false
begins_block continuation.Delimits l = false
begins_block continuation.Lazy l = false
begins_block continuation.Between l = false
begins_block (continuation.Next marker) l = false
begins_block (continuation.Outside opening) l = not (is_blank_line l)
