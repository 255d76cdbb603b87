-- What has to be kept of some lines so that one line more can be read: the blocks that are over, as what they give, where
-- items are joined to lists as they come; and the last one. Of a container nothing is kept but the same of what it holds.
use Rattle.std.specs.Prelude.{ℕ, zero, suc, Bool, true, false, not, ◌&&◌, List, [], ◌∷◌, map, Option, Some, None}
use Rattle.mdtext.specs.EntityTable.{EntityTable}
use Rattle.blockspec.specs.BlockLine.{BlockLine}
use Rattle.blockspec.specs.BlankLines.{is_blank_line}
use Rattle.blockspec.specs.BlockKinds.{Container, Kind, Holds}
use Rattle.blockspec.specs.BlockStart.{begun}
use Rattle.blockspec.specs.BlockUnits.{container_part, group_of, groups_within, depth_of}
use Rattle.blockspec.specs.ContainerLines.{opened, inside, inner, is_bare}
use Rattle.blockspec.specs.Laziness.{Tip, Closed, is_verbatim}
use Rattle.blockspec.specs.BlockTree.{ListKind}
use Rattle.blockspec.specs.Lists.{Part, Leaves, Quoted, Listed, Group, grouped, merged}
use Rattle.blockspec.specs.OpenLeaf.{OpenLeaf, open_tip, open_leaves, leaf_from, NextLeaf, ContinuesAs, EndsAs, EndedBefore, next_leaf, is_parted}
use Rattle.blockspec.specs.UnitBegin.{list_mark, same_mark}
use Rattle.blockspec.specs.Stretches.{Stretch, goes_on, is_single, Tail, Empty, Going, Over, Cut, first_of, cut_within}

mutual
  pub data Summary : Type 0 where
    summary : (before : List Group) → (last : Last) → (blank : Bool) → (lines : ℕ) → Summary

  pub data Last : Type 0 where
    nothing_yet : Last
    ended_block : Group → Last
    open_leaf : (begin : ℕ) → (gap : Bool) → OpenLeaf → Last
    open_container : (begin : ℕ) → (gap bare : Bool) → Container → Summary → Last

abbrev pub no_summary : Summary
no_summary = summary [] nothing_yet false 0

abbrev pub last_in : Summary → Last
last_in (summary before last blank lines) = last

-- what is open at the end of the lines
unfoldable mutual
  pub summary_tip : Summary → Tip
  summary_tip (summary before last blank lines) = last_tip last

  pub last_tip : Last → Tip
  last_tip nothing_yet = Closed
  last_tip (ended_block g) = Closed
  last_tip (open_leaf begin gap leaf) = open_tip leaf
  last_tip (open_container begin gap bare container inner) = summary_tip inner

abbrev pub leaf_group : EntityTable → (begin : ℕ) → (gap : Bool) → OpenLeaf → Group
leaf_group entities begin gap leaf = record { begin = begin; gap = gap; part = Leaves (open_leaves entities leaf) }

abbrev pub container_group : (begin : ℕ) → (gap : Bool) → Container → List Group → Group
container_group begin gap container groups = record { begin = begin; gap = gap; part = container_part container groups }

-- what the lines give
unfoldable mutual
  pub closed : EntityTable → Summary → List Group
  closed entities (summary before last blank lines) = merged before (last_groups entities last)

  pub last_groups : EntityTable → Last → List Group
  last_groups entities nothing_yet = []
  last_groups entities (ended_block g) = g ∷ []
  last_groups entities (open_leaf begin gap leaf) = leaf_group entities begin gap leaf ∷ []
  last_groups entities (open_container begin gap bare container inner) = container_group begin gap container (closed entities inner) ∷ []

unfoldable pub ended_last : EntityTable → Last → Last
ended_last entities nothing_yet = nothing_yet
ended_last entities (ended_block g) = ended_block g
ended_last entities (open_leaf begin gap leaf) = ended_block (leaf_group entities begin gap leaf)
ended_last entities (open_container begin gap bare container inner) = ended_block (container_group begin gap container (closed entities inner))

-- a block that begins with this line, where `more` reads one line more in a container
unfoldable pub new_last : EntityTable → (more : Summary → BlockLine → Summary) → (single : Bool) → Kind → Stretch → Last
new_last entities more single (Holds container) s =
    open_container s.begin s.gap (is_blank_line (opened container s.first)) container (more no_summary (opened container s.first))
new_last entities more true kind s = ended_block (leaf_group entities s.begin s.gap (leaf_from kind s.first []))
new_last entities more false kind s = open_leaf s.begin s.gap (leaf_from kind s.first [])

abbrev pub summary_gap : Last → (blank : Bool) → Bool
summary_gap last blank = blank && not (is_verbatim (last_tip last))

-- a line that goes on with no block
unfoldable pub begin_after : EntityTable → (more : Summary → BlockLine → Summary) → (blank_line : Bool) → Summary → BlockLine → Summary
begin_after entities more true (summary before last blank lines) l = summary before (ended_last entities last) true (suc lines)
begin_after entities more false (summary before last blank lines) l =
    summary (merged before (last_groups entities last))
    (new_last entities more (is_single (begun l) l) (begun l) (first_of lines (summary_gap last blank) l)) false (suc lines)

-- a line of the last block, which it makes this
unfoldable pub last_grown : Summary → Last → BlockLine → Summary
last_grown (summary before last blank lines) grown l = summary before grown (is_blank_line l) (suc lines)

unfoldable pub leaf_after : EntityTable → (more : Summary → BlockLine → Summary) → (begin : ℕ) → (gap : Bool) → NextLeaf → Summary → BlockLine → Summary
leaf_after entities more begin gap (ContinuesAs next) s l = last_grown s (open_leaf begin gap next) l
leaf_after entities more begin gap (EndsAs next) s l = last_grown s (ended_block (leaf_group entities begin gap next)) l
leaf_after entities more begin gap EndedBefore s l = begin_after entities more (is_blank_line l) s l

unfoldable pub container_after : EntityTable → (more : Summary → BlockLine → Summary) → (takes : Bool) → (begin : ℕ) → (gap : Bool) → Container
    → (inner s : Summary) → BlockLine → Summary
container_after entities more true begin gap container inner s l = last_grown s (open_container begin gap false container (more inner (inside container l))) l
container_after entities more false begin gap container inner s l = begin_after entities more (is_blank_line l) s l

-- a line behind this last block
unfoldable pub last_after : EntityTable → (more : Summary → BlockLine → Summary) → Last → Summary → BlockLine → Summary
last_after entities more nothing_yet s l = begin_after entities more (is_blank_line l) s l
last_after entities more (ended_block g) s l = begin_after entities more (is_blank_line l) s l
last_after entities more (open_leaf begin gap leaf) s l = leaf_after entities more begin gap (next_leaf leaf l) s l
last_after entities more (open_container begin gap bare container inner) s l =
    container_after entities more (goes_on container bare (summary_tip inner) l) begin gap container inner s l

-- one line more, in containers that lie in one another at most so deep
unfoldable pub line_added : EntityTable → (depth : ℕ) → Summary → BlockLine → Summary
line_added entities zero s l = no_summary
line_added entities (suc depth) s l = last_after entities (line_added entities depth) (last_in s) s l

-- the summary of some lines
unfoldable pub last_at : (below : List BlockLine → Summary) → Kind → Stretch → Last
last_at below (Holds container) s = open_container s.begin s.gap (is_bare container s.first s.later) container (below (inner container s.first s.later))
last_at below kind s = open_leaf s.begin s.gap (leaf_from kind s.first s.later)

unfoldable pub last_of : EntityTable → (inside : List BlockLine → List Group) → (below : List BlockLine → Summary) → Tail → Last
last_of entities inside below Empty = nothing_yet
last_of entities inside below (Going s) = last_at below s.kind s
last_of entities inside below (Over s) = ended_block (group_of entities inside s)

abbrev pub summary_by : EntityTable → (inside : List BlockLine → List Group) → (below : List BlockLine → Summary) → Cut → Summary
summary_by entities inside below cut =
    summary (grouped (map (group_of entities inside) cut.before)) (last_of entities inside below cut.tail) cut.blank cut.lines

unfoldable pub summary_within : EntityTable → (depth : ℕ) → List BlockLine → Summary
summary_within entities zero ls = no_summary
summary_within entities (suc depth) ls = summary_by entities (groups_within entities depth) (summary_within entities depth) (cut_within depth ls)

-- the summary of some lines, as deep as they need
abbrev pub summary_of : EntityTable → List BlockLine → Summary
summary_of entities ls = summary_within entities (depth_of ls) ls

-- whether a line goes on with no block
unfoldable pub is_apart_after : Last → BlockLine → Bool
is_apart_after nothing_yet l = true
is_apart_after (ended_block g) l = true
is_apart_after (open_leaf begin gap leaf) l = is_parted (next_leaf leaf l)
is_apart_after (open_container begin gap bare container inner) l = not (goes_on container bare (summary_tip inner) l)

abbrev pub part_mark : Part → Option ListKind
part_mark (Leaves leaves) = None
part_mark (Quoted nodes) = None
part_mark (Listed kind tight items) = Some kind

-- the list of the last block, if it is an item
unfoldable pub mark_of : Last → Option ListKind
mark_of nothing_yet = None
mark_of (ended_block g) = part_mark g.part
mark_of (open_leaf begin gap leaf) = None
mark_of (open_container begin gap bare container inner) = list_mark (Holds container)

-- whether a line begins a unit behind the lines of a summary
unfoldable pub begins_after : Summary → BlockLine → Bool
begins_after (summary before last blank lines) l =
    is_apart_after last l && not (is_blank_line l) && not (same_mark (mark_of last) (list_mark (begun l)))
