-- Where a list may be parted, and what makes it loose there, as the summary of the lines before a line tells (CommonMark 5.3).
use Rattle.std.specs.Prelude.{Bool, false, not, ◌&&◌, List, [], ◌∷◌}
use Rattle.mdtext.specs.EntityTable.{EntityTable}
use Rattle.blockspec.specs.BlockLine.{BlockLine}
use Rattle.blockspec.specs.BlankLines.{is_blank_line}
use Rattle.blockspec.specs.BlockStart.{begun}
use Rattle.blockspec.specs.LineSummary.{Summary, summary, last_groups, summary_gap, is_apart_after, mark_of}
use Rattle.blockspec.specs.Lists.{Part, Leaves, Quoted, Listed, Group}
use Rattle.blockspec.specs.UnitBegin.{list_mark, same_mark}

-- whether a line begins a later item of the list that stands last
unfoldable pub joins_after : Summary → BlockLine → Bool
joins_after (summary before last blank lines) l = is_apart_after last l && not (is_blank_line l) && same_mark (mark_of last) (list_mark (begun l))

abbrev pub is_parted_part : Part → Bool
is_parted_part (Listed kind tight items) = not tight
is_parted_part (Leaves leaves) = false
is_parted_part (Quoted nodes) = false

-- of the groups of one block at most
abbrev pub is_parted_first : List Group → Bool
is_parted_first [] = false
is_parted_first (g ∷ gs) = is_parted_part g.part

-- whether a gap parts two blocks of the last item of the list that stands last
abbrev pub is_parted_after : EntityTable → Summary → Bool
is_parted_after entities (summary before last blank lines) = is_parted_first (last_groups entities last)

-- whether a gap is behind the lines
abbrev pub gap_in : Summary → Bool
gap_in (summary before last blank lines) = summary_gap last blank
