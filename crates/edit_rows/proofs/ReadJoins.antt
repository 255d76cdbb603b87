-- Where a list may be parted, and where the reading of an edit stops, with every word of the definitions open, so that rows of them compute.
use Rattle.std.specs.Prelude.{ℕ, Bool, List, map}
use Rattle.mdtext.specs.EntityTable.{builtin_table}
use Rattle.blockspec.specs.BlockLine.{document_line}
use Rattle.block_rows.proofs.ReadText.{deep_line}
use Rattle.inline_rows.specs.Opened.{inline_words}
use Rattle.blockspec.specs.BlockUnits.{units}
use Rattle.blockspec.specs.TopBlocks.{with_item, tops_of, top_blocks}
use Rattle.blockspec.specs.ItemMarks.{ItemMark, item_marks, list_marks}
use Rattle.blockspec.specs.Joins.{Join, block_joins}
use Rattle.mdsource.specs.Setting.{Setting, Source}
use Rattle.mdsource.specs.Calls.{Call}
use Rattle.mdsource.specs.Stretch.{from_line, meeting_line}
use Rattle.mdsource.specs.Stops.{near_line, stop_line, stops, lines_soon}
use Rattle.mdsource.specs.SoonTexts.{texts_soon}
use Rattle.mdsource.specs.UnitItems.{own_joins}

-- what a row says of an edit: the first line read, the first behind the edit at which a unit begins in both texts, the first at which a later item does, where reading stops, and how many lines and inline texts are read
pub record Facts : Type 0 where
  pub from : ℕ
  pub meet : ℕ
  pub near : ℕ
  pub stop : ℕ
  pub lines : ℕ
  pub texts : ℕ

abbrev pub facts : (from meet near stop lines texts : ℕ) → Facts
facts from meet near stop lines texts = record { from = from; meet = meet; near = near; stop = stop; lines = lines; texts = texts }

abbrev pub join : (line texts : ℕ) → Join
join line texts = record { line = line; texts = texts }

abbrev pub mark : (line texts definitions : ℕ) → (loose : Bool) → ItemMark
mark line texts definitions loose = record { line = line; texts = texts; definitions = definitions; loose = loose }

unfoldable pub stops_read : Setting → Source → Call → Facts
unfolding deep_line inline_words tops_of with_item
stops_read setting source call =
    let s = stops setting source call in
    facts (from_line s.places) (meeting_line s.places) (near_line s) (stop_line s) (lines_soon setting source call) (texts_soon setting source call)

-- the later items of each top-level block of some lines
unfoldable pub joins_read : List (List ℕ) → List (List Join)
unfolding deep_line tops_of with_item
joins_read lines = map block_joins (top_blocks builtin_table (map document_line lines))

-- the later items of all lists of some lines, with what stands before each
unfoldable pub marks_read : List (List ℕ) → List ItemMark
unfolding deep_line tops_of with_item item_marks
marks_read lines = list_marks builtin_table (map document_line lines)

-- the lines at which each unit of some lines may be parted, counted from its first one
unfoldable pub own_read : List (List ℕ) → List (List ℕ)
unfolding deep_line tops_of with_item item_marks
own_read lines = map (own_joins builtin_table lines) (units builtin_table lines)
