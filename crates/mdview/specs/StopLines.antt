-- Where the reading of an edit may stop inside a list that is held, and how many texts it has read for certain then.
use Rattle.std.specs.Prelude.{◌≡◌, ◌-◌, length, sum_by}
use Rattle.mdtext.specs.EntityTable.{EntityTable}
use Rattle.blockspec.specs.Joins.{joins}
use Rattle.mdsource.specs.Stops.{Stops, stop_line}
use Rattle.mdsource.specs.LaterTexts.{texts_of, trees_to}
use Rattle.mdview.specs.declared.source.new_text.NewText.{NewText}
use Rattle.mdview.specs.declared.blocks.reparse.Reparsed.{Reparsed}
use Rattle.mdview.specs.HeldBlocks.{old_lines, places_of}
use Rattle.mdview.specs.HeldUnit.{texts_in}
use Rattle.mdview.specs.NewText.{lines_of as new_lines}
use Rattle.mdview.specs.UnitsFound.{texts_kept, trees_found}

-- the places of an edit, and the lines at which lists of both texts may be parted
abbrev pub stops_of : EntityTable → NewText → Stops
stops_of e text = record { places = places_of e text; old_joins = joins e (old_lines text); new_joins = joins e (new_lines text) }

-- The texts of the units found but those that are kept are as many as those of the units of the lines up to where reading stops.
abbrev pub IsReadToStop : EntityTable → NewText → Reparsed → Type 0
IsReadToStop e text r =
    sum_by texts_in (trees_found r) - length (texts_kept r) ≡ length (texts_of (trees_to e (new_lines text) (stops_of e text) (stop_line (stops_of e text))))
