-- Block quotes (CommonMark 5.1).
use Rattle.std.specs.Prelude.{Option, Some, None, if◌then◌else◌}
use Rattle.mdscan.specs.BlockQuote.{is_quote_marker}
use Rattle.blockspec.specs.BlockLine.{BlockLine, rest, behind_marker, without_columns}
use Rattle.blockspec.specs.BlockKinds.{Quote, Kind, Holds}

abbrev pub begins_quote : BlockLine → Option Kind
begins_quote l = if is_quote_marker (rest l) then Some (Holds Quote) else None

-- a line of a quote without the marker, and without one column of space behind it
abbrev pub unquoted : BlockLine → BlockLine
unquoted l = without_columns (behind_marker l 1) 1
