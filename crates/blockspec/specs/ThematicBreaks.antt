-- Thematic breaks (CommonMark 4.1).
use Rattle.std.specs.Prelude.{Option, Some, None, if◌then◌else◌}
use Rattle.mdscan.specs.ThematicBreak.{is_thematic_break}
use Rattle.blockspec.specs.BlockLine.{BlockLine, rest}
use Rattle.blockspec.specs.BlockKinds.{Kind, ThematicBreak}

-- It is tried before a list item.
abbrev pub begins_break : BlockLine → Option Kind
begins_break l = if is_thematic_break (rest l) then Some ThematicBreak else None
