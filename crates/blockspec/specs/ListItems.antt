-- List items (CommonMark 5.2): their markers and their padding.
use Rattle.std.specs.Prelude.{ℕ, ◌+◌, Bool, not, ◌||◌, ◌&&◌, ◌==◌, nat_lt, unwrap_or, Option, Some, None, if◌then◌else◌}
use Rattle.mdscan.specs.declared.list_markers.Marker.{Marker}
use Rattle.mdscan.specs.ListMarker.{marker}
use Rattle.blockspec.specs.BlockLine.{BlockLine, indentation, rest, behind_marker, without_columns}
use Rattle.blockspec.specs.BlankLines.{is_blank_line}
use Rattle.blockspec.specs.BlockKinds.{Mode, Container, Item, Kind, Holds, is_inside}

-- The one to four columns behind the marker belong to the item; of five or more, and where nothing follows, one does.
unfoldable pub padding : (behind : BlockLine) → ℕ
padding behind = if is_blank_line behind || nat_lt 4 (indentation behind) then 1 else indentation behind

abbrev pub item_of : BlockLine → Marker → Container
item_of l m = Item m (indentation l + m.width + padding (behind_marker l m.width))

-- An item can interrupt a paragraph only if something follows the marker, and an ordered one only with the number 1.
-- Where the line does not match the containers around it that is not asked: so `2. b` follows `1. a` as its sibling.
abbrev pub may_begin_item : Mode → Marker → (behind : BlockLine) → Bool
may_begin_item mode m behind = not (is_inside mode) || (not (is_blank_line behind) && (unwrap_or m.start 1 == 1))

abbrev pub item_by : Mode → BlockLine → Option Marker → Option Kind
item_by mode l None = None
item_by mode l (Some m) = if may_begin_item mode m (behind_marker l m.width) then Some (Holds (item_of l m)) else None

abbrev pub begins_item : Mode → BlockLine → Option Kind
begins_item mode l = item_by mode l (marker (rest l))

-- an item's first line without the marker and the columns behind it that belong to the item
abbrev pub behind_padding : (behind : BlockLine) → BlockLine
behind_padding behind = without_columns behind (padding behind)
