-- What block some lines are (CommonMark 4, 5; GFM Tables (extension)), and where a line is tested for the beginning of one.
use Rattle.std.specs.Prelude.{ℕ, Bool, true, false, List}
use Rattle.mdscan.specs.declared.list_markers.Marker.{Marker}

-- Where a line is tested: no paragraph is open; a paragraph is open and the line matches all containers around it; a
-- paragraph is open in a container that the line does not match.
pub data Mode : Type 0 where
  Free : Mode
  Inside : Mode
  Lazy : Mode

-- A block quote, or a list item with its marker and the columns that its later lines need (CommonMark 5.1, 5.2).
pub data Container : Type 0 where
  Quote : Container
  Item : Marker → (needed : ℕ) → Container

-- What block some lines are, with what is found at its first line, its underline or its delimiter row.
pub data Kind : Type 0 where
  Paragraph : Kind
  SetextHeading : (level : ℕ) → Kind
  -- the delimiter row stands behind so many lines, the last of which is the header row
  Table : (above : ℕ) → Kind
  AtxHeading : (level : ℕ) (content : List ℕ) → Kind
  ThematicBreak : Kind
  -- the indentation, the mark, how many of it and the info string of the opening fence; and whether a closing one came
  FencedCode : (indentation mark length : ℕ) (info : List ℕ) (closed : Bool) → Kind
  IndentedCode : Kind
  HtmlBlock : (kind : ℕ) → Kind
  Holds : Container → Kind

abbrev pub is_free : Mode → Bool
is_free Free = true
is_free Inside = false
is_free Lazy = false

abbrev pub is_inside : Mode → Bool
is_inside Free = false
is_inside Inside = true
is_inside Lazy = false
