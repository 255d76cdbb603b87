-- What a container takes of its lines (CommonMark 5.1, 5.2).
use Rattle.std.specs.Prelude.{Bool, true, false, not, ◌||◌, ◌&&◌, nat_le, List, [], ◌∷◌, map}
use Rattle.mdscan.specs.BlockQuote.{is_quote_marker}
use Rattle.blockspec.specs.BlockLine.{BlockLine, indentation, rest, without_columns, as_lazy, behind_marker}
use Rattle.blockspec.specs.BlankLines.{is_blank_line}
use Rattle.blockspec.specs.BlockKinds.{Container, Quote, Item}
use Rattle.blockspec.specs.BlockQuotes.{unquoted}
use Rattle.blockspec.specs.ListItems.{behind_padding}

-- A later line matches a quote if it has the marker, and an item if it is blank or indented by the needed columns. A
-- lazy line matches no container.
unfoldable pub matches : Container → BlockLine → Bool
matches Quote l = not l.lazy && nat_le (indentation l) 3 && is_quote_marker (rest l)
matches (Item marker needed) l = not l.lazy && (is_blank_line l || nat_le needed (indentation l))

-- what a container's first line holds
unfoldable pub opened : Container → BlockLine → BlockLine
opened Quote l = unquoted l
opened (Item marker needed) l = behind_padding (behind_marker l marker.width)

-- what a line that matches the container holds
abbrev pub taken_off : Container → BlockLine → BlockLine
taken_off Quote l = unquoted l
taken_off (Item marker needed) l = without_columns l needed

-- A later line is in the container without its marker or indentation where it matches, and else whole and lazy.
abbrev pub inside_where : (matched : Bool) → Container → BlockLine → BlockLine
inside_where true container l = taken_off container l
inside_where false container l = as_lazy l

unfoldable pub inside : Container → BlockLine → BlockLine
inside container l = inside_where (matches container l) container l

-- the lines that a container holds
abbrev pub inner : Container → (first : BlockLine) → (later : List BlockLine) → List BlockLine
inner container first later = opened container first ∷ map (inside container) later

-- an item that has nothing behind its marker, and no line more
unfoldable pub is_bare : Container → (first : BlockLine) → (later : List BlockLine) → Bool
is_bare container first [] = is_blank_line (opened container first)
is_bare container first (l ∷ ls) = false
