-- How a line that has not the marker or the indentation of an open container continues it, as the summary of its lines tells (CommonMark 5.1, 5.2).
use Rattle.std.specs.Prelude.{◌≡◌, ℕ, Bool, true, false, not, ◌&&◌, nat_le, Option, Some}
use Rattle.mdtext.specs.EntityTable.{EntityTable}
use Rattle.mdscan.specs.declared.list_markers.Marker.{Marker}
use Rattle.blockspec.specs.BlockLine.{BlockLine, indentation}
use Rattle.blockspec.specs.BlankLines.{is_blank_line}
use Rattle.blockspec.specs.BlockKinds.{Quote, Item}
use Rattle.blockspec.specs.BlockTree.{ListKind}
use Rattle.blockspec.specs.ContainerLines.{matches}
use Rattle.blockspec.specs.LineSummary.{Summary, open_container, ended_block}
use Rattle.blockspec.specs.Lists.{Listed, kind_of}
use Rattle.blockspec.specs.NodeTree.{ItemNodes}
use Rattle.blockspec.specs.UnitBegin.{same_mark}
use Rattle.mdblock.specs.BlockView.{kind_view}
use Rattle.mdblock.specs.held.HeldLevel.{StandsFor, IsLazyRight}
use Rattle.mdblock.specs.held.LinesAdded.{ContinuesLast, ContinuesLevel}
use Rattle.mdblock.specs.declared.container.lists.OpenList.{OpenList}
use Rattle.mdblock.specs.declared.open_blocks.Continuation.{Continuation}
use Rattle.mdblock.specs.declared.open_blocks.Level.{Level}
use Rattle.mdblock.specs.declared.open_blocks.OpenBlock as open_block

-- of any level where no block is open
abbrev pub ContinuesShut : BlockLine → Continuation → Type 0
ContinuesShut l c = (level : Level) → level.last ≡ open_block.Shut → ContinuesLevel level l c

-- of a block quote that holds this level
abbrev pub ContinuesInQuote : Level → BlockLine → Continuation → Type 0
ContinuesInQuote inner l c =
    (entities : EntityTable) (at : ℕ) (in_item : Bool) (s : Summary) (begin : ℕ) (gap bare : Bool)
    → StandsFor entities at in_item inner s → IsLazyRight s l → matches Quote l ≡ false
    → ContinuesLast (open_container begin gap bare Quote s) l c

-- items of both kinds are in one list with the same others
abbrev pub IsOneList : (one other : ListKind) → Type 0
IsOneList one other = (m : Option ListKind) → same_mark (Some one) m ≡ same_mark (Some other) m

-- the line has not the indentation of the list's open item
abbrev pub IsOutsideItem : OpenList → BlockLine → Type 0
IsOutsideItem list l = (list.item_open && not l.lazy && not (is_blank_line l) && nat_le list.needed (indentation l)) ≡ false

-- of a list, whose last item holds this level where it is open
abbrev pub ContinuesInItem : Level → OpenList → BlockLine → Continuation → Type 0
ContinuesInItem inner list l c =
    (entities : EntityTable) (at : ℕ) (in_item : Bool) (s : Summary) (marker : Marker) (begin : ℕ) (gap bare : Bool)
    → StandsFor entities at in_item inner s → IsLazyRight s l → list.item_open ≡ true → bare ≡ not inner.begun
    → IsOneList (kind_view list.kind) (kind_of marker) → IsOutsideItem list l
    → ContinuesLast (open_container begin gap bare (Item marker list.needed) s) l c

abbrev pub ContinuesBetween : OpenList → BlockLine → Continuation → Type 0
ContinuesBetween list l c =
    (begin : ℕ) (gap tight : Bool) (kind : ListKind) (items : ItemNodes)
    → list.item_open ≡ false → l.lazy ≡ false → IsOneList (kind_view list.kind) kind
    → ContinuesLast (ended_block (record { begin = begin; gap = gap; part = Listed kind tight items })) l c
