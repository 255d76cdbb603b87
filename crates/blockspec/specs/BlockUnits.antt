-- The blocks of the lines of a document, as units: a top-level block each, where a whole list is one, and so is all that
-- comes of one paragraph's lines (CommonMark 3, 4, 5).
use Rattle.std.specs.Prelude.{ℕ, zero, suc, ◌+◌, ◌-◌, List, [], ◌∷◌, length, map, if◌then◌else◌}
use Rattle.std.specs.List.{flat_map}
use Rattle.mdtext.specs.EntityTable.{EntityTable}
use Rattle.mdscan.specs.Blanks.{is_blank}
use Rattle.mdleaf.specs.DefinedLinks.{LinkDefinition}
use Rattle.blockspec.specs.BlockLine.{BlockLine, document_line}
use Rattle.blockspec.specs.BlockKinds.{Container, Quote, Item, Kind, Holds}
use Rattle.blockspec.specs.ContainerLines.{inner}
use Rattle.blockspec.specs.LeafContents.{leaves_of}
use Rattle.blockspec.specs.Lists.{Part, Leaves, Quoted, Listed, Group, kind_of, grouped, is_tight_inside, nodes_of, part_before}
use Rattle.blockspec.specs.NodeTree.{no_nodes, no_item_nodes, item_node, unit_of}
use Rattle.blockspec.specs.Stretches.{Stretch, stretches, cut_within}
use Rattle.blockspec.specs.TaskListItems.{with_task}
use Rattle.blockspec.specs.UnitTree.{FoundUnit}

-- what a container gives that holds these
unfoldable pub container_part : Container → List Group → Part
container_part Quote groups = Quoted (nodes_of groups)
container_part (Item marker needed) groups = Listed (kind_of marker) (is_tight_inside groups) (item_node (with_task (nodes_of groups)) no_item_nodes)

abbrev pub part_at : EntityTable → (inside : List BlockLine → List Group) → Kind → (first : BlockLine) → (later : List BlockLine) → Part
part_at entities inside (Holds container) first later = container_part container (inside (inner container first later))
part_at entities inside kind first later = Leaves (leaves_of entities kind first later)

-- what a stretch gives, where `inside` tells what a container's lines give
abbrev pub group_of : EntityTable → (inside : List BlockLine → List Group) → Stretch → Group
group_of entities inside s = record { begin = s.begin; gap = s.gap; part = part_at entities inside s.kind s.first s.later }

-- what some lines give, in which containers lie in one another at most so deep
unfoldable pub groups_within : EntityTable → (depth : ℕ) → List BlockLine → List Group
groups_within entities zero ls = []
groups_within entities (suc depth) ls = grouped (map (group_of entities (groups_within entities depth)) (stretches (cut_within depth ls)))

-- how many characters other than spaces and tabs are in a text, and in some lines
unfoldable pub visible : List ℕ → ℕ
visible [] = 0
visible (b ∷ bs) = if is_blank b then visible bs else suc (visible bs)

unfoldable pub visible_in : List BlockLine → ℕ
visible_in [] = 0
visible_in (l ∷ ls) = visible l.line.text + visible_in ls

-- Each container has a marker of its own, so containers lie in one another no deeper than lines have such characters.
abbrev pub depth_of : List BlockLine → ℕ
depth_of ls = suc (visible_in ls)

abbrev pub groups : EntityTable → List BlockLine → List Group
groups entities ls = groups_within entities (depth_of ls) ls

-- a unit reaches to the next one's first line, or to the end of so many lines
abbrev pub next_begin : List Group → (lines : ℕ) → ℕ
next_begin [] lines = lines
next_begin (g ∷ gs) lines = g.begin

unfoldable pub found_units : List Group → (lines : ℕ) → List FoundUnit
found_units [] lines = []
found_units (g ∷ gs) lines =
    record { begin = g.begin; lines = next_begin gs lines - g.begin; unit = unit_of (part_before g.part no_nodes) } ∷ found_units gs lines

-- the units of a document's lines
abbrev pub units : EntityTable → (lines : List (List ℕ)) → List FoundUnit
units entities lines = found_units (groups entities (map document_line lines)) (length lines)

-- the first lines of the units
abbrev pub begins : EntityTable → (lines : List (List ℕ)) → List ℕ
begins entities lines = map (λ found. found.begin) (units entities lines)

-- all definitions, in document order
abbrev pub definitions_of : List FoundUnit → List LinkDefinition
definitions_of found = flat_map (λ one. one.unit.definitions) found
