-- Where labels lead (CommonMark 4.7): of several definitions of a label the first in the document counts; a prelude's stand below those of the document.
use Rattle.std.specs.Prelude.{ℕ, List, [], ◌∷◌, ◌++◌, Option, option_map}
use Rattle.std.specs.Option.{option_or}
use Rattle.mdtext.specs.EntityTable.{EntityTable}
use Rattle.mdleaf.specs.DefinedLinks.{LinkDefinition}
use Rattle.blockspec.specs.BlockUnits.{units, definitions_of}
use Rattle.blockspec.specs.LinkDefinitions.{first_definition}
use Rattle.blockspec.specs.UnitTree.{FoundUnit}
use Rattle.inlinespec.specs.LabelMap.{LabelMap, LinkTarget, put_first}
use Rattle.inlinespec.specs.LinkTails.{Table}
use Rattle.mdsource.specs.Setting.{Source}

-- all definitions of a document and its prelude, in the order in which they count
abbrev pub definitions_in : EntityTable → Source → List LinkDefinition
definitions_in entities source = definitions_of (units entities source.lines) ++ definitions_of (units entities source.prelude)

abbrev pub target_defined : LinkDefinition → LinkTarget
target_defined definition = record { url = definition.url; title = definition.title }

-- where labels lead by some definitions
abbrev pub table_of : List LinkDefinition → Table
table_of definitions label = option_map target_defined (first_definition definitions label)

-- where labels lead in a document with its prelude
abbrev pub table : EntityTable → Source → Table
table entities source = table_of (definitions_in entities source)

-- the definition of a label that counts in a list of lines
abbrev pub defined_in : EntityTable → (lines : List (List ℕ)) → (label : List ℕ) → Option LinkDefinition
defined_in e lines label = first_definition (definitions_of (units e lines)) label

-- the first that there is, of the definitions in front, in the middle, behind, and in the prelude
abbrev pub first_of_four : (front middle back prelude : Option LinkDefinition) → Option LinkDefinition
first_of_four front middle back prelude = option_or (option_or (option_or front middle) back) prelude

-- the map of labels with these definitions after those that it has: a label keeps its first target
abbrev pub with_definitions : LabelMap → List LinkDefinition → LabelMap
with_definitions labels [] = labels
with_definitions labels (definition ∷ definitions) = with_definitions (put_first labels definition.label (target_defined definition)) definitions

-- the map with the definitions of these units, in order
abbrev pub with_units : LabelMap → List FoundUnit → LabelMap
with_units labels [] = labels
with_units labels (found ∷ units) = with_units (with_definitions labels found.unit.definitions) units
