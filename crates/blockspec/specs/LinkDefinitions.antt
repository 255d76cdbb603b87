-- Link reference definitions (CommonMark 4.7): those at the front of a paragraph, and which of a document count.
use Rattle.std.specs.Prelude.{ℕ, List, map, find, Option}
use Rattle.std.specs.Str.{bytes_eq}
use Rattle.mdtext.specs.EntityTable.{EntityTable}
use Rattle.mdleaf.specs.ParagraphDefinitions.{leading_of}
use Rattle.mdleaf.specs.DefinedLinks.{LinkDefinition}
use Rattle.blockspec.specs.NodeTree.{Leaf, definition_leaf}

abbrev pub definitions_at : EntityTable → (text : List ℕ) → List Leaf
definitions_at entities text = map definition_leaf (leading_of entities text)

-- the definition of a label that counts, if there is one
abbrev pub first_definition : List LinkDefinition → (label : List ℕ) → Option LinkDefinition
first_definition definitions label = find (λ definition. bytes_eq definition.label label) definitions
