-- What each end of the reading of a file says that the words name, or of names that are built in. Of a file itself nothing is told: neither what it holds, nor why it fails.
use Rattle.std.specs.Prelude.{◌≡◌, ℕ, Bool, List, [], Option, Some, None, Result, Ok, Err, Vec, String, map, string_bytes}
use Rattle.std.specs.Global.{Global}
use Rattle.mdtext.specs.EntityTable.{EntityTable}
use Rattle.mdwords.specs.declared.tool_words.Words.{Words}
use Rattle.mdtool.specs.BuiltInEntities.{IsBuiltIn}
use Rattle.mdtool.specs.Convert.{LinesRead}
use Rattle.mdtool.specs.Drained.{TakesSome}
use Rattle.mdtool.specs.Endings.{IsNotOpened}
use Rattle.mdtool.specs.EntityTables.{EntitiesRead}
use Rattle.mdtool.specs.Steps.{Steps}
use Rattle.mdtool.specs.declared.fault.Stop.{Stop}
use Rattle.mdtool.specs.declared.fault.Stop.TheVariants.{NotOpened, Tool}
use Rattle.mdtool.specs.declared.fault.Stop.TheVariants.{Words as BadWords}
use Rattle.mdtool.specs.declared.fault.ToolFault.{ToolFault}
use Rattle.mdtool.specs.declared.halt.Halt.{Halt}

-- a file of this name was not opened, or what was opened ended so
abbrev pub EndsSo : List ℕ → (ToolFault → Type 0) → Stop → Type 0
EndsSo name Ends (NotOpened other) = string_bytes other ≡ name
EndsSo name Ends (Tool fault) = Ends fault
EndsSo name Ends (BadWords fault) = ⊥

-- there is no file to open, and what is built in ended so
abbrev pub EndsBuiltIn : (ToolFault → Type 0) → Stop → Type 0
EndsBuiltIn Ends (Tool fault) = Ends fault
EndsBuiltIn Ends (NotOpened other) = ⊥
EndsBuiltIn Ends (BadWords fault) = ⊥

-- the names of the file of this name, or those that are built in where none is named; else the file was not opened, or its bytes are no table
abbrev pub NamesOf : Bool → Option (String Global) → Result EntityTable Halt → Type 0
NamesOf html None (Ok entities) = IsBuiltIn html (Ok entities)
NamesOf html None (Err halt) = EndsBuiltIn (λ fault. IsBuiltIn html (Err fault)) halt.stop
NamesOf html (Some name) (Ok entities) = EntitiesRead (Ok entities) None None
NamesOf html (Some name) (Err halt) = EndsSo (string_bytes name) (λ fault. EntitiesRead (Err fault) None None) halt.stop

-- the names that the words say, with tildes as they say
abbrev pub EntitiesOf : Words → Result EntityTable Halt → Type 0
EntitiesOf words (Ok entities) = (table : EntityTable) × NamesOf words.html_entities words.entities (Ok table) × (entities ≡ record table { double_tilde = words.double_tilde })
EntitiesOf words (Err halt) = NamesOf words.html_entities words.entities (Err halt)

-- the lines of the file of this name, or none where none is named; else the file was not opened, or not read
abbrev pub PreludeOf : Option (String Global) → Result (Vec (String Global) Global) Halt → Type 0
PreludeOf None (Ok lines) = lines.items ≡ []
PreludeOf None (Err halt) = ⊥
PreludeOf (Some name) (Ok lines) = LinesRead None (map string_bytes lines.items) None
PreludeOf (Some name) (Err halt) = EndsSo (string_bytes name) (λ fault. Steps {T = Unit {0}} (Err fault) (λ _. ⊥) (TakesSome None None) (TakesSome None None)) halt.stop

-- the file of this name was not opened; where none is named nothing is
abbrev pub IsNotOpenedOf : Option (String Global) → Stop → Type 0
IsNotOpenedOf None stop = ⊥
IsNotOpenedOf (Some name) stop = IsNotOpened (string_bytes name) stop
