-- What each end of a reading of an entity file says.
use Rattle.std.specs.Prelude.{◌≡◌, ℕ, List, Option, Result, Ok, Err}
use Rattle.mdtext.specs.declared.entity_file.TableFault.{TableFault}
use Rattle.mdtext.specs.declared.entity_file.TableFault.TheVariants.{NotJson, BadEntry}
use Rattle.mdtext.specs.declared.entity_file.TableFault.TheVariants.{NoMemory as TableNoMemory}
use Rattle.mdtext.specs.EntityFile.{file_table}
use Rattle.mdtext.specs.EntityTable.{EntityTable}
use Rattle.mdtool.specs.declared.fault.ToolFault.{ToolFault}
use Rattle.mdtool.specs.declared.fault.ToolFault.TheVariants.{Read, Write, Refused, BadCommand, Truncated, Table, NoMemory}
use Rattle.mdtool.specs.Drained.{TakesAll, TakesSome}

-- all bytes of the file were read, and they are this table, or refused so
abbrev pub IsTable : Result EntityTable TableFault → Option (List ℕ) → Option (List ℕ) → Type 0
IsTable table left left' = (bytes : List ℕ) × TakesAll left bytes left' × (file_table bytes ≡ table)

-- the table of all bytes that were left, or why they are none; there is no other end
abbrev pub EntitiesRead : Result EntityTable ToolFault → Option (List ℕ) → Option (List ℕ) → Type 0
EntitiesRead (Ok entities) left left' = IsTable (Ok entities) left left'
EntitiesRead (Err (Table NotJson)) left left' = IsTable (Err NotJson) left left'
EntitiesRead (Err (Table BadEntry)) left left' = IsTable (Err BadEntry) left left'
EntitiesRead (Err Read) left left' = TakesSome left left'
EntitiesRead (Err NoMemory) left left' = TakesSome left left'
EntitiesRead (Err (Table TableNoMemory)) left left' = ⊥
EntitiesRead (Err Write) left left' = ⊥
EntitiesRead (Err (Refused fault)) left left' = ⊥
EntitiesRead (Err (BadCommand line)) left left' = ⊥
EntitiesRead (Err (Truncated line)) left left' = ⊥
