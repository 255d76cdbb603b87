-- The entities that are built in, and how taking them ends.
use Rattle.std.specs.Prelude.{◌≡◌, Bool, true, false, Result, Ok, Err}
use Rattle.mdtext.specs.declared.entity_file.TableFault.TheVariants.{NotJson, BadEntry}
use Rattle.mdtext.specs.declared.entity_file.TableFault.TheVariants.{NoMemory as TableNoMemory}
use Rattle.mdtext.specs.declared.html_names.TheConstants.{HTML_NAMES}
use Rattle.mdtext.specs.EntityFile.{file_table}
use Rattle.mdtext.specs.EntityTable.{EntityTable, builtin_table}
use Rattle.mdtool.specs.declared.fault.ToolFault.{ToolFault}
use Rattle.mdtool.specs.declared.fault.ToolFault.TheVariants.{Read, Write, Refused, BadCommand, Truncated, Table, NoMemory}

-- the table of HTML's names, or why they are none; there is no other end
abbrev pub HtmlRead : Result EntityTable ToolFault → Type 0
HtmlRead (Ok entities) = file_table HTML_NAMES.now ≡ Ok entities
HtmlRead (Err (Table NotJson)) = file_table HTML_NAMES.now ≡ Err NotJson
HtmlRead (Err (Table BadEntry)) = file_table HTML_NAMES.now ≡ Err BadEntry
HtmlRead (Err NoMemory) = Unit {0}
HtmlRead (Err Read) = ⊥
HtmlRead (Err (Table TableNoMemory)) = ⊥
HtmlRead (Err Write) = ⊥
HtmlRead (Err (Refused fault)) = ⊥
HtmlRead (Err (BadCommand line)) = ⊥
HtmlRead (Err (Truncated line)) = ⊥

-- the usual table, or no memory for it
abbrev pub UsualRead : Result EntityTable ToolFault → Type 0
UsualRead (Ok entities) = entities ≡ builtin_table
UsualRead (Err fault) = fault ≡ NoMemory

-- all of HTML's names where they are asked for, and else the usual ones
abbrev pub IsBuiltIn : Bool → Result EntityTable ToolFault → Type 0
IsBuiltIn true read = HtmlRead read
IsBuiltIn false read = UsualRead read
