-- The entity file: a JSON object whose members are named as references, each with its characters.
use Rattle.std.specs.Prelude.{ℕ, ◌-◌, Bool, List, [], codes, Option, Some, None, Result, Ok, Err, length, slice_index, slice_range, nat_lt, option_map, option_and_then, ◌==◌, ◌&&◌, if◌then◌else◌}
use Rattle.std.specs.Char.{is_ascii_alphanumeric}
use Rattle.std.specs.BTreeMap.{insert_entry}
use Rattle.std.specs.Cmp.Lexicographic.{slice_cmp}
use Rattle.std.specs.List.{prefix_len}
use Rattle.std.specs.Ordering.{nat_cmp}
use Rattle.std.specs.Str.{is_utf8}
use Rattle.serde_json.specs.Data.{Data, Members, no_members, member}
use Rattle.serde_json.specs.Find.{get, as_str, as_object}
use Rattle.serde_json.specs.Read.{read}
use Rattle.mdtext.specs.EntityTable.{EntityNames, EntityTable, usual_table}
use Rattle.mdtext.specs.declared.entity_file.TableFault.{TableFault}
use Rattle.mdtext.specs.declared.entity_file.TableFault.TheVariants.{NotJson, BadEntry}

-- a member counts if its name ends with `;`
abbrev pub counts : List ℕ → Bool
counts key = slice_index key (length key - 1) == 59

-- letters or digits alone, one at least
abbrev pub is_name : List ℕ → Bool
is_name name = nat_lt 0 (length name) && prefix_len is_ascii_alphanumeric name == length name

-- the name in `&name;`
abbrev pub name_of : List ℕ → Option (List ℕ)
name_of key =
    let name = slice_range key 1 (length key - 1) in
    if slice_index key 0 == 38 && is_name name then Some name else None

-- the text that a member's value gives
abbrev pub characters_of : Data → Option (List ℕ)
characters_of value = option_and_then as_str (get (codes "characters") value)

-- the names with one member more, where it is no bad entry
abbrev pub with_member : List ℕ → Data → EntityNames → Option EntityNames
with_member key value table =
    if counts key then option_and_then (λ name. option_map (insert_entry (slice_cmp nat_cmp) table name) (characters_of value)) (name_of key) else Some table

-- the names with more members, where none is a bad entry
abbrev pub with_members : Members → EntityNames → Option EntityNames
with_members no_members table = Some table
with_members (member key value ms) table = option_and_then (with_members ms) (with_member key value table)

abbrev pub or_fault : TableFault → Option EntityNames → Result EntityNames TableFault
or_fault fault None = Err fault
or_fault fault (Some table) = Ok table

abbrev pub of_object : Option Members → Result EntityNames TableFault
of_object None = Err NotJson
of_object (Some ms) = or_fault BadEntry (with_members ms [])

-- the names of a file, or its fault
abbrev pub file_names : List ℕ → Result EntityNames TableFault
file_names bytes = of_object (if is_utf8 bytes then option_and_then as_object (read bytes) else None)

-- the table of what a file gives
abbrev pub table_of : Result EntityNames TableFault → Result EntityTable TableFault
table_of (Ok names) = Ok (usual_table names)
table_of (Err fault) = Err fault

-- the table of a file, or its fault
abbrev pub file_table : List ℕ → Result EntityTable TableFault
file_table bytes = table_of (file_names bytes)
