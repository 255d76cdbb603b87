-- What the units of a prelude define while it is read.
use Rattle.std.specs.Prelude.{◌≡◌, ℕ, List, [], Option, Some, None, Result, Ok, Err, find, map, option_map}
use Rattle.std.specs.BTreeMap.{BTreeMap}
use Rattle.blockspec.specs.UnitTree.{FoundUnit}
use Rattle.inlinespec.specs.LabelMap.{LabelMap, target_of}
use Rattle.mdblock.specs.declared.faults.BlockFault.{BlockFault}
use Rattle.mdblock.specs.declared.faults.BlockFault.TheVariants as block
use Rattle.mdtext.specs.declared.labels.Target.{Target}
use Rattle.mdsource.specs.LabelTable.{with_units}
use Rattle.mdsource.specs.Refusals.{is_more}
use Rattle.mdsource.specs.declared.defining.Defined.{Defined}
use Rattle.mdsource.specs.declared.fault.EditFault.{EditFault}
use Rattle.mdsource.specs.declared.fault.EditFault.TheVariants.{NoMemory, NotDefinitions}

-- entries of a table of labels, seen as a map
abbrev pub shown : List (List ℕ × Target) → LabelMap
shown entries = map (λ e. (e.0, target_of e.1)) entries

-- the first line of the first of these units that is more than definitions
abbrev pub first_other : List FoundUnit → Option ℕ
first_other found = option_map (λ (one : FoundUnit). one.begin) (find (λ (one : FoundUnit). is_more one.unit.blocks) found)

-- these units were taken
pub record Defines (found : List FoundUnit) (defined : Defined) : Type 0 where
  pub other : defined.other ≡ first_other found
  pub labels : defined.other ≡ None → shown defined.targets.entries ≡ with_units [] found

-- the answer where this line, if any, is the first that is more than definitions
abbrev pub EndsAt : Option ℕ → BTreeMap (List ℕ) Target → Result (BTreeMap (List ℕ) Target) EditFault → Type 0
EndsAt None targets result = result ≡ Ok targets
EndsAt (Some line) targets result = result ≡ Err (NotDefinitions line)

-- the fault of a prelude for a fault of the reader in a line; behind no fault a line is read
abbrev pub fault_of : BlockFault → ℕ → EditFault
fault_of block.NestedTooDeep line = NotDefinitions line
fault_of block.NoMemory line = NoMemory
fault_of block.Failed line = NoMemory
