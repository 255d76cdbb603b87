-- The faults that the reading of blocks gives.
use Rattle.std.specs.Prelude.{ℕ}
use Rattle.mdblock.specs.declared.faults.BlockFault.{BlockFault}
use Rattle.mdblock.specs.declared.faults.BlockFault.TheVariants as block
use Rattle.mdsource.specs.declared.fault.EditFault.{EditFault}
use Rattle.mdsource.specs.declared.fault.EditFault.TheVariants.{OutOfRange, BreakInLine, TooManyLines, TooLarge, NestedTooDeep, InlineTooDeep, NoMemory, NotDefinitions}

-- a fault that the reading of blocks gave
abbrev pub OfBlocks : EditFault → Type 0
OfBlocks (NestedTooDeep line) = Unit {0}
OfBlocks NoMemory = Unit {0}
OfBlocks (InlineTooDeep line) = ⊥
OfBlocks (NotDefinitions line) = ⊥
OfBlocks (OutOfRange lines) = ⊥
OfBlocks (BreakInLine index) = ⊥
OfBlocks TooManyLines = ⊥
OfBlocks TooLarge = ⊥

-- the fault of an edit for a fault of the reader in a line; behind no fault a line is read
abbrev pub block_fault_in : BlockFault → ℕ → EditFault
block_fault_in block.NestedTooDeep line = NestedTooDeep line
block_fault_in block.NoMemory line = NoMemory
block_fault_in block.Failed line = NoMemory
