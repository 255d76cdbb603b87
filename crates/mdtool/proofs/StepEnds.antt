-- A step that fails as the step before it failed.
use Rattle.std.proofs.Common.{Err}
use Rattle.mdtool.specs.declared.fault.ToolFault.{ToolFault}
use Rattle.mdtool.specs.declared.fault.ToolFault.TheVariants.{Read, Write, Refused, BadCommand, Truncated, Table, NoMemory}
use Rattle.mdtool.specs.Steps.{Steps}

pub fails_so : {T U : Type 0} (fault : ToolFault) (ok : T → Type 0) (ok' : U → Type 0) (read memory read' memory' : Type 0)
    → (read → read') → (memory → memory') → Steps {T = T} (Err fault) ok read memory → Steps {T = U} (Err fault) ok' read' memory'
fails_so Read ok ok' read memory read' memory' f g h = f h
fails_so NoMemory ok ok' read memory read' memory' f g h = g h
fails_so Write ok ok' read memory read' memory' f g h = h
fails_so (Refused fault) ok ok' read memory read' memory' f g h = h
fails_so (BadCommand line) ok ok' read memory read' memory' f g h = h
fails_so (Truncated line) ok ok' read memory read' memory' f g h = h
fails_so (Table fault) ok ok' read memory read' memory' f g h = h
