use Rattle.std.proofs.Common.{◌≡◌, [], List, take}
use Rattle.mdinline.specs.declared.tokens.Begun.{Begun}
use Rattle.mdinline.specs.held.PairedRuns.{ArePaired}
use Rattle.mdinline.proofs.emphasis.append_unpaired.Given as goal

abbrev pub invariant-loop-run : goal.invariant-loop-run
invariant-loop-run l = (begun : List Begun) → l.fn.paired.items ≡ [] → ArePaired begun [] (take l.run-index l.runs) l.paired.items
