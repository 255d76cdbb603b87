use Rattle.std.proofs.Common.{◌≡◌, ◌+◌, ◌≤◌, map, string_bytes, take}
use Rattle.mdblock.specs.held.Reads.{Reads, handed}
use Rattle.mdsource.specs.Defining.{Defines}
use Rattle.mdsource.proofs.defining.read_definitions.Given as goal

-- each line so far was fed and counted, and the units that came were taken
abbrev pub invariant-loop-line : goal.invariant-loop-line
invariant-loop-line g l = record {
  fed : l.reader.fed ≡ l.line;
  lines : g.C.Count.lines l.count ≤ g.C.Count.lines l.fn.count + l.line;
  inlines : g.C.Count.inlines l.count ≡ g.C.Count.inlines l.fn.count;
  reads : Reads l.options.max_containers l.entities l.reader (take l.line (map string_bytes l.lines));
  defines : Defines (handed l.entities (take l.line (map string_bytes l.lines))) l.defined;
}
