use Rattle.std.proofs.Common.{◌≡◌, ◌+◌, ◌≤◌, ◌++◌, false, map, string_bytes, take}
use Rattle.mdview.specs.TextSetting.{Stays, are_deep, asking, readings_as, texts_under}
use Rattle.mdview.proofs.inlines.UnitTextReader.read_concerned.Given as goal

-- each text so far that asked for a label which leads elsewhere was read and counted, and the others were copied
abbrev pub invariant-loop-i : goal.invariant-loop-i
invariant-loop-i g l = record {
  readings : l.inlines.items ≡ l.fn.inlines.items ++ readings_as (texts_under l.fn.self l.fn.room) (take l.i (map string_bytes l.fn.texts));
  shallow : are_deep (texts_under l.fn.self l.fn.room) (take l.i (map string_bytes l.fn.texts)) ≡ false;
  stays : Stays l.fn.room l.room (g.C.Count.lines l.fn.count) (g.C.Count.lines l.count);
  inlines : g.C.Count.inlines l.count ≤ g.C.Count.inlines l.fn.count + asking (texts_under l.fn.self l.fn.room) (take l.i (map string_bytes l.fn.texts));
}
