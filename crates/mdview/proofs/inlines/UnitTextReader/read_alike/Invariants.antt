use Rattle.std.proofs.Common.{◌≡◌, ◌+◌, ◌≤◌, ◌++◌, IfSome, false, map, string_bytes, take, true}
use Rattle.mdview.specs.TextSetting.{Stays, are_deep, readings_as, texts_under}
use Rattle.mdview.proofs.inlines.UnitTextReader.read_alike.Given as goal

-- each text so far was read and counted or reads as before, and in none of them do spans lie too deep
abbrev pub invariant-loop-i : goal.invariant-loop-i
invariant-loop-i g l = record {
  readings : l.inlines.items ≡ l.fn.inlines.items ++ readings_as (texts_under l.fn.self l.fn.room) (take l.i (map string_bytes l.fn.texts));
  shallow : are_deep (texts_under l.fn.self l.fn.room) (take l.i (map string_bytes l.fn.texts)) ≡ false;
  stays : Stays l.fn.room l.room (g.C.Count.lines l.fn.count) (g.C.Count.lines l.count);
  inlines : g.C.Count.inlines l.count ≤ g.C.Count.inlines l.fn.count + l.i;
  few : l.front ≤ l.i;
  at : l.in_front ≡ true → l.front ≡ l.i;
  front : IfSome l.held (λ u. take l.front (map string_bytes l.texts) ≡ take l.front u.now.read.unit.texts);
}
