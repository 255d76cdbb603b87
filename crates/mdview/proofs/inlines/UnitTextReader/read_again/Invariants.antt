use Rattle.std.proofs.Common.{◌≡◌, ◌+◌, ◌-◌, ◌≤◌, ◌<◌, ◌++◌, None, drop, map}
use Rattle.std.specs.List.{All}
use Rattle.mdview.specs.HeldTexts.{between, number_again}
use Rattle.mdview.specs.HeldUnit.{unit_in}
use Rattle.mdview.specs.TextSetting.{IsOneReadAgain, Stays, asking_numbers, asking_texts_of, deep_line, texts_under}
use Rattle.mdview.proofs.inlines.UnitTextReader.read_again.Given as goal

-- of the units so far those were read again that have a text which asked for a label that leads elsewhere, and in none do spans lie too deep
abbrev pub invariant-loop-i : goal.invariant-loop-i
invariant-loop-i g l = record {
  low : l.first ≤ l.i;
  high : l.i ≤ l.next;
  ahead : l.i < l.next → l.rest ≡ drop l.i l.fn.units.items;
  again : All (IsOneReadAgain (texts_under l.fn.self l.fn.room) (map unit_in l.fn.units.items)) l.again.items;
  numbers : map number_again l.again.items ≡ map number_again l.fn.again.items ++ asking_numbers (texts_under l.fn.self l.fn.room) l.first (between l.first l.i l.fn.units.items);
  shallow : deep_line (texts_under l.fn.self l.fn.room) l.fn.begin (between l.first l.i l.fn.units.items) ≡ None;
  stays : Stays l.fn.room l.room (g.C.Count.lines l.fn.count) (g.C.Count.lines l.count);
  inlines : g.C.Count.inlines l.count ≤ g.C.Count.inlines l.fn.count + asking_texts_of (texts_under l.fn.self l.fn.room) (between l.first l.i l.fn.units.items);
}

abbrev pub decreases-loop-i : goal.decreases-loop-i
decreases-loop-i g l = l.next - l.i
