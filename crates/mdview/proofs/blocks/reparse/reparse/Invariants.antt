use Rattle.std.proofs.Common.{◌≡◌, ◌+◌, ◌≤◌, ◌-◌, drop, map, take}
use Rattle.std.specs.List.{All}
use Rattle.mdblock.specs.FoundLists.{found_unit}
use Rattle.mdblock.specs.held.Following.{fed_in}
use Rattle.mdsource.specs.Stretch.{from_line}
use Rattle.mdsource.specs.UnitTiles.{IsAhead}
use Rattle.mdview.specs.HeldBlocks.{line_before, lines_in, places_of}
use Rattle.mdsource.specs.Stops.{near_line}
use Rattle.mdview.specs.HeldItems.{IsBaseOf, IsCounted}
use Rattle.mdview.specs.StopLines.{stops_of}
use Rattle.mdview.specs.HeldLists.{StandsAt}
use Rattle.mdview.specs.NewText.{lines_of}
use Rattle.mdview.proofs.Reparses.{ReadAbove}
use Rattle.mdview.proofs.blocks.reparse.reparse.Given as goal

-- each line so far was fed and counted, the cursor goes on, and no unit begins in both texts so far
abbrev pub invariant-loop-line : goal.invariant-loop-line
invariant-loop-line g l = record {
  rest : l.ahead ≡ drop l.line (lines_of l.text);
  fed : fed_in l.reader ≡ l.line - l.from;
  lines : g.C.Count.lines l.count ≤ g.C.Count.lines l.fn.count + (l.line - l.from);
  inlines : g.C.Count.inlines l.count ≡ g.C.Count.inlines l.fn.count;
  same : l.cursor.units.now ≡ l.held.units.now;
  forward : l.resume.start.unit ≤ l.cursor.next.unit;
  above : ReadAbove l.held.options.now.max_containers l.held.entities.now (lines_of l.text) (places_of l.held.entities.now l.text) l.reader (map found_unit l.found.items) l.line;
  near : l.line ≤ near_line (stops_of l.held.entities.now l.text);
  counted : IsCounted l.held.head l.held.units.now.items l.cursor.next;
  ahead : IsAhead (map lines_in l.held.units.now.items) (places_of l.held.entities.now l.text).old_begins l.cursor.next.unit l.cursor.next.line
      (line_before (places_of l.held.entities.now l.text) l.line);
  base : IsBaseOf l.held.units.now.items l.resume.start.unit l.reader.base;
  stands : All (StandsAt l.held.entities.now (drop (from_line (places_of l.held.entities.now l.text)) (take l.line (lines_of l.text)))) l.found.items;
}
