use Rattle.std.proofs.Common.{◌≤◌, ◌+◌, ℕ, Option, arith, length, map, option_map, ap, ◌∙◌}
use Rattle.std.specs.Option.{option_or}
use Rattle.mdsource.specs.UnitTexts.{deep_found, deep_from}
use Rattle.mdview.specs.HeldBlocks.{held_tile}
use Rattle.mdview.specs.HeldTexts.{between, head_read, line_on, texts_in_parts}
use Rattle.mdsource.specs.TextFaults.{IsTextFault}
use Rattle.mdview.specs.LabelTargets.{led_after, target_held}
use Rattle.mdview.specs.UnitsFound.{units_found}
use Rattle.mdview.specs.Update.{units_brought}
use Rattle.mdview.specs.declared.blocks.reparse.Reparsed.{Reparsed}
use Rattle.mdview.specs.declared.held.HeldText.{HeldText}
use Rattle.mdview.specs.declared.labels.changes.LabelChanges.{LabelChanges}
use Rattle.mdview.proofs.PutUnits.{inset_apart}
use Rattle.mdview.proofs.ReadParts.{fault_behind, fault_in_front, lines_between, returned}
use Rattle.mdview.proofs.ToldTexts.{all_fit, all_reread, all_written, did_read_all}
use Rattle.mdview.proofs.update.Update.behind.Given.{Over}
use Rattle.mdview.proofs.update.Update.behind.Goals.{After-read_again-2}
use Rattle.mdview.proofs.update.Update.behind.Goals as goal

pub read_again-requires-clause-near : goal.read_again-requires-clause-near
read_again-requires-clause-near g c =
    let within = lines_between 0 c.args.reparsed.first c.args.held.now.units.now.items in
    omega (arith, within, c.requires.near, c.head_behind-head.ensures)

pub read_again-requires-2-clause-near : goal.read_again-requires-2-clause-near
read_again-requires-2-clause-near g c =
    let within = lines_between c.args.reparsed.next c.len.result c.args.held.now.units.now.items in
    omega (arith, within, c.requires.far)

pub read_reparsed-requires-clause-held : goal.read_reparsed-requires-clause-held
read_reparsed-requires-clause-held g c = rw (c.read_again.ensures.stays.0, c.new-room.ensures) (did_read_all _ _ c.requires.read c.args.held.now.shallow)

-- ---- where spans lie too deep first: in the units in front, in those found and in those behind

abbrev front_deep : HeldText → LabelChanges → Reparsed → Option ℕ
front_deep held changes r =
    deep_from held.options.now.max_spans held.entities.now (led_after held.labels.now changes) (head_read held.head r)
    (map held_tile (between 0 r.first held.units.now.items))

abbrev found_deep : HeldText → LabelChanges → Reparsed → Option ℕ
found_deep held changes r =
    option_map (line_on r.from)
    (deep_found held.options.now.max_spans held.entities.now (led_after held.labels.now changes) (units_found r))

abbrev rest_deep : HeldText → LabelChanges → Reparsed → Option ℕ
rest_deep held changes r =
    deep_from held.options.now.max_spans held.entities.now (led_after held.labels.now changes) r.meet
    (map held_tile (between r.next (length held.units.now.items) held.units.now.items))

pub returns-in_err-read_again-clause-deep : goal.returns-in_err-read_again-clause-deep
returns-in_err-read_again-clause-deep g c =
    let fault = c.in_err-read_again.field-0.0 in
    let front = front_deep c.args.held.now c.args.changes c.args.reparsed in
    let behind = option_or (found_deep c.args.held.now c.args.changes c.args.reparsed) (rest_deep c.args.held.now c.args.changes c.args.reparsed) in
    let deep = rw (c.new-room.ensures, c.head_behind-head.ensures) at c.in_err-read_again.ensures.deep.1 in
    returned c.from_residual.result fault (IsTextFault (option_or front behind)) c.from_residual.ensures.1 (fault_in_front front behind fault deep)

pub returns-in_err-brought-clause-deep : goal.returns-in_err-brought-clause-deep
returns-in_err-brought-clause-deep g c =
    let fault = c.in_err-brought.field-0.0 in
    let front = front_deep c.args.held.now c.args.changes c.args.reparsed in
    let found = found_deep c.args.held.now c.args.changes c.args.reparsed in
    let rest = rest_deep c.args.held.now c.args.changes c.args.reparsed in
    let none = rw (c.new-room.ensures, c.head_behind-head.ensures) at c.in_ok-read_again.ensures.deep.0 in
    let deep = rw (c.read_again.ensures.stays.0, c.new-room.ensures) at c.in_err-brought.ensures.deep.1 in
    returned c.from_residual-in_err-brought.result fault (IsTextFault (option_or front (option_or found rest))) c.from_residual-in_err-brought.ensures.1
    (fault_behind front (option_or found rest) fault none (fault_in_front found rest fault deep))

pub returns-in_err-read_again-2-clause-deep : goal.returns-in_err-read_again-2-clause-deep
returns-in_err-read_again-2-clause-deep g c =
    let fault = c.in_err-read_again-2.field-0.0 in
    let front = front_deep c.args.held.now c.args.changes c.args.reparsed in
    let found = found_deep c.args.held.now c.args.changes c.args.reparsed in
    let rest = rest_deep c.args.held.now c.args.changes c.args.reparsed in
    let none = rw (c.new-room.ensures, c.head_behind-head.ensures) at c.in_ok-read_again.ensures.deep.0 in
    let few = rw (c.read_again.ensures.stays.0, c.new-room.ensures) at c.in_ok-brought.ensures.deep.0 in
    let deep = rw (c.read_reparsed.ensures.stays.0, c.read_again.ensures.stays.0, c.new-room.ensures, c.len.ensures) at c.in_err-read_again-2.ensures.deep.1 in
    returned c.from_residual-in_err-read_again-2.result fault (IsTextFault (option_or front (option_or found rest)))
    c.from_residual-in_err-read_again-2.ensures.1 (fault_behind front (option_or found rest) fault none (fault_behind found rest fault few deep))

pub returns-clause-shallow : goal.returns-clause-shallow
returns-clause-shallow g c =
    let found = found_deep c.args.held.now c.args.changes c.args.reparsed in
    let rest = rest_deep c.args.held.now c.args.changes c.args.reparsed in
    let none = rw (c.new-room.ensures, c.head_behind-head.ensures) at c.in_ok-read_again.ensures.deep.0 in
    let few = rw (c.read_again.ensures.stays.0, c.new-room.ensures) at c.in_ok-brought.ensures.deep.0 in
    let last = rw (c.read_reparsed.ensures.stays.0, c.read_again.ensures.stays.0, c.new-room.ensures, c.len.ensures) at c.in_ok-read_again-2.ensures.deep.0 in
    ap (λ o. option_or o (option_or found rest)) none ∙ ap (λ o. option_or o rest) few ∙ last

-- ---- what is read, and how much

pub returns-clause-units : goal.returns-clause-units
unfolding units_brought
returns-clause-units g c = c.in_ok-brought.ensures.units.all

pub returns-clause-lists : goal.returns-clause-lists
unfolding units_brought
returns-clause-lists g c = c.in_ok-brought.ensures.units.lists

pub returns-clause-read : goal.returns-clause-read
unfolding units_brought
returns-clause-read g c = rw (c.read_again.ensures.stays.0, c.new-room.ensures) at c.in_ok-brought.ensures.units.read

pub returns-clause-reread : goal.returns-clause-reread
returns-clause-reread g c = all_reread _ _ _ (rw (c.read_reparsed.ensures.stays.0, c.read_again.ensures.stays.0, c.new-room.ensures) at c.in_ok-read_again-2.ensures.again)

pub returns-clause-numbers : goal.returns-clause-numbers
returns-clause-numbers g c =
    rw (c.in_ok-read_again.ensures.numbers, c.new-again.ensures.items, c.len.ensures, c.read_reparsed.ensures.stays.0, c.read_again.ensures.stays.0, c.new-room.ensures)
    at c.in_ok-read_again-2.ensures.numbers

texts_read : (g : Over) (c : After-read_again-2 g) → g.C.Count.inlines c.read_again-2.new.count
    ≤ g.C.Count.inlines c.args.count.now + texts_in_parts c.args.held.now.entities.now (target_held c.args.held.now.labels.now)
    (led_after c.args.held.now.labels.now c.args.changes) c.args.held.now.units.now.items c.args.reparsed
texts_read g c =
    let front = rw c.new-room.ensures at c.read_again.ensures.inlines in
    let found = rw (c.read_again.ensures.stays.0, c.new-room.ensures) at c.read_reparsed.ensures.inlines in
    let rest = rw (c.len.ensures, c.read_reparsed.ensures.stays.0, c.read_again.ensures.stays.0, c.new-room.ensures) at c.read_again-2.ensures.inlines in
    omega (arith, front, found, rest)

pub returns-in_err-read_again-clause-inlines : goal.returns-in_err-read_again-clause-inlines
returns-in_err-read_again-clause-inlines g c = let front = rw c.new-room.ensures at c.read_again.ensures.inlines in omega (arith, front)

pub returns-in_err-brought-clause-inlines : goal.returns-in_err-brought-clause-inlines
returns-in_err-brought-clause-inlines g c =
    let front = rw c.new-room.ensures at c.read_again.ensures.inlines in
    let found = rw (c.read_again.ensures.stays.0, c.new-room.ensures) at c.read_reparsed.ensures.inlines in
    omega (arith, front, found)

pub returns-in_err-read_again-2-clause-inlines : goal.returns-in_err-read_again-2-clause-inlines
returns-in_err-read_again-2-clause-inlines g c = texts_read g (goal.at.returns-in_err-read_again-2-clause-inlines g c).After-read_again-2

pub returns-clause-inlines : goal.returns-clause-inlines
returns-clause-inlines g c = texts_read g (goal.at.returns-clause-inlines g c).After-read_again-2

pub returns-clause-fit : goal.returns-clause-fit
unfolding units_brought
returns-clause-fit g c =
    let again = rw (c.read_reparsed.ensures.stays.0, c.read_again.ensures.stays.0, c.new-room.ensures) at c.in_ok-read_again-2.ensures.again in
    record {
      order = c.requires.first;
      within = c.requires.next;
      fits = all_fit _ _ _ again;
      written = all_written _ _ _ again;
      pieces = c.in_ok-brought.ensures.units.rendered;
      inset = c.in_ok-brought.ensures.inset;
      apart = inset_apart _ _ _ _ _ _ _ _ c.in_ok-brought.ensures.inset
          (rw (c.in_ok-read_again.ensures.numbers, c.new-again.ensures.items, c.len.ensures, c.read_reparsed.ensures.stays.0, c.read_again.ensures.stays.0, c.new-room.ensures)
          at c.in_ok-read_again-2.ensures.numbers);
    }
