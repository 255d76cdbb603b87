use Rattle.std.proofs.Common.{◌≡◌, ◌<◌, ◌≤◌, ◌+◌, ◌-◌, ◌∷◌, Err, Some, List, append_assoc, arith, drop, get_or, length, map, option_map, refl, ap, ◌∙◌, sym, subst}
use Rattle.std.specs.Prelude.{slice_get}
use Rattle.std.proofs.lemmas.List.{append-nil}
use Rattle.std.proofs.lemmas.Option.{slice_get-map}
use Rattle.std.proofs.lemmas.List.Elements.{All-drop, All-take}
use Rattle.mdview.specs.ReadUnits.{IsShallow}
use Rattle.mdview.specs.HeldTexts.{between, entities_in, labels_before, labels_behind}
use Rattle.mdview.specs.HeldUnit.{HeldUnit, unit_in}
use Rattle.mdview.specs.TextSetting.{DidReadIn, texts_under}
use Rattle.mdview.proofs.Ahead.{first_comes, first_left, left_at, left_behind, something_comes}
use Rattle.mdview.proofs.NoneAsking.{shallow_behind, none_asking, none_deep_in}
use Rattle.mdview.proofs.PassedUnits.{all_quiet, lines_past, numbers_past, quiet_numbers, shallow_between, shallow_past, texts_past}
use Rattle.mdview.proofs.ToldTexts as told
use Rattle.mdview.proofs.UnitsBetween.{deep_here, member_at, numbers_next, shallow_next, text_fault, texts_next, texts_within}
use Rattle.mdview.proofs.inlines.UnitTextReader.read_again.Given.{Over}
use Rattle.mdview.proofs.inlines.UnitTextReader.read_again.Goals.{After-unwrap-unit}
use Rattle.mdview.proofs.inlines.UnitTextReader.read_again.Goals as goal

pub returns-then-is_empty-clause-numbers : goal.returns-then-is_empty-clause-numbers
returns-then-is_empty-clause-numbers g c =
    let units = map unit_in (between c.args.first c.args.next c.args.units.now.items) in
    let none = none_asking c.args.self.now c.args.self.now.elsewhere (c.is_empty.ensures c.if-is_empty.true) (entities_in c.args.room.now) c.args.first units in
    rw (none, append-nil) refl

pub returns-then-is_empty-clause-deep : goal.returns-then-is_empty-clause-deep
returns-then-is_empty-clause-deep g c =
    let limit = c.args.self.now.options.now.max_spans in
    let e = entities_in c.args.room.now in
    let new = labels_behind c.args.self.now in
    let units : List HeldUnit = c.args.units.now.items in
    let shallow = told.did_shallow (texts_under c.args.self.now c.args.room.now) units c.requires.read in
    let all = shallow_behind c.args.self.now c.args.self.now.elsewhere (c.is_empty.ensures c.if-is_empty.true) limit e units shallow in (
      none_deep_in limit e new c.args.begin (between c.args.first c.args.next units)
          (All-take (IsShallow limit e new) (c.args.next - c.args.first) (drop c.args.first units) (All-drop (IsShallow limit e new) c.args.first units all)),
      tt,
    )

pub unwrap-unit-requires : goal.unwrap-unit-requires
unwrap-unit-requires g c =
    let units : List HeldUnit = c.args.units.now.items in
    let high : c.loop-i.i < length units = omega (arith, c.loop-i-test.true, c.requires.within) in
    something_comes (λ x. x.now) c.next.result c.loop-i.rest c.next.new.self c.next.ensures.steps (left_at units c.loop-i.rest c.loop-i.i (c.loop-i.invariant.ahead c.loop-i-test.true) high)

-- The unit with that number comes next.
record Comes (g : Over) (c : After-unwrap-unit g) : Type 0 where
  first : c.loop-i.rest ≡ c.unwrap-unit.result.now ∷ c.next.new.self
  high : c.loop-i.i < length c.args.units.now.items
  is : c.unwrap-unit.result.now ≡ get_or c.args.units.now.items c.loop-i.i c.unwrap-unit.result.now

comes : (g : Over) (c : After-unwrap-unit g) → Comes g c
comes g c =
    let u : HeldUnit = c.unwrap-unit.result.now in
    let first = first_comes (λ x. x.now) c.next.result c.loop-i.rest c.next.new.self c.unwrap-unit.result c.next.ensures.steps c.unwrap-unit.ensures in
    record {
      first = first;
      high = omega (arith, c.loop-i-test.true, c.requires.within);
      is = first_left c.args.units.now.items c.loop-i.rest c.next.new.self u u c.loop-i.i (c.loop-i.invariant.ahead c.loop-i-test.true) first;
    }

pub read_if_concerned-requires : goal.read_if_concerned-requires
read_if_concerned-requires g c =
    let w = comes g (goal.at.read_if_concerned-requires g c).After-unwrap-unit in
    let s = texts_under c.args.self.now c.args.room.now in
    rw c.loop-i.invariant.stays.0 (record { read = subst (DidReadIn s) (sym w.is) (c.requires.read c.loop-i.i _ w.high) })

pub returns-in-Err-clause-deep : goal.returns-in-Err-clause-deep
returns-in-Err-clause-deep g c =
    let e = entities_in c.args.room.now in
    let old = labels_before c.args.self.now in
    let new = labels_behind c.args.self.now in
    let w = comes g (goal.at.returns-in-Err-clause-deep g c).After-unwrap-unit in
    let deep = λ (too : c.in-Err.fault ≡ _).
    deep_here e old new c.args.self.now.options.now.max_spans c.args.begin c.args.first c.args.units.now.items c.loop-i.i c.unwrap-unit.result.now
    c.loop-i.invariant.low w.high w.is c.args.next c.loop-i-test.true c.requires.within c.loop-i.invariant.shallow
    (rw c.loop-i.invariant.stays.0 at (c.in-Err.ensures.deep.1 (ap Err too)))
    ∙ ap (λ n. Some n) (sym c.line_from.ensures) in
    (tt, rw c.fault_in_unit.ensures (text_fault _ c.in-Err.fault c.line_from.result deep))

pub returns-in-Err-clause-inlines : goal.returns-in-Err-clause-inlines
returns-in-Err-clause-inlines g c =
    let limit = c.args.self.now.options.now.max_spans in
    let e = entities_in c.args.room.now in
    let old = labels_before c.args.self.now in
    let new = labels_behind c.args.self.now in
    let units : List HeldUnit = c.args.units.now.items in
    let i = c.loop-i.i in
    let u : HeldUnit = c.unwrap-unit.result.now in
    let low = c.loop-i.invariant.low in
    let w = comes g (goal.at.returns-in-Err-clause-inlines g c).After-unwrap-unit in
    let read = rw c.loop-i.invariant.stays.0 at c.read_if_concerned.ensures.inlines in
    let more = texts_next e old new limit c.args.begin c.args.first units i u low w.high w.is in
    let all = texts_within e old new limit c.args.begin c.args.first units i u low w.high w.is c.args.next c.loop-i-test.true c.requires.within in
    omega (arith, read, more, all, c.loop-i.invariant.inlines)

pub loop-i-init : goal.loop-i-init
loop-i-init g c =
    let reader = c.args.self.now in
    let limit = reader.options.now.max_spans in
    let e = entities_in c.args.room.now in
    let units : List HeldUnit = c.args.units.now.items in
    let j = c.next_marked-i.result in
    let passes = c.next_marked-i.ensures in
    let s = texts_under reader c.args.room.now in
    let read = told.all_read s units c.requires.read in
    let quiet = all_quiet reader c.args.self.now.elsewhere c.marks-marks.result c.marks-marks.ensures e units read c.args.first j passes.apart in
    record {
      low = passes.low;
      high = passes.high;
      ahead = passes.ahead;
      again = c.requires.again;
      numbers = rw (quiet_numbers e (labels_before reader) (labels_behind reader) c.args.first (between c.args.first j units) quiet, append-nil) refl;
      shallow = none_deep_in limit e (labels_behind reader) c.args.begin (between c.args.first j units)
          (shallow_between reader c.args.self.now.elsewhere c.marks-marks.result c.marks-marks.ensures e units read
          c.args.first j passes.apart limit (told.did_shallow s units c.requires.read));
      stays = (refl, refl);
      inlines = omega arith;
    }

pub line_from-requires-clause-near : goal.line_from-requires-clause-near
line_from-requires-clause-near g c =
    let units : List HeldUnit = c.args.units.now.items in
    let some = lines_past (entities_in c.args.room.now) (labels_before c.args.self.now) (labels_behind c.args.self.now) c.args.first c.loop-i.i c.args.next units c.loop-i.invariant.low c.loop-i.invariant.high in
    omega (arith, some, c.requires.near)

pub next_marked-i-requires-in-loop-i-clause-ahead : goal.next_marked-i-requires-in-loop-i-clause-ahead
next_marked-i-requires-in-loop-i-clause-ahead g c =
    let w = comes g (goal.at.next_marked-i-requires-in-loop-i-clause-ahead g c).After-unwrap-unit in
    left_behind c.args.units.now.items c.loop-i.rest c.next.new.self c.unwrap-unit.result.now c.loop-i.i (c.loop-i.invariant.ahead c.loop-i-test.true) w.first

pub loop-i-preserved : goal.loop-i-preserved
loop-i-preserved g c =
    let limit = c.args.self.now.options.now.max_spans in
    let e = entities_in c.args.room.now in
    let old = labels_before c.args.self.now in
    let new = labels_behind c.args.self.now in
    let units : List HeldUnit = c.args.units.now.items in
    let first = c.args.first in
    let i = c.loop-i.i in
    let j = c.next_marked-i-in-loop-i.result in
    let passes = c.next_marked-i-in-loop-i.ensures in
    let low = c.loop-i.invariant.low in
    let up : first ≤ i + 1 = omega (arith, low) in
    let u : HeldUnit = c.unwrap-unit.result.now in
    let w = comes g (goal.at.loop-i-preserved g c).After-unwrap-unit in
    let here : slice_get (map unit_in units) i ≡ Some (unit_in u) = slice_get-map unit_in units i ∙ ap (option_map unit_in) (member_at units i u w.high w.is) in
    let one = rw c.loop-i.invariant.stays.0 at c.in_default.ensures.numbers in
    let s = texts_under c.args.self.now c.args.room.now in
    let reads = told.all_read s units c.requires.read in
    let quiet = all_quiet c.args.self.now c.args.self.now.elsewhere c.marks-marks.result c.marks-marks.ensures e units reads (i + 1) j passes.apart in
    let past = numbers_past e old new first (i + 1) j units up passes.low quiet in
    let next = numbers_next e old new limit c.args.begin first units i u low w.high w.is in
    let texts = texts_next e old new limit c.args.begin first units i u low w.high w.is in
    let more = texts_past e old new first (i + 1) j units up passes.low in
    let read = rw c.loop-i.invariant.stays.0 at c.read_if_concerned.ensures.inlines in
    record {
      low = omega (arith, low, passes.low);
      high = passes.high;
      ahead = passes.ahead;
      again = (rw c.loop-i.invariant.stays.0 at c.in_default.ensures.again) (map unit_in units) here c.loop-i.invariant.again;
      numbers = rw (past, next, one, c.loop-i.invariant.numbers, append_assoc) refl;
      shallow = shallow_past e old new first (i + 1) j units up passes.low limit c.args.begin
          (shallow_next e old new limit c.args.begin first units i u low w.high w.is c.loop-i.invariant.shallow
          (rw c.loop-i.invariant.stays.0 at c.in_default.ensures.deep.0))
          (shallow_between c.args.self.now c.args.self.now.elsewhere c.marks-marks.result c.marks-marks.ensures e units reads (i + 1) j passes.apart limit (told.did_shallow s units c.requires.read));
      stays = (c.read_if_concerned.ensures.stays.0 ∙ c.loop-i.invariant.stays.0, c.read_if_concerned.ensures.stays.1 ∙ c.loop-i.invariant.stays.1);
      inlines = omega (arith, read, texts, more, c.loop-i.invariant.inlines);
    }
