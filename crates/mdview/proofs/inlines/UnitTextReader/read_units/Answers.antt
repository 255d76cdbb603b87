use Rattle.std.proofs.Common.{◌≡◌, [], Err, arith, map, option_map, rules, ap, ◌∙◌}
use Rattle.std.specs.List.{sum_by}
use Rattle.std.proofs.lemmas.List.{nil_from_length}
use Rattle.std.proofs.lemmas.List.Sums.{sum_by-cons}
use Rattle.mdblock.specs.FoundLists.{found_unit}
use Rattle.mdsource.specs.UnitTexts.{trees_in}
use Rattle.mdview.specs.ReadUnits.{IsReadUnder}
use Rattle.mdview.specs.HeldTexts.{line_on}
use Rattle.mdview.specs.HeldUnit.{IsRendered, texts_in}
use Rattle.mdview.specs.TextSetting.{DidReadIn, deep_place, texts_under}
use Rattle.mdview.proofs.AlikeTexts.{next_has, rest_have}
use Rattle.mdview.proofs.FoundTexts.{deep_first, deep_later}
use Rattle.mdview.proofs.HeldTiles.{lists_ended, lists_next}
use Rattle.mdview.proofs.MemberChanges.{all_more}
use Rattle.mdview.proofs.UnitsBetween.{text_fault}
use Rattle.mdview.proofs.inlines.UnitTextReader.read_units.Goals as goal

pub read_unit-requires-clause-held : goal.read_unit-requires-clause-held
read_unit-requires-clause-held g c =
    rw c.loop-one.invariant.stays.0
    (next_has (λ x. x.now) (DidReadIn (texts_under c.args.self.now c.args.room.now)) c.next_gone-was.result c.loop-one.like c.next_gone-was.new.held c.next_gone-was.ensures c.loop-one.invariant.like)

pub read_unit-requires-clause-rendered : goal.read_unit-requires-clause-rendered
read_unit-requires-clause-rendered g c =
    next_has (λ x. x.now) (IsRendered c.args.self.now.options.now) c.next_gone-was.result c.loop-one.like c.next_gone-was.new.held c.next_gone-was.ensures c.loop-one.invariant.like_rendered

pub loop-one-preserved : goal.loop-one-preserved
loop-one-preserved g c =
    let items = c.in_ok-push-in-Ok.ensures.items in
    let rest = c.next.new.self.rest.items in
    let one = c.in-Some.one in
    let step = c.in-Some.ensures.steps.0 in
    let s = texts_under c.args.self.now c.args.room.now in
    let made = rw c.loop-one.invariant.stays.0 at c.in-Ok.ensures.unit in
    let deep = rw c.loop-one.invariant.stays.0 at c.in-Ok.ensures.deep in
    let texts = ap (λ l. sum_by texts_in (trees_in (map found_unit l))) step ∙ sum_by-cons texts_in one.unit (trees_in (map found_unit rest)) in
    rw items (record {
      lists = lists_next c.loop-one.units.items c.in-Ok.unit one rest c.args.found.items made.list (rw step at c.loop-one.invariant.lists);
      all = search rules;
      rendered = all_more (IsRendered c.args.self.now.options.now) c.loop-one.units.items c.in-Ok.unit c.loop-one.invariant.rendered made.rendered;
      read = all_more (IsReadUnder s.entities s.behind) c.loop-one.units.items c.in-Ok.unit c.loop-one.invariant.read made.read;
      shallow = c.loop-one.invariant.shallow ∙ ap (λ xs. deep_place s (map found_unit xs)) step
          ∙ deep_later s.options.max_spans s.entities s.behind (found_unit one) (map found_unit rest) deep.0;
      like = rest_have (λ x. x.now) (DidReadIn s) c.next_gone-was.result c.loop-one.like c.next_gone-was.new.held c.next_gone-was.ensures c.loop-one.invariant.like;
      like_rendered = rest_have (λ x. x.now) (IsRendered c.args.self.now.options.now) c.next_gone-was.result c.loop-one.like c.next_gone-was.new.held c.next_gone-was.ensures c.loop-one.invariant.like_rendered;
      stays = (c.read_unit.ensures.stays.0 ∙ c.loop-one.invariant.stays.0, c.read_unit.ensures.stays.1 ∙ c.loop-one.invariant.stays.1);
      inlines = omega (arith, c.read_unit.ensures.inlines, c.loop-one.invariant.inlines, texts);
    })

pub returns-in-Err-clause-deep : goal.returns-in-Err-clause-deep
returns-in-Err-clause-deep g c =
    let s = texts_under c.args.self.now c.args.room.now in
    let deep = rw c.loop-one.invariant.stays.0 at c.in-Err.ensures.deep.1 in
    let all = c.loop-one.invariant.shallow ∙ ap (λ xs. deep_place s (map found_unit xs)) c.in-Some.ensures.steps.0 in
    rw (c.fault_in_unit.ensures, c.saturating_add-begin.ensures, c.begin.ensures) (
      tt,
      text_fault _ c.in-Err.fault _ (λ too. ap (option_map (line_on c.args.from))
          (all ∙ deep_first s.options.max_spans s.entities s.behind (found_unit c.in-Some.one) (map found_unit c.next.new.self.rest.items) (deep (ap Err too)))),
    )

pub returns-clause-units : goal.returns-clause-units
returns-clause-units g c =
    let rest = c.loop-one.one-iterator.rest.items in
    let none : rest ≡ [] = nil_from_length _ (omega (arith, c.in-None.ensures.steps.0, c.loop-one.one-iterator.rest.ok.0)) in
    record {
      all = search rules;
      lists = lists_ended c.loop-one.units.items rest c.args.found.items none c.loop-one.invariant.lists;
      read = c.loop-one.invariant.read;
      rendered = c.loop-one.invariant.rendered;
    }
