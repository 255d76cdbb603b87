use Rattle.std.proofs.Common.{◌≡◌, ◌+◌, ◌-◌, ◌<◌, ◌∷◌, ℕ, None, List, ap, arith, drop, length, map, sym, take, ◌∙◌}
use Rattle.blockspec.specs.UnitTree.{UnitTree}
use Rattle.mdview.specs.HeldTexts.{between}
use Rattle.mdview.specs.HeldUnit.{HeldUnit, unit_in}
use Rattle.mdview.specs.LabelTargets.{definitions_by}
use Rattle.mdview.specs.ToldLabels.{told, told_by}
use Rattle.mdview.proofs.Ahead.{first_comes, first_left, left_at, left_behind, something_comes}
use Rattle.mdview.proofs.PassedUnits.{told_past}
use Rattle.mdview.proofs.ToldLaws.{told_of_none, told_unit}
use Rattle.mdview.proofs.UnitsBetween.{between_next}
use Rattle.mdview.proofs.labels.touched.TouchedLabels.define_held.Goals as goal

pub loop-i-init : goal.loop-i-init
loop-i-init c = record {
  low = c.next_marked-i.ensures.low;
  high = c.next_marked-i.ensures.high;
  ahead = c.next_marked-i.ensures.ahead;
  seen = λ q. told_past (told c.args.self.now) c.marks-marks.result c.marks-marks.ensures q c.args.first c.next_marked-i.result c.args.next c.args.units.now.items
      c.next_marked-i.ensures.low c.next_marked-i.ensures.high c.next_marked-i.ensures.apart;
  untouched = λ q none. none;
}

pub unwrap-requires : goal.unwrap-requires
unwrap-requires c =
    let units : List HeldUnit = c.args.units.now.items in
    let high : c.loop-i.i < length units = omega (arith, c.loop-i-test.true, c.requires.within) in
    something_comes (λ x. x.now) c.next.result c.loop-i.rest c.next.new.self c.next.ensures.steps (left_at units c.loop-i.rest c.loop-i.i (c.loop-i.invariant.ahead c.loop-i-test.true) high)

pub next_marked-i-requires-in-loop-i-clause-ahead : goal.next_marked-i-requires-in-loop-i-clause-ahead
next_marked-i-requires-in-loop-i-clause-ahead c =
    let units : List HeldUnit = c.args.units.now.items in
    let comes = first_comes (λ x. x.now) c.next.result c.loop-i.rest c.next.new.self c.unwrap.result c.next.ensures.steps c.unwrap.ensures in
    left_behind units c.loop-i.rest c.next.new.self c.unwrap.result.now c.loop-i.i (c.loop-i.invariant.ahead c.loop-i-test.true) comes

pub loop-i-preserved : goal.loop-i-preserved
loop-i-preserved c =
    let units : List HeldUnit = c.args.units.now.items in
    let i = c.loop-i.i in
    let j = c.next_marked-i-in-loop-i.result in
    let next = c.args.next in
    let u : HeldUnit = c.unwrap.result.now in
    let comes = first_comes (λ x. x.now) c.next.result c.loop-i.rest c.next.new.self c.unwrap.result c.next.ensures.steps c.unwrap.ensures in
    let at = first_left units c.loop-i.rest c.next.new.self u u i (c.loop-i.invariant.ahead c.loop-i-test.true) comes in
    let split : between i next units ≡ u ∷ between (i + 1) next units = between_next i next units u (omega (arith, c.loop-i-test.true)) c.requires.within at in
    let later : List UnitTree = map unit_in (between (i + 1) next units) in
    let passes = c.next_marked-i-in-loop-i.ensures in
    let none : (q : List ℕ) → told c.args.self.now q ≡ None → told c.define.new.self q ≡ None = λ q h.
    c.in_ok-define.ensures q ∙ ap (λ (unit : UnitTree). told_by unit.definitions q (told c.loop-i.self q)) c.unit.ensures
    ∙ ap (told_by (unit_in u).definitions q) (c.loop-i.invariant.untouched q h) ∙ told_of_none (unit_in u).definitions q in
    record {
      low = omega (arith, c.loop-i.invariant.low, passes.low);
      high = passes.high;
      ahead = passes.ahead;
      seen = λ q.
          let old = told c.loop-i.self q in
          told_past (told c.define.new.self) c.marks-marks.result (λ label far. none label (c.marks-marks.ensures label far)) q (i + 1) j next units passes.low passes.high passes.apart
          ∙ ap (told_by (definitions_by later) q) (c.in_ok-define.ensures q ∙ ap (λ (unit : UnitTree). told_by unit.definitions q old) c.unit.ensures)
          ∙ sym (told_unit (unit_in u) later q old)
          ∙ ap (λ us. told_by (definitions_by (map unit_in us)) q old) (sym split)
          ∙ c.loop-i.invariant.seen q;
      untouched = none;
    }

pub returns : goal.returns
returns c = λ q.
    let units : List HeldUnit = c.args.units.now.items in
    let i = c.loop-i.i in
    let none : c.args.next - i ≡ 0 = omega (arith, c.loop-i-test.false) in
    sym (ap (λ n. told_by (definitions_by (map unit_in (take n (drop i units)))) q (told c.loop-i.self q)) none) ∙ c.loop-i.invariant.seen q
