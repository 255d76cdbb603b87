use Rattle.std.proofs.Common.{◌≡◌, ◌+◌, ◌-◌, ◌<◌, ◌∷◌, List, ap, arith, drop, length, map, sym, take, ◌∙◌}
use Rattle.blockspec.specs.UnitTree.{UnitTree}
use Rattle.mdview.specs.HeldTexts.{between}
use Rattle.mdview.specs.HeldUnit.{HeldUnit, unit_in}
use Rattle.mdview.specs.ToldLabels.{labels_by, labels_in, told, touched_by}
use Rattle.mdview.proofs.Ahead.{first_comes, first_left, left_at, left_behind, something_comes}
use Rattle.mdview.proofs.ToldLaws.{touched_unit}
use Rattle.mdview.proofs.UnitsBetween.{between_next}
use Rattle.mdview.proofs.labels.touched.TouchedLabels.touch_held.Goals as goal

pub unwrap-requires : goal.unwrap-requires
unwrap-requires c =
    let units : List HeldUnit = c.args.units.now.items in
    let high : c.loop.counter < length units = omega (arith, c.loop-test.true, c.requires.within) in
    something_comes (λ x. x.now) c.next.result c.loop.rest c.next.new.self c.next.ensures.steps (left_at units c.loop.rest c.loop.counter c.loop.invariant.ahead high)

pub loop-preserved : goal.loop-preserved
loop-preserved c =
    let units : List HeldUnit = c.args.units.now.items in
    let i = c.loop.counter in
    let next = c.args.next in
    let u : HeldUnit = c.unwrap.result.now in
    let comes = first_comes (λ x. x.now) c.next.result c.loop.rest c.next.new.self c.unwrap.result c.next.ensures.steps c.unwrap.ensures in
    let at = first_left units c.loop.rest c.next.new.self u u i c.loop.invariant.ahead comes in
    let split : between i next units ≡ u ∷ between (i + 1) next units = between_next i next units u (omega (arith, c.loop-test.true)) c.requires.within at in
    let later : List UnitTree = map unit_in (between (i + 1) next units) in
    record {
      ahead = left_behind units c.loop.rest c.next.new.self u i c.loop.invariant.ahead comes;
      touched = λ q.
          let old = told c.loop.self q in
          ap (touched_by (labels_by later) q) (c.in_ok-touch.ensures q ∙ ap (λ (unit : UnitTree). touched_by (labels_in unit.definitions) q old) c.unit.ensures)
          ∙ sym (touched_unit (unit_in u) later q old)
          ∙ ap (λ us. touched_by (labels_by (map unit_in us)) q old) (sym split)
          ∙ c.loop.invariant.touched q;
    }

pub returns : goal.returns
returns c = λ q.
    let units : List HeldUnit = c.args.units.now.items in
    let i = c.loop.counter in
    let none : c.args.next - i ≡ 0 = omega (arith, c.loop-test.false) in
    sym (ap (λ n. touched_by (labels_by (map unit_in (take n (drop i units)))) q (told c.loop.self q)) none) ∙ c.loop.invariant.touched q
