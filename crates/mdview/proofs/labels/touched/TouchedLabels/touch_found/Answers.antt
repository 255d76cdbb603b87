use Rattle.std.proofs.Common.{◌∙◌, ap}
use Rattle.blockspec.specs.UnitTree.{UnitTree}
use Rattle.mdview.specs.ToldLabels.{labels_in, told, touched_by}
use Rattle.mdview.proofs.ToldLaws.{touched_more}
use Rattle.mdview.proofs.labels.touched.TouchedLabels.touch_found.Goals as goal

pub loop-one-preserved : goal.loop-one-preserved
loop-one-preserved c = λ q.
    let old = told c.loop-one.self q in
    touched_more (λ one. one.unit) c.args.found.now c.loop-one.one-index c.one-item.result c.loop-one-test.true c.one-item.is q old (told c.touch.new.self q) _
    (c.in_ok-touch.ensures q ∙ ap (λ (unit : UnitTree). touched_by (labels_in unit.definitions) q old) c.unit.ensures) (c.loop-one.invariant q)
