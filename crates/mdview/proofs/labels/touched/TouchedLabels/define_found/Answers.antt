use Rattle.std.proofs.Common.{◌∙◌, ap}
use Rattle.blockspec.specs.UnitTree.{UnitTree}
use Rattle.mdview.specs.ToldLabels.{told, told_by}
use Rattle.mdview.proofs.ToldLaws.{told_more}
use Rattle.mdview.proofs.labels.touched.TouchedLabels.define_found.Goals as goal

pub loop-one-preserved : goal.loop-one-preserved
loop-one-preserved c = λ q.
    let old = told c.loop-one.self q in
    told_more (λ one. one.unit) c.args.found.now c.loop-one.one-index c.one-item.result c.loop-one-test.true c.one-item.is q old (told c.define.new.self q) _
    (c.in_ok-define.ensures q ∙ ap (λ (unit : UnitTree). told_by unit.definitions q old) c.unit.ensures) (c.loop-one.invariant q)
