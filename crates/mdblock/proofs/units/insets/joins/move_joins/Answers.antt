use Rattle.std.proofs.Common.{◌<◌, length, ◌∙◌, arith}
use Rattle.std.proofs.lemmas.List.{length-set}
use Rattle.blockspec.proofs.DocumentLaws.{map_length}
use Rattle.mdblock.specs.FoundLists.{join_mark}
use Rattle.mdblock.specs.Spliced.{mark_further}
use Rattle.mdblock.proofs.InsetLaws.{joins_moved}
use Rattle.mdblock.proofs.units.insets.joins.move_joins.Goals as goal

pub loop-i-preserved : goal.loop-i-preserved
loop-i-preserved c =
    let js = c.loop-i.joins in
    let i = c.loop-i.i in
    let w = c.loop-i.invariant in
    let size = map_length join_mark c.args.joins.now in
    let room : i < length js = omega (arith, c.loop-i-test.true, c.loop-i.auto.i-end, w.size) in
    record {
      size = length-set js i c.moved.result ∙ w.size;
      marks = joins_moved (mark_further (join_mark c.args.from) (join_mark c.args.to)) js _ i _ c.moved.result room (omega (arith, w.size, size)) w.marks c.moved.ensures;
    }
