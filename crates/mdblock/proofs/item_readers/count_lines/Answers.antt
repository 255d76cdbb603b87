use Rattle.std.proofs.Common.{◌≡◌, arith, ap, ◌∙◌}
use Rattle.mdblock.specs.CountedLines.{counted_by}
use Rattle.mdblock.proofs.CountedLaws.{counted_at_most}
use Rattle.mdblock.proofs.item_readers.count_lines.Goals as goal

pub returns-clause-lines : goal.returns-clause-lines
returns-clause-lines g c =
    let within = c.loop.auto.counter-end in
    let all : c.loop.counter ≡ c.args.lines = omega (arith, within, c.loop-test.false) in
    c.loop.invariant.0 ∙ ap (λ z. counted_by z (g.C.Count.lines c.args.count.now)) all

pub returns-clause-no_more : goal.returns-clause-no_more
returns-clause-no_more g c = counted_at_most c.loop.counter c.args.lines (g.C.Count.lines c.args.count.now) (g.C.Count.lines c.loop.count) c.loop.invariant.0 c.loop.auto.counter-end
