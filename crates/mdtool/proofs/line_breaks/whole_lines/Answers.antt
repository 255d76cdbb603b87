use Rattle.std.proofs.Common.{◌∷◌, ◌<◌, [], length, take, drop, ap, arith, length-append, length-drop}
use Rattle.std.proofs.lemmas.List.{take_rest}
use Rattle.mdtool.specs.LineLengths.{cut}
use Rattle.mdtool.proofs.LineLengths.{lengths_whole, cut_whole, none_more}
use Rattle.mdtool.proofs.line_breaks.whole_lines.Goals as goal

pub loop-len-preserved : goal.loop-len-preserved
loop-len-preserved c =
    let found = rw take_rest at c.in-Some.ensures.some in
    let i = c.loop-len.invariant in
    let below : c.in-Some.len < length (drop c.loop-len.end c.args.bytes.now) = found.0 in
    record {
      few = omega (arith, ap length c.in_ok-push.ensures.items, length-append c.loop-len.lens.items (c.in-Some.len ∷ []), c.loop-len-test.true, c.len.ensures);
      within = omega (arith, below, length-drop c.loop-len.end c.args.bytes.now);
      lengths = rw c.in_ok-push.ensures.items (lengths_whole c.loop-len.lens.items c.args.bytes.now c.loop-len.end c.in-Some.len i.lengths below found.1);
      unbroken = rw (c.in_ok-push.ensures.items, cut_whole c.loop-len.lens.items c.args.bytes.now c.loop-len.end c.in-Some.len i.lengths) (none_more (cut c.loop-len.lens.items (take c.loop-len.end c.args.bytes.now)) (take c.in-Some.len (drop c.loop-len.end c.args.bytes.now)) i.unbroken found.2);
    }
