use Rattle.std.proofs.Common.{◌≡◌, ◌+◌, ◌<◌, ◌∙◌, [], length, arith}
use Rattle.std.proofs.lemmas.List.{length-set}
use Rattle.mdblock.proofs.Exchanges.{back_swapped, between_swapped}
use Rattle.mdview.proofs.held.units.put_first.Goals as goal

pub loop-i-preserved : goal.loop-i-preserved
loop-i-preserved c =
    let i = c.loop-i.i in
    let w = c.loop-i.invariant in
    let room : i < length c.loop-i.inlines = omega (arith, c.loop-i-test.true, w.lengths.0, c.requires, c.loop-i.auto.i-end) in
    let more : i < length c.loop-i.first.items = omega (arith, c.loop-i-test.true, w.lengths.1, c.loop-i.first.ok.0, c.loop-i.auto.i-end) in
    let same : length c.loop-i.first.items ≡ length c.args.first.items = omega (arith, w.lengths.1, c.loop-i.first.ok.0, c.args.first.ok.0) in
    record {
      front = between_swapped [] c.args.first.items c.loop-i.inlines c.loop-i.first.items i i c.swap.new.x _ room more same w.front w.rest (c.swap.ensures.x_after ∙ c.index_mut.ensures.value);
      back = back_swapped c.loop-i.inlines c.args.inlines.now (i + 1) i c.swap.new.x (omega arith) w.back;
      rest = back_swapped c.loop-i.first.items c.args.first.items (i + 1) i c.swap.new.y (omega arith) w.rest;
      lengths = (length-set c.loop-i.inlines i c.swap.new.x ∙ w.lengths.0, w.lengths.1);
    }
