use Rattle.std.proofs.Common.{◌≡◌, ◌+◌, ◌<◌, ◌∙◌, length, arith}
use Rattle.mdchunks.proofs.Replacements.{front_swapped, back_swapped}
use Rattle.mdchunks.proofs.moves.swap_members.Goals as goal

pub loop-i-preserved : goal.loop-i-preserved
loop-i-preserved g c =
    let at = c.args.at in
    let i = c.loop-i.i in
    let room : at + i < length c.loop-i.items.items = omega (arith, c.loop-i-test.true, c.loop-i.invariant.lengths.0, c.loop-i.items.ok.0, c.requires.within, c.loop-i.auto.i-end) in
    let more : i < length c.loop-i.add.items = omega (arith, c.loop-i-test.true, c.loop-i.invariant.lengths.1, c.loop-i.add.ok.0, c.requires.enough, c.loop-i.auto.i-end) in
    let same : length c.loop-i.add.items ≡ length c.args.add.now.items = omega (arith, c.loop-i.invariant.lengths.1, c.loop-i.add.ok.0, c.args.add.now.ok.0) in
    record {
      front = front_swapped c.args.items.now.items c.args.add.now.items c.loop-i.items.items c.loop-i.add.items at i c.swap.new.x _ room more same
          c.loop-i.invariant.front c.loop-i.invariant.rest (c.swap.ensures.x_after ∙ c.index_mut-in-loop-i.ensures.value);
      back = back_swapped c.loop-i.items.items c.args.items.now.items (at + (i + 1)) (at + i) c.swap.new.x (omega arith) c.loop-i.invariant.back;
      rest = back_swapped c.loop-i.add.items c.args.add.now.items (i + 1) i c.swap.new.y (omega arith) c.loop-i.invariant.rest;
      lengths = c.loop-i.invariant.lengths;
      room = c.loop-i.invariant.room;
    }
