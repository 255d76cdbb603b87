use Rattle.std.proofs.Common.{◌<◌, ◌-◌, arith, length}
use Rattle.std.specs.Vec.{vec_len}
use Rattle.std.specs.Vec.Iter.{into_iter_items}
use Rattle.mdchunks.proofs.Packed.{filled_more, packed_more, room_more, some_left}
use Rattle.mdchunks.proofs.packing.pack.Goals as goal

pub loop-spare-preserved : goal.loop-spare-preserved
loop-spare-preserved g c =
    let rest = into_iter_items c.loop-spare.rest in
    let later = into_iter_items c.fill.new.source in
    let xss = c.loop-spare.spare.items in
    let used = c.loop-spare.used in
    let size = c.chunk_size-size.result in
    let some : 0 < length rest = omega (arith, c.loop-spare-test.true, c.len-in-loop-spare.ensures, c.loop-spare.rest.rest.ok.0) in
    let left = some_left (length rest) size (vec_len c.loop-spare.spare - used) some c.loop-spare.invariant.room in
    let within : used < vec_len c.loop-spare.spare = omega (arith, left) in
    let here : used < length xss = omega (arith, within, c.loop-spare.spare.ok.0) in
    record {
      members = packed_more c.args.all.items rest later c.fill.new.self xss used size c.loop-spare.invariant.members here c.fill.ensures.front c.fill.ensures.rest;
      filled = filled_more rest c.fill.new.self xss used size c.loop-spare.invariant.filled here c.fill.ensures.front c.chunk_size-size.ensures.some some;
      room = room_more rest later size (vec_len c.loop-spare.spare) used c.fill.ensures.rest c.loop-spare.invariant.room within;
      within = omega (arith, within);
      same = c.loop-spare.invariant.same;
    }
