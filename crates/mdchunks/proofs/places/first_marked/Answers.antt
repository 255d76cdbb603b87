use Rattle.std.proofs.Common.{◌≡◌, ◌+◌, ◌<◌, [], ap, arith, get_or, length, sym}
use Rattle.std.proofs.lemmas.List.{get_or_read, take_all}
use Rattle.mdchunks.specs.Lists.{joined}
use Rattle.mdchunks.proofs.Joined.{item_at, length_front, length_more}
use Rattle.mdchunks.proofs.MarkSums.{apart_inside, apart_more}
use Rattle.mdchunks.proofs.places.first_marked.Goals as goal

pub overflow_add-result : goal.overflow_add-result
overflow_add-result g c =
    let front = length_front c.args.chunks.now c.loop-i.i c.index-chunks-i.result c.loop-i-test.true in
    omega (arith, front, ap length c.index-chunks-i.is, c.loop-i.invariant.before, c.apart_in-inside.ensures.within, c.requires.few)

pub returns-then-inside-len-clause-within : goal.returns-then-inside-len-clause-within
returns-then-inside-len-clause-within g c =
    let front = length_front c.args.chunks.now c.loop-i.i c.index-chunks-i.result c.loop-i-test.true in
    omega (arith, front, ap length c.index-chunks-i.is, c.loop-i.invariant.before, c.apart_in-inside.ensures.within)

pub returns-then-inside-len-clause-apart : goal.returns-then-inside-len-clause-apart
returns-then-inside-len-clause-apart g c =
    rw c.loop-i.invariant.before
    (apart_inside g.T.Weighed.marks c.args.marks c.args.chunks.now c.loop-i.i c.apart_in-inside.result c.index-chunks-i.result c.loop-i-test.true c.index-chunks-i.is c.loop-i.invariant.apart
    c.apart_in-inside.ensures.apart c.apart_in-inside.ensures.within)

pub returns-then-inside-len-clause-marked : goal.returns-then-inside-len-clause-marked
returns-then-inside-len-clause-marked g c d few =
    let xss = c.args.chunks.now in
    let i = c.loop-i.i in
    let k = c.apart_in-inside.result in
    let chunk = c.index-chunks-i.result in
    let here = c.loop-i-test.true in
    let read = c.index-chunks-i.is in
    let there : k < length chunk = omega (arith, c.if-inside-len.true, c.len.ensures.value) in
    let other : chunk ≡ get_or xss i [] = get_or_read xss i chunk here read [] in
    rw (sym (item_at xss i k (c.loop-i.before + k) chunk d here read (omega (arith, there, ap length other)) (omega (arith, c.loop-i.invariant.before)))) (c.apart_in-inside.ensures.marked d there)

pub overflow_add-before : goal.overflow_add-before
overflow_add-before g c =
    let front = length_front c.args.chunks.now c.loop-i.i c.index-chunks-i.result c.loop-i-test.true in
    omega (arith, front, ap length c.index-chunks-i.is, c.loop-i.invariant.before, c.len-before.ensures.value, c.requires.few)

pub loop-i-preserved : goal.loop-i-preserved
loop-i-preserved g c =
    let xss = c.args.chunks.now in
    let chunk = c.index-chunks-i.result in
    let here = c.loop-i-test.true in
    let read = c.index-chunks-i.is in
    record {
      before = omega (arith, length_more xss c.loop-i.i chunk here, ap length read, c.len-before.ensures.value, c.loop-i.invariant.before);
      apart = apart_more g.T.Weighed.marks c.args.marks xss c.loop-i.i c.apart_in-inside.result chunk here read c.loop-i.invariant.apart c.apart_in-inside.ensures.apart
          (omega (arith, c.if-inside-len.false, c.len.ensures.value));
    }

pub returns-clause-marked : goal.returns-clause-marked
returns-clause-marked g c d few =
    let all = ap (λ yss. length (joined yss)) (take_all c.loop-i.i c.args.chunks.now (omega (arith, c.loop-i-test.false))) in
    absurd (omega (arith, all, c.loop-i.invariant.before, few))
