use Rattle.std.proofs.Common.{◌≡◌, ◌<◌, ◌+◌, ◌-◌, ◌^◌, ◌∙◌, ◌⊎◌, ap, arith, length, min, inl, inr}
use Rattle.mdchunks.specs.Lists.{weigh}
use Rattle.mdchunks.proofs.LastAt.{Inside, ends_within, last_at}
use Rattle.mdchunks.proofs.places.find.Goals as goal
use Rattle.mdchunks.proofs.places.find.Goals.{then-i-chunks-via-then-i-chunks, then-i-chunks-via-else-i-chunks+then-weight-behind}

pub overflow_add-result : goal.overflow_add-result
overflow_add-result g c =
    let s : Inside g.T.Weighed.weight c.args.chunks.now c.loop-i.i c.loop-i.start.member c.loop-i.start.front c.index-chunks-i.result =
    record { here = c.loop-i-test.true; read = c.index-chunks-i.is; before = c.loop-i.invariant.here; weight = c.loop-i.invariant.front } in
    let ends = ends_within _ _ _ _ _ _ s in
    let long : length c.items.result.now ≡ length c.index-chunks-i.result = ap length c.items.ensures.value in
    omega (arith, ends, long, c.find_inside-found.ensures.within, c.requires.few)

pub overflow_add-start : goal.overflow_add-start
overflow_add-start g c =
    let s : Inside g.T.Weighed.weight c.args.chunks.now c.loop-i.i c.loop-i.start.member c.loop-i.start.front c.index-chunks-i.result =
    record { here = c.loop-i-test.true; read = c.index-chunks-i.is; before = c.loop-i.invariant.here; weight = c.loop-i.invariant.front } in
    let ends = ends_within _ _ _ _ _ _ s in
    omega (arith, ends, c.len.ensures.value, c.requires.few)

pub returns-then-i-chunks : goal.returns-then-i-chunks
returns-then-i-chunks g c =
    let s : Inside g.T.Weighed.weight c.args.chunks.now c.loop-i.i c.loop-i.start.member c.loop-i.start.front c.index-chunks-i.result =
    record { here = c.loop-i-test.true; read = c.index-chunks-i.is; before = c.loop-i.invariant.here; weight = c.loop-i.invariant.front } in
    let read = c.items.ensures.value in
    let sum : c.saturating_add-behind.result ≡ min (c.loop-i.start.front + weigh g.T.Weighed.weight c.index-chunks-i.result) (2 ^ 64 - 1) =
    c.saturating_add-behind.ensures ∙ ap (λ n. min (c.loop-i.start.front + n) (2 ^ 64 - 1)) c.weight.ensures in
    let last : (c.loop-i.i + 1 ≡ length c.args.chunks.now) ⊎ (c.args.weight < min (c.loop-i.start.front + weigh g.T.Weighed.weight c.index-chunks-i.result) (2 ^ 64 - 1)) =
    elim c.then-i-chunks.branch [
      | then-i-chunks-via-then-i-chunks w ↦ inl w.if-i-chunks.true
      | then-i-chunks-via-else-i-chunks+then-weight-behind w ↦ inr (rw sum at w.if-weight-behind.true)
    ] in
    let found = c.find_inside-found.ensures in
    last_at g.T.Weighed.weight c.args.chunks.now c.loop-i.i c.loop-i.start.member c.loop-i.start.front c.find_inside-found.result.member
    c.find_inside-found.result.front c.args.weight c.index-chunks-i.result s
    (rw read at found.within) (rw read at found.front) found.below (rw read at found.next) last
