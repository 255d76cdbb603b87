use Rattle.std.proofs.Common.{◌≡◌, ◌<◌, ◌∙◌, [], ap, arith, get_or, length}
use Rattle.std.proofs.Math.ListN.{set}
use Rattle.std.proofs.lemmas.Grind.{common_steps}
use Rattle.std.proofs.lemmas.List.{get_or_read}
use Rattle.std.proofs.lemmas.List.Elements.{All-set}
use Rattle.mdchunks.specs.Lists.{IsFilled, joined}
use Rattle.mdchunks.proofs.Inserted.{spliced_at, some_replaced}
use Rattle.mdchunks.proofs.packing.insert.Goals as goal

pub returns-then-len-clause-members : goal.returns-then-len-clause-members
returns-then-len-clause-members g c =
    let xss = c.args.chunks.now.items in
    let chunk = c.locate-place.result.chunk in
    let same = c.deref.ensures.value in
    let here : chunk < length xss = grind (arith, common_steps) in
    ap (λ ys. joined (set xss chunk ys)) c.splice-then-len.ensures
    ∙ spliced_at xss chunk c.locate-place.result.inside c.args.at 0 c.index_mut.result.now c.args.added.items here c.index_mut.ensures.value
    (let h = rw same at c.locate-place.ensures.inside in omega (arith, h)) (rw same at c.locate-place.ensures.place)

pub returns-then-len-clause-filled : goal.returns-then-len-clause-filled
returns-then-len-clause-filled g c =
    let same = c.deref.ensures.value in
    let here : c.locate-place.result.chunk < length c.args.chunks.now.items = grind (arith, common_steps) in
    let inside = rw same at c.locate-place.ensures.inside in
    let long : length c.index_mut.result.now ≡ length (get_or c.args.chunks.now.items c.locate-place.result.chunk []) =
    ap length (get_or_read c.args.chunks.now.items c.locate-place.result.chunk c.index_mut.result.now here c.index_mut.ensures.value []) in
    let some : IsFilled c.args.added.items = grind (arith, common_steps) in
    All-set IsFilled c.args.chunks.now.items c.locate-place.result.chunk c.splice-then-len.new.self
    (rw c.splice-then-len.ensures (some_replaced c.index_mut.result.now c.args.added.items c.locate-place.result.inside 0 (omega (arith, inside, long)) (omega (arith, some)))) c.requires.filled
