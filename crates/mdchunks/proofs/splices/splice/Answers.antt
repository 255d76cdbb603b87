use Rattle.std.proofs.Common.{◌≡◌, ◌<◌, ◌≤◌, ◌+◌, ◌∙◌, [], ap, arith, get_or, length}
use Rattle.std.proofs.lemmas.List.{get_or_read, take-set}
use Rattle.std.proofs.Math.ListN.{set}
use Rattle.mdchunks.specs.Lists.{joined}
use Rattle.mdchunks.proofs.Inserted.{spliced_at}
use Rattle.mdchunks.proofs.splices.splice.Goals as goal

pub returns-then-len-removed-ge-FEW-clause-members : goal.returns-then-len-removed-ge-FEW-clause-members
returns-then-len-removed-ge-FEW-clause-members g c =
    let xss = c.args.chunks.now.items in
    let chunk = c.locate_edit-place.result.chunk in
    let same = c.deref.ensures.value in
    let here : chunk < length xss = rw same at c.locate_edit-place.ensures.within in
    let inside = rw same at c.locate_edit-place.ensures.inside in
    let other : length c.index.result.now ≡ length (get_or xss chunk []) = ap length (get_or_read xss chunk c.index.result.now here c.index.ensures []) in
    let within : c.locate_edit-place.result.inside + c.args.removed ≤ length (get_or xss chunk []) = omega (arith, inside, other, c.len-len.ensures.value) in
    ap (λ ys. joined (set xss chunk ys)) c.splice.ensures
    ∙ spliced_at xss chunk c.locate_edit-place.result.inside c.args.at c.args.removed c.index_mut.result.now c.args.added.items here c.index_mut.ensures.value within
    (rw same at c.locate_edit-place.ensures.place)

pub returns-then-len-removed-ge-FEW-clause-near : goal.returns-then-len-removed-ge-FEW-clause-near
returns-then-len-removed-ge-FEW-clause-near g c =
    let xss = c.args.chunks.now.items in
    let chunk = c.locate_edit-place.result.chunk in
    let place = rw c.deref.ensures.value at c.locate_edit-place.ensures.place in
    let same = ap (λ yss. length (joined yss)) (take-set xss chunk c.splice.new.self) in
    omega (arith, same, place)
