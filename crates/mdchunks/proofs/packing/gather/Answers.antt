use Rattle.std.proofs.Common.{◌≡◌, ◌++◌, ◌+◌, ◌-◌, ◌∙◌, ap, arith, length, take, drop}
use Rattle.mdchunks.proofs.Inserted.{gathered}
use Rattle.mdchunks.proofs.packing.gather.Goals as goal

pub returns-clause-members : goal.returns-clause-members
returns-clause-members g c =
    let add = c.args.added.items in
    let n = c.len-count.result in
    let count : n ≡ length add = omega (arith, c.len-count.ensures, c.args.added.ok.0) in
    let behind : c.len.result - c.args.at ≡ length c.args.chunk.now - c.args.at = ap (λ k. k - c.args.at) c.len.ensures.value in
    let turned : c.rotate_from.new.items.items ≡ take 0 (add ++ c.args.chunk.now) ++ drop (0 + n) (add ++ c.args.chunk.now) ++ take n (drop 0 (add ++ c.args.chunk.now)) =
    c.rotate_from.ensures.items ∙ ap (λ ys. drop (0 + n) ys ++ take n ys) c.pour.ensures.all in
    c.rotate_from-2.ensures.items
    ∙ gathered add c.args.chunk.now n c.args.at (c.len.result - c.args.at) count c.requires.within behind c.rotate_from.new.items.items turned
