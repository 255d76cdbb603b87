use Rattle.std.proofs.Common.{◌≡◌, ◌+◌, ◌++◌, ◌≤◌, drop, length, map, take, ◌∙◌, ap, arith}
use Rattle.blockspec.proofs.DocumentLaws.{map_length}
use Rattle.mdblock.specs.FoundLists.{join_mark}
use Rattle.mdblock.specs.Spliced.{mark_at, mark_further, no_mark}
use Rattle.mdblock.proofs.InsetLaws.{parts_behind, parts_mapped}
use Rattle.mdblock.proofs.units.insets.joins.put_later_joins.Goals as goal

pub returns : goal.returns
returns c =
    let k = c.args.k in
    let O = c.args.joins.now.items in
    let M = c.moved_joins-part.result.items in
    let P = map join_mark c.args.part.items in
    let old = map join_mark O in
    let size = map_length join_mark O in
    let many = map_length join_mark M in
    let base : join_mark c.join_at-base.result ≡ mark_at old k = c.join_at-base.ensures ∙ ap (λ z. mark_at (map join_mark z) k) c.deref.ensures.value in
    let moved : map join_mark M ≡ map (mark_further no_mark (mark_at old k)) P = c.moved_joins-part.ensures ∙ ap (λ z. map (mark_further no_mark z) P) base in
    let room : k + 1 ≤ length old = (let h = c.requires.there in omega (arith, h, size)) in
    let end : k + 1 + c.len.result ≡ k + 1 + length (map join_mark M) = (let h = c.len.ensures in let o = c.moved_joins-part.result.ok.0 in omega (arith, h, o, many)) in
    ap (map join_mark) c.swap_between.ensures
    ∙ parts_mapped join_mark (k + 1) (k + 1 + c.len.result) M O
    ∙ parts_behind (k + 1) (k + 1 + c.len.result) (map join_mark M) old room end
    ∙ ap (λ z. (take (k + 1) old ++ z) ++ drop (length (take (k + 1) old ++ z)) old) moved
