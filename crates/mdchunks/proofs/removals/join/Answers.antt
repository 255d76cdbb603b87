use Rattle.std.proofs.Common.{◌≡◌, ◌+◌, ◌<◌, ap, arith, length, get_or, remove, suc, take, drop, ◌∙◌}
use Rattle.std.proofs.lemmas.List.{length-append}
use Rattle.std.proofs.lemmas.List.Elements.{All-append, All-drop, All-get_or, All-set, All-take}
use Rattle.std.specs.List.{All}
use Rattle.mdchunks.specs.Lists.{IsFilled}
use Rattle.mdchunks.proofs.Joined.{joined_pair}
use Rattle.mdchunks.proofs.removals.join.Goals as goal

pub returns-then-len-le-SMALL-clause-members : goal.returns-then-len-le-SMALL-clause-members
returns-then-len-le-SMALL-clause-members g c =
    let one : c.args.i + 1 ≡ suc c.args.i = omega arith in
    let here : suc c.args.i < length c.args.chunks.now.items = omega (arith, c.if-i-count.false, c.if-count-lt2.false, c.len-count.ensures, c.args.chunks.now.ok.0) in
    let pair = joined_pair c.args.chunks.now.items c.args.i c.index_mut.result.now c.remove-next.result here in
    let a = c.append.ensures in
    let v = c.remove-next.ensures.value in
    let m = c.index_mut.ensures.value in
    let n = c.remove-next.ensures.items in
    cc

pub returns-then-len-le-SMALL-clause-filled : goal.returns-then-len-le-SMALL-clause-filled
returns-then-len-le-SMALL-clause-filled g c =
    let items = c.args.chunks.now.items in
    let at = c.args.i + 1 in
    let here : at < length items = omega (arith, c.if-i-count.false, c.if-count-lt2.false, c.len-count.ensures, c.args.chunks.now.ok.0) in
    let next : IsFilled (get_or items at c.remove-next.result) = All-get_or IsFilled items at c.remove-next.result here c.requires.filled in
    let long : length c.remove-next.result ≡ length (get_or items at c.remove-next.result) = ap length c.remove-next.ensures.value in
    let both : length c.append.new.self ≡ length c.index_mut.result.now + length c.remove-next.result = ap length c.append.ensures ∙ length-append c.index_mut.result.now c.remove-next.result in
    let some : IsFilled c.append.new.self = omega (arith, next, long, both) in
    let rest : All IsFilled (remove items at) =
    All-append IsFilled (take at items) (drop (suc at) items) (All-take IsFilled at items c.requires.filled) (All-drop IsFilled (suc at) items c.requires.filled) in
    All-set IsFilled c.remove-next.new.self.items c.args.i c.append.new.self some (rw c.remove-next.ensures.items rest)
