use Rattle.std.proofs.Common.{◌≡◌, ◌<◌, ◌-◌, ◌∙◌, ap, sym, arith, get_or, length, min}
use Rattle.std.proofs.lemmas.Bool.{true≢false}
use Rattle.std.proofs.lemmas.List.{get_or_default, set-get_or}
use Rattle.std.proofs.lemmas.List.Elements.{All-set}
use Rattle.mdchunks.specs.Lists.{IsFilled, joined}
use Rattle.mdchunks.proofs.Removed.{cut_all, cut_more, some_kept}
use Rattle.mdchunks.proofs.removals.remove_members.Goals as goal
use Rattle.mdchunks.proofs.removals.remove_members.Goals.{then-gone-len, else-gone-len}

pub returns-then-left-eq0-clause-members : goal.returns-then-left-eq0-clause-members
returns-then-left-eq0-clause-members g c =
    ap joined (set-get_or c.loop-chunk.chunks c.loop-chunk.chunk-index c.chunk-item.result)
    ∙ cut_all _ c.loop-chunk.chunks c.loop-chunk.chunk-index c.loop-chunk.at c.loop-chunk.left c.loop-chunk.invariant.done c.if-left-eq0.true

pub loop-chunk-preserved : goal.loop-chunk-preserved
loop-chunk-preserved g c =
    let xss = c.loop-chunk.chunks in
    let at = c.loop-chunk.chunk-index in
    let here : at < length xss = omega (arith, c.loop-chunk.auto.chunks, c.loop-chunk-test.true) in
    let chunk = get_or xss at c.chunk-item.result in
    let from : c.min-from.result ≡ min c.loop-chunk.at (length chunk) = c.min-from.ensures ∙ ap (λ n. min c.loop-chunk.at n) c.len-len.ensures.value in
    let gone : c.min-gone.result ≡ min c.loop-chunk.left (length chunk - c.min-from.result) = c.min-gone.ensures ∙ ap (λ n. min c.loop-chunk.left (n - c.min-from.result)) c.len-len.ensures.value in
    record {
      done = cut_more _ xss at c.loop-chunk.at c.loop-chunk.left c.min-from.result c.min-gone.result chunk c.remove.new.self c.loop-chunk.invariant.done here
          (get_or_default xss at c.chunk-item.result chunk here) from gone c.remove.ensures;
      filled = λ e all. elim c.if-gone-len.branch [
        | then-gone-len w ↦ absurd (true≢false (sym w.emptied-is ∙ e))
        | else-gone-len w ↦
            let few : c.min-gone.result < length chunk = omega (arith, gone, w.if-gone-len.false, c.len-len.ensures.value) in
            All-set IsFilled xss at c.remove.new.self
            (some_kept chunk c.remove.new.self c.min-from.result c.min-gone.result c.remove.ensures (omega (arith, from, gone)) few)
            (c.loop-chunk.invariant.filled (sym w.emptied-is ∙ e) all)
      ];
    }
