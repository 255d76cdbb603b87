use Rattle.std.proofs.Common.{◌≡◌, ◌∷◌, ◌++◌, ◌∙◌, [], sym, ap, arith, drop}
use Rattle.std.specs.Vec.Iter.{into_iter_items}
use Rattle.mdchunks.proofs.Moved.{drop_moved, take_moved}
use Rattle.mdchunks.proofs.chunk.fill_list.Goals as goal

pub loop-preserved : goal.loop-preserved
loop-preserved g c =
    let moved : drop c.loop.counter (into_iter_items c.args.source.now) ≡ c.in-Some.member ∷ into_iter_items c.next.new.self = sym c.loop.invariant.rest ∙ c.in-Some.ensures.items in
    record {
      front = c.push_reserved.ensures.items ∙ ap (λ xs. xs ++ c.in-Some.member ∷ []) c.loop.invariant.front ∙ take_moved (into_iter_items c.args.source.now) (into_iter_items c.next.new.self) c.loop.counter c.in-Some.member moved;
      rest = drop_moved (into_iter_items c.args.source.now) (into_iter_items c.next.new.self) c.loop.counter c.in-Some.member moved;
      count = omega arith;
      capacity = c.push_reserved.ensures.capacity ∙ c.loop.invariant.capacity;
    }
