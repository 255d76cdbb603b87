use Rattle.std.proofs.Common.{◌≡◌, ◌+◌, ◌-◌, ◌<◌, ◌≤◌, ◌^◌, ◌++◌, drop, map}
use Rattle.std.specs.List.{AllByRecursion}
use Rattle.mdhtml.proofs.lists.kept_items.push_moved.Given as goal

abbrev pub invariant-loop-end : goal.invariant-loop-end
invariant-loop-end l = record {
  within : AllByRecursion (λ end. (l.from ≤ end) × ((end - l.from) + l.to < 2 ^ 64)) (drop l.end-index l.moved);
  ends : l.ends.items ++ map (λ end. (end - l.from) + l.to) (drop l.end-index l.moved) ≡ l.fn.ends.items ++ map (λ end. (end - l.from) + l.to) l.moved;
}
