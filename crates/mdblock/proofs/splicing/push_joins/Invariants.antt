use Rattle.std.proofs.Common.{◌≡◌, ◌++◌, drop, map}
use Rattle.mdblock.specs.FoundLists.{join_mark}
use Rattle.mdblock.specs.Spliced.{mark_further}
use Rattle.mdblock.proofs.splicing.push_joins.Given as goal

abbrev pub invariant-loop-later : goal.invariant-loop-later
invariant-loop-later l =
    map join_mark l.joins.items ++ map (mark_further (join_mark l.from) (join_mark l.to)) (map join_mark (drop l.later-index l.behind))
    ≡ map join_mark l.fn.joins.items ++ map (mark_further (join_mark l.from) (join_mark l.to)) (map join_mark l.behind)
