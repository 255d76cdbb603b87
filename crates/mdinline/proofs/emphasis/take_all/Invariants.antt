use Rattle.std.proofs.Common.{◌≡◌, ◌++◌, [], List, All, length, take}
use Rattle.mdpair.specs.declared.delimiter_runs.DelimiterRun.{DelimiterRun}
use Rattle.mdpair.specs.Matches.{IsOrdered}
use Rattle.mdinline.specs.declared.tokens.Begun.{Begun}
use Rattle.mdinline.specs.held.PairedRuns.{ArePaired}
use Rattle.mdinline.proofs.emphasis.take_all.Given as goal

abbrev pub invariant-loop-matched : goal.invariant-loop-matched
invariant-loop-matched l = record {
  paired : (rs : List DelimiterRun) → All (IsOrdered (length rs)) l.matches → ArePaired l.fn.begun.items [] rs l.fn.runs.items → ArePaired l.begun.items (take l.matched-index l.matches) rs l.runs.items;
  begun : (more : List Begun) × (l.begun.items ≡ l.fn.begun.items ++ more);
}
