use Rattle.std.proofs.Common.{◌≡◌, ℕ, List, true, string_bytes}
use Rattle.std.specs.List.{All}
use Rattle.blockspec.specs.UnitTree.{FoundUnit}
use Rattle.htmlspec.specs.BlockHtml.{ends_line}
use Rattle.mdbatch.specs.GatheredUnits.{EndsLine, IsWoven, IsWrittenTo, setting_of}
use Rattle.mdbatch.specs.TextLabels.{target_on_page}
use Rattle.mdbatch.proofs.batch.append_waiting.Given as goal

-- the units up to one that waits are written, and the others wait
abbrev pub invariant-loop-waits : goal.invariant-loop-waits
invariant-loop-waits l = record {
  setting : setting_of l.writer ≡ setting_of l.fn.writer;
  lines : All EndsLine l.waits-iterator.rest.items;
  written : (all : List FoundUnit) (html : List ℕ) → IsWoven (setting_of l.fn.writer) all l.fn.waiting.items html
      → IsWrittenTo (setting_of l.fn.writer) (target_on_page l.labels) all l.waits-iterator.rest.items html (string_bytes l.fn.out) (string_bytes l.out);
  ends_line : ends_line (string_bytes l.out) ≡ true;
}
