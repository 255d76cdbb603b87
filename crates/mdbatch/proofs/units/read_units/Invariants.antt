use denote.Shadow.{shadow}
use denote.Text.{Utf8}
use Rattle.std.proofs.Common.{◌≡◌, ◌+◌, ◌≤◌, ℕ, List, ◌++◌, length}
use Rattle.mdtext.specs.Lines.{split_lines}
use Rattle.mdsource.specs.SourceLimits.{size_of}
use Rattle.mdblock.specs.held.Reads.{Reads, handed}
use Rattle.mdbatch.proofs.units.read_units.Given as goal

-- the lines that were fed and those to come are within the limits; the sink has taken the units so far
abbrev pub invariant-loop-rest : goal.invariant-loop-rest
invariant-loop-rest g l = record {
  text : shadow (Utf8 l.rest);
  few : l.reader.fed + length (split_lines l.rest) ≤ 1000000;
  small : size_of (split_lines l.rest) ≤ 16777216;
  alike : g.S.UnitSink.alike l.fn.sink l.sink;
  took : (lines : List (List ℕ)) × (split_lines l.fn.clean.text.now ≡ lines ++ split_lines l.rest) × Reads l.fn.clean.options.now.max_containers l.fn.clean.entities.now l.reader lines
      × g.S.UnitSink.took l.sink (handed l.fn.clean.entities.now lines);
}

abbrev pub decreases-loop-rest : goal.decreases-loop-rest
decreases-loop-rest g l = length l.rest
