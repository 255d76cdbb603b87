use Rattle.std.proofs.Common.{ap, map, subst}
use Rattle.blockspec.specs.LineSummary.{no_summary}
use Rattle.mdblock.specs.FoundLists.{join_mark}
use Rattle.mdblock.specs.held.ReaderState.{unit_so_far}
use Rattle.mdblock.specs.held.Reads.{StandsForHeld}
use Rattle.mdblock.proofs.ReadsLaws.{reads_none}
use Rattle.mdblock.proofs.readers.Reader.new.Goals as goal

pub returns-clause-reads : goal.returns-clause-reads
returns-clause-reads c =
    let held = unit_so_far c.new.result in
    let empty = c.new.ensures.empty in
    reads_none c.args.limit c.args.entities.now held c.new.ensures.begin c.new.ensures.joined (ap (map join_mark) c.new.ensures.joins)
    (subst (λ e. StandsForHeld e held no_summary) c.new.ensures.entities (empty.0.0, empty.0.1, empty.1))
