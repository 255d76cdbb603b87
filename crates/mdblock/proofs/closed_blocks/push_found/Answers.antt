use Rattle.std.proofs.Common.{sym}
use Rattle.mdblock.specs.BlockView.{blocks_view}
use Rattle.mdblock.proofs.PlacedNodes.{blocks_nil}
use Rattle.mdblock.proofs.closed_blocks.push_found.Goals as goal

pub returns-in-None-clause-pushed : goal.returns-in-None-clause-pushed
returns-in-None-clause-pushed c = rw c.in-None.is (sym (blocks_nil (blocks_view c.args.over.now.items)))
