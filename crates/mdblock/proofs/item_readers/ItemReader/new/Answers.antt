use Rattle.std.proofs.Common.{[], None, refl}
use Rattle.mdblock.proofs.ItemLines.{plain_follows}
use Rattle.mdblock.proofs.item_readers.ItemReader.new.Goals as goal

pub returns-clause-reads : goal.returns-clause-reads
returns-clause-reads c = plain_follows c.args.limit c.args.entities.now None c.new.result [] refl c.new.ensures.reads
