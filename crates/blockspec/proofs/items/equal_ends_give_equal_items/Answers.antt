use Rattle.std.proofs.Common.{◌∷◌, map}
use Rattle.blockspec.specs.BlockLine.{document_line}
use Rattle.blockspec.specs.TopBlocks.{top_blocks}
use Rattle.blockspec.proofs.DocumentItems.{document_lists_meet}
use Rattle.blockspec.proofs.items.equal_ends_give_equal_items.Goals as goal

pub returns : goal.returns
returns c = λ entities one other line later in_one in_other.
    (top_blocks entities (map document_line (line ∷ later)), document_lists_meet entities one line later in_one, document_lists_meet entities other line later in_other)
