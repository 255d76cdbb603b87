use Rattle.std.proofs.Common.{not, refl, sym, ap, ◌∙◌}
use Rattle.mdblock.specs.BlockView.{blocks_view}
use Rattle.mdblock.proofs.HeldNodesLaws.{none_over, none_spaced}
use Rattle.mdblock.proofs.LevelBegins.{none_closed}
use Rattle.mdblock.proofs.open_blocks.Level.new.Goals as goal

pub returns-clause-empty : goal.returns-clause-empty
returns-clause-empty c = λ entities at.
    ((ap blocks_view c.new.ensures.items ∙ sym (none_over at c.args.in_item), refl, refl, refl, ap not (sym (none_spaced entities))), refl)

pub returns-clause-over : goal.returns-clause-over
returns-clause-over c = λ entities at.
    (ap blocks_view c.new.ensures.items ∙ sym (none_closed entities at c.args.in_item), refl, refl, refl, ap not (sym (none_spaced entities)), tt, refl)
