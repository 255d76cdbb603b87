use Rattle.std.proofs.Common.{◌∙◌}
use Rattle.mdview.proofs.KeptLists.{kept_front, kept_same}
use Rattle.mdview.proofs.blocks.joined_lists.push_joined.Goals as goal

pub returns-then-can_stay-clause-kept : goal.returns-then-can_stay-clause-kept
returns-then-can_stay-clause-kept c = λ fits.
    kept_front c.args.item c.args.seam c.requires.old c.requires.join c.args.from c.requires.from
    ∙ kept_same c.args.item c.args.seam c.requires.old c.requires.join (c.can_stay.ensures c.if-can_stay.true) fits
