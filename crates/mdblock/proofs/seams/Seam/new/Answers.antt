use Rattle.std.proofs.Common.{subst}
use Rattle.blockspec.specs.UnitTree.{UnitTree}
use Rattle.mdblock.proofs.InsetFits.{fits_at}
use Rattle.mdblock.proofs.SplicedLines.{spliced_at}
use Rattle.mdblock.proofs.SplicedLists.{AreFew}
use Rattle.mdblock.proofs.seams.Seam.new.Goals as goal

pub returns-clause-list : goal.returns-clause-list
returns-clause-list c =
    let counted : AreFew c.unit.result.now c.unit-2.result.now = record { texts = c.count_with.ensures.texts; definitions = c.count_with.ensures.definitions } in
    let few : AreFew c.in_ok-front.front.unit c.args.old.now.unit =
    subst (λ (z : UnitTree). AreFew z c.args.old.now.unit) c.unit.ensures (subst (AreFew c.unit.result.now) c.unit-2.ensures counted) in
    spliced_at c.args.front c.in_ok-front.front c.args.old.now c.args.k c.requires.joined c.requires.join c.requires.fits c.in_ok-front.ensures.lines c.in_ok-front.ensures.front few

pub returns-clause-fits : goal.returns-clause-fits
returns-clause-fits c = fits_at c.args.front c.in_ok-front.front c.args.old.now c.args.k c.requires.joined c.requires.join c.in_ok-front.ensures.front
