use Rattle.std.proofs.Common.{◌∙◌, subst, sym}
use Rattle.std.specs.Prelude.{option_map}
use Rattle.mdblock.specs.Bases.{base_view}
use Rattle.mdblock.specs.held.Following.{Follows, IsPast}
use Rattle.mdblock.proofs.ItemLines.{joined_goes}
use Rattle.mdblock.proofs.item_readers.ItemReader.joined.Goals as goal

pub returns-clause-joined : goal.returns-clause-joined
returns-clause-joined c = λ limit e ls past w.
    let i = c.self.inside in
    c.joined.ensures.value
    ∙ joined_goes limit e (option_map base_view i.base) i.reader ls (subst IsPast (sym c.self.view_is) past) (subst (λ z. Follows limit e z ls) (sym c.self.view_is) w)
