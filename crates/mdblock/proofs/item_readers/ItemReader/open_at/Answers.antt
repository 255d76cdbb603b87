use Rattle.std.proofs.Common.{subst, sym}
use Rattle.std.specs.Prelude.{option_map}
use Rattle.mdblock.specs.Bases.{base_view}
use Rattle.mdblock.specs.held.Following.{Follows}
use Rattle.mdblock.proofs.ItemLines.{open_goes}
use Rattle.mdblock.proofs.item_readers.ItemReader.open_at.Goals as goal

pub returns : goal.returns
returns c = record {
  «open» = λ limit e ls w.
      let i = c.self.inside in
      open_goes limit e (option_map base_view i.base) i.reader ls c.open_at.result c.open_at.ensures.«open» (subst (λ z. Follows limit e z ls) (sym c.self.view_is) w);
}
