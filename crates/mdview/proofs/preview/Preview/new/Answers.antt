use Rattle.std.proofs.Common.{arith, refl}
use Rattle.mdsource.proofs.Depths.{none_too_deep}
use Rattle.mdview.proofs.HeldReadings.{holds_no_texts}
use Rattle.mdview.proofs.HeldTiles.{holds_nothing}
use Rattle.mdview.proofs.preview.Preview.new.Goals as goal

pub invariant_of-result : goal.invariant_of-result
invariant_of-result c =
    rw (c.new.ensures, c.new-2.ensures) (
      refl,
      omega arith,
      omega arith,
      λ k d small. absurd (omega (arith, small)),
      c.requires,
      holds_nothing c.args.entities,
      none_too_deep c.args.options.max_containers,
      holds_no_texts (record { entities = c.args.entities; options = c.args.options }) c.empty.result c.new-3.result c.empty.ensures c.new-3.ensures.none,
    )
