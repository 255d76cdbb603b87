use Rattle.std.proofs.Common.{map, string_bytes, ap, ◌∙◌}
use Rattle.mdsource.specs.Setting.{Setting}
use Rattle.mdview.specs.Document.{pieces_of}
use Rattle.mdview.specs.HeldUnit.{piece_of}
use Rattle.mdview.proofs.HeldViews.{pieces_are_viewed}
use Rattle.mdview.proofs.preview.Preview.pieces.Goals as goal

pub returns : goal.returns
returns c =
    let p = c.self.inside in
    let setting : Setting = record { entities = p.entities; options = p.options } in
    c.new.ensures ∙ ap (map piece_of) c.iter_from.ensures
    ∙ pieces_are_viewed setting (map string_bytes p.lines.items) p.head p.prelude p.labels p.units.items c.self.invariant.5 c.self.invariant.7 c.self.invariant.3
    ∙ ap pieces_of c.self.view_is
