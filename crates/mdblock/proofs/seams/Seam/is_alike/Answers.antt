use Rattle.std.proofs.Common.{◌≡◌, sym, ◌∙◌, ap}
use Rattle.std.specs.Prelude.{option_map}
use Rattle.blockspec.specs.UnitTree.{UnitTree}
use Rattle.mdblock.specs.BlockView.{blocks_view, kind_view}
use Rattle.mdblock.specs.Insets.{with_items}
use Rattle.mdblock.specs.Seams.{ListSeam, seam_front}
use Rattle.mdblock.specs.Spliced.{list_of_kind, spliced_marks, tight_list}
use Rattle.mdblock.proofs.ItemParts.{kind_list}
use Rattle.mdblock.proofs.seams.Seam.is_alike.Goals as goal

pub returns-then-is_list_of-clause-kind : goal.returns-then-is_list_of-clause-kind
returns-then-is_list_of-clause-kind c = λ ordered items.
    let s = c.args.self.now in
    let bs = (seam_front s).unit.blocks in
    let T = tight_list s.old.parted (spliced_marks (seam_front s).marks s.old.marks s.join) in
    let old : blocks_view c.blocks-2.result.now ≡ s.old.unit.blocks = c.blocks-2.ensures.value ∙ ap (λ (u : UnitTree). u.blocks) c.unit.ensures ∙ ap (λ (z : ListSeam). z.old.unit.blocks) c.self.view_is in
    sym (kind_list T items bs)
    ∙ sym (ap (λ z. list_of_kind z items (option_map kind_view c.kind.result)) c.would_be_tight.ensures ∙ ap (list_of_kind T items) c.kind.ensures)
    ∙ c.is_list_of.ensures c.if-is_list_of.true items
    ∙ ap (with_items items) old
