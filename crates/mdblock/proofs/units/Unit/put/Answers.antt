use Rattle.std.proofs.Common.{◌≡◌, length, map, string_bytes, sym, ◌∙◌, ap, subst, arith}
use Rattle.std.specs.Prelude.{option_map}
use Rattle.blockspec.proofs.DocumentLaws.{map_length}
use Rattle.blockspec.specs.UnitTree.{UnitTree}
use Rattle.mdblock.specs.BlockView.{blocks_view, items_view, kind_view}
use Rattle.mdblock.specs.Insets.{items_between, parts_between}
use Rattle.mdblock.specs.Positions.{BlocksIn}
use Rattle.mdblock.specs.Spliced.{first_items, list_of_kind}
use Rattle.mdblock.proofs.InsetLaws.{parts_length, parts_mapped}
use Rattle.mdblock.proofs.units.Unit.put.Goals as goal

pub invariant_of-self : goal.invariant_of-self
invariant_of-self c =
    let old = c.args.self.now in
    let p = c.args.place in
    let w = c.requires.there in
    let O = c.self.inside.texts.items in
    let P = c.args.texts.items in
    let room = w.room in
    let enough = w.enough in
    let later = w.later in
    let size : length old.texts ≡ length O = ap (λ (u : UnitTree). length u.texts) (sym c.self.view_is) ∙ map_length string_bytes O in
    let many = map_length string_bytes P in
    let same : length c.swap_between.new.items.items ≡ length old.texts =
    ap length c.swap_between.ensures ∙ parts_length p.before p.behind P O later (omega (arith, room, size)) (omega (arith, enough, many)) ∙ sym size in
    let blocks = c.put_items.ensures
    ∙ ap (λ (u : UnitTree). list_of_kind c.args.tight (items_between p.start p.end (items_view c.args.items.items) (first_items u.blocks)) (option_map kind_view c.args.kind)) c.self.view_is in
    subst (λ z. BlocksIn z (blocks_view c.put_items.new.blocks.items)) (sym same) (subst (BlocksIn (length old.texts)) (sym blocks) c.requires.within)

pub returns-clause-texts : goal.returns-clause-texts
returns-clause-texts c =
    let p = c.args.place in
    ap (map string_bytes) c.swap_between.ensures
    ∙ parts_mapped string_bytes p.before p.behind c.args.texts.items c.self.inside.texts.items
    ∙ ap (λ (u : UnitTree). parts_between p.before p.behind (map string_bytes c.args.texts.items) u.texts) c.self.view_is
