use Rattle.std.proofs.Common.{◌-◌, sym, ◌∙◌, ap, subst}
use Rattle.std.specs.Prelude.{option_map}
use Rattle.mdblock.specs.BlockView.{items_view, kind_view}
use Rattle.mdblock.specs.Insets.{HasItems, items_between}
use Rattle.mdblock.specs.Spliced.{list_of_kind}
use Rattle.mdblock.proofs.InsetLaws.{has_items, items_parted}
use Rattle.mdblock.proofs.units.insets.put_items.Goals as goal

pub swap_between-requires-clause-within : goal.swap_between-requires-clause-within
swap_between-requires-clause-within c =
    has_items c.args.place.end c.pop_items-olds.result.items (subst (HasItems c.args.place.end) (sym c.pop_items-olds.ensures.items) c.requires.within)

pub swap_between-requires-clause-enough : goal.swap_between-requires-clause-enough
swap_between-requires-clause-enough c = has_items (c.args.place.end - c.args.place.start) c.args.items.items c.requires.enough

pub returns : goal.returns
returns c =
    let s = c.args.place.start in
    let e = c.args.place.end in
    let kind = option_map kind_view c.args.kind in
    c.push_list.ensures
    ∙ ap (λ z. list_of_kind c.args.tight (items_view z) kind) c.swap_between.ensures
    ∙ ap (λ z. list_of_kind c.args.tight z kind)
    (items_parted s e c.args.items.items c.pop_items-olds.result.items ∙ ap (items_between s e (items_view c.args.items.items)) c.pop_items-olds.ensures.items)
