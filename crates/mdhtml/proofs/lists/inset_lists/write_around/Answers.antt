use Rattle.std.proofs.Common.{◌-◌, drop, length, take, sym, subst}
use Rattle.std.proofs.lemmas.List.{length-map}
use Rattle.inlinespec.specs.ParsedText.{ParsedText}
use Rattle.mdblock.specs.BlockView.{items_view}
use Rattle.mdblock.specs.Positions.{ItemsIn}
use Rattle.htmlspec.specs.InlineHtml.{inlines_html}
use Rattle.mdhtml.proofs.LikeLists.{like_items_in}
use Rattle.mdhtml.proofs.lists.inset_lists.write_around.Goals as goal

pub write_item_ends-requires : goal.write_item_ends-requires
write_item_ends-requires c =
    let olds = c.args.other.now.items.now in
    subst (λ n. ItemsIn n (items_view (take c.args.between.now.front olds))) (sym (length-map c.args.others.now (λ (r : ParsedText). inlines_html c.args.options.now r.tree)))
    (like_items_in (length c.args.others.now) 0 c.args.between.now.front olds c.requires.old_within)

pub write_item_ends-requires-3 : goal.write_item_ends-requires-3
write_item_ends-requires-3 c =
    let olds = c.args.other.now.items.now in
    let later = c.args.between.now.later in
    subst (λ n. ItemsIn n (items_view (take (length olds - later) (drop later olds)))) (sym (length-map c.args.others.now (λ (r : ParsedText). inlines_html c.args.options.now r.tree)))
    (like_items_in (length c.args.others.now) later (length olds - later) olds c.requires.old_within)
