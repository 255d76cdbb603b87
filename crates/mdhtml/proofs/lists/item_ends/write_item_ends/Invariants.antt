use Rattle.std.proofs.Common.{◌≡◌, ◌++◌, string_bytes, drop, length}
use Rattle.mdblock.specs.BlockView.{items_view}
use Rattle.mdblock.specs.Positions.{ItemsIn}
use Rattle.mdhtml.specs.held.UnitTexts.{shown_texts}
use Rattle.htmlspec.specs.BlockHtml.{items_html}
use Rattle.htmlspec.specs.ListEnds.{item_ends}
use Rattle.mdhtml.proofs.lists.item_ends.write_item_ends.Given as goal

abbrev pub invariant-loop-item : goal.invariant-loop-item
invariant-loop-item l = record {
  within : ItemsIn (length (shown_texts l.texts)) (items_view (drop l.item-index l.items));
  html : items_html l.texts.options.now (shown_texts l.texts) l.tight (items_view (drop l.item-index l.items)) (string_bytes l.out)
      ≡ items_html l.texts.options.now (shown_texts l.texts) l.tight (items_view l.items) (string_bytes l.fn.out);
  ends : l.ends.items ++ item_ends l.texts.options.now (shown_texts l.texts) l.tight (items_view (drop l.item-index l.items)) (string_bytes l.out)
      ≡ l.fn.ends.items ++ item_ends l.texts.options.now (shown_texts l.texts) l.tight (items_view l.items) (string_bytes l.fn.out);
}
