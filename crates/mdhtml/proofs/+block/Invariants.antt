use Rattle.std.proofs.Common.{◌≡◌, ◌++◌, string_bytes, drop, length}
use Rattle.mdblock.specs.BlockView.{blocks_view, items_view, kind_view}
use Rattle.mdhtml.specs.held.UnitTexts.{shown_texts}
use Rattle.htmlspec.specs.BlockHtml.{blocks_html, fresh, items_html, list_open}
use Rattle.mdblock.specs.Positions.{BlocksIn, ItemsIn}
use Rattle.mdhtml.proofs.+block.Given as goal

abbrev pub invariant-blocks::write_blocks-loop-block : goal.invariant-blocks::write_blocks-loop-block
invariant-blocks::write_blocks-loop-block l = record {
  within : BlocksIn (length (shown_texts l.texts)) (blocks_view (drop l.block-index l.blocks));
  written : blocks_html l.texts.options.now (shown_texts l.texts) l.tight (blocks_view (drop l.block-index l.blocks)) (string_bytes l.out)
      ≡ blocks_html l.texts.options.now (shown_texts l.texts) l.tight (blocks_view l.blocks) (string_bytes l.fn.out);
}

abbrev pub invariant-lists::write_list-loop-item : goal.invariant-lists::write_list-loop-item
invariant-lists::write_list-loop-item l = record {
  within : ItemsIn (length (shown_texts l.texts)) (items_view (drop l.item-index l.items));
  written : items_html l.texts.options.now (shown_texts l.texts) l.tight (items_view (drop l.item-index l.items)) (string_bytes l.out)
      ≡ items_html l.texts.options.now (shown_texts l.texts) l.tight (items_view l.items) (fresh (string_bytes l.fn.out) ++ list_open (kind_view l.kind));
}
