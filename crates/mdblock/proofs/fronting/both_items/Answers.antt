use Rattle.std.proofs.Common.{◌≡◌, ◌+◌, [], ◌++◌, length, map, string_bytes, sym, ◌∙◌, ap, arith}
use Rattle.blockspec.proofs.DocumentLaws.{map_length}
use Rattle.mdblock.specs.BlockView.{items_view}
use Rattle.mdblock.specs.Copies.{copied_items, items_positions, texts_at}
use Rattle.mdblock.specs.held.TreesBehind.{placed_before}
use Rattle.mdblock.proofs.CopyLaws.{size_more}
use Rattle.mdblock.proofs.CopySteps.{copies_within}
use Rattle.mdblock.proofs.ItemParts.{items_together}
use Rattle.mdblock.proofs.fronting.both_items.Goals as goal

pub returns-clause-within : goal.returns-clause-within
returns-clause-within c =
    let K = items_view c.args.first.now in
    let T = map string_bytes c.args.first_texts.now in
    let first = map string_bytes c.copied_items.new.copied.items in
    let items : items_view c.in_ok-items.items.items ≡ copied_items 0 K = c.in_ok-items.ensures.copies ∙ ap (λ z. copied_items (length (map string_bytes z)) K) c.new-texts.ensures.items in
    let texts : first ≡ texts_at T (items_positions K) = c.in_ok-items.ensures.texts ∙ ap (λ z. map string_bytes z ++ texts_at T (items_positions K)) c.new-texts.ensures.items in
    copies_within c.in_ok-items.items.items c.in_ok-later.later.items c.append.new.self.items K (items_view c.args.later.now) first (map string_bytes c.copied_items-2.new.copied.items) T
    (map string_bytes c.args.later_texts.now) _ c.in_ok-append.ensures.items items c.in_ok-later.ensures.copies texts c.in_ok-later.ensures.texts
    (sym (map_length string_bytes c.copied_items-2.new.copied.items))

pub returns-clause-items : goal.returns-clause-items
returns-clause-items c =
    let K = items_view c.args.first.now in
    let L = items_view c.args.later.now in
    let T = map string_bytes c.args.first_texts.now in
    let first = map string_bytes c.copied_items.new.copied.items in
    let items : items_view c.in_ok-items.items.items ≡ copied_items 0 K = c.in_ok-items.ensures.copies ∙ ap (λ z. copied_items (length (map string_bytes z)) K) c.new-texts.ensures.items in
    let texts : first ≡ texts_at T (items_positions K) = c.in_ok-items.ensures.texts ∙ ap (λ z. map string_bytes z ++ texts_at T (items_positions K)) c.new-texts.ensures.items in
    let size : length first ≡ length (items_positions K) =
    size_more [] first T (items_positions K) texts ∙ (let z : 0 + length (items_positions K) ≡ length (items_positions K) = omega arith in z) in
    ap items_view c.in_ok-append.ensures.items
    ∙ items_together c.in_ok-items.items.items c.in_ok-later.later.items
    ∙ ap (λ z. placed_before z (items_view c.in_ok-later.later.items)) items
    ∙ ap (placed_before (copied_items 0 K)) (c.in_ok-later.ensures.copies ∙ ap (λ z. copied_items z L) size)
