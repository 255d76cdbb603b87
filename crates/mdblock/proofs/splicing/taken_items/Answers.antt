use Rattle.std.proofs.Common.{◌≡◌, ◌≤◌, ◌++◌, length, map, string_bytes, sym, ◌∙◌, ap, subst, arith}
use Rattle.std.proofs.lemmas.List.{take-map}
use Rattle.blockspec.proofs.DocumentLaws.{map_length}
use Rattle.blockspec.specs.BlockTree.{Items}
use Rattle.mdblock.specs.BlockView.{items_view}
use Rattle.mdblock.specs.Copies.{IsBehind, copied_items, items_positions, texts_at}
use Rattle.mdblock.specs.Spliced.{take_items}
use Rattle.mdblock.proofs.ItemParts.{items_taken}
use Rattle.mdblock.proofs.TextOrder.{items_in_order, texts_in_order}
use Rattle.mdblock.proofs.splicing.taken_items.Goals as goal

pub returns-then-end-len-clause-items : goal.returns-then-end-len-clause-items
returns-then-end-len-clause-items c =
    let K : Items = take_items c.args.count (items_view c.args.items.items) in
    let seen : items_view c.truncate.new.self.items ≡ K = ap items_view c.truncate.ensures.items ∙ items_taken c.args.count c.args.items.items in
    let end = c.in-Some.end in
    let w : IsBehind 0 (items_positions K) end = subst (λ z. IsBehind 0 (items_positions z) end) (ap items_view c.deref.ensures.value ∙ seen) c.in-Some.ensures in
    seen ∙ sym (items_in_order 0 end K w)

pub returns-then-end-len-clause-texts : goal.returns-then-end-len-clause-texts
returns-then-end-len-clause-texts c =
    let K : Items = take_items c.args.count (items_view c.args.items.items) in
    let seen : items_view c.truncate.new.self.items ≡ K = ap items_view c.truncate.ensures.items ∙ items_taken c.args.count c.args.items.items in
    let end = c.in-Some.end in
    let w : IsBehind 0 (items_positions K) end = subst (λ z. IsBehind 0 (items_positions z) end) (ap items_view c.deref.ensures.value ∙ seen) c.in-Some.ensures in
    let size = map_length string_bytes c.args.texts.items in
    let low : end ≤ length (map string_bytes c.args.texts.items) = omega (arith, c.if-end-len.true, c.len.ensures, c.args.texts.ok.0, size) in
    ap (map string_bytes) c.truncate-then-end-len.ensures.items ∙ sym (take-map string_bytes end c.args.texts.items) ∙ sym (texts_in_order (map string_bytes c.args.texts.items) end (items_positions K) w low)

pub returns-clause-items : goal.returns-clause-items
returns-clause-items c =
    let K : Items = take_items c.args.count (items_view c.args.items.items) in
    let seen : items_view c.truncate.new.self.items ≡ K = ap items_view c.truncate.ensures.items ∙ items_taken c.args.count c.args.items.items in
    c.in_ok-copies.ensures.copies
    ∙ ap (λ z. copied_items (length (map string_bytes z)) (items_view c.deref-2.result.now)) c.new-copied.ensures.items
    ∙ ap (λ z. copied_items 0 (items_view z)) c.deref-2.ensures.value
    ∙ ap (copied_items 0) seen

pub returns-clause-texts : goal.returns-clause-texts
returns-clause-texts c =
    let K : Items = take_items c.args.count (items_view c.args.items.items) in
    let seen : items_view c.truncate.new.self.items ≡ K = ap items_view c.truncate.ensures.items ∙ items_taken c.args.count c.args.items.items in
    c.in_ok-copies.ensures.texts
    ∙ ap (λ z. map string_bytes z ++ texts_at (map string_bytes c.deref-3.result.now) (items_positions (items_view c.deref-2.result.now))) c.new-copied.ensures.items
    ∙ ap (λ z. texts_at (map string_bytes z) (items_positions (items_view c.deref-2.result.now))) c.deref-3.ensures.value
    ∙ ap (λ z. texts_at (map string_bytes c.args.texts.items) (items_positions (items_view z))) c.deref-2.ensures.value
    ∙ ap (λ z. texts_at (map string_bytes c.args.texts.items) (items_positions z)) seen
