use Rattle.std.proofs.Common.{◌≡◌, ◌+◌, ◌-◌, ◌++◌, length, map, take, string_bytes, sym, ◌∙◌, ap}
use Rattle.std.proofs.lemmas.List.{take-map}
use Rattle.std.specs.Prelude.{min, option_map, ◌^◌}
use Rattle.blockspec.specs.ItemMarks.{ItemMark}
use Rattle.blockspec.specs.UnitTree.{UnitTree}
use Rattle.mdleaf.specs.DefinedLinks.{definition_of}
use Rattle.mdblock.specs.BlockView.{items_view, kind_view}
use Rattle.mdblock.specs.Copies.{copied_items, items_positions, texts_at}
use Rattle.mdblock.specs.FoundLists.{join_mark}
use Rattle.mdblock.specs.Fronted.{ListBase, base_items, base_mark, fronted_marks}
use Rattle.mdblock.specs.Spliced.{first_items, first_kind, list_of_kind, mark_at, mark_further, no_mark, take_items, tight_list}
use Rattle.mdblock.specs.held.TreesBehind.{placed_before}
use Rattle.mdblock.proofs.FoundParts.{same_found}
use Rattle.mdblock.proofs.ItemParts.{items_taken, kind_list}
use Rattle.mdblock.proofs.fronting.fronted.Goals as goal

pub returns : goal.returns
returns c =
    let old = c.args.old.now in
    let part = c.args.part.now in
    let k = c.args.k in
    let b : ListBase = record { list = old; join = k } in
    let unit = c.unit-unit.ensures in
    let read = c.unit-part_unit.ensures in
    let join : join_mark c.join_at-join.result ≡ base_mark b = c.join_at-join.ensures ∙ ap (λ z. mark_at z k) c.joins.ensures in
    let K = base_items b in
    let I = first_items part.unit.blocks in
    let olds : items_view c.before-items.result.now ≡ K =
    ap items_view c.before-items.ensures
    ∙ items_taken (k + 1) c.list_items.result.now
    ∙ ap (take_items (k + 1)) (c.list_items.ensures ∙ ap first_items (c.blocks-2.ensures.value ∙ ap (λ (u : UnitTree). u.blocks) unit)) in
    let items : items_view c.list_items-2.result.now ≡ I = c.list_items-2.ensures ∙ ap first_items (c.blocks-3.ensures.value ∙ ap (λ (u : UnitTree). u.blocks) read) in
    let both : items_view c.in_ok-items.items.items ≡ placed_before (copied_items 0 K) (copied_items (length (items_positions K)) I) =
    c.in_ok-items.ensures.items
    ∙ ap (λ z. placed_before (copied_items 0 z) (copied_items (length (items_positions z)) (items_view c.list_items-2.result.now))) olds
    ∙ ap (λ z. placed_before (copied_items 0 K) (copied_items (length (items_positions K)) z)) items in
    let texts : map string_bytes c.in_ok-items.texts.items ≡ texts_at old.unit.texts (items_positions K) ++ texts_at part.unit.texts (items_positions I) =
    c.in_ok-items.ensures.texts
    ∙ ap (λ z. texts_at z (items_positions (items_view c.before-items.result.now)) ++ texts_at (map string_bytes c.texts-2.result.now) (items_positions (items_view c.list_items-2.result.now)))
    (c.texts.ensures ∙ ap (λ (u : UnitTree). u.texts) unit)
    ∙ ap (λ z. texts_at old.unit.texts (items_positions (items_view c.before-items.result.now)) ++ texts_at z (items_positions (items_view c.list_items-2.result.now)))
    (c.texts-2.ensures ∙ ap (λ (u : UnitTree). u.texts) read)
    ∙ ap (λ z. texts_at old.unit.texts (items_positions z) ++ texts_at part.unit.texts (items_positions (items_view c.list_items-2.result.now))) olds
    ∙ ap (λ z. texts_at old.unit.texts (items_positions K) ++ texts_at part.unit.texts (items_positions z)) items in
    let marks : map join_mark c.in_ok-joins.joins.items ≡ fronted_marks b part.marks =
    c.in_ok-joins.ensures
    ∙ ap (λ z. map join_mark z ++ map (mark_further no_mark (join_mark c.join_at-join.result)) (map join_mark c.joins-3.result.now)) c.before-2.ensures
    ∙ ap (λ z. z ++ map (mark_further no_mark (join_mark c.join_at-join.result)) (map join_mark c.joins-3.result.now))
    (sym (take-map join_mark (k + 1) c.joins-2.result.now) ∙ ap (take (k + 1)) c.joins-2.ensures)
    ∙ ap (λ z. take (k + 1) old.marks ++ map (mark_further no_mark (join_mark c.join_at-join.result)) z) c.joins-3.ensures
    ∙ ap (λ z. take (k + 1) old.marks ++ map (mark_further no_mark z) part.marks) join in
    let tight : c.is_tight-tight.result ≡ tight_list part.parted (fronted_marks b part.marks) =
    c.is_tight-tight.ensures
    ∙ ap (λ z. tight_list z (map join_mark c.deref.result.now)) c.is_parted.ensures
    ∙ ap (tight_list part.parted) (ap (map join_mark) c.deref.ensures.value ∙ marks) in
    let kind : option_map kind_view c.list_kind.result ≡ first_kind old.unit.blocks =
    c.list_kind.ensures ∙ ap first_kind (c.blocks-4.ensures.value ∙ ap (λ (u : UnitTree). u.blocks) unit) in
    let T = tight_list part.parted (fronted_marks b part.marks) in
    let X = placed_before (copied_items 0 K) (copied_items (length (items_positions K)) I) in
    let lines : c.saturating_add-lines.result ≡ min ((base_mark b).line + part.lines) (2 ^ 64 - 1) =
    c.saturating_add-lines.ensures
    ∙ ap (λ z. min (c.join_at-join.result.line + z) (2 ^ 64 - 1)) c.lines.ensures
    ∙ ap (λ (z : ItemMark). min (z.line + part.lines) (2 ^ 64 - 1)) join in
    let defined : map definition_of c.before-definitions.result.now ≡ take (base_mark b).definitions old.unit.definitions =
    ap (map definition_of) c.before-definitions.ensures
    ∙ sym (take-map definition_of c.join_at-join.result.definitions c.definitions.result.now)
    ∙ ap (take c.join_at-join.result.definitions) (c.definitions.ensures ∙ ap (λ (u : UnitTree). u.definitions) unit)
    ∙ ap (λ (z : ItemMark). take z.definitions old.unit.definitions) join in
    c.new.ensures
    ∙ same_found 0 _ part.parted _ (fronted_marks b part.marks) _ _ _ _ _ _ _ _ c.is_parted-2.ensures marks lines
    (c.in_ok-blocks.ensures.list
    ∙ ap (λ z. list_of_kind z (items_view c.in_ok-items.items.items) (option_map kind_view c.list_kind.result)) tight
    ∙ ap (λ z. list_of_kind T z (option_map kind_view c.list_kind.result)) both
    ∙ ap (list_of_kind T X) kind
    ∙ kind_list T X old.unit.blocks)
    (c.in_ok-definitions.ensures
    ∙ ap (λ z. z ++ map definition_of c.definitions-2.result.now) defined
    ∙ ap (λ z. take (base_mark b).definitions old.unit.definitions ++ z) (c.definitions-2.ensures ∙ ap (λ (u : UnitTree). u.definitions) read))
    texts
