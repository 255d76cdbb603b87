use Rattle.std.proofs.Common.{◌≡◌, ℕ, ◌+◌, ◌-◌, Bool, List, [], ◌++◌, drop, length, map, string_bytes, sym, ◌∙◌, ap, arith}
use Rattle.std.proofs.lemmas.List.{drop-map, take-map}
use Rattle.std.specs.Prelude.{min, option_map, take, ◌^◌}
use Rattle.blockspec.proofs.DocumentLaws.{map_length}
use Rattle.blockspec.specs.BlockTree.{Blocks, Items}
use Rattle.blockspec.specs.ItemMarks.{ItemMark}
use Rattle.mdleaf.specs.DefinedLinks.{LinkDefinition, definition_of}
use Rattle.mdblock.specs.BlockView.{blocks_view, items_view, kind_view}
use Rattle.mdblock.specs.Copies.{copied_items, items_positions, texts_at}
use Rattle.mdblock.specs.FoundLists.{FoundList, join_mark}
use Rattle.mdblock.specs.Spliced.{drop_items, first_items, first_kind, list_of_kind, mark_at, mark_further, spliced_marks, take_items, tight_list}
use Rattle.mdblock.specs.held.TreesBehind.{placed_before}
use Rattle.mdblock.specs.declared.blocks.Item as i
use Rattle.mdblock.proofs.CopyLaws.{size_more}
use Rattle.mdblock.proofs.CopySteps.{copies_within}
use Rattle.mdblock.proofs.ItemParts.{items_dropped, items_together, kind_list}
use Rattle.mdblock.proofs.splicing.spliced.Goals as goal

-- the items that are taken, where as many are taken as there are later ones
taken_are : (n m : ℕ) (is : Items) (seen bs : Blocks) → n ≡ m → is ≡ first_items seen → seen ≡ bs → take_items n is ≡ take_items m (first_items bs)
taken_are n m is seen bs count is_first same = ap (λ z. take_items z is) count ∙ ap (take_items m) (is_first ∙ ap first_items same)

later_items : (all later : List i.Item) (n : ℕ) (seen bs : Blocks) → later ≡ drop n all → items_view all ≡ first_items seen → seen ≡ bs → items_view later ≡ drop_items n (first_items bs)
later_items all later n seen bs is all_is same = ap items_view is ∙ items_dropped n all ∙ ap (drop_items n) (all_is ∙ ap first_items same)

pub new-requires : goal.new-requires
new-requires c =
    let front = c.args.front in
    let P = c.into_parts-blocks.result in
    let marked = ap length c.into_parts-blocks.ensures.joins in
    let size = map_length join_mark P.3.items in
    let many : c.len.result ≡ length front.marks = omega (arith, c.len.ensures, P.3.ok.0, size, marked) in
    let taken = taken_are c.len.result (length front.marks) (items_view c.into_items.result.items) (blocks_view P.0.items) front.unit.blocks many c.into_items.ensures c.into_parts-blocks.ensures.blocks in
    let K = take_items (length front.marks) (first_items front.unit.blocks) in
    let first = c.in_ok-items.ensures.items ∙ ap (copied_items 0) taken in
    let texts = c.in_ok-items.ensures.texts ∙ ap (λ z. texts_at (map string_bytes P.2.items) (items_positions z)) taken in
    c.in_ok-blocks.ensures.within _
    (copies_within c.in_ok-items.items.items c.in_ok-later.later.items c.append.new.self.items K (items_view c.behind-later.result.now) (map string_bytes c.in_ok-items.texts.items)
    (map string_bytes c.copied_items.new.copied.items) (map string_bytes P.2.items) (map string_bytes c.texts.result.now) _ c.in_ok-append.ensures.items first c.in_ok-later.ensures.copies texts
    c.in_ok-later.ensures.texts (sym (map_length string_bytes c.copied_items.new.copied.items)))

abbrev found_of : (begin lines : ℕ) → Blocks → List LinkDefinition → List (List ℕ) → List ItemMark → (parted : Bool) → FoundList
found_of begin lines blocks definitions texts marks parted = record { begin = begin; lines = lines; unit = record { blocks = blocks; definitions = definitions; texts = texts }; marks = marks; parted = parted }

same_found : (n m p q : ℕ) (b c : Blocks) (d f : List LinkDefinition) (t u : List (List ℕ)) (k l : List ItemMark) (v w : Bool) → n ≡ m → p ≡ q → b ≡ c → d ≡ f → t ≡ u → k ≡ l → v ≡ w →
    found_of n p b d t k v ≡ found_of m q c f u l w
same_found n m p q b c d f t u k l v w hn hp hb hd ht hk hv =
    ap (λ z. found_of z p b d t k v) hn
    ∙ ap (λ z. found_of m z b d t k v) hp
    ∙ ap (λ z. found_of m q z d t k v) hb
    ∙ ap (λ z. found_of m q c z t k v) hd
    ∙ ap (λ z. found_of m q c f z k v) ht
    ∙ ap (λ z. found_of m q c f u z v) hk
    ∙ ap (found_of m q c f u l) hv

pub returns : goal.returns
returns c =
    let front = c.args.front in
    let old = c.args.old.now in
    let k = c.args.k in
    let P = c.into_parts-blocks.result in
    let from : join_mark c.join_at-from.result ≡ mark_at old.marks k = c.join_at-from.ensures ∙ ap (λ z. mark_at z k) c.joins.ensures in
    let count : length c.joins-3.result.now ≡ length front.marks = sym (map_length join_mark c.joins-3.result.now) ∙ ap length c.joins-3.ensures in
    let last : c.saturating_sub.result ≡ length front.marks - 1 = c.saturating_sub.ensures ∙ ap (λ z. z - 1) count in
    let to : join_mark c.join_at-to.result ≡ mark_at front.marks (length front.marks - 1) =
    c.join_at-to.ensures ∙ ap (λ z. mark_at z c.saturating_sub.result) c.joins-2.ensures ∙ ap (λ z. mark_at front.marks z) last in
    let marked = ap length c.into_parts-blocks.ensures.joins in
    let joins = map_length join_mark P.3.items in
    let many : c.len.result ≡ length front.marks = omega (arith, c.len.ensures, P.3.ok.0, joins, marked) in
    let taken = taken_are c.len.result (length front.marks) (items_view c.into_items.result.items) (blocks_view P.0.items) front.unit.blocks many c.into_items.ensures c.into_parts-blocks.ensures.blocks in
    let K = take_items (length front.marks) (first_items front.unit.blocks) in
    let first : items_view c.in_ok-items.items.items ≡ copied_items 0 K = c.in_ok-items.ensures.items ∙ ap (copied_items 0) taken in
    let first_texts : map string_bytes c.in_ok-items.texts.items ≡ texts_at front.unit.texts (items_positions K) =
    c.in_ok-items.ensures.texts
    ∙ ap (λ z. texts_at (map string_bytes P.2.items) (items_positions z)) taken
    ∙ ap (λ z. texts_at z (items_positions K)) c.into_parts-blocks.ensures.texts in
    let two = items_view c.behind-later.result.now in
    let later : two ≡ drop_items (k + 1) (first_items old.unit.blocks) =
    later_items c.list_items.result.now c.behind-later.result.now _ _ _ c.behind-later.ensures c.list_items.ensures (c.blocks-3.ensures.value ∙ ap (λ z. z.blocks) c.unit-2.ensures) in
    let L = drop_items (k + 1) (first_items old.unit.blocks) in
    let size : length (map string_bytes c.in_ok-items.texts.items) ≡ length (items_positions K) =
    size_more [] (map string_bytes c.in_ok-items.texts.items) front.unit.texts (items_positions K) first_texts ∙ (let z : 0 + length (items_positions K) ≡ length (items_positions K) = omega arith in z) in
    let items : items_view c.append.new.self.items ≡ placed_before (copied_items 0 K) (copied_items (length (items_positions K)) L) =
    ap items_view c.in_ok-append.ensures.items
    ∙ items_together c.in_ok-items.items.items c.in_ok-later.later.items
    ∙ ap (λ z. placed_before z (items_view c.in_ok-later.later.items)) first
    ∙ ap (placed_before (copied_items 0 K)) (c.in_ok-later.ensures.copies ∙ ap (λ z. copied_items z two) size ∙ ap (copied_items (length (items_positions K))) later) in
    let texts : map string_bytes c.copied_items.new.copied.items ≡ texts_at front.unit.texts (items_positions K) ++ texts_at old.unit.texts (items_positions L) =
    c.in_ok-later.ensures.texts
    ∙ ap (λ z. z ++ texts_at (map string_bytes c.texts.result.now) (items_positions two)) first_texts
    ∙ ap (λ z. texts_at front.unit.texts (items_positions K) ++ texts_at z (items_positions two)) (c.texts.ensures ∙ ap (λ z. z.texts) c.unit-3.ensures)
    ∙ ap (λ z. texts_at front.unit.texts (items_positions K) ++ texts_at old.unit.texts (items_positions z)) later in
    let marks : map join_mark c.push_joins.new.joins.items ≡ spliced_marks front.marks old.marks k =
    c.in_ok-push_joins.ensures
    ∙ ap (λ z. z ++ map (mark_further (join_mark c.join_at-from.result) (join_mark c.join_at-to.result)) (map join_mark c.behind-later-3.result.now)) c.into_parts-blocks.ensures.joins
    ∙ ap (λ z. front.marks ++ map (mark_further z (join_mark c.join_at-to.result)) (map join_mark c.behind-later-3.result.now)) from
    ∙ ap (λ z. front.marks ++ map (mark_further (mark_at old.marks k) z) (map join_mark c.behind-later-3.result.now)) to
    ∙ ap (λ z. front.marks ++ map (mark_further (mark_at old.marks k) (mark_at front.marks (length front.marks - 1))) z)
    (ap (map join_mark) c.behind-later-3.ensures ∙ sym (drop-map join_mark (k + 1) c.joins-4.result.now) ∙ ap (drop (k + 1)) c.joins-4.ensures) in
    let tight : c.is_tight.result ≡ tight_list old.parted (spliced_marks front.marks old.marks k) =
    c.is_tight.ensures ∙ ap (λ z. tight_list z (map join_mark c.deref.result.now)) c.is_parted.ensures ∙ ap (λ z. tight_list old.parted z) (ap (map join_mark) c.deref.ensures.value ∙ marks) in
    let kind : option_map kind_view c.list_kind-kind.result ≡ first_kind front.unit.blocks =
    c.list_kind-kind.ensures ∙ ap first_kind (c.blocks-2.ensures.value ∙ ap (λ z. z.blocks) c.unit.ensures) in
    let both = placed_before (copied_items 0 K) (copied_items (length (items_positions K)) L) in
    let T = tight_list old.parted (spliced_marks front.marks old.marks k) in
    let defined : map definition_of c.truncate.new.self.items ≡ take (mark_at front.marks (length front.marks - 1)).definitions front.unit.definitions =
    ap (map definition_of) c.truncate.ensures.items
    ∙ sym (take-map definition_of c.join_at-to.result.definitions P.1.items)
    ∙ ap (take c.join_at-to.result.definitions) c.into_parts-blocks.ensures.definitions
    ∙ ap (λ (z : ItemMark). take z.definitions front.unit.definitions) to in
    let defined_later : map definition_of c.behind-later-2.result.now ≡ drop (mark_at old.marks k).definitions old.unit.definitions =
    ap (map definition_of) c.behind-later-2.ensures
    ∙ sym (drop-map definition_of c.join_at-from.result.definitions c.definitions.result.now)
    ∙ ap (drop c.join_at-from.result.definitions) (c.definitions.ensures ∙ ap (λ z. z.definitions) c.unit-4.ensures)
    ∙ ap (λ (z : ItemMark). drop z.definitions old.unit.definitions) from in
    let lines : c.saturating_add-lines.result ≡ min (front.lines + (old.lines - (mark_at old.marks k).line - 1)) (2 ^ 64 - 1) =
    c.saturating_add-lines.ensures
    ∙ ap (λ z. min (z + c.saturating_sub-behind_join.result) (2 ^ 64 - 1)) c.lines-2.ensures
    ∙ ap (λ z. min (front.lines + z) (2 ^ 64 - 1))
    (c.saturating_sub-behind_join.ensures ∙ ap (λ z. z - 1) (c.saturating_sub-2.ensures ∙ ap (λ z. z - c.join_at-from.result.line) c.lines.ensures ∙ ap (λ (z : ItemMark). old.lines - z.line) from)) in
    c.new.ensures
    ∙ same_found _ _ _ _ _ _ _ _ _ _ _ _ _ _ c.begin-begin.ensures lines
    (c.in_ok-blocks.ensures.list
    ∙ ap (λ z. list_of_kind z (items_view c.append.new.self.items) (option_map kind_view c.list_kind-kind.result)) tight
    ∙ ap (λ z. list_of_kind T z (option_map kind_view c.list_kind-kind.result)) items
    ∙ ap (list_of_kind T both) kind
    ∙ kind_list T both front.unit.blocks)
    (c.in_ok-push_definitions.ensures ∙ ap (λ z. z ++ map definition_of c.behind-later-2.result.now) defined ∙ ap (λ z. take (mark_at front.marks (length front.marks - 1)).definitions front.unit.definitions ++ z) defined_later)
    texts marks c.is_parted-2.ensures
