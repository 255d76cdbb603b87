-- The later items of a list that goes on with those of another: they stand within its lines, so their numbers are exact.
use Rattle.std.proofs.Common.{◌≡◌, ℕ, suc, ◌+◌, ◌-◌, ◌≤◌, ◌<◌, Bool, not, ◌||◌, List, [], ◌∷◌, ◌++◌, length, map, refl, sym, ◌∙◌, ap, subst, arith, length-append}
use Rattle.std.proofs.Math.Nat.{min-eq_left}
use Rattle.std.proofs.lemmas.List.{append-nil}
use Rattle.std.specs.List.{flat_map, list_any}
use Rattle.std.specs.Prelude.{◌^◌}
use Rattle.mdtext.specs.EntityTable.{EntityTable}
use Rattle.blockspec.specs.BlockLine.{BlockLine}
use Rattle.blockspec.specs.BlockTree.{ListKind}
use Rattle.blockspec.specs.Lists.{items_before}
use Rattle.blockspec.specs.NodeTree.{texts_in_items, definitions_in_items}
use Rattle.blockspec.specs.ItemMarks.{ItemMark, last_item, is_parted, item_marks, block_marks, list_marks}
use Rattle.blockspec.specs.Joins.{later_lines}
use Rattle.blockspec.specs.TopBlocks.{ListItem, ItemList, is_tight_list, nodes_of_items, top_blocks}
use Rattle.blockspec.proofs.JoinLines.{AreBelow, joins_in, joins_below}
use Rattle.blockspec.proofs.ListsSpliced.{moved_mark, tight_by_marks}
use Rattle.blockspec.proofs.UnitsMeet.{texts_together, definitions_together}
use Rattle.mdblock.specs.Spliced.{further_on, mark_further, tight_list}
use Rattle.mdblock.proofs.SplicedUnits.{texts_of, definitions_of}

abbrev pub most : ℕ
most = 2 ^ 64 - 1

abbrev IsSmall : ItemMark → Type 0
IsSmall mark = (mark.line ≤ most) × (mark.texts ≤ most) × (mark.definitions ≤ most)

abbrev pub AreSmall : List ItemMark → Type 0
AreSmall [] = Unit {0}
AreSmall (mark ∷ marks) = IsSmall mark × AreSmall marks

pub small_behind : (front marks : List ItemMark) → AreSmall (front ++ marks) → AreSmall marks
small_behind [] marks w = w
small_behind (m ∷ front) marks w = small_behind front marks w.1

abbrev item_mark : (line texts definitions : ℕ) → (loose : Bool) → ItemMark
item_mark l t d w = record { line = l; texts = t; definitions = d; loose = w }

mark_small : (from to mark : ItemMark) → IsSmall (moved_mark from to mark) → mark_further from to mark ≡ moved_mark from to mark
mark_small from to mark w =
    let line = to.line + (mark.line - from.line) in
    let texts = to.texts + (mark.texts - from.texts) in
    ap (λ z. item_mark z (further_on mark.texts from.texts to.texts) (further_on mark.definitions from.definitions to.definitions) mark.loose) (min-eq_left w.0)
    ∙ ap (λ z. item_mark line z (further_on mark.definitions from.definitions to.definitions) mark.loose) (min-eq_left w.1)
    ∙ ap (λ z. item_mark line texts z mark.loose) (min-eq_left w.2)

pub marks_small : (from to : ItemMark) (marks : List ItemMark) → AreSmall (map (moved_mark from to) marks) → map (mark_further from to) marks ≡ map (moved_mark from to) marks
marks_small from to [] w = refl
marks_small from to (mark ∷ marks) w =
    ap (λ z. z ∷ map (mark_further from to) marks) (mark_small from to mark w.0) ∙ ap (λ z. moved_mark from to mark ∷ z) (marks_small from to marks w.1)

-- what stands before an item is part of what all items give
items_small : (n b t d : ℕ) (item : ListItem) (later : List ListItem) → AreBelow n (map (λ (i : ListItem). i.line) later) → n ≤ most →
    t + texts_of (nodes_of_items item later) ≤ most → d + definitions_of (nodes_of_items item later) ≤ most → AreSmall (item_marks b t d item later)
unfolding item_marks nodes_of_items
items_small n b t d item [] below h ht hd = tt
items_small n b t d item (i ∷ later) below h ht hd =
    let N = nodes_of_items i later in
    let x = texts_of item.nodes in
    let y = definitions_of item.nodes in
    let texts : texts_of (items_before item.nodes N) ≡ x + texts_of N = ap length (texts_together item.nodes N) ∙ length-append (texts_in_items item.nodes) (texts_in_items N) in
    let definitions : definitions_of (items_before item.nodes N) ≡ y + definitions_of N =
    ap length (definitions_together item.nodes N) ∙ length-append (definitions_in_items item.nodes) (definitions_in_items N) in
    let all_texts : (t + x) + texts_of N ≤ most = omega (arith, ht, texts) in
    let all_definitions : (d + y) + definitions_of N ≤ most = omega (arith, hd, definitions) in
    let before : i.line < n = below.0 in
    let line : i.line - b ≤ most = omega (arith, before, h) in
    let some_texts : t + x ≤ most = omega (arith, all_texts) in
    let some_definitions : d + y ≤ most = omega (arith, all_definitions) in
    ((line, some_texts, some_definitions), items_small n b (t + x) (d + y) i later below.1 h all_texts all_definitions)

-- ---- lines that are one list

marks_listed : (e : EntityTable) (ls : List BlockLine) (kind : ListKind) (first : ListItem) (later : List ListItem) → top_blocks e ls ≡ ItemList kind first later ∷ [] → list_marks e ls ≡ item_marks first.line 0 0 first later
marks_listed e ls kind first later is = ap (flat_map block_marks) is ∙ append-nil (item_marks first.line 0 0 first later)

pub list_small : (e : EntityTable) (ls : List BlockLine) (kind : ListKind) (first : ListItem) (later : List ListItem) → top_blocks e ls ≡ ItemList kind first later ∷ [] →
    length ls ≤ most → texts_of (nodes_of_items first later) ≤ most → definitions_of (nodes_of_items first later) ≤ most → AreSmall (list_marks e ls)
list_small e ls kind first later is h ht hd =
    let lines = map (λ (i : ListItem). i.line) later in
    let joins : joins_in e ls ≡ lines = ap (flat_map later_lines) is ∙ append-nil lines in
    subst AreSmall (sym (marks_listed e ls kind first later is))
    (items_small (length ls) first.line 0 0 first later (subst (AreBelow (length ls)) joins (joins_below e ls)) h (omega (arith, ht)) (omega (arith, hd)))

item_count : (b t d : ℕ) (item : ListItem) (later : List ListItem) → length (item_marks b t d item later) ≡ length later
unfolding item_marks
item_count b t d item [] = refl
item_count b t d item (i ∷ later) = ap suc (item_count b (t + texts_of item.nodes) (d + definitions_of item.nodes) i later)

-- a list has as many as it has later items
pub list_count : (e : EntityTable) (ls : List BlockLine) (kind : ListKind) (first : ListItem) (later : List ListItem) → top_blocks e ls ≡ ItemList kind first later ∷ [] → length (list_marks e ls) ≡ length later
list_count e ls kind first later is = ap length (marks_listed e ls kind first later is) ∙ item_count first.line 0 0 first later

-- whether it is tight is told by these and by its last item
pub list_tight : (e : EntityTable) (ls : List BlockLine) (kind : ListKind) (first : ListItem) (later : List ListItem) → top_blocks e ls ≡ ItemList kind first later ∷ [] →
    is_tight_list first later ≡ tight_list (is_parted (top_blocks e ls)) (list_marks e ls)
list_tight e ls kind first later is =
    tight_by_marks first.line 0 0 first later
    ∙ ap (λ z. not (not (last_item first later).tight || list_any (λ (mark : ItemMark). mark.loose) z)) (sym (marks_listed e ls kind first later is))
    ∙ ap (λ z. not (is_parted z || list_any (λ (mark : ItemMark). mark.loose) (list_marks e ls))) (sym is)
