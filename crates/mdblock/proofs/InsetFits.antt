-- Where the front of a list fits into an old one: both stand for lines, so their texts lie in order, and no item has to be looked at.
use Rattle.std.proofs.Common.{◌≡◌, suc, ◌+◌, ◌-◌, ◌<◌, ℕ, true, List, [], ◌∷◌, ◌++◌, length, map, sym, ◌∙◌, ap, subst, arith, length-append}
use Rattle.std.proofs.lemmas.List.{map-append}
use Rattle.std.specs.List.{range_with_len}
use Rattle.mdtext.specs.EntityTable.{EntityTable}
use Rattle.blockspec.specs.BlockLine.{BlockLine, document_line}
use Rattle.blockspec.specs.ItemMarks.{ItemMark, list_marks}
use Rattle.blockspec.specs.Joins.{is_joined}
use Rattle.blockspec.specs.Meetings.{joins_list}
use Rattle.blockspec.specs.UnitBegin.{units_of}
use Rattle.blockspec.specs.UnitReader.{lines_held}
use Rattle.blockspec.specs.Lists.{items_before}
use Rattle.blockspec.specs.NodeTree.{texts_in, texts_in_items, definitions_in, definitions_in_items, placed, placed_items}
use Rattle.blockspec.specs.TopBlocks.{nodes_of_items}
use Rattle.blockspec.specs.UnitTree.{UnitTree}
use Rattle.blockspec.proofs.BeginLaws.{begins_in}
use Rattle.blockspec.proofs.HandedLaws.{held_one}
use Rattle.blockspec.proofs.LastJoins.{joined_next}
use Rattle.blockspec.proofs.ListsSpliced.{ListsSpliced, lists_spliced}
use Rattle.blockspec.proofs.MarkLines.{marks_more}
use Rattle.blockspec.proofs.MarkedLines.{marked_at}
use Rattle.blockspec.proofs.UnitReaderLaws.{IsOne}
use Rattle.mdblock.specs.Copies.{IsBehind, items_positions}
use Rattle.mdblock.specs.FoundLists.{FoundList, StandsForUnit}
use Rattle.mdblock.specs.Insets.{HasItems, MayFit}
use Rattle.mdblock.specs.Spliced.{IsFrontOf, IsListFront, MeetsAt, drop_items, first_items, first_kind, mark_at, take_items}
use Rattle.mdblock.specs.held.ReaderState.{ReaderState, held_joined}
use Rattle.mdblock.specs.held.Reads.{Reads}
use Rattle.mdblock.proofs.CopyLaws.{items_placed_positions}
use Rattle.mdblock.proofs.SingleItems.{all_has, all_taken, front_dropped, front_has}
use Rattle.mdblock.proofs.SplicedLists.{Known, StandsForLines, front_count, front_is, known, last_is, old_count, one_unit, single_list, texts_before}
use Rattle.mdblock.proofs.HeldMarks.{lines_mapped}
use Rattle.mdblock.proofs.SplicedLines.{held_join, if_joined, mark_cut, to_lines}
use Rattle.mdblock.proofs.SplicedUnits.{list_texts_both, texts_of}
use Rattle.mdblock.proofs.TextOrder.{range_behind}

pub may_fit : (e : EntityTable) (xs zs : List BlockLine) (l : BlockLine) (ys : List BlockLine) (front old : FoundList) (k : ℕ) (w : ListsSpliced e xs zs l ys) → Known e xs zs l ys front old k w →
    MayFit front old k
unfolding placed placed_items texts_in texts_in_items definitions_in definitions_in_items
may_fit e xs zs l ys front old k w s even =
    let count = even.count in
    let texts = even.texts in
    let N = nodes_of_items w.first w.later in
    let O = nodes_of_items w.old_first w.old_later in
    let P = nodes_of_items w.item w.items in
    let all = placed_items 0 (items_before O P) in
    let F = first_items front.unit.blocks in
    let n = (mark_at old.marks k).texts in
    let kept = suc (length w.later) in
    let out = suc (length w.old_later) in
    let one = single_list e xs w.kind w.first w.later w.front in
    let other = single_list e zs w.old_kind w.old_first w.old_later w.old_front in
    let in_front = front_is e front.unit xs w.kind w.first w.later w.front s.first in
    let kept_is : kept ≡ k + 1 = sym (front_count e xs zs l ys front old k w s) ∙ count in
    let out_is : out ≡ k + 1 = sym (old_count e xs zs l ys front old k w s) in
    let items : F ≡ placed_items 0 N = ap (λ (u : UnitTree). first_items u.blocks) in_front in
    let taken : take_items (k + 1) F ≡ placed_items 0 N = ap (λ z. take_items z F) (sym kept_is) ∙ ap (take_items kept) items ∙ all_taken 0 w.first w.later one.0 one.1 in
    let left : drop_items (k + 1) (first_items old.unit.blocks) ≡ placed_items (0 + texts_of O) P =
    ap (λ z. drop_items z (first_items old.unit.blocks)) (sym out_is)
    ∙ ap (λ (u : UnitTree). drop_items out (first_items u.blocks)) s.old_unit
    ∙ front_dropped 0 w.old_first w.old_later P other.0 other.1 in
    let first : items_positions (take_items (k + 1) F) ≡ range_with_len 0 (texts_of N) = ap items_positions taken ∙ items_placed_positions 0 N in
    let later : items_positions (drop_items (k + 1) (first_items old.unit.blocks)) ≡ range_with_len (0 + texts_of O) (texts_of P) =
    ap items_positions left ∙ items_placed_positions (0 + texts_of O) P in
    let last : k ≡ length front.marks - 1 = omega (arith, count) in
    let many : n ≡ texts_of N =
    sym texts
    ∙ ap (λ z. (mark_at front.marks z).texts) last
    ∙ ap (λ (m : ItemMark). m.texts) (last_is e xs front.marks s.front_marks)
    ∙ texts_before e xs w.kind w.first w.later w.front in
    let old_many : n ≡ texts_of O = ap (λ (m : ItemMark). m.texts) s.from ∙ texts_before e zs w.old_kind w.old_first w.old_later w.old_front in
    let front_texts : length front.unit.texts ≡ texts_of N + length s.first.texts =
    ap (λ (u : UnitTree). length u.texts) in_front ∙ length-append (texts_in_items N) s.first.texts in
    let old_texts : length old.unit.texts ≡ texts_of O + texts_of P =
    ap (λ (u : UnitTree). length u.texts) s.old_unit ∙ ap length (list_texts_both w.old_kind s.old_tight O P) ∙ length-append (texts_in_items O) (texts_in_items P) in
    let start : 0 + texts_of O ≡ n = omega (arith, old_many) in
    let end : 0 + texts_of N ≡ n = omega (arith, many) in
    let old_end : (0 + texts_of O) + texts_of P ≡ length old.unit.texts = omega (arith, old_texts) in
    let behind = range_with_len (0 + texts_of O) (texts_of P) in
    record {
      lists = record {
        kind = w.kind;
        is_list = ap (λ (u : UnitTree). first_kind u.blocks) in_front;
        some = subst (λ z. HasItems z F) kept_is (subst (HasItems kept) (sym items) (all_has 0 w.first w.later one.0 one.1));
        old_kind = w.old_kind;
        old_tight = s.old_tight;
        old_items = all;
        alone = ap (λ (u : UnitTree). u.blocks) s.old_unit;
        old_some = subst (λ z. HasItems z all) out_is (front_has 0 w.old_first w.old_later P other.0 other.1);
      };
      first = subst (λ z. IsBehind 0 z n) (sym first) (subst (IsBehind 0 (range_with_len 0 (texts_of N))) end (range_behind 0 (texts_of N)));
      enough = omega (arith, many, front_texts);
      later = subst (λ z. IsBehind n z (length old.unit.texts)) (sym later)
          (subst (λ z. IsBehind z behind (length old.unit.texts)) start (subst (IsBehind (0 + texts_of O) behind) old_end (range_behind (0 + texts_of O) (texts_of P))));
    }

list_fits : (e : EntityTable) (xs zs : List BlockLine) (l : BlockLine) (ys : List BlockLine) (front old : FoundList) (k : ℕ) → joins_list xs l ≡ true → IsOne (begins_in (units_of e xs)) →
    front.lines ≡ length (xs ++ l ∷ []) → front.marks ≡ list_marks e (xs ++ l ∷ []) → IsListFront e front.unit xs → StandsForLines e old (zs ++ l ∷ ys) → (before behind : List ItemMark) →
    old.marks ≡ before ++ mark_at old.marks k ∷ behind → length before ≡ k → (mark_at old.marks k).line ≡ length zs → MayFit front old k
list_fits e xs zs l ys front old k j one lines marks first old_stands before behind cut size line =
    let old_one = one_unit (units_of e (zs ++ l ∷ ys)) old.lines old.unit old_stands.0 in
    let m = marked_at e zs l ys before (mark_at old.marks k) behind old_one (sym old_stands.1 ∙ cut) line in
    let w = lists_spliced e xs zs l ys j m.joins one old_one in
    may_fit e xs zs l ys front old k w (known e xs zs l ys front old k w lines (marks ∙ marks_more e xs l one j) first old_stands before size m)

-- A front may take the place of an old list's items before one that begins in the same line.
pub fits_behind : (e : EntityTable) (front old : FoundList) (k : ℕ) (xs : List (List ℕ)) (l : List ℕ) (zs ys : List (List ℕ)) → is_joined e (xs ++ l ∷ []) ≡ true → IsFrontOf e front xs l → k < length old.marks →
    StandsForUnit e old (zs ++ l ∷ ys) → (mark_at old.marks k).line ≡ length zs → MayFit front old k
fits_behind e front old k xs l zs ys joined w small stands line =
    let X = map document_line xs in
    let L = document_line l in
    let Z = map document_line zs in
    let Y = map document_line ys in
    let h = held_join X L (sym (joined_next e xs l) ∙ joined) in
    let cut = mark_cut old.marks k small in
    list_fits e (lines_held [] X) Z L Y front old k h.joins (held_one e X)
    w.1 w.2 w.3
    (to_lines e old (zs ++ l ∷ ys) (Z ++ L ∷ Y) (map-append document_line zs (l ∷ ys)) stands)
    cut.before cut.behind cut.is cut.size (line ∙ sym (lines_mapped zs))

-- What a reader holds may.
pub fits_at : (reading : ReaderState) (front old : FoundList) (k : ℕ) → held_joined reading.held ≡ true → k < length old.marks →
    ((limit : ℕ) (e : EntityTable) (xs : List (List ℕ)) (l : List ℕ) → Reads limit e reading (xs ++ l ∷ []) → IsFrontOf e front xs l) →
    (limit : ℕ) (e : EntityTable) (xs : List (List ℕ)) (l : List ℕ) (zs ys : List (List ℕ)) → MeetsAt limit e reading old k xs l zs ys → MayFit front old k
fits_at reading front old k joined small in_front limit e xs l zs ys m =
    fits_behind e front old k xs l zs ys (if_joined limit e reading (xs ++ l ∷ []) joined m.0) (in_front limit e xs l m.0) small m.1 m.2
