-- The items of a list in front of a later one are those of the lines before that one.
use Rattle.std.proofs.Common.{◌≡◌, ◌<◌, ◌≤◌, ℕ, suc, ◌+◌, List, [], ◌∷◌, ◌++◌, length, map, Some, refl, sym, ◌∙◌, ap, subst, arith, append-nil}
use Rattle.std.proofs.lemmas.List.{length-append, map-append}
use Rattle.std.specs.Prelude.{Bool, true, take}
use Rattle.mdleaf.specs.DefinedLinks.{LinkDefinition}
use Rattle.mdtext.specs.EntityTable.{EntityTable}
use Rattle.blockspec.specs.BlockLine.{BlockLine, document_line}
use Rattle.blockspec.specs.BlockTree.{ListKind}
use Rattle.blockspec.specs.Lists.{items_before}
use Rattle.blockspec.specs.Meetings.{joins_list, gap_after}
use Rattle.blockspec.specs.NodeTree.{ItemNodes, texts_in_items, definitions_in_items, placed, placed_items}
use Rattle.blockspec.specs.UnitBegin.{units_of}
use Rattle.blockspec.specs.UnitTree.{UnitTree}
use Rattle.blockspec.proofs.BeginLaws.{begins_in}
use Rattle.blockspec.proofs.UnitReaderLaws.{IsOne}
use Rattle.blockspec.specs.ItemMarks.{ItemMark, list_marks, mark_behind, item_marks}
use Rattle.blockspec.specs.TopBlocks.{ListItem, ItemList, is_tight_list, nodes_of_items, top_blocks, moved_item, item_behind, items_behind}
use Rattle.blockspec.proofs.ItemsMeet.{items_meet_at}
use Rattle.blockspec.proofs.ListsSpliced.{one_parted, marks_parted, unit_of_list}
use Rattle.blockspec.proofs.MarkedLines.{marked_at}
use Rattle.blockspec.proofs.UnitsMeet.{definitions_together, list_definitions, list_texts, texts_together}
use Rattle.mdblock.specs.Copies.{items_positions, texts_at}
use Rattle.mdblock.specs.FoundLists.{FoundList, StandsForUnit}
use Rattle.mdblock.specs.Spliced.{first_items, first_kind, mark_at, take_items}
use Rattle.mdblock.proofs.HeldMarks.{lines_mapped}
use Rattle.mdblock.proofs.SingleItems.{front_taken}
use Rattle.mdblock.proofs.SplicedLines.{mark_cut, to_lines}
use Rattle.mdblock.proofs.SplicedLists.{StandsForLines, definitions_before, nodes_together, one_unit, same_found, single_list}
use Rattle.mdblock.proofs.SplicedMarks.{list_count}
use Rattle.mdblock.proofs.SplicedUnits.{definitions_kept, list_unit, texts_kept}

list_items_are : (kind : ListKind) (t : Bool) (items : ItemNodes) → first_items (list_unit kind t items).blocks ≡ placed_items 0 items
unfolding placed
list_items_are kind t items = refl

list_kind_is : (kind : ListKind) (t : Bool) (items : ItemNodes) → first_kind (list_unit kind t items).blocks ≡ Some kind
unfolding placed
list_kind_is kind t items = refl

one_more : {A : Type 0} (xs : List A) (x : A) (ys : List A) → take (suc (length xs)) (xs ++ x ∷ ys) ≡ xs ++ x ∷ []
one_more [] x ys = refl
one_more (y ∷ xs) x ys = ap (λ z. y ∷ z) (one_more xs x ys)

-- what the lines in front of a later item give, as the list has it
pub record ListFront (e : EntityTable) (zs : List BlockLine) (l : BlockLine) (old : FoundList) (k : ℕ) : Type 0 where
  pub kind : ListKind
  pub first : ListItem
  pub later : List ListItem
  pub line : first.line ≡ 0
  pub front : top_blocks e zs ≡ ItemList kind first later ∷ []
  pub one : IsOne (begins_in (units_of e zs))
  pub joins : joins_list zs l ≡ true
  pub within : length zs < old.lines
  pub mark : mark_at old.marks k ≡ mark_behind e zs
  pub marks : take (k + 1) old.marks ≡ list_marks e zs ++ mark_behind e zs ∷ []
  pub kind_is : first_kind old.unit.blocks ≡ Some kind
  pub items : take_items (k + 1) (first_items old.unit.blocks) ≡ placed_items 0 (nodes_of_items first later)
  pub texts : texts_at old.unit.texts (items_positions (placed_items 0 (nodes_of_items first later))) ≡ texts_in_items (nodes_of_items first later)
  pub definitions : take (mark_at old.marks k).definitions old.unit.definitions ≡ definitions_in_items (nodes_of_items first later)
  pub few_texts : length (texts_in_items (nodes_of_items first later)) ≤ length old.unit.texts
  pub few_definitions : length (definitions_in_items (nodes_of_items first later)) ≤ length old.unit.definitions

pub list_front : (e : EntityTable) (zs : List BlockLine) (l : BlockLine) (ys : List BlockLine) (old : FoundList) (k : ℕ) → StandsForLines e old (zs ++ l ∷ ys) → (before behind : List ItemMark) →
    old.marks ≡ before ++ mark_at old.marks k ∷ behind → length before ≡ k → (mark_at old.marks k).line ≡ length zs → ListFront e zs l old k
list_front e zs l ys old k stands before behind cut size line =
    let L = zs ++ l ∷ ys in
    let n = length zs in
    let whole_one = one_unit (units_of e L) old.lines old.unit stands.0 in
    let m = marked_at e zs l ys before (mark_at old.marks k) behind whole_one (sym stands.1 ∙ cut) line in
    let w = items_meet_at e zs l ys m.joins in
    let all = w.later ++ items_behind (gap_after zs) n w.item w.items in
    let a = one_parted e zs l ys w whole_one in
    let parted = marks_parted e zs l ys w.kind w.first w.later w.item w.items a.line w.line a.front a.whole in
    let N = nodes_of_items w.first w.later in
    let M = nodes_of_items w.item w.items in
    let t = is_tight_list w.first all in
    let same = same_found old.lines (length L) old.unit (list_unit w.kind t (nodes_of_items w.first all))
    (sym stands.0 ∙ unit_of_list e L w.kind w.first all a.line a.whole) in
    let unit : old.unit ≡ list_unit w.kind t (items_before N M) = same.1 ∙ ap (list_unit w.kind t) (nodes_together w.kind w.first w.later (gap_after zs) n w.item w.items) in
    let count : k + 1 ≡ suc (length (list_marks e zs)) = let c = m.count in omega (arith, c, size) in
    let many : k + 1 ≡ suc (length w.later) = let c = m.count in let d = list_count e zs w.kind w.first w.later a.front in omega (arith, c, d, size) in
    let single = single_list e zs w.kind w.first w.later a.front in
    let mark : mark_at old.marks k ≡ mark_behind e zs = sym m.is in
    let texts_are : length old.unit.texts ≡ length (texts_in_items N) + length (texts_in_items M) =
    ap (λ (u : UnitTree). length u.texts) unit ∙ ap length (list_texts w.kind t (items_before N M) ∙ texts_together N M) ∙ length-append (texts_in_items N) (texts_in_items M) in
    let definitions_are : length old.unit.definitions ≡ length (definitions_in_items N) + length (definitions_in_items M) =
    ap (λ (u : UnitTree). length u.definitions) unit
    ∙ ap length (list_definitions w.kind t (items_before N M) ∙ definitions_together N M)
    ∙ length-append (definitions_in_items N) (definitions_in_items M) in
    record {
      kind = w.kind;
      first = w.first;
      later = w.later;
      line = a.line;
      front = a.front;
      one = subst (λ z. IsOne (begins_in z)) (sym (unit_of_list e zs w.kind w.first w.later a.line a.front)) refl;
      joins = m.joins;
      within = let size = same.0 in let whole = length-append zs (l ∷ ys) in omega (arith, size, whole);
      mark = mark;
      marks =
          ap (take (k + 1)) (stands.1 ∙ parted)
          ∙ ap (λ z. take z (list_marks e zs ++ mark_behind e zs ∷ item_marks 0 (mark_behind e zs).texts (mark_behind e zs).definitions (item_behind (gap_after zs) n w.item) (map (moved_item n) w.items))) count
          ∙ one_more (list_marks e zs) (mark_behind e zs) (item_marks 0 (mark_behind e zs).texts (mark_behind e zs).definitions (item_behind (gap_after zs) n w.item) (map (moved_item n) w.items));
      kind_is = ap (λ (u : UnitTree). first_kind u.blocks) unit ∙ list_kind_is w.kind t (items_before N M);
      items =
          ap (λ (u : UnitTree). take_items (k + 1) (first_items u.blocks)) unit
          ∙ ap (take_items (k + 1)) (list_items_are w.kind t (items_before N M))
          ∙ ap (λ z. take_items z (placed_items 0 (items_before N M))) many
          ∙ front_taken 0 w.first w.later M single.0 single.1;
      texts =
          ap (λ (u : UnitTree). texts_at u.texts (items_positions (placed_items 0 N))) unit
          ∙ ap (λ (z : List (List ℕ)). texts_at z (items_positions (placed_items 0 N))) (list_texts w.kind t (items_before N M) ∙ sym (append-nil (texts_in_items (items_before N M))))
          ∙ texts_kept N M;
      definitions =
          ap (λ (u : UnitTree). take (mark_at old.marks k).definitions u.definitions) unit
          ∙ ap (λ (z : List LinkDefinition). take (mark_at old.marks k).definitions z) (list_definitions w.kind t (items_before N M) ∙ sym (append-nil (definitions_in_items (items_before N M))))
          ∙ ap (λ (z : ItemMark). take z.definitions (definitions_in_items (items_before N M) ++ [])) mark
          ∙ ap (λ z. take z (definitions_in_items (items_before N M) ++ [])) (definitions_before e zs w.kind w.first w.later a.front)
          ∙ definitions_kept N M;
      few_texts = omega (arith, texts_are);
      few_definitions = omega (arith, definitions_are);
    }

-- the list's items before the one that is read on from
pub front_of : (e : EntityTable) (k : ℕ) (old : FoundList) (text : List ℕ) (zs ys : List (List ℕ)) → k < length old.marks → StandsForUnit e old (zs ++ text ∷ ys) → (mark_at old.marks k).line ≡ length zs →
    ListFront e (map document_line zs) (document_line text) old k
front_of e k old text zs ys small stands line =
    let X = map document_line zs in
    let L = document_line text in
    let Y = map document_line ys in
    let cut = mark_cut old.marks k small in
    list_front e X L Y old k (to_lines e old (zs ++ text ∷ ys) (X ++ L ∷ Y) (map-append document_line zs (text ∷ ys)) stands) cut.before cut.behind cut.is cut.size (line ∙ sym (lines_mapped zs))
