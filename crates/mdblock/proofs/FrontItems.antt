-- A list in whose last line an item begins: what is held of it without that item is the list of the lines before that one.
use Rattle.std.proofs.Common.{◌≡◌, ℕ, suc, ◌+◌, ◌-◌, Bool, true, false, not, ◌&&◌, List, [], ◌∷◌, ◌++◌, length, length-append, map, Option, Some, refl, sym, ◌∙◌, ap, subst, arith}
use Rattle.std.specs.Prelude.{unwrap_or}
use Rattle.mdtext.specs.EntityTable.{EntityTable}
use Rattle.mdleaf.specs.DefinedLinks.{LinkDefinition}
use Rattle.mdscan.specs.declared.list_markers.Marker.{Marker}
use Rattle.blockspec.specs.BlockLine.{BlockLine, document_line}
use Rattle.blockspec.specs.BlankLines.{is_blank_line}
use Rattle.blockspec.specs.BlockKinds.{Quote, Item, Kind, Paragraph, SetextHeading, Table, AtxHeading, ThematicBreak, FencedCode, IndentedCode, HtmlBlock, Holds}
use Rattle.blockspec.specs.BlockStart.{begun}
use Rattle.blockspec.specs.BlockTree as tree
use Rattle.blockspec.specs.BlockTree.{ListKind, no_blocks, block}
use Rattle.blockspec.specs.BlockUnits.{visible_in}
use Rattle.blockspec.specs.ContainerLines.{opened}
use Rattle.blockspec.specs.ItemMarks.{list_marks}
use Rattle.blockspec.specs.LineSummary.{Summary, summary, nothing_yet, ended_block, open_leaf, open_container, no_summary, last_in, closed, last_groups, summary_gap, summary_of, begin_after, line_added, is_apart_after, mark_of}
use Rattle.blockspec.specs.Lists.{Listed, Group, kind_of, is_same_list, merged, nodes_of}
use Rattle.blockspec.specs.NodeTree.{ItemNodes, texts_in, texts_in_items, definitions_in, definitions_in_items, placed, placed_items}
use Rattle.blockspec.specs.SummaryJoins.{joins_after}
use Rattle.blockspec.specs.TopBlocks.{ItemList, is_tight_list, nodes_of_items, top_blocks, top_group}
use Rattle.blockspec.specs.UnitBegin.{list_mark, same_mark}
use Rattle.blockspec.specs.UnitReader.{lines_held}
use Rattle.blockspec.proofs.HandedLaws.{front_lines, held_one, lines_before_held}
use Rattle.blockspec.proofs.ItemsMeet.{blocks_are, items_meet_at}
use Rattle.blockspec.proofs.LastJoins.{joined_next, summary_joins}
use Rattle.blockspec.proofs.MarkLines.{stands_alone}
use Rattle.blockspec.proofs.ReaderLaws.{summary_added, summary_closed}
use Rattle.mdblock.specs.BlockView.{blocks_view, items_view}
use Rattle.mdblock.specs.FoundLists.{FoundList}
use Rattle.mdblock.specs.Spliced.{IsFrontOf}
use Rattle.mdblock.specs.held.HandedIn.{gathered_texts, gathered_definitions}
use Rattle.mdblock.specs.held.HeldLevel.{StandsFor, StandsForLast, HasGathered}
use Rattle.mdblock.specs.held.HeldNodes.{ListSoFar, list_of, list_where, handed_nodes, tasked}
use Rattle.mdblock.specs.held.LevelSteps.{last_mark}
use Rattle.mdblock.specs.held.ReaderState.{front_blocks, held_front, unit_so_far}
use Rattle.mdblock.specs.held.Reads.{Reads, open_begin}
use Rattle.mdblock.specs.declared.gathering.Gathering.{Gathering}
use Rattle.mdblock.specs.declared.open_blocks.Level.{Level}
use Rattle.mdblock.specs.declared.open_blocks.OpenBlock.{OpenBlock}
use Rattle.mdblock.specs.declared.open_blocks.OpenBlock as open_block
use Rattle.mdblock.specs.declared.readers.OpenUnit.{OpenUnit}
use Rattle.mdblock.proofs.HeldMarks.{lines_mapped, with_line}
use Rattle.mdblock.proofs.HeldNodesLaws.{none_over}
use Rattle.mdblock.proofs.LevelBegins.{last_marks}
use Rattle.mdblock.proofs.LevelContainers.{begun_container, definitions_to_item, into_item, item_front, texts_to_item}
use Rattle.mdblock.proofs.LevelGroups.{group_with}
use Rattle.mdblock.proofs.LevelLines.{apart_added}
use Rattle.mdblock.proofs.SplicedLines.{begin_at, held_join}
use Rattle.mdblock.proofs.SplicedUnits.{same_unit}

-- ---- the line begins an item

-- what a line tells that begins a later item
joins_parts : (s : Summary) (l : BlockLine) → joins_after s l ≡ true → (is_apart_after (last_in s) l ≡ true) × (is_blank_line l ≡ false)
unfolding joins_after
joins_parts (summary before last blank lines) l j = go (is_apart_after last l) (is_blank_line l) (same_mark (mark_of last) (list_mark (begun l))) refl refl j
  where
    go : (a b c : Bool) → is_apart_after last l ≡ a → is_blank_line l ≡ b → (a && not b && c) ≡ true → (is_apart_after last l ≡ true) × (is_blank_line l ≡ false)
    go true false c x y h = (x, y)
    go true true c x y h = absurd (let z : ⊥ = cc in z)
    go false b c x y h = absurd (let z : ⊥ = cc in z)

no_texts : texts_in (tasked false (nodes_of [])) ≡ []
unfolding nodes_of texts_in
no_texts = refl

no_definitions : definitions_in (tasked false (nodes_of [])) ≡ []
unfolding nodes_of definitions_in
no_definitions = refl

-- a list with no group before it
abbrev first_list : ListKind → (tight : Bool) → ItemNodes → ListSoFar
first_list kind tight items = record { front = []; kind = kind; tight = tight; items = items }

joins_mark : (s : Summary) (l : BlockLine) → joins_after s l ≡ true → same_mark (mark_of (last_in s)) (list_mark (begun l)) ≡ true
unfolding joins_after
joins_mark (summary before last blank lines) l j = go (is_apart_after last l) (is_blank_line l) (same_mark (mark_of last) (list_mark (begun l))) j
  where
    go : (a b c : Bool) → (a && not b && c) ≡ true → c ≡ true
    go true false c h = h
    go true true c h = absurd (let z : ⊥ = cc in z)
    go false b c h = absurd (let z : ⊥ = cc in z)

-- what goes on with the last item goes on with its list
mark_kind : (e : EntityTable) (s : Summary) (m : Option ListKind) (b : ℕ) (g : Bool) (kind : ListKind) (t : Bool) (items : ItemNodes) → closed e s ≡ group_with b g (Listed kind t items) ∷ [] →
    same_mark (mark_of (last_in s)) m ≡ true → same_mark (Some kind) m ≡ true
unfolding closed mark_of
mark_kind e (summary before nothing_yet blank lines) m b g kind t items is same = absurd (let z : ⊥ = cc in z)
mark_kind e (summary before (ended_block h) blank lines) m b g kind t items is same =
    ap (λ z. same_mark (last_mark z) m) (sym is) ∙ last_marks e before (ended_block h) m tt ∙ same
mark_kind e (summary before (open_leaf begin gap leaf) blank lines) m b g kind t items is same =
    ap (λ z. same_mark (last_mark z) m) (sym is) ∙ last_marks e before (open_leaf begin gap leaf) m tt ∙ same
mark_kind e (summary before (open_container begin gap bare container inner) blank lines) m b g kind t items is same =
    ap (λ z. same_mark (last_mark z) m) (sym is) ∙ last_marks e before (open_container begin gap bare container inner) m tt ∙ same

-- the line's marker
record BeginsItem (k : Kind) (kind : ListKind) : Type 0 where
  pub marker : Marker
  pub needed : ℕ
  pub is : k ≡ Holds (Item marker needed)
  pub same : is_same_list kind (kind_of marker) ≡ true

begins_item : (k : Kind) (kind : ListKind) → same_mark (Some kind) (list_mark k) ≡ true → BeginsItem k kind
begins_item (Holds (Item marker needed)) kind w = record { marker = marker; needed = needed; is = refl; same = w }
begins_item (Holds Quote) kind w = absurd (let x : ⊥ = cc in x)
begins_item Paragraph kind w = absurd (let x : ⊥ = cc in x)
begins_item (SetextHeading level) kind w = absurd (let x : ⊥ = cc in x)
begins_item (Table above) kind w = absurd (let x : ⊥ = cc in x)
begins_item (AtxHeading level content) kind w = absurd (let x : ⊥ = cc in x)
begins_item ThematicBreak kind w = absurd (let x : ⊥ = cc in x)
begins_item (FencedCode indentation mark size info shut) kind w = absurd (let x : ⊥ = cc in x)
begins_item IndentedCode kind w = absurd (let x : ⊥ = cc in x)
begins_item (HtmlBlock html) kind w = absurd (let x : ⊥ = cc in x)

-- ---- what is held

-- the list that is open
record ListHeld (held : OpenBlock) (kind : ListKind) (items : ItemNodes) : Type 0 where
  pub tight : Bool
  pub is : front_blocks no_blocks held ≡ block (tree.list kind tight (placed_items 0 items)) no_blocks

list_held : (e : EntityTable) (at : ℕ) (held : OpenBlock) (gs : List Group) (b : ℕ) (gap bare : Bool) (m : Marker) (needed : ℕ) (inner : Summary) (kind : ListKind) (tight : Bool) (items : ItemNodes) →
    list_of gs (kind_of m) gap ≡ first_list kind tight items → at ≡ 0 → StandsForLast e at held gs (open_container b gap bare (Item m needed) inner) → ListHeld held kind items
list_held e at open_block.Shut gs b gap bare m needed inner kind tight items is zero st = absurd st
list_held e at (open_block.Leaf held) gs b gap bare m needed inner kind tight items is zero st = absurd st
list_held e at (open_block.Quote' p over last in_item begun' blank spaced) gs b gap bare m needed inner kind tight items is zero st = absurd st
list_held e at (open_block.List' p over last in_item begun' blank spaced list) gs b gap bare m needed (summary before last' blank' lines) kind tight items is zero st =
    let stands = st.3 in
    record {
      tight = not list.loose;
      is =
          ap (λ z. block (tree.list z (not list.loose) (items_view list.items.items)) no_blocks) (stands.0 ∙ ap (λ (z : ListSoFar). z.kind) is)
          ∙ ap (λ z. block (tree.list kind (not list.loose) z) no_blocks) (stands.2 ∙ ap (λ (z : ListSoFar). placed_items at z.items) is ∙ ap (λ z. placed_items z items) zero);
    }

-- that list alone, and what was handed in behind its own texts and definitions
record FrontHeld (level : Level) (gathering : Gathering) (kind : ListKind) (items : ItemNodes) : Type 0 where
  pub tight : Bool
  pub definitions : List LinkDefinition
  pub texts : List (List ℕ)
  pub blocks_are : front_blocks (blocks_view level.over.items) level.last ≡ block (tree.list kind tight (placed_items 0 items)) no_blocks
  pub definitions_are : gathered_definitions gathering ≡ definitions_in_items items ++ definitions
  pub texts_are : gathered_texts gathering ≡ texts_in_items items ++ texts

front_held : (e : EntityTable) (room : ℕ) (level : Level) (gathering : Gathering) (s : Summary) (b : ℕ) (g : Bool) (kind : ListKind) (t : Bool) (items : ItemNodes) (l : BlockLine) (m : Marker) (needed : ℕ) →
    closed e s ≡ group_with b g (Listed kind t items) ∷ [] → (is_apart_after (last_in s) l ≡ true) × (is_blank_line l ≡ false) → begun l ≡ Holds (Item m needed) → is_same_list kind (kind_of m) ≡ true →
    HasGathered gathering [] [] (handed_nodes e false (line_added e (suc room) s l)) → StandsFor e 0 false level (line_added e (suc room) s l) → FrontHeld level gathering kind items
unfolding begin_after closed last_groups
front_held e room level gathering (summary groups last was lines) b g kind t items l m needed is c begins same had st =
    let s = summary groups last was lines in
    let gs = group_with b g (Listed kind t items) ∷ [] in
    let gap = summary_gap last was in
    let container = Item m needed in
    let inner = line_added e room no_summary (opened container l) in
    let bare = is_blank_line (opened container l) in
    let S = summary gs (open_container lines gap bare container inner) false (suc lines) in
    let added : line_added e (suc room) s l ≡ S =
    apart_added e room s l c.0 ∙ ap (λ z. begin_after e (line_added e room) z s l) c.1 ∙ begun_container e room (merged groups (last_groups e last)) gap lines l container begins
    ∙ ap (λ z. summary z (open_container lines gap bare container inner) false (suc lines)) is in
    let so_far = list_of gs (kind_of m) gap in
    let list_is : so_far ≡ first_list kind (t && not gap) items = ap (λ z. list_where z (group_with b g (Listed kind t items)) kind t items (kind_of m) gap) same in
    let now : StandsFor e 0 false level S = subst (λ z. StandsFor e 0 false level z) added st in
    let handed = into_item gathering e false gs lines gap bare m needed inner false (suc lines) [] [] (subst (λ z. HasGathered gathering [] [] (handed_nodes e false z)) added had) in
    let at_is : 0 + length (texts_in (item_front false so_far)) ≡ 0 = ap (λ (z : ListSoFar). 0 + length (texts_in (item_front false z))) list_is ∙ ap (λ (z : List (List ℕ)). 0 + length z) no_texts in
    let front = list_held e (0 + length (texts_in (item_front false so_far))) level.last gs lines gap bare m needed inner kind (t && not gap) items list_is at_is now.1 in
    let T = texts_in (handed_nodes e true inner) in
    let D = definitions_in (handed_nodes e true inner) in
    record {
      tight = front.tight;
      definitions = D;
      texts = T;
      blocks_are = ap (λ z. front_blocks z level.last) (now.0.0 ∙ ap (λ (z : ListSoFar). placed 0 (tasked false (nodes_of z.front))) list_is ∙ none_over 0 false) ∙ front.is;
      definitions_are = handed.1 ∙ ap (λ z. definitions_to_item false [] z ++ D) list_is ∙ ap (λ (z : List LinkDefinition). (z ++ definitions_in_items items) ++ D) no_definitions;
      texts_are = handed.0 ∙ ap (λ z. texts_to_item false [] z ++ T) list_is ∙ ap (λ (z : List (List ℕ)). (z ++ texts_in_items items) ++ T) no_texts;
    }

-- ---- a reader

pub front_read : (limit : ℕ) (e mine : EntityTable) (own fed begin : ℕ) (held : OpenUnit) (front : FoundList) (xs : List (List ℕ)) (l : List ℕ) → held.joined ≡ true → begin ≡ unwrap_or held.begin 0 →
    front ≡ held_front held begin fed → Reads limit e (record { entities = mine; limit = own; fed = fed; held = Some (unit_so_far held) }) (xs ++ l ∷ []) → IsFrontOf e front xs l
unfolding Reads
front_read limit e mine own fed begin held front xs l joined at is r =
    let X = map document_line xs in
    let L = document_line l in
    let H = lines_held [] X in
    let whole = X ++ L ∷ [] in
    let h = held_join X L (sym (joined_next e xs l) ∙ sym r.4.1 ∙ joined) in
    let now : lines_held [] (map document_line (xs ++ l ∷ [])) ≡ H ++ L ∷ [] = ap (lines_held []) (with_line xs l) ∙ h.held in
    let k = front_lines [] whole in
    let opens : open_begin e (xs ++ l ∷ []) ≡ Some k = begin_at e xs l h in
    let begin_is : begin ≡ k = at ∙ ap (λ z. unwrap_or z 0) (r.4.0 ∙ opens) in
    let lines : fed - begin ≡ length (H ++ L ∷ []) =
    (let read = r.2 in
    let size = lines_before_held [] whole in
    let same = ap length h.held in
    let long = length-append X (L ∷ []) in
    let long_lines = length-append xs (l ∷ []) in
    let mapped = lines_mapped xs in
    omega (arith, read, size, same, long, long_lines, mapped, begin_is)) in
    let m = items_meet_at e H L [] h.joins in
    let a = stands_alone e H m.before m.kind m.first m.later [] (held_one e X) m.front in
    let top : top_blocks e H ≡ ItemList m.kind m.first m.later ∷ [] = m.front ∙ ap (λ z. z ++ ItemList m.kind m.first m.later ∷ []) a.front in
    let T = is_tight_list m.first m.later in
    let N = nodes_of_items m.first m.later in
    let s = summary_of e H in
    let closed_is : closed e s ≡ group_with m.first.line m.first.gap (Listed m.kind T N) ∷ [] = sym (summary_closed e H) ∙ sym (blocks_are e H) ∙ ap (map top_group) top in
    let joins : joins_after s L ≡ true = sym (summary_joins e H L) ∙ h.joins in
    let item = begins_item (begun L) m.kind (mark_kind e s (list_mark (begun L)) m.first.line m.first.gap m.kind T N closed_is (joins_mark s L joins)) in
    let v = visible_in (H ++ L ∷ []) in
    let added : summary_of e (lines_held [] (map document_line (xs ++ l ∷ []))) ≡ line_added e (suc v) s L = ap (summary_of e) now ∙ summary_added e (suc v) H L (omega arith) in
    let stands = r.4.3 in
    let f = front_held e v held.level held.gathering s m.first.line m.first.gap m.kind T N L item.marker item.needed closed_is (joins_parts s L joins) item.is item.same
    (subst (λ z. HasGathered held.gathering [] [] (handed_nodes e false z)) added (stands.0, stands.1)) (subst (λ z. StandsFor e 0 false held.level z) added stands.2) in
    subst (λ z. IsFrontOf e z xs l) (sym is) (
      opens ∙ ap (λ z. Some z) (sym begin_is),
      lines,
      r.4.2 ∙ ap (list_marks e) now,
      record {
        kind = m.kind;
        first = m.first;
        later = m.later;
        tight = f.tight;
        definitions = f.definitions;
        texts = f.texts;
        top = top;
        is =
            same_unit (front_blocks (blocks_view held.level.over.items) held.level.last) (block (tree.list m.kind f.tight (placed_items 0 N)) no_blocks)
            (gathered_definitions held.gathering) (definitions_in_items N ++ f.definitions) (gathered_texts held.gathering) (texts_in_items N ++ f.texts)
            f.blocks_are f.definitions_are f.texts_are;
      },
    )
