-- The units of lines before a line that begins a later item of the list that stands last, and from it on: two of them make one.
use Rattle.std.proofs.Common.{◌≡◌, ℕ, ◌+◌, ◌-◌, Bool, true, false, not, ◌&&◌, List, [], ◌∷◌, ◌++◌, length, map, refl, sym, ◌∙◌, ap, append_assoc, arith, length-append}
use Rattle.std.proofs.lemmas.List.{map-append, append-nil}
use Rattle.mdtext.specs.EntityTable.{EntityTable}
use Rattle.blockspec.specs.BlockLine.{BlockLine, document_line}
use Rattle.blockspec.specs.BlockTree.{ListKind}
use Rattle.blockspec.specs.BlockUnits.{groups, next_begin, found_units, units}
use Rattle.blockspec.specs.Lists.{Part, Listed, Group, items_before, part_before}
use Rattle.blockspec.specs.Meetings.{shift_group, joins_list, gap_after}
use Rattle.blockspec.specs.NodeTree.{no_nodes, ItemNodes, no_item_nodes, item_node, texts_in, texts_in_items, definitions_in, definitions_in_items, unit_of}
use Rattle.blockspec.specs.UnitBegin.{units_of, shift_found}
use Rattle.blockspec.specs.UnitTree.{FoundUnit}
use Rattle.blockspec.proofs.DocumentLaws.{map_length, document_units}
use Rattle.blockspec.proofs.GroupLaws.{found_append, found_shift}
use Rattle.blockspec.specs.TopBlocks.{ListItem, TopBlock, Other, ItemList, is_tight_list, nodes_of_items, top_group, moved_item, item_behind, items_behind, moved_top}
use Rattle.blockspec.proofs.ItemsMeet.{blocks_are, ItemsMeet, items_meet_at}

-- ---- one list of two parts

items_assoc : (a b c : ItemNodes) → items_before a (items_before b c) ≡ items_before (items_before a b) c
items_assoc no_item_nodes b c = refl
items_assoc (item_node nodes a) b c = ap (item_node nodes) (items_assoc a b c)

nodes_together : (item : ListItem) (later : List ListItem) (next : ListItem) (more : List ListItem) →
    nodes_of_items item (later ++ next ∷ more) ≡ items_before (nodes_of_items item later) (nodes_of_items next more)
unfolding nodes_of_items
nodes_together item [] next more = refl
nodes_together item (i ∷ later) next more =
    ap (λ z. items_before item.nodes z) (nodes_together i later next more) ∙ items_assoc item.nodes (nodes_of_items i later) (nodes_of_items next more)

and_assoc : (a b c : Bool) → (a && (b && c)) ≡ ((a && b) && c)
and_assoc true b c = refl
and_assoc false b c = refl

tight_together : (item : ListItem) (later : List ListItem) (next : ListItem) (more : List ListItem) →
    is_tight_list item (later ++ next ∷ more) ≡ (is_tight_list item later && not next.gap && is_tight_list next more)
unfolding is_tight_list
tight_together item [] next more = refl
tight_together item (i ∷ later) next more =
    ap (λ z. item.tight && not i.gap && z) (tight_together i later next more)
    ∙ and_assoc (item.tight && not i.gap) (is_tight_list i later && not next.gap) (is_tight_list next more)
    ∙ ap (λ z. z && is_tight_list next more) (and_assoc (item.tight && not i.gap) (is_tight_list i later) (not next.gap))

nodes_moved : (k line : ℕ) (gap : Bool) (item : ListItem) (later : List ListItem) →
    nodes_of_items (record { line = line; gap = gap; tight = item.tight; nodes = item.nodes }) (map (moved_item k) later) ≡ nodes_of_items item later
unfolding nodes_of_items
nodes_moved k line gap item [] = refl
nodes_moved k line gap item (i ∷ later) = ap (λ z. items_before item.nodes z) (nodes_moved k (i.line + k) i.gap i later)

tight_moved : (k line : ℕ) (gap : Bool) (item : ListItem) (later : List ListItem) →
    is_tight_list (record { line = line; gap = gap; tight = item.tight; nodes = item.nodes }) (map (moved_item k) later) ≡ is_tight_list item later
unfolding is_tight_list
tight_moved k line gap item [] = refl
tight_moved k line gap item (i ∷ later) = ap (λ z. item.tight && not i.gap && z) (tight_moved k (i.line + k) i.gap i later)

-- A list with items behind its own is tight if both parts are and no gap is between them; it has the number and the first line of the first.
pub list_together : (kind : ListKind) (first : ListItem) (later : List ListItem) (gap : Bool) (k : ℕ) (item : ListItem) (items : List ListItem) →
    top_group (ItemList kind first (later ++ items_behind gap k item items))
    ≡ record {
      begin = first.line;
      gap = first.gap;
      part = Listed kind (is_tight_list first later && not gap && is_tight_list item items) (items_before (nodes_of_items first later) (nodes_of_items item items));
    }
list_together kind first later gap k item items =
    let next = item_behind gap k item in
    let more = map (moved_item k) items in
    let tight : is_tight_list first (later ++ next ∷ more) ≡ (is_tight_list first later && not gap && is_tight_list item items) =
    tight_together first later next more ∙ ap (λ z. is_tight_list first later && not gap && z) (tight_moved k (item.line + k) gap item items) in
    let nodes : nodes_of_items first (later ++ next ∷ more) ≡ items_before (nodes_of_items first later) (nodes_of_items item items) =
    nodes_together first later next more ∙ ap (λ z. items_before (nodes_of_items first later) z) (nodes_moved k (item.line + k) gap item items) in
    ap (λ z. record { begin = first.line; gap = first.gap; part = Listed kind z (nodes_of_items first (later ++ next ∷ more)) }) tight
    ∙ ap (λ z. record { begin = first.line; gap = first.gap; part = Listed kind (is_tight_list first later && not gap && is_tight_list item items) z }) nodes

-- blocks so many lines further on, as groups
top_moved : (k : ℕ) (t : TopBlock) → top_group (moved_top k t) ≡ shift_group k (top_group t)
top_moved k (Other g) = refl
top_moved k (ItemList kind first later) =
    ap (λ z. record { begin = first.line + k; gap = first.gap; part = Listed kind z (nodes_of_items (moved_item k first) (map (moved_item k) later)) }) (tight_moved k (first.line + k) first.gap first later)
    ∙ ap (λ z. record { begin = first.line + k; gap = first.gap; part = Listed kind (is_tight_list first later) z }) (nodes_moved k (first.line + k) first.gap first later)

tops_shift : (k : ℕ) (ts : List TopBlock) → map top_group (map (moved_top k) ts) ≡ map (shift_group k) (map top_group ts)
tops_shift k [] = refl
tops_shift k (t ∷ ts) = ap (λ z. z ∷ map top_group (map (moved_top k) ts)) (top_moved k t) ∙ ap (λ z. shift_group k (top_group t) ∷ z) (tops_shift k ts)

-- ---- texts and definitions of items

pub texts_together : (a b : ItemNodes) → texts_in_items (items_before a b) ≡ texts_in_items a ++ texts_in_items b
unfolding texts_in_items
texts_together no_item_nodes b = refl
texts_together (item_node nodes a) b = ap (λ z. texts_in nodes ++ z) (texts_together a b) ∙ sym (append_assoc (texts_in nodes) (texts_in_items a) (texts_in_items b))

pub definitions_together : (a b : ItemNodes) → definitions_in_items (items_before a b) ≡ definitions_in_items a ++ definitions_in_items b
unfolding definitions_in_items
definitions_together no_item_nodes b = refl
definitions_together (item_node nodes a) b =
    ap (λ z. definitions_in nodes ++ z) (definitions_together a b) ∙ sym (append_assoc (definitions_in nodes) (definitions_in_items a) (definitions_in_items b))

pub list_texts : (kind : ListKind) (t : Bool) (items : ItemNodes) → texts_in (part_before (Listed kind t items) no_nodes) ≡ texts_in_items items
unfolding texts_in
list_texts kind t items = append-nil (texts_in_items items)

pub list_definitions : (kind : ListKind) (t : Bool) (items : ItemNodes) → definitions_in (part_before (Listed kind t items) no_nodes) ≡ definitions_in_items items
unfolding definitions_in
list_definitions kind t items = append-nil (definitions_in_items items)

-- ---- units

next_moved : (k : ℕ) (gs : List Group) (n : ℕ) → next_begin (map (shift_group k) gs) (n + k) ≡ next_begin gs n + k
next_moved k [] n = refl
next_moved k (g ∷ gs) n = refl

found_moved : (k : ℕ) (gs : List Group) (n : ℕ) → found_units (map (shift_group k) gs) (n + k) ≡ map (shift_found k) (found_units gs n)
unfolding found_units
found_moved k [] n = refl
found_moved k (g ∷ gs) n = found_shift g.gap k (g ∷ gs) n

-- the unit of a part that begins in a line, up to another
abbrev pub unit_between : (begin : ℕ) → Part → (next : ℕ) → FoundUnit
unit_between b p next = record { begin = b; lines = next - b; unit = unit_of (part_before p no_nodes) }

found_first : (g : Group) (gs : List Group) (n : ℕ) → found_units (g ∷ gs) n ≡ unit_between g.begin g.part (next_begin gs n) ∷ found_units gs n
unfolding found_units
found_first g gs n = refl

found_last : (gs : List Group) (g : Group) (n : ℕ) → found_units (gs ++ g ∷ []) n ≡ found_units gs g.begin ++ unit_between g.begin g.part n ∷ []
unfolding found_units
found_last gs g n = found_append gs g [] n

-- The units before the line, and from it on: the last of the one and the first of the other make one unit, and all others are the same.
pub record UnitsMeet (e : EntityTable) (xs : List BlockLine) (l : BlockLine) (ys : List BlockLine) : Type 0 where
  pub us : List FoundUnit
  pub last : FoundUnit
  pub head : FoundUnit
  pub whole : FoundUnit
  pub vs : List FoundUnit
  pub front : units_of e xs ≡ us ++ last ∷ []
  pub alone : units_of e (l ∷ ys) ≡ head ∷ vs
  pub both : units_of e (xs ++ l ∷ ys) ≡ us ++ whole ∷ map (shift_found (length xs)) vs
  pub first_line : whole.begin ≡ last.begin
  pub head_line : head.begin ≡ 0
  pub lines : whole.lines ≡ (head.lines + length xs) - last.begin
  pub texts : whole.unit.texts ≡ last.unit.texts ++ head.unit.texts
  pub definitions : whole.unit.definitions ≡ last.unit.definitions ++ head.unit.definitions

units_as_one : (e : EntityTable) (xs : List BlockLine) (l : BlockLine) (ys : List BlockLine) → ItemsMeet e xs l ys → UnitsMeet e xs l ys
units_as_one e xs l ys w =
    let n = length xs in
    let m = length (l ∷ ys) in
    let b = w.first.line in
    let N = nodes_of_items w.first w.later in
    let M = nodes_of_items w.item w.items in
    let t = is_tight_list w.first w.later in
    let t' = is_tight_list w.item w.items in
    let whole_tight = t && not (gap_after xs) && t' in
    let gs = map top_group w.before in
    let hs = map top_group w.blocks in
    let mine : Group = top_group (ItemList w.kind w.first w.later) in
    let theirs : Group = top_group (ItemList w.other w.item w.items) in
    let ours : Group = record { begin = b; gap = w.first.gap; part = Listed w.kind whole_tight (items_before N M) } in
    let size : length (xs ++ l ∷ ys) ≡ m + n = length-append xs (l ∷ ys) ∙ (let z : n + m ≡ m + n = omega arith in z) in
    let fronts : groups e xs ≡ gs ++ mine ∷ [] =
    sym (blocks_are e xs) ∙ ap (map top_group) w.front ∙ map-append top_group w.before (ItemList w.kind w.first w.later ∷ []) in
    let behinds : groups e (l ∷ ys) ≡ theirs ∷ hs = sym (blocks_are e (l ∷ ys)) ∙ ap (map top_group) w.alone in
    let wholes : groups e (xs ++ l ∷ ys) ≡ gs ++ ours ∷ map (shift_group n) hs =
    sym (blocks_are e (xs ++ l ∷ ys))
    ∙ ap (map top_group) w.whole
    ∙ map-append top_group w.before (ItemList w.kind w.first (w.later ++ items_behind (gap_after xs) n w.item w.items) ∷ map (moved_top n) w.blocks)
    ∙ ap (λ z. gs ++ z ∷ map top_group (map (moved_top n) w.blocks)) (list_together w.kind w.first w.later (gap_after xs) n w.item w.items)
    ∙ ap (λ z. gs ++ ours ∷ z) (tops_shift n w.blocks) in
    record {
      us = found_units gs b;
      last = unit_between b mine.part n;
      head = unit_between w.item.line theirs.part (next_begin hs m);
      whole = unit_between b ours.part (next_begin hs m + n);
      vs = found_units hs m;
      front = ap (λ z. found_units z n) fronts ∙ found_last gs mine n;
      alone = ap (λ z. found_units z m) behinds ∙ found_first theirs hs m;
      both =
          ap (λ z. found_units z (length (xs ++ l ∷ ys))) wholes
          ∙ ap (λ z. found_units (gs ++ ours ∷ map (shift_group n) hs) z) size
          ∙ found_append gs ours (map (shift_group n) hs) (m + n)
          ∙ ap (λ z. found_units gs b ++ z) (found_first ours (map (shift_group n) hs) (m + n))
          ∙ ap (λ z. found_units gs b ++ unit_between b ours.part z ∷ found_units (map (shift_group n) hs) (m + n)) (next_moved n hs m)
          ∙ ap (λ z. found_units gs b ++ unit_between b ours.part (next_begin hs m + n) ∷ z) (found_moved n hs m);
      first_line = refl;
      head_line = w.line;
      lines = let z = w.line in let next : next_begin hs m ≡ next_begin hs m - w.item.line = omega (arith, z) in ap (λ y. (y + n) - b) next;
      texts =
          list_texts w.kind whole_tight (items_before N M)
          ∙ texts_together N M
          ∙ ap (λ z. z ++ texts_in_items M) (sym (list_texts w.kind t N))
          ∙ ap (λ z. texts_in (part_before (Listed w.kind t N) no_nodes) ++ z) (sym (list_texts w.other t' M));
      definitions =
          list_definitions w.kind whole_tight (items_before N M)
          ∙ definitions_together N M
          ∙ ap (λ z. z ++ definitions_in_items M) (sym (list_definitions w.kind t N))
          ∙ ap (λ z. definitions_in (part_before (Listed w.kind t N) no_nodes) ++ z) (sym (list_definitions w.other t' M));
    }

pub units_meet_inside : (e : EntityTable) (xs : List BlockLine) (l : BlockLine) (ys : List BlockLine) → joins_list xs l ≡ true → UnitsMeet e xs l ys
units_meet_inside e xs l ys j = units_as_one e xs l ys (items_meet_at e xs l ys j)

-- ---- the same of a document

-- Of a document: the units before a line that begins a later item of the list that stands last, and from it on; two of them make one.
pub record DocumentMeets (e : EntityTable) (front : List (List ℕ)) (line : List ℕ) (later : List (List ℕ)) : Type 0 where
  pub us : List FoundUnit
  pub last : FoundUnit
  pub head : FoundUnit
  pub whole : FoundUnit
  pub vs : List FoundUnit
  pub before : units e front ≡ us ++ last ∷ []
  pub alone : units e (line ∷ later) ≡ head ∷ vs
  pub both : units e (front ++ line ∷ later) ≡ us ++ whole ∷ map (shift_found (length front)) vs
  pub first_line : whole.begin ≡ last.begin
  pub head_line : head.begin ≡ 0
  pub lines : whole.lines ≡ (head.lines + length front) - last.begin
  pub texts : whole.unit.texts ≡ last.unit.texts ++ head.unit.texts
  pub definitions : whole.unit.definitions ≡ last.unit.definitions ++ head.unit.definitions

document_as_one : (e : EntityTable) (front : List (List ℕ)) (line : List ℕ) (later : List (List ℕ)) →
    UnitsMeet e (map document_line front) (document_line line) (map document_line later) → DocumentMeets e front line later
document_as_one e front line later w =
    let size = map_length document_line front in
    record {
      us = w.us;
      last = w.last;
      head = w.head;
      whole = w.whole;
      vs = w.vs;
      before = document_units e front ∙ w.front;
      alone = document_units e (line ∷ later) ∙ w.alone;
      both =
          document_units e (front ++ line ∷ later)
          ∙ ap (λ z. units_of e z) (map-append document_line front (line ∷ later))
          ∙ w.both
          ∙ ap (λ z. w.us ++ w.whole ∷ map (shift_found z) w.vs) size;
      first_line = w.first_line;
      head_line = w.head_line;
      lines = w.lines ∙ ap (λ z. (w.head.lines + z) - w.last.begin) size;
      texts = w.texts;
      definitions = w.definitions;
    }

pub document_meets_inside : (e : EntityTable) (front : List (List ℕ)) (line : List ℕ) (later : List (List ℕ)) →
    joins_list (map document_line front) (document_line line) ≡ true → DocumentMeets e front line later
document_meets_inside e front line later j =
    document_as_one e front line later (units_meet_inside e (map document_line front) (document_line line) (map document_line later) j)
