-- The items of an old list before one of its later items, and those that the lines from there on give, as one unit.
use Rattle.std.proofs.Common.{◌≡◌, ℕ, ◌+◌, ◌-◌, ◌≤◌, Bool, not, ◌||◌, List, [], ◌∷◌, ◌++◌, length, map, refl, sym, ◌∙◌, ap, subst, append_assoc, arith, length-append}
use Rattle.std.proofs.lemmas.List.{append-nil}
use Rattle.std.specs.List.{flat_map}
use Rattle.mdleaf.specs.DefinedLinks.{LinkDefinition}
use Rattle.mdtext.specs.EntityTable.{EntityTable}
use Rattle.blockspec.specs.BlockLine.{BlockLine}
use Rattle.blockspec.specs.BlockTree.{ListKind, list, no_blocks, block}
use Rattle.blockspec.specs.ItemMarks.{ItemMark, block_marks, is_parted, item_marks, last_item, list_marks, mark_behind}
use Rattle.blockspec.specs.Lists.{items_before}
use Rattle.blockspec.specs.Meetings.{gap_after}
use Rattle.blockspec.specs.NodeTree.{ItemNodes, definitions_in, definitions_in_items, placed, placed_items, texts_in, texts_in_items}
use Rattle.blockspec.specs.TopBlocks.{ItemList, ListItem, item_behind, items_behind, moved_item, moved_top, nodes_of_items, top_blocks}
use Rattle.blockspec.specs.UnitBegin.{units_of}
use Rattle.blockspec.specs.UnitTree.{UnitTree}
use Rattle.blockspec.proofs.BeginLaws.{begins_in}
use Rattle.blockspec.proofs.ItemsMeet.{items_meet_at}
use Rattle.blockspec.proofs.ListsSpliced.{marks_parted, moved_mark}
use Rattle.blockspec.proofs.MarkLines.{SameInside, item_mark, stands_alone}
use Rattle.blockspec.proofs.UnitReaderLaws.{IsOne}
use Rattle.blockspec.proofs.UnitsMeet.{definitions_together, texts_together}
use Rattle.mdblock.specs.Copies.{items_positions, texts_at}
use Rattle.mdblock.specs.FoundLists.{FoundList}
use Rattle.mdblock.specs.Fronted.{ListBase, base_items, base_mark, fronted_marks, fronted_unit}
use Rattle.mdblock.specs.Spliced.{front_unit, list_of_kind, mark_further, no_mark}
use Rattle.mdblock.proofs.ItemParts.{kind_list}
use Rattle.mdblock.proofs.ResumedLists.{ListFront}
use Rattle.mdblock.proofs.SplicedLists.{nodes_together}
use Rattle.mdblock.proofs.SplicedMarks.{AreSmall, marks_small, most, small_behind}
use Rattle.mdblock.proofs.SplicedUnits.{both_items, definitions_of, items_spliced, list_unit, same_unit, texts_first, texts_of}

-- A list in front, the list that the lines from a later item of it on are, and both together.
pub record Together (e : EntityTable) (xs : List BlockLine) (l : BlockLine) (ys : List BlockLine) (kind : ListKind) (first : ListItem) (later : List ListItem) : Type 0 where
  pub other : ListKind
  pub item : ListItem
  pub items : List ListItem
  pub line : item.line ≡ 0
  pub alone : top_blocks e (l ∷ ys) ≡ ItemList other item items ∷ []
  pub whole : top_blocks e (xs ++ l ∷ ys) ≡ ItemList kind first (later ++ items_behind (gap_after xs) (length xs) item items) ∷ []

pub in_together : (e : EntityTable) (xs : List BlockLine) (l : BlockLine) (ys : List BlockLine) (old : FoundList) (k : ℕ) (f : ListFront e xs l old k) →
    IsOne (begins_in (units_of e (l ∷ ys))) →
    Together e xs l ys f.kind f.first f.later
in_together e xs l ys old k f one =
    let w = items_meet_at e xs l ys f.joins in
    let n = length xs in
    let s = stands_alone e xs w.before w.kind w.first w.later [] f.one w.front in
    let a = stands_alone e (l ∷ ys) [] w.other w.item w.items w.blocks one w.alone in
    let same : ItemList w.kind w.first w.later ∷ [] ≡ ItemList f.kind f.first f.later ∷ [] =
    sym (w.front ∙ ap (λ z. z ++ ItemList w.kind w.first w.later ∷ []) s.front) ∙ f.front in
    let kind : w.kind ≡ f.kind = cc in
    let first : w.first ≡ f.first = cc in
    let later : w.later ≡ f.later = cc in
    let more = items_behind (gap_after xs) n w.item w.items in
    record {
      other = w.other;
      item = w.item;
      items = w.items;
      line = w.line;
      alone = w.alone ∙ ap (λ z. ItemList w.other w.item w.items ∷ z) a.behind;
      whole =
          w.whole
          ∙ ap (λ z. z ++ ItemList w.kind w.first (w.later ++ more) ∷ map (moved_top n) w.blocks) s.front
          ∙ ap (λ z. ItemList w.kind w.first (w.later ++ more) ∷ map (moved_top n) z) a.behind
          ∙ ap (λ z. ItemList z w.first (w.later ++ more) ∷ []) kind
          ∙ ap (λ z. ItemList f.kind z (w.later ++ more) ∷ []) first
          ∙ ap (λ z. ItemList f.kind f.first (z ++ more) ∷ []) later;
    }

-- the later items of a list, so many lines, texts and definitions further on
in_moved : (n t d a b : ℕ) (v : Bool) (one other : ListItem) (items : List ListItem) → SameInside one other →
    item_marks 0 (t + a) (d + b) one (map (moved_item n) items) ≡ map (moved_mark no_mark (item_mark n t d v)) (item_marks 0 a b other items)
unfolding item_marks
in_moved n t d a b v one other [] same = refl
in_moved n t d a b v one other (i ∷ items) same =
    let x = texts_of other.nodes in
    let y = definitions_of other.nodes in
    let line : i.line + n - 0 ≡ n + ((i.line - 0) - 0) = omega arith in
    let texts : t + a + x ≡ t + ((a + x) - 0) = omega arith in
    let definitions : d + b + y ≡ d + ((b + y) - 0) = omega arith in
    let t_is : t + a + x ≡ t + (a + x) = omega arith in
    let d_is : d + b + y ≡ d + (b + y) = omega arith in
    let F = moved_mark no_mark (item_mark n t d v) in
    let more = map (moved_item n) items in
    let rest : item_marks 0 (t + a + x) (d + b + y) (moved_item n i) more ≡ map F (item_marks 0 (a + x) (b + y) i items) =
    ap (λ z. item_marks 0 z (d + b + y) (moved_item n i) more) t_is
    ∙ ap (λ z. item_marks 0 (t + (a + x)) z (moved_item n i) more) d_is
    ∙ in_moved n t d (a + x) (b + y) v (moved_item n i) i items (refl, refl) in
    ap (λ z. item_mark (i.line + n - 0) (t + a + texts_of z) (d + b + definitions_of z) (not one.tight || i.gap) ∷ item_marks 0 (t + a + texts_of z) (d + b + definitions_of z) (moved_item n i) more) same.0
    ∙ ap (λ z. item_mark (i.line + n - 0) (t + a + x) (d + b + y) (not z || i.gap) ∷ item_marks 0 (t + a + x) (d + b + y) (moved_item n i) more) same.1
    ∙ ap (λ z. item_mark (i.line + n - 0) (t + a + x) (d + b + y) (not other.tight || i.gap) ∷ z) rest
    ∙ ap (λ z. item_mark z (t + a + x) (d + b + y) (not other.tight || i.gap) ∷ map F (item_marks 0 (a + x) (b + y) i items)) line
    ∙ ap (λ z. item_mark (n + ((i.line - 0) - 0)) z (d + b + y) (not other.tight || i.gap) ∷ map F (item_marks 0 (a + x) (b + y) i items)) texts
    ∙ ap (λ z. item_mark (n + ((i.line - 0) - 0)) (t + ((a + x) - 0)) z (not other.tight || i.gap) ∷ map F (item_marks 0 (a + x) (b + y) i items)) definitions

-- The later items of both together.
pub in_marks : (e : EntityTable) (xs : List BlockLine) (l : BlockLine) (ys : List BlockLine) (b : ListBase) (f : ListFront e xs l b.list b.join)
    (marks : List ItemMark) →
    Together e xs l ys f.kind f.first f.later → marks ≡ list_marks e (l ∷ ys) → AreSmall (list_marks e (xs ++ l ∷ ys)) →
    fronted_marks b marks ≡ list_marks e (xs ++ l ∷ ys)
in_marks e xs l ys b f marks m is small =
    let n = length xs in
    let to = mark_behind e xs in
    let F = list_marks e xs ++ to ∷ [] in
    let next = item_behind (gap_after xs) n m.item in
    let R = item_marks 0 to.texts to.definitions next (map (moved_item n) m.items) in
    let t : to.texts ≡ to.texts + 0 = omega arith in
    let d : to.definitions ≡ to.definitions + 0 = omega arith in
    let own : marks ≡ item_marks 0 0 0 m.item m.items =
    is ∙ ap (flat_map block_marks) m.alone ∙ append-nil (item_marks m.item.line 0 0 m.item m.items) ∙ ap (λ z. item_marks z 0 0 m.item m.items) m.line in
    let moved : R ≡ map (moved_mark no_mark to) marks =
    ap (λ z. item_marks 0 z to.definitions next (map (moved_item n) m.items)) t
    ∙ ap (λ z. item_marks 0 (to.texts + 0) z next (map (moved_item n) m.items)) d
    ∙ in_moved n to.texts to.definitions 0 0 to.loose next m.item m.items (refl, refl)
    ∙ ap (map (moved_mark no_mark to)) (sym own) in
    let whole : list_marks e (xs ++ l ∷ ys) ≡ F ++ map (moved_mark no_mark to) marks =
    marks_parted e xs l ys f.kind f.first f.later m.item m.items f.line m.line f.front m.whole
    ∙ ap (λ z. list_marks e xs ++ to ∷ z) moved
    ∙ sym (append_assoc (list_marks e xs) (to ∷ []) (map (moved_mark no_mark to) marks)) in
    ap (λ z. z ++ map (mark_further no_mark (base_mark b)) marks) f.marks
    ∙ ap (λ z. F ++ map (mark_further no_mark z) marks) f.mark
    ∙ ap (λ z. F ++ z) (marks_small no_mark to marks (small_behind F (map (moved_mark no_mark to) marks) (subst AreSmall whole small)))
    ∙ sym whole

in_last_item : (item : ListItem) (later : List ListItem) (next : ListItem) (more : List ListItem) → last_item item (later ++ next ∷ more) ≡ last_item next more
in_last_item item [] next more = refl
in_last_item item (i ∷ later) next more = in_last_item i later next more

in_last_tight : (n : ℕ) (one other : ListItem) (items : List ListItem) → one.tight ≡ other.tight →
    (last_item one (map (moved_item n) items)).tight ≡ (last_item other items).tight
in_last_tight n one other [] same = same
in_last_tight n one other (i ∷ items) same = in_last_tight n (moved_item n i) i items refl

-- both end in the same item
pub in_parted : (e : EntityTable) (xs : List BlockLine) (l : BlockLine) (ys : List BlockLine) (kind : ListKind) (first : ListItem) (later : List ListItem) →
    Together e xs l ys kind first later →
    is_parted (top_blocks e (l ∷ ys)) ≡ is_parted (top_blocks e (xs ++ l ∷ ys))
in_parted e xs l ys kind first later m =
    let next = item_behind (gap_after xs) (length xs) m.item in
    let more = map (moved_item (length xs)) m.items in
    ap is_parted m.alone
    ∙ ap not (sym (in_last_tight (length xs) next m.item m.items refl))
    ∙ ap (λ (i : ListItem). not i.tight) (sym (in_last_item first later next more))
    ∙ ap is_parted (sym m.whole)

-- Its unit, with other definitions behind those of the items.
pub in_unit : (tight : Bool) (e : EntityTable) (xs : List BlockLine) (l : BlockLine) (b : ListBase) (f : ListFront e xs l b.list b.join)
    (unit : UnitTree) (other : ListKind) (t : Bool) (M : ItemNodes)
    (defined : List LinkDefinition) (texts : List (List ℕ)) → unit ≡ front_unit other t M defined texts →
    fronted_unit tight b unit ≡ front_unit f.kind tight (items_before (nodes_of_items f.first f.later) M) defined []
in_unit tight e xs l b f unit other t M defined texts is =
    let N = nodes_of_items f.first f.later in
    let olds = base_items b in
    let own = placed_items 0 M in
    let T = texts_in_items M ++ texts in
    let blocks = b.list.unit.blocks in
    let kept = placed_items 0 N in
    ap (fronted_unit tight b) is
    ∙ same_unit _ _ _ _ _ _
    (sym (kind_list tight (both_items olds own) blocks)
    ∙ ap (list_of_kind tight (both_items olds own)) f.kind_is
    ∙ ap (λ z. block (list f.kind tight z) no_blocks) (ap (λ z. both_items z own) f.items ∙ items_spliced 0 N M))
    (ap (λ z. z ++ (definitions_in_items M ++ defined)) f.definitions
    ∙ sym (append_assoc (definitions_in_items N) (definitions_in_items M) defined)
    ∙ ap (λ z. z ++ defined) (sym (definitions_together N M)))
    (ap (λ z. texts_at b.list.unit.texts (items_positions z) ++ texts_at T (items_positions own)) f.items
    ∙ ap (λ z. z ++ texts_at T (items_positions own)) f.texts
    ∙ ap (λ z. texts_in_items N ++ z) (texts_first M texts)
    ∙ sym (append-nil (texts_in_items (items_before N M)) ∙ texts_together N M))

-- a list alone has nothing behind its items
pub in_alone : (kind : ListKind) (t : Bool) (M : ItemNodes) → list_unit kind t M ≡ front_unit kind t M [] []
unfolding placed placed_items texts_in texts_in_items definitions_in definitions_in_items
in_alone kind t M = refl

-- All that both give can be counted.
pub in_few : (e : EntityTable) (xs : List BlockLine) (l : BlockLine) (ys : List BlockLine) (b : ListBase) (f : ListFront e xs l b.list b.join)
    (m : Together e xs l ys f.kind f.first f.later) →
    length b.list.unit.texts + texts_of (nodes_of_items m.item m.items) ≤ most →
    length b.list.unit.definitions + definitions_of (nodes_of_items m.item m.items) ≤ most →
    (let all = nodes_of_items f.first (f.later ++ items_behind (gap_after xs) (length xs) m.item m.items) in (texts_of all ≤ most) × (definitions_of all ≤ most))
in_few e xs l ys b f m texts definitions =
    let N = nodes_of_items f.first f.later in
    let M = nodes_of_items m.item m.items in
    let all = nodes_of_items f.first (f.later ++ items_behind (gap_after xs) (length xs) m.item m.items) in
    let nodes : all ≡ items_before N M = nodes_together f.kind f.first f.later (gap_after xs) (length xs) m.item m.items in
    let t : texts_of all ≡ texts_of N + texts_of M = ap texts_of nodes ∙ ap length (texts_together N M) ∙ length-append (texts_in_items N) (texts_in_items M) in
    let d : definitions_of all ≡ definitions_of N + definitions_of M =
    ap definitions_of nodes ∙ ap length (definitions_together N M) ∙ length-append (definitions_in_items N) (definitions_in_items M) in
    let few = f.few_texts in
    let few_too = f.few_definitions in
    (omega (arith, t, few, texts), omega (arith, d, few_too, definitions))

-- and one later item more, which begins behind all lines
pub in_small : (marks : List ItemMark) (mark : ItemMark) → AreSmall marks → (mark.line ≤ most) × (mark.texts ≤ most) × (mark.definitions ≤ most) →
    AreSmall (marks ++ mark ∷ [])
in_small [] mark w v = (v, tt)
in_small (m ∷ marks) mark w v = (w.0, in_small marks mark w.1 v)
