-- A line that begins a later item of two lists, of which each is the last one of its lines: the items from it on stand behind those of either.
use Rattle.std.proofs.Common.{◌≡◌, ℕ, suc, ◌+◌, ◌-◌, Bool, true, false, not, ◌&&◌, ◌||◌, List, [], ◌∷◌, ◌++◌, length, map, refl, sym, ◌∙◌, ap, append_assoc, arith}
use Rattle.std.proofs.lemmas.List.{append-nil}
use Rattle.std.proofs.Math.Seq.{drop-append-add}
use Rattle.std.specs.List.{flat_map, list_any}
use Rattle.std.specs.Prelude.{drop}
use Rattle.mdtext.specs.EntityTable.{EntityTable}
use Rattle.blockspec.specs.BlockLine.{BlockLine}
use Rattle.blockspec.specs.BlockTree.{ListKind}
use Rattle.blockspec.specs.BlockUnits.{found_units}
use Rattle.blockspec.specs.Lists.{Group, Listed, items_before, part_before}
use Rattle.blockspec.specs.Meetings.{joins_list, gap_after}
use Rattle.blockspec.specs.NodeTree.{no_nodes, unit_of}
use Rattle.blockspec.specs.UnitBegin.{units_of}
use Rattle.blockspec.specs.UnitTree.{FoundUnit}
use Rattle.blockspec.proofs.BeginLaws.{begins_in}
use Rattle.blockspec.proofs.UnitReaderLaws.{IsOne}
use Rattle.blockspec.specs.ItemMarks.{ItemMark, last_item, is_parted, item_marks, block_marks, list_marks, mark_behind}
use Rattle.blockspec.specs.TopBlocks.{ListItem, TopBlock, ItemList, is_tight_list, nodes_of_items, top_group, top_blocks, moved_item, item_behind, items_behind, moved_top}
use Rattle.blockspec.proofs.ItemsMeet.{blocks_are, ItemsMeet, items_meet_at}
use Rattle.blockspec.proofs.MarkLines.{SameInside, item_mark, texts_of, definitions_of, behind_is, marks_behind, stands_alone}
use Rattle.blockspec.proofs.UnitsMeet.{list_together}

-- an item behind `to` that stood behind `from`
abbrev pub moved_mark : (from to : ItemMark) → ItemMark → ItemMark
moved_mark from to mark = record {
  line = to.line + (mark.line - from.line);
  texts = to.texts + (mark.texts - from.texts);
  definitions = to.definitions + (mark.definitions - from.definitions);
  loose = mark.loose;
}

-- ---- lines that are one list

-- a list of two parts that is all of some lines
pub record IsParted (e : EntityTable) (xs : List BlockLine) (l : BlockLine) (ys : List BlockLine) (w : ItemsMeet e xs l ys) : Type 0 where
  pub line : w.first.line ≡ 0
  pub front : top_blocks e xs ≡ ItemList w.kind w.first w.later ∷ []
  pub whole : top_blocks e (xs ++ l ∷ ys) ≡ ItemList w.kind w.first (w.later ++ items_behind (gap_after xs) (length xs) w.item w.items) ∷ []
  pub behind : map (moved_top (length xs)) w.blocks ≡ []

pub one_parted : (e : EntityTable) (xs : List BlockLine) (l : BlockLine) (ys : List BlockLine) (w : ItemsMeet e xs l ys) →
    IsOne (begins_in (units_of e (xs ++ l ∷ ys))) → IsParted e xs l ys w
one_parted e xs l ys w one =
    let n = length xs in
    let all = w.later ++ items_behind (gap_after xs) n w.item w.items in
    let a = stands_alone e (xs ++ l ∷ ys) w.before w.kind w.first all (map (moved_top n) w.blocks) one w.whole in
    record {
      line = a.line;
      front = w.front ∙ ap (λ z. z ++ ItemList w.kind w.first w.later ∷ []) a.front;
      whole = w.whole ∙ ap (λ z. z ++ ItemList w.kind w.first all ∷ map (moved_top n) w.blocks) a.front ∙ ap (λ z. ItemList w.kind w.first all ∷ z) a.behind;
      behind = a.behind;
    }

none_moved : (k : ℕ) (ts : List TopBlock) → map (moved_top k) ts ≡ [] → ts ≡ []
none_moved k [] e = refl
none_moved k (t ∷ ts) e = absurd (let x : ⊥ = cc in x)

-- Both lists, and the first with the later items of the second.
pub record ListsSpliced (e : EntityTable) (xs zs : List BlockLine) (l : BlockLine) (ys : List BlockLine) : Type 0 where
  pub kind : ListKind
  pub first : ListItem
  pub later : List ListItem
  pub old_kind : ListKind
  pub old_first : ListItem
  pub old_later : List ListItem
  pub item : ListItem
  pub items : List ListItem
  pub line : first.line ≡ 0
  pub old_line : old_first.line ≡ 0
  pub item_line : item.line ≡ 0
  pub front : top_blocks e xs ≡ ItemList kind first later ∷ []
  pub old_front : top_blocks e zs ≡ ItemList old_kind old_first old_later ∷ []
  pub old_all : top_blocks e (zs ++ l ∷ ys) ≡ ItemList old_kind old_first (old_later ++ items_behind (gap_after zs) (length zs) item items) ∷ []
  pub all : top_blocks e (xs ++ l ∷ ys) ≡ ItemList kind first (later ++ items_behind (gap_after xs) (length xs) item items) ∷ []

met : (e : EntityTable) (xs zs : List BlockLine) (l : BlockLine) (ys : List BlockLine) → ItemsMeet e xs l ys → ItemsMeet e zs l ys → IsOne (begins_in (units_of e xs)) → IsOne (begins_in (units_of e (zs ++ l ∷ ys))) →
    ListsSpliced e xs zs l ys
met e xs zs l ys w v one old_one =
    let n = length xs in
    let s = stands_alone e xs w.before w.kind w.first w.later [] one w.front in
    let a = one_parted e zs l ys v old_one in
    let none = none_moved (length zs) v.blocks a.behind in
    let same : ItemList w.other w.item w.items ∷ w.blocks ≡ ItemList v.other v.item v.items ∷ v.blocks = sym w.alone ∙ v.alone in
    let item : w.item ≡ v.item = cc in
    let items : w.items ≡ v.items = cc in
    let blocks : w.blocks ≡ v.blocks = cc in
    let W = λ (i : ListItem) (is : List ListItem). ItemList w.kind w.first (w.later ++ items_behind (gap_after xs) n i is) in
    record {
      kind = w.kind;
      first = w.first;
      later = w.later;
      old_kind = v.kind;
      old_first = v.first;
      old_later = v.later;
      item = v.item;
      items = v.items;
      line = s.line;
      old_line = a.line;
      item_line = v.line;
      front = w.front ∙ ap (λ z. z ++ ItemList w.kind w.first w.later ∷ []) s.front;
      old_front = a.front;
      old_all = a.whole;
      all =
          w.whole
          ∙ ap (λ z. z ++ W w.item w.items ∷ map (moved_top n) w.blocks) s.front
          ∙ ap (λ z. W z w.items ∷ map (moved_top n) w.blocks) item
          ∙ ap (λ z. W v.item z ∷ map (moved_top n) w.blocks) items
          ∙ ap (λ z. W v.item v.items ∷ map (moved_top n) z) (blocks ∙ none);
    }

pub lists_spliced : (e : EntityTable) (xs zs : List BlockLine) (l : BlockLine) (ys : List BlockLine) → joins_list xs l ≡ true → joins_list zs l ≡ true →
    IsOne (begins_in (units_of e xs)) → IsOne (begins_in (units_of e (zs ++ l ∷ ys))) → ListsSpliced e xs zs l ys
lists_spliced e xs zs l ys j k one old_one = met e xs zs l ys (items_meet_at e xs l ys j) (items_meet_at e zs l ys k) one old_one

-- ---- their later items

items_moved : (n m t u d f a b : ℕ) (v w : Bool) (one other : ListItem) (items : List ListItem) → SameInside one other →
    item_marks 0 (t + a) (d + b) one (map (moved_item n) items)
    ≡ map (moved_mark (item_mark m u f v) (item_mark n t d w)) (item_marks 0 (u + a) (f + b) other (map (moved_item m) items))
unfolding item_marks
items_moved n m t u d f a b v w one other [] same = refl
items_moved n m t u d f a b v w one other (i ∷ items) same =
    let x = texts_of other.nodes in
    let y = definitions_of other.nodes in
    let line : i.line + n - 0 ≡ n + ((i.line + m - 0) - m) = omega arith in
    let texts : t + a + x ≡ t + ((u + a + x) - u) = omega arith in
    let definitions : d + b + y ≡ d + ((f + b + y) - f) = omega arith in
    let t_is : t + a + x ≡ t + (a + x) = omega arith in
    let d_is : d + b + y ≡ d + (b + y) = omega arith in
    let u_is : u + a + x ≡ u + (a + x) = omega arith in
    let f_is : f + b + y ≡ f + (b + y) = omega arith in
    let F = moved_mark (item_mark m u f v) (item_mark n t d w) in
    let rest : item_marks 0 (t + a + x) (d + b + y) (moved_item n i) (map (moved_item n) items) ≡ map F (item_marks 0 (u + a + x) (f + b + y) (moved_item m i) (map (moved_item m) items)) =
    ap (λ z. item_marks 0 z (d + b + y) (moved_item n i) (map (moved_item n) items)) t_is
    ∙ ap (λ z. item_marks 0 (t + (a + x)) z (moved_item n i) (map (moved_item n) items)) d_is
    ∙ items_moved n m t u d f (a + x) (b + y) v w (moved_item n i) (moved_item m i) items (refl, refl)
    ∙ ap (λ z. map F (item_marks 0 z (f + (b + y)) (moved_item m i) (map (moved_item m) items))) (sym u_is)
    ∙ ap (λ z. map F (item_marks 0 (u + a + x) z (moved_item m i) (map (moved_item m) items))) (sym f_is) in
    ap (λ z. item_mark (i.line + n - 0) (t + a + texts_of z) (d + b + definitions_of z) (not one.tight || i.gap) ∷ item_marks 0 (t + a + texts_of z) (d + b + definitions_of z) (moved_item n i) (map (moved_item n) items)) same.0
    ∙ ap (λ z. item_mark (i.line + n - 0) (t + a + x) (d + b + y) (not z || i.gap) ∷ item_marks 0 (t + a + x) (d + b + y) (moved_item n i) (map (moved_item n) items)) same.1
    ∙ ap (λ z. item_mark z (t + a + x) (d + b + y) (not other.tight || i.gap) ∷ item_marks 0 (t + a + x) (d + b + y) (moved_item n i) (map (moved_item n) items)) line
    ∙ ap (λ z. item_mark (n + ((i.line + m - 0) - m)) z (d + b + y) (not other.tight || i.gap) ∷ item_marks 0 (t + a + x) (d + b + y) (moved_item n i) (map (moved_item n) items)) texts
    ∙ ap (λ z. item_mark (n + ((i.line + m - 0) - m)) (t + ((u + a + x) - u)) z (not other.tight || i.gap) ∷ item_marks 0 (t + a + x) (d + b + y) (moved_item n i) (map (moved_item n) items)) definitions
    ∙ ap (λ z. F (item_mark (i.line + m - 0) (u + a + x) (f + b + y) (not other.tight || i.gap)) ∷ z) rest

-- whether items are loose by themselves
pub tight_by_marks : (b t d : ℕ) (item : ListItem) (later : List ListItem) →
    is_tight_list item later ≡ not (not (last_item item later).tight || list_any (λ (mark : ItemMark). mark.loose) (item_marks b t d item later))
unfolding is_tight_list item_marks
tight_by_marks b t d item [] = one_tight item.tight
  where
    one_tight : (v : Bool) → v ≡ not (not v || false)
    one_tight true = refl
    one_tight false = refl
tight_by_marks b t d item (i ∷ later) =
    ap (λ z. item.tight && not i.gap && z) (tight_by_marks b (t + texts_of item.nodes) (d + definitions_of item.nodes) i later)
    ∙ go item.tight i.gap (last_item i later).tight (list_any (λ (mark : ItemMark). mark.loose) (item_marks b (t + texts_of item.nodes) (d + definitions_of item.nodes) i later))
  where
    go : (v g w x : Bool) → (v && not g && not (not w || x)) ≡ not (not w || ((not v || g) || x))
    go true true true x = refl
    go true true false x = refl
    go true false w x = refl
    go false g true x = refl
    go false g false x = refl

-- the later items of a list of two parts
pub marks_parted : (e : EntityTable) (xs : List BlockLine) (l : BlockLine) (ys : List BlockLine) (kind : ListKind) (first : ListItem) (later : List ListItem) (item : ListItem) (items : List ListItem) → first.line ≡ 0 → item.line ≡ 0 →
    top_blocks e xs ≡ ItemList kind first later ∷ [] → top_blocks e (xs ++ l ∷ ys) ≡ ItemList kind first (later ++ items_behind (gap_after xs) (length xs) item items) ∷ [] →
    (let mark = mark_behind e xs in
    list_marks e (xs ++ l ∷ ys)
    ≡ list_marks e xs ++ mark ∷ item_marks 0 mark.texts mark.definitions (item_behind (gap_after xs) (length xs) item) (map (moved_item (length xs)) items))
marks_parted e xs l ys kind first later item items line item_line front all =
    let n = length xs in
    let N = nodes_of_items first later in
    let next = item_behind (gap_after xs) n item in
    let more = map (moved_item n) items in
    let loose = not (last_item first later).tight || gap_after xs in
    let was : list_marks e xs ≡ item_marks first.line 0 0 first later = ap (flat_map block_marks) front ∙ append-nil (item_marks first.line 0 0 first later) in
    let at : item.line + n - first.line ≡ n = omega (arith, line, item_line) in
    let t : 0 + texts_of N ≡ texts_of N = omega arith in
    let d : 0 + definitions_of N ≡ definitions_of N = omega arith in
    let Behind = λ (b i t d : ℕ). item_marks first.line 0 0 first later ++ item_mark i t d loose ∷ item_marks b t d next more in
    ap (flat_map block_marks) all
    ∙ append-nil (item_marks first.line 0 0 first (later ++ next ∷ more))
    ∙ marks_behind first.line 0 0 first later next more
    ∙ ap (λ z. Behind first.line z (0 + texts_of N) (0 + definitions_of N)) at
    ∙ ap (λ z. Behind first.line n z (0 + definitions_of N)) t
    ∙ ap (λ z. Behind first.line n (texts_of N) z) d
    ∙ ap (λ z. Behind z n (texts_of N) (definitions_of N)) line
    ∙ ap (λ z. z ++ item_mark n (texts_of N) (definitions_of N) loose ∷ item_marks 0 (texts_of N) (definitions_of N) next more) (sym was)
    ∙ ap (λ (z : ItemMark). list_marks e xs ++ z ∷ item_marks 0 z.texts z.definitions next more) (sym (behind_is e xs kind first later front))

drop_behind : {A : Type 0} (xs : List A) (x : A) (ys : List A) → drop (suc (length xs)) (xs ++ x ∷ ys) ≡ ys
drop_behind xs x ys =
    let k : suc (length xs) ≡ length xs + 1 = omega arith in
    ap (λ z. drop z (xs ++ x ∷ ys)) k ∙ drop-append-add xs (x ∷ ys) 1

-- The later items of the joined list: those in front, the one at the line, and those behind it in the other, moved.
pub marks_spliced : (e : EntityTable) (xs zs : List BlockLine) (l : BlockLine) (ys : List BlockLine) → ListsSpliced e xs zs l ys →
    list_marks e (xs ++ l ∷ ys)
    ≡ (list_marks e xs ++ mark_behind e xs ∷ []) ++ map (moved_mark (mark_behind e zs) (mark_behind e xs)) (drop (suc (length (list_marks e zs))) (list_marks e (zs ++ l ∷ ys)))
marks_spliced e xs zs l ys w =
    let m = mark_behind e xs in
    let u = mark_behind e zs in
    let mine = marks_parted e xs l ys w.kind w.first w.later w.item w.items w.line w.item_line w.front w.all in
    let old = marks_parted e zs l ys w.old_kind w.old_first w.old_later w.item w.items w.old_line w.item_line w.old_front w.old_all in
    let R = item_marks 0 u.texts u.definitions (item_behind (gap_after zs) (length zs) w.item) (map (moved_item (length zs)) w.items) in
    let t : m.texts ≡ m.texts + 0 = omega arith in
    let d : m.definitions ≡ m.definitions + 0 = omega arith in
    let t' : u.texts + 0 ≡ u.texts = omega arith in
    let d' : u.definitions + 0 ≡ u.definitions = omega arith in
    let next = item_behind (gap_after xs) (length xs) w.item in
    let other = item_behind (gap_after zs) (length zs) w.item in
    let F = moved_mark u m in
    let rest : item_marks 0 m.texts m.definitions next (map (moved_item (length xs)) w.items) ≡ map F R =
    ap (λ z. item_marks 0 z m.definitions next (map (moved_item (length xs)) w.items)) t
    ∙ ap (λ z. item_marks 0 (m.texts + 0) z next (map (moved_item (length xs)) w.items)) d
    ∙ items_moved (length xs) (length zs) m.texts u.texts m.definitions u.definitions 0 0 u.loose m.loose next other w.items (refl, refl)
    ∙ ap (λ z. map F (item_marks 0 z (u.definitions + 0) other (map (moved_item (length zs)) w.items))) t'
    ∙ ap (λ z. map F (item_marks 0 u.texts z other (map (moved_item (length zs)) w.items))) d' in
    mine
    ∙ ap (λ z. list_marks e xs ++ m ∷ z) rest
    ∙ sym (append_assoc (list_marks e xs) (m ∷ []) (map F R))
    ∙ ap (λ z. (list_marks e xs ++ m ∷ []) ++ map F z) (sym (ap (drop (suc (length (list_marks e zs)))) old ∙ drop_behind (list_marks e zs) u R))

-- ---- their units

-- lines that are one list
pub unit_of_list : (e : EntityTable) (ls : List BlockLine) (kind : ListKind) (first : ListItem) (later : List ListItem) → first.line ≡ 0 → top_blocks e ls ≡ ItemList kind first later ∷ [] →
    units_of e ls ≡ record { begin = 0; lines = length ls; unit = unit_of (part_before (Listed kind (is_tight_list first later) (nodes_of_items first later)) no_nodes) } ∷ []
unfolding found_units
unit_of_list e ls kind first later line is =
    let n = length ls in
    let u = unit_of (part_before (Listed kind (is_tight_list first later) (nodes_of_items first later)) no_nodes) in
    let lines : n - first.line ≡ n = omega (arith, line) in
    let one : List FoundUnit = record { begin = first.line; lines = n - first.line; unit = u } ∷ [] in
    let all : units_of e ls ≡ one = ap (λ z. found_units z n) (sym (blocks_are e ls) ∙ ap (map top_group) is) in
    all
    ∙ ap (λ z. record { begin = z; lines = n - first.line; unit = u } ∷ []) line
    ∙ ap (λ z. record { begin = 0; lines = z; unit = u } ∷ []) lines

-- a list of two parts, which both and the gap between them make tight or not
pub unit_parted : (e : EntityTable) (xs : List BlockLine) (l : BlockLine) (ys : List BlockLine) (kind : ListKind) (first : ListItem) (later : List ListItem)
    (item : ListItem) (items : List ListItem) →
    first.line ≡ 0 → top_blocks e (xs ++ l ∷ ys) ≡ ItemList kind first (later ++ items_behind (gap_after xs) (length xs) item items) ∷ [] →
    units_of e (xs ++ l ∷ ys)
    ≡ record {
      begin = 0;
      lines = length (xs ++ l ∷ ys);
      unit = unit_of (part_before (Listed kind (is_tight_list first later && not (gap_after xs) && is_tight_list item items) (items_before (nodes_of_items first later) (nodes_of_items item items))) no_nodes);
    } ∷ []
unit_parted e xs l ys kind first later item items line all =
    let more = items_behind (gap_after xs) (length xs) item items in
    let n = length (xs ++ l ∷ ys) in
    unit_of_list e (xs ++ l ∷ ys) kind first (later ++ more) line all
    ∙ ap (λ (g : Group). record { begin = 0; lines = n; unit = unit_of (part_before g.part no_nodes) } ∷ [])
    (list_together kind first later (gap_after xs) (length xs) item items)

last_behind : (item : ListItem) (later : List ListItem) (next : ListItem) (more : List ListItem) → last_item item (later ++ next ∷ more) ≡ last_item next more
last_behind item [] next more = refl
last_behind item (i ∷ later) next more = last_behind i later next more

-- both end in the same item
pub parted_alike : (e : EntityTable) (xs zs : List BlockLine) (l : BlockLine) (ys : List BlockLine) → ListsSpliced e xs zs l ys → is_parted (top_blocks e (xs ++ l ∷ ys)) ≡ is_parted (top_blocks e (zs ++ l ∷ ys))
parted_alike e xs zs l ys w =
    let next = item_behind (gap_after xs) (length xs) w.item in
    let other = item_behind (gap_after zs) (length zs) w.item in
    ap is_parted w.all
    ∙ ap (λ (i : ListItem). not i.tight) (last_behind w.first w.later next (map (moved_item (length xs)) w.items))
    ∙ ap not (same_last (length xs) (length zs) next other w.items refl)
    ∙ sym (ap (λ (i : ListItem). not i.tight) (last_behind w.old_first w.old_later other (map (moved_item (length zs)) w.items)))
    ∙ sym (ap is_parted w.old_all)
  where
    same_last : (n m : ℕ) (one other : ListItem) (items : List ListItem) → one.tight ≡ other.tight → (last_item one (map (moved_item n) items)).tight ≡ (last_item other (map (moved_item m) items)).tight
    same_last n m one other [] same = same
    same_last n m one other (i ∷ items) same = same_last n m (moved_item n i) (moved_item m i) items refl
