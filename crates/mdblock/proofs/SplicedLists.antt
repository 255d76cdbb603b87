-- One list with the later items of another: the value that is made of both stands for the lines of both.
use Rattle.std.proofs.Common.{◌≡◌, ℕ, suc, ◌+◌, ◌-◌, ◌≤◌, Bool, true, List, [], ◌∷◌, ◌++◌, length, map, refl, sym, ◌∙◌, ap, subst, arith, length-append}
use Rattle.std.proofs.Math.Nat.{min-eq_left}
use Rattle.std.specs.Prelude.{◌&&◌, not, drop}
use Rattle.mdtext.specs.EntityTable.{EntityTable}
use Rattle.blockspec.specs.BlockLine.{BlockLine}
use Rattle.blockspec.specs.BlockTree.{ListKind}
use Rattle.blockspec.specs.Lists.{Part, Leaves, Quoted, Listed, Group, items_before}
use Rattle.blockspec.specs.Meetings.{joins_list, gap_after}
use Rattle.blockspec.specs.NodeTree.{ItemNodes, no_item_nodes, texts_in_items}
use Rattle.blockspec.specs.UnitBegin.{units_of}
use Rattle.blockspec.specs.UnitTree.{UnitTree, FoundUnit}
use Rattle.blockspec.proofs.BeginLaws.{begins_in}
use Rattle.blockspec.proofs.UnitReaderLaws.{IsOne}
use Rattle.blockspec.specs.ItemMarks.{ItemMark, is_parted, list_marks, mark_behind}
use Rattle.blockspec.specs.TopBlocks.{ListItem, ItemList, is_tight_list, nodes_of_items, top_blocks, items_behind}
use Rattle.blockspec.proofs.ListsSpliced.{ListsSpliced, lists_spliced, moved_mark, marks_spliced, parted_alike, unit_of_list, unit_parted}
use Rattle.blockspec.proofs.MarkLines.{behind_is, marks_more}
use Rattle.blockspec.proofs.MarkedLines.{MarkedAt, marked_at}
use Rattle.blockspec.proofs.UnitsMeet.{list_together}
use Rattle.mdblock.specs.FoundLists.{FoundList}
use Rattle.mdblock.specs.Spliced.{IsListFront, front_unit, mark_at, mark_further, spliced_unit, spliced_marks, tight_list, spliced_list}
use Rattle.mdblock.proofs.ItemParts.{last_mark}
use Rattle.mdblock.proofs.SingleItems.{IsSingle, AreSingle, SingleTops, blocks_single}
use Rattle.mdblock.proofs.SplicedMarks.{most, AreSmall, small_behind, marks_small, list_small, list_count, list_tight}
use Rattle.mdblock.proofs.SplicedUnits.{list_unit, texts_of, definitions_of, few_definitions, few_texts, unit_of_both, list_texts_behind, list_texts_both}

-- A unit that was found is that of these lines of a document.
abbrev pub StandsForLines : EntityTable → FoundList → List BlockLine → Type 0
StandsForLines e f ls = (units_of e ls ≡ record { begin = 0; lines = f.lines; unit = f.unit } ∷ []) × (f.marks ≡ list_marks e ls) × (f.parted ≡ is_parted (top_blocks e ls))

-- ---- what stands for lines that are one list

abbrev pub found_at : (lines : ℕ) → UnitTree → FoundUnit
found_at lines unit = record { begin = 0; lines = lines; unit = unit }

pub same_found : (m n : ℕ) (u v : UnitTree) → found_at m u ∷ [] ≡ found_at n v ∷ [] → (m ≡ n) × (u ≡ v)
same_found m n u v e = let s : found_at m u ≡ found_at n v = cc in (ap (λ (f : FoundUnit). f.lines) s, ap (λ (f : FoundUnit). f.unit) s)

pub one_unit : (us : List FoundUnit) (lines : ℕ) (unit : UnitTree) → us ≡ found_at lines unit ∷ [] → IsOne (begins_in us)
one_unit us lines unit is = subst (λ z. IsOne (begins_in z)) (sym is) refl

same_list : (e : EntityTable) (xs : List BlockLine) (kind other : ListKind) (first one : ListItem) (later more : List ListItem) → top_blocks e xs ≡ ItemList kind first later ∷ [] → top_blocks e xs ≡ ItemList other one more ∷ [] →
    (kind ≡ other) × (first ≡ one) × (later ≡ more)
same_list e xs kind other first one later more is was =
    let same : ItemList kind first later ∷ [] ≡ ItemList other one more ∷ [] = sym is ∙ was in
    let k : kind ≡ other = cc in
    let f : first ≡ one = cc in
    let l : later ≡ more = cc in
    (k, f, l)

-- the list in front, by the items that its lines give
pub front_is : (e : EntityTable) (unit : UnitTree) (xs : List BlockLine) (kind : ListKind) (first : ListItem) (later : List ListItem) → top_blocks e xs ≡ ItemList kind first later ∷ [] →
    (f : IsListFront e unit xs) → unit ≡ front_unit kind f.tight (nodes_of_items first later) f.definitions f.texts
front_is e unit xs kind first later is f =
    let same = same_list e xs f.kind kind f.first first f.later later f.top is in
    f.is
    ∙ ap (λ z. front_unit z f.tight (nodes_of_items f.first f.later) f.definitions f.texts) same.0
    ∙ ap (λ z. front_unit kind f.tight (nodes_of_items z f.later) f.definitions f.texts) same.1
    ∙ ap (λ z. front_unit kind f.tight (nodes_of_items first z) f.definitions f.texts) same.2

-- each item of the lists that lines give has one node
pub single_list : (e : EntityTable) (xs : List BlockLine) (kind : ListKind) (first : ListItem) (later : List ListItem) → top_blocks e xs ≡ ItemList kind first later ∷ [] → IsSingle first.nodes × AreSingle later
single_list e xs kind first later is = let w : SingleTops (ItemList kind first later ∷ []) = subst SingleTops is (blocks_single e xs) in w.0

items_in : Part → ItemNodes
items_in (Leaves leaves) = no_item_nodes
items_in (Quoted nodes) = no_item_nodes
items_in (Listed kind tight items) = items

pub nodes_together : (kind : ListKind) (first : ListItem) (later : List ListItem) (gap : Bool) (k : ℕ) (item : ListItem) (items : List ListItem) →
    nodes_of_items first (later ++ items_behind gap k item items) ≡ items_before (nodes_of_items first later) (nodes_of_items item items)
unfolding items_in
nodes_together kind first later gap k item items = ap (λ (g : Group). items_in g.part) (list_together kind first later gap k item items)

-- ---- a list that stands for its lines, and the later items of an old one

-- Both lists, and where they meet.
pub record Known (e : EntityTable) (xs zs : List BlockLine) (l : BlockLine) (ys : List BlockLine) (front old : FoundList) (k : ℕ) (w : ListsSpliced e xs zs l ys) : Type 0 where
  pub lines : front.lines ≡ length (xs ++ l ∷ [])
  pub first : IsListFront e front.unit xs
  pub old_tight : Bool
  pub old_lines : old.lines ≡ length (zs ++ l ∷ ys)
  pub old_unit : old.unit ≡ list_unit w.old_kind old_tight (items_before (nodes_of_items w.old_first w.old_later) (nodes_of_items w.item w.items))
  pub front_marks : front.marks ≡ list_marks e xs ++ mark_behind e xs ∷ []
  pub old_marks : old.marks ≡ list_marks e (zs ++ l ∷ ys)
  pub parted : old.parted ≡ is_parted (top_blocks e (zs ++ l ∷ ys))
  pub from : mark_at old.marks k ≡ mark_behind e zs
  pub count : k ≡ length (list_marks e zs)

pub last_is : (e : EntityTable) (xs : List BlockLine) (marks : List ItemMark) → marks ≡ list_marks e xs ++ mark_behind e xs ∷ [] → mark_at marks (length marks - 1) ≡ mark_behind e xs
last_is e xs marks is = ap (λ (z : List ItemMark). mark_at z (length z - 1)) is ∙ last_mark (list_marks e xs) (mark_behind e xs)

pub definitions_before : (e : EntityTable) (xs : List BlockLine) (kind : ListKind) (first : ListItem) (later : List ListItem) → top_blocks e xs ≡ ItemList kind first later ∷ [] →
    (mark_behind e xs).definitions ≡ definitions_of (nodes_of_items first later)
definitions_before e xs kind first later is = ap (λ (m : ItemMark). m.definitions) (behind_is e xs kind first later is)

pub texts_before : (e : EntityTable) (xs : List BlockLine) (kind : ListKind) (first : ListItem) (later : List ListItem) → top_blocks e xs ≡ ItemList kind first later ∷ [] →
    (mark_behind e xs).texts ≡ texts_of (nodes_of_items first later)
texts_before e xs kind first later is = ap (λ (m : ItemMark). m.texts) (behind_is e xs kind first later is)

-- how many items stand before the later ones
pub front_count : (e : EntityTable) (xs zs : List BlockLine) (l : BlockLine) (ys : List BlockLine) (front old : FoundList) (k : ℕ) (w : ListsSpliced e xs zs l ys) → Known e xs zs l ys front old k w →
    length front.marks ≡ suc (length w.later)
front_count e xs zs l ys front old k w s =
    ap length s.front_marks
    ∙ length-append (list_marks e xs) (mark_behind e xs ∷ [])
    ∙ ap (λ z. z + 1) (list_count e xs w.kind w.first w.later w.front)
    ∙ (let z : length w.later + 1 ≡ suc (length w.later) = omega arith in z)

pub old_count : (e : EntityTable) (xs zs : List BlockLine) (l : BlockLine) (ys : List BlockLine) (front old : FoundList) (k : ℕ) (w : ListsSpliced e xs zs l ys) → Known e xs zs l ys front old k w →
    k + 1 ≡ suc (length w.old_later)
old_count e xs zs l ys front old k w s =
    ap (λ z. z + 1) (s.count ∙ list_count e zs w.old_kind w.old_first w.old_later w.old_front) ∙ (let z : length w.old_later + 1 ≡ suc (length w.old_later) = omega arith in z)

-- the unit of both, whether it is tight or not
unit_is : (e : EntityTable) (xs zs : List BlockLine) (l : BlockLine) (ys : List BlockLine) (front old : FoundList) (k : ℕ) (w : ListsSpliced e xs zs l ys) (tight : Bool) → Known e xs zs l ys front old k w →
    spliced_unit tight (length front.marks) (k + 1) (mark_at front.marks (length front.marks - 1)).definitions (mark_at old.marks k).definitions front.unit old.unit
    ≡ list_unit w.kind tight (items_before (nodes_of_items w.first w.later) (nodes_of_items w.item w.items))
unit_is e xs zs l ys front old k w tight s =
    let N = nodes_of_items w.first w.later in
    let O = nodes_of_items w.old_first w.old_later in
    let to = mark_at front.marks (length front.marks - 1) in
    let from = mark_at old.marks k in
    let kept = suc (length w.later) in
    let out = suc (length w.old_later) in
    let one = single_list e xs w.kind w.first w.later w.front in
    let other = single_list e zs w.old_kind w.old_first w.old_later w.old_front in
    let many = front_count e xs zs l ys front old k w s in
    let left = old_count e xs zs l ys front old k w s in
    let defined : to.definitions ≡ definitions_of N = ap (λ (m : ItemMark). m.definitions) (last_is e xs front.marks s.front_marks) ∙ definitions_before e xs w.kind w.first w.later w.front in
    let defined_from : from.definitions ≡ definitions_of O = ap (λ (m : ItemMark). m.definitions) s.from ∙ definitions_before e zs w.old_kind w.old_first w.old_later w.old_front in
    ap (λ z. spliced_unit tight z (k + 1) to.definitions from.definitions front.unit old.unit) many
    ∙ ap (λ z. spliced_unit tight kept z to.definitions from.definitions front.unit old.unit) left
    ∙ ap (λ z. spliced_unit tight kept out z from.definitions front.unit old.unit) defined
    ∙ ap (λ z. spliced_unit tight kept out (definitions_of N) z front.unit old.unit) defined_from
    ∙ ap (λ z. spliced_unit tight kept out (definitions_of N) (definitions_of O) z old.unit) (front_is e front.unit xs w.kind w.first w.later w.front s.first)
    ∙ ap (λ z. spliced_unit tight kept out (definitions_of N) (definitions_of O) (front_unit w.kind s.first.tight N s.first.definitions s.first.texts) z) s.old_unit
    ∙ unit_of_both tight w.kind w.old_kind s.first.tight s.old_tight w.first w.later s.first.definitions s.first.texts w.old_first w.old_later (nodes_of_items w.item w.items) one.0 one.1 other.0 other.1

lines_are : (e : EntityTable) (xs zs : List BlockLine) (l : BlockLine) (ys : List BlockLine) (front old : FoundList) (k : ℕ) (w : ListsSpliced e xs zs l ys) → Known e xs zs l ys front old k w →
    front.lines + (old.lines - (mark_at old.marks k).line - 1) ≡ length (xs ++ l ∷ ys)
lines_are e xs zs l ys front old k w s =
    let a = s.lines in
    let b = s.old_lines in
    let c : (mark_at old.marks k).line ≡ length zs = ap (λ (m : ItemMark). m.line) s.from in
    let p : length (xs ++ l ∷ []) ≡ length xs + 1 = length-append xs (l ∷ []) in
    let q : length (zs ++ l ∷ ys) ≡ length zs + (length ys + 1) = length-append zs (l ∷ ys) ∙ (let z : length zs + suc (length ys) ≡ length zs + (length ys + 1) = omega arith in z) in
    let r : length (xs ++ l ∷ ys) ≡ length xs + (length ys + 1) = length-append xs (l ∷ ys) ∙ (let z : length xs + suc (length ys) ≡ length xs + (length ys + 1) = omega arith in z) in
    omega (arith, a, b, c, p, q, r)

-- the later items
marks_are : (e : EntityTable) (xs zs : List BlockLine) (l : BlockLine) (ys : List BlockLine) (front old : FoundList) (k : ℕ) (w : ListsSpliced e xs zs l ys) → Known e xs zs l ys front old k w →
    AreSmall (list_marks e (xs ++ l ∷ ys)) → spliced_marks front.marks old.marks k ≡ list_marks e (xs ++ l ∷ ys)
marks_are e xs zs l ys front old k w s small =
    let from = mark_at old.marks k in
    let to = mark_at front.marks (length front.marks - 1) in
    let U = mark_behind e zs in
    let V = mark_behind e xs in
    let F = list_marks e xs ++ V ∷ [] in
    let n = suc (length (list_marks e zs)) in
    let D = drop n (list_marks e (zs ++ l ∷ ys)) in
    let is = marks_spliced e xs zs l ys w in
    let left : k + 1 ≡ n = ap (λ z. z + 1) s.count ∙ (let z : length (list_marks e zs) + 1 ≡ n = omega arith in z) in
    ap (λ z. z ++ map (mark_further from to) (drop (k + 1) old.marks)) s.front_marks
    ∙ ap (λ z. F ++ map (mark_further z to) (drop (k + 1) old.marks)) s.from
    ∙ ap (λ z. F ++ map (mark_further U z) (drop (k + 1) old.marks)) (last_is e xs front.marks s.front_marks)
    ∙ ap (λ z. F ++ map (mark_further U V) (drop z old.marks)) left
    ∙ ap (λ z. F ++ map (mark_further U V) (drop n z)) s.old_marks
    ∙ ap (λ z. F ++ z) (marks_small U V D (small_behind F (map (moved_mark U V) D) (subst AreSmall is small)))
    ∙ sym is

-- The texts and definitions of both can be counted together.
pub record AreFew (front old : UnitTree) : Type 0 where
  pub texts : length front.texts + length old.texts ≤ most
  pub definitions : length front.definitions + length old.definitions ≤ most

-- What is told of a list that goes on with the later items of another.
pub record ListJoined (e : EntityTable) (front old : FoundList) (k : ℕ) (ls : List BlockLine) : Type 0 where
  pub stands : StandsForLines e (spliced_list front old k) ls
  pub kept : List (List ℕ)
  pub texts : (spliced_list front old k).unit.texts ≡ kept ++ drop (mark_at old.marks k).texts old.unit.texts

joined : (e : EntityTable) (xs zs : List BlockLine) (l : BlockLine) (ys : List BlockLine) (front old : FoundList) (k : ℕ) (w : ListsSpliced e xs zs l ys) → Known e xs zs l ys front old k w →
    front.lines + (old.lines - (mark_at old.marks k).line - 1) ≤ most → AreFew front.unit old.unit → ListJoined e front old k (xs ++ l ∷ ys)
joined e xs zs l ys front old k w s fits few =
    let N = nodes_of_items w.first w.later in
    let O = nodes_of_items w.old_first w.old_later in
    let P = nodes_of_items w.item w.items in
    let L = xs ++ l ∷ ys in
    let all = w.later ++ items_behind (gap_after xs) (length xs) w.item w.items in
    let nodes : nodes_of_items w.first all ≡ items_before N P = nodes_together w.kind w.first w.later (gap_after xs) (length xs) w.item w.items in
    let marks = spliced_marks front.marks old.marks k in
    let tight = tight_list old.parted marks in
    let unit : (spliced_list front old k).unit ≡ list_unit w.kind tight (items_before N P) = unit_is e xs zs l ys front old k w tight s in
    let lines : front.lines + (old.lines - (mark_at old.marks k).line - 1) ≡ length L = lines_are e xs zs l ys front old k w s in
    let in_front = front_is e front.unit xs w.kind w.first w.later w.front s.first in
    let texts = few_texts w.kind w.old_kind s.first.tight s.old_tight N O P s.first.definitions s.first.texts front.unit old.unit most in_front s.old_unit few.texts in
    let definitions = few_definitions w.kind w.old_kind s.first.tight s.old_tight N O P s.first.definitions s.first.texts front.unit old.unit most in_front s.old_unit few.definitions in
    let small = list_small e L w.kind w.first all w.all (subst (λ z. z ≤ most) lines fits) (subst (λ z. texts_of z ≤ most) (sym nodes) texts) (subst (λ z. definitions_of z ≤ most) (sym nodes) definitions) in
    let marked : marks ≡ list_marks e L = marks_are e xs zs l ys front old k w s small in
    let parted : old.parted ≡ is_parted (top_blocks e L) = s.parted ∙ sym (parted_alike e xs zs l ys w) in
    let tightness : tight ≡ is_tight_list w.first all =
    ap (λ z. tight_list old.parted z) marked ∙ ap (λ z. tight_list z (list_marks e L)) parted ∙ sym (list_tight e L w.kind w.first all w.all) in
    let before : (mark_at old.marks k).texts ≡ texts_of O = ap (λ (m : ItemMark). m.texts) s.from ∙ texts_before e zs w.old_kind w.old_first w.old_later w.old_front in
    record {
      stands = (
        unit_of_list e L w.kind w.first all w.line w.all
            ∙ ap (λ z. found_at (length L) (list_unit w.kind (is_tight_list w.first all) z) ∷ []) nodes
            ∙ ap (λ z. found_at (length L) (list_unit w.kind z (items_before N P)) ∷ []) (sym tightness)
            ∙ ap (λ z. found_at (length L) z ∷ []) (sym unit)
            ∙ ap (λ z. found_at z (spliced_list front old k).unit ∷ []) (sym (min-eq_left fits ∙ lines)),
        marked,
        parted,
      );
      kept = texts_in_items N;
      texts =
          ap (λ (u : UnitTree). u.texts) unit
          ∙ list_texts_both w.kind tight N P
          ∙ ap (λ z. texts_in_items N ++ z) (sym (list_texts_behind w.old_kind s.old_tight O P))
          ∙ ap (λ (u : UnitTree). texts_in_items N ++ drop (texts_of O) u.texts) (sym s.old_unit)
          ∙ ap (λ z. texts_in_items N ++ drop z old.unit.texts) (sym before);
    }

pub known : (e : EntityTable) (xs zs : List BlockLine) (l : BlockLine) (ys : List BlockLine) (front old : FoundList) (k : ℕ) (w : ListsSpliced e xs zs l ys) → front.lines ≡ length (xs ++ l ∷ []) → front.marks ≡ list_marks e xs ++ mark_behind e xs ∷ [] → IsListFront e front.unit xs →
    StandsForLines e old (zs ++ l ∷ ys) → (before : List ItemMark) → length before ≡ k → MarkedAt e zs l ys before (mark_at old.marks k) →
    Known e xs zs l ys front old k w
known e xs zs l ys front old k w lines marks first old_stands before size m =
    let t = is_tight_list w.old_first w.old_later && not (gap_after zs) && is_tight_list w.item w.items in
    let other = same_found old.lines (length (zs ++ l ∷ ys)) old.unit
    (list_unit w.old_kind t (items_before (nodes_of_items w.old_first w.old_later) (nodes_of_items w.item w.items)))
    (sym old_stands.0 ∙ unit_parted e zs l ys w.old_kind w.old_first w.old_later w.item w.items w.old_line w.old_all) in
    record {
      lines = lines;
      first = first;
      old_tight = t;
      old_lines = other.0;
      old_unit = other.1;
      front_marks = marks;
      old_marks = old_stands.1;
      parted = old_stands.2;
      from = sym m.is;
      count = sym (m.count ∙ size);
    }

-- Where the last of some lines begins a later item of the list in front of it, and of an old list too, the list in front with the old one's items from there on stands for the lines of both.
pub list_joined : (e : EntityTable) (xs zs : List BlockLine) (l : BlockLine) (ys : List BlockLine) (front old : FoundList) (k : ℕ) → joins_list xs l ≡ true → IsOne (begins_in (units_of e xs)) →
    front.lines ≡ length (xs ++ l ∷ []) → front.marks ≡ list_marks e (xs ++ l ∷ []) → IsListFront e front.unit xs → StandsForLines e old (zs ++ l ∷ ys) → (before : List ItemMark) → (behind : List ItemMark) → old.marks ≡ before ++ mark_at old.marks k ∷ behind → length before ≡ k →
    (mark_at old.marks k).line ≡ length zs → front.lines + (old.lines - (mark_at old.marks k).line - 1) ≤ most → AreFew front.unit old.unit →
    ListJoined e front old k (xs ++ l ∷ ys)
list_joined e xs zs l ys front old k j one lines marks first old_stands before behind cut size line fits few =
    let old_one = one_unit (units_of e (zs ++ l ∷ ys)) old.lines old.unit old_stands.0 in
    let m = marked_at e zs l ys before (mark_at old.marks k) behind old_one (sym old_stands.1 ∙ cut) line in
    let w = lists_spliced e xs zs l ys j m.joins one old_one in
    joined e xs zs l ys front old k w
    (known e xs zs l ys front old k w lines (marks ∙ marks_more e xs l one j) first old_stands before size m)
    fits few
