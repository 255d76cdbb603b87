-- The blocks of lines before a line that begins a later item of the list that stands last, and from it on.
use Rattle.std.proofs.Common.{◌≡◌, ℕ, suc, ◌≤◌, ◌<◌, Bool, true, false, not, ◌&&◌, List, [], ◌∷◌, ◌++◌, length, map, Option, Some, None, refl, sym, ◌∙◌, ap, subst, append_assoc, arith}
use Rattle.std.proofs.lemmas.List.{map-append}
use Rattle.mdtext.specs.EntityTable.{EntityTable}
use Rattle.blockspec.specs.BlockLine.{BlockLine}
use Rattle.blockspec.specs.BlankLines.{is_blank_line}
use Rattle.blockspec.specs.BlockStart.{begun}
use Rattle.blockspec.specs.BlockTree.{ListKind}
use Rattle.blockspec.specs.BlockUnits.{group_of, part_at, groups_within, groups, visible_in, depth_of}
use Rattle.blockspec.specs.LineSummary.{part_mark}
use Rattle.blockspec.specs.Lists.{Part, Leaves, Quoted, Listed, Group, is_same_list}
use Rattle.blockspec.specs.Meetings.{shift_groups, joins_behind, joins_list, gap_after}
use Rattle.blockspec.specs.NodeTree.{ItemNodes}
use Rattle.blockspec.specs.Stretches.{Stretch, Tail, Empty, Going, Over, Cut, no_lines, all_of, stretches, gap_behind, cut_by, cut_within, tip_within}
use Rattle.blockspec.specs.UnitBegin.{is_apart, list_mark, same_mark, tail_mark}
use Rattle.blockspec.proofs.CutLaws.{shift_all}
use Rattle.blockspec.proofs.DepthLaws.{groups_agree, map_agrees, tips_agree, cut_agrees, cut_light, all_light, CutLight, at_depth, apart_deep, gap_deep, cut_deep}
use Rattle.blockspec.proofs.UnitLaws.{IsHeadedBy, first_headed, stretches_meet, group_shift, mark_of_part}
use Rattle.blockspec.proofs.VisibleLaws.{visible_append}
use Rattle.blockspec.specs.TopBlocks.{ListItem, TopBlock, ItemList, top_group, tops_of, single_groups, top_blocks, moved_item, item_behind, items_behind, moved_top, joined_blocks}
use Rattle.blockspec.proofs.TopLaws.{tops_grouped, goes_on, first_item}

-- ---- every depth that suffices

abbrev pub singles_at : EntityTable → ℕ → List BlockLine → List Group
singles_at e d ls = map (group_of e (groups_within e d)) (stretches (cut_within d ls))

abbrev none_light : (d : ℕ) (ls : List BlockLine) → visible_in ls ≤ d → CutLight d no_lines (visible_in ls)
none_light d ls h = (tt, h)

singles_next : (e : EntityTable) (d : ℕ) (ls : List BlockLine) → visible_in ls ≤ d → singles_at e d ls ≡ singles_at e (suc d) ls
singles_next e d ls h =
    let U = tip_within (suc d) in
    let w = none_light d ls h in
    let c : Cut = cut_by U ls in
    let v = cut_light U d no_lines ls w in
    ap (λ (z : Cut). map (group_of e (groups_within e d)) (stretches z)) (cut_agrees (tips_agree d) no_lines ls w)
    ∙ map_agrees (groups_agree e d) (stretches c) (all_light d c.before c.tail 0 v.0 v.1)

pub singles_deep : (e : EntityTable) (d : ℕ) (ls : List BlockLine) → visible_in ls ≤ d → singles_at e d ls ≡ single_groups e ls
singles_deep e d ls h = at_depth (λ n. singles_at e n ls) (visible_in ls) d (λ n w. singles_next e n ls w) h

-- Blocks with their items stand as the blocks of the definition.
pub blocks_are : (e : EntityTable) (ls : List BlockLine) → map top_group (top_blocks e ls) ≡ groups e ls
unfolding groups_within
blocks_are e ls = tops_grouped (single_groups e ls)

-- ---- the list that stands last, and the item that stands first

pub record EndsListed (gs : List Group) (m : Option ListKind) : Type 0 where
  pub front : List Group
  pub begin : ℕ
  pub gap : Bool
  pub kind : ListKind
  pub tight : Bool
  pub items : ItemNodes
  pub is : gs ≡ front ++ record { begin = begin; gap = gap; part = Listed kind tight items } ∷ []
  pub same : same_mark (Some kind) m ≡ true

last_listed : (front : List Group) (b : ℕ) (gap : Bool) (p : Part) (m : Option ListKind) → same_mark (part_mark p) m ≡ true →
    EndsListed (front ++ record { begin = b; gap = gap; part = p } ∷ []) m
last_listed front b gap (Leaves leaves) m e = absurd (let x : ⊥ = cc in x)
last_listed front b gap (Quoted nodes) m e = absurd (let x : ⊥ = cc in x)
last_listed front b gap (Listed kind t items) m e = record { front = front; begin = b; gap = gap; kind = kind; tight = t; items = items; is = refl; same = e }

stretch_listed : (e : EntityTable) (R : List BlockLine → List Group) (before : List Stretch) (s : Stretch) (m : Option ListKind) → same_mark (list_mark s.kind) m ≡ true →
    EndsListed (map (group_of e R) (before ++ s ∷ [])) m
stretch_listed e R before s m h =
    let p = part_at e R s.kind s.first s.later in
    let k : same_mark (part_mark p) m ≡ true = ap (λ z. same_mark z m) (mark_of_part e R s.kind s.first s.later) ∙ h in
    subst (λ z. EndsListed z m) (sym (map-append (group_of e R) before (s ∷ []))) (last_listed (map (group_of e R) before) s.begin s.gap p m k)

tail_listed : (e : EntityTable) (R : List BlockLine → List Group) (before : List Stretch) (t : Tail) (m : Option ListKind) → same_mark (tail_mark t) m ≡ true →
    EndsListed (map (group_of e R) (all_of before t)) m
unfolding all_of
tail_listed e R before Empty m h = absurd (let x : ⊥ = cc in x)
tail_listed e R before (Going s) m h = stretch_listed e R before s m h
tail_listed e R before (Over s) m h = stretch_listed e R before s m h

pub record BeginsListed (gs : List Group) (m : Option ListKind) : Type 0 where
  pub gap : Bool
  pub kind : ListKind
  pub tight : Bool
  pub items : ItemNodes
  pub rest : List Group
  pub is : gs ≡ record { begin = 0; gap = gap; part = Listed kind tight items } ∷ rest
  pub mark : Some kind ≡ m

first_listed : (b : ℕ) (gap : Bool) (p : Part) (rest : List Group) (before m : Option ListKind) → b ≡ 0 → part_mark p ≡ m → same_mark before m ≡ true →
    BeginsListed (record { begin = b; gap = gap; part = p } ∷ rest) m
first_listed b gap (Listed kind t items) rest before m z e h = record {
  gap = gap;
  kind = kind;
  tight = t;
  items = items;
  rest = rest;
  is = ap (λ y. record { begin = y; gap = gap; part = Listed kind t items } ∷ rest) z;
  mark = e;
}
first_listed b gap (Leaves leaves) rest before m z e h = absurd (none_same before (ap (same_mark before) e ∙ h))
  where
    none_same : (o : Option ListKind) → same_mark o None ≡ true → ⊥
    none_same None h = cc
    none_same (Some kind) h = cc
first_listed b gap (Quoted nodes) rest before m z e h = absurd (none_same before (ap (same_mark before) e ∙ h))
  where
    none_same : (o : Option ListKind) → same_mark o None ≡ true → ⊥
    none_same None h = cc
    none_same (Some kind) h = cc

inner_mark : Option (Option ListKind) → Option ListKind
inner_mark None = None
inner_mark (Some m) = m

headed_listed : (e : EntityTable) (R : List BlockLine → List Group) (ss : List Stretch) (before m : Option ListKind) → IsHeadedBy m ss → same_mark before m ≡ true →
    BeginsListed (map (group_of e R) ss) m
unfolding inner_mark
headed_listed e R [] before m w h = absurd (let e : None ≡ Some m = w.1 in let x : ⊥ = cc in x)
headed_listed e R (s ∷ ss) before m w h =
    first_listed s.begin s.gap (part_at e R s.kind s.first s.later) (map (group_of e R) ss) before m w.0 (mark_of_part e R s.kind s.first s.later ∙ ap inner_mark w.1) h

-- ---- where they meet

-- What stands before a line that begins a later item of the list that stands last, what stands from it on, and both together.
pub record ItemsMeet (e : EntityTable) (xs : List BlockLine) (l : BlockLine) (ys : List BlockLine) : Type 0 where
  pub before : List TopBlock
  pub kind : ListKind
  pub first : ListItem
  pub later : List ListItem
  pub other : ListKind
  pub item : ListItem
  pub items : List ListItem
  pub blocks : List TopBlock
  pub line : item.line ≡ 0
  pub front : top_blocks e xs ≡ before ++ ItemList kind first later ∷ []
  pub alone : top_blocks e (l ∷ ys) ≡ ItemList other item items ∷ blocks
  pub whole : top_blocks e (xs ++ l ∷ ys)
      ≡ before ++ ItemList kind first (later ++ items_behind (gap_after xs) (length xs) item items) ∷ map (moved_top (length xs)) blocks

three_true : (a b c : Bool) → (a && not b && c) ≡ true → (a ≡ true) × (b ≡ false) × (c ≡ true)
three_true true false true e = (refl, refl, refl)
three_true true false false e = absurd (let x : ⊥ = cc in x)
three_true true true c e = absurd (let x : ⊥ = cc in x)
three_true false b c e = absurd (let x : ⊥ = cc in x)

-- Each item a list of its own: before a line that goes on with no block, and from it on.
pub singles_meet : (e : EntityTable) (d : ℕ) (xs : List BlockLine) (l : BlockLine) (ys : List BlockLine) →
    is_apart (tip_within d) (cut_by (tip_within d) xs).tail l ≡ true → is_blank_line l ≡ false →
    singles_at e d (xs ++ l ∷ ys) ≡ singles_at e d xs ++ shift_groups (gap_behind (tip_within d) (cut_by (tip_within d) xs)) (length xs) (singles_at e d (l ∷ ys))
singles_meet e d xs l ys a b =
    let T = tip_within d in
    let R = groups_within e d in
    let G = group_of e R in
    let gap = gap_behind T (cut_by T xs) in
    ap (map G) (stretches_meet T xs l ys a b)
    ∙ map-append G (stretches (cut_by T xs)) (shift_all gap (length xs) (stretches (cut_by T (l ∷ ys))))
    ∙ ap (λ z. map G (stretches (cut_by T xs)) ++ z) (group_shift e R gap (length xs) (stretches (cut_by T (l ∷ ys))))

abbrev of_part : ℕ → Bool → Part → Group
of_part b gap p = record { begin = b; gap = gap; part = p }

-- groups of which an item stands last, and groups of which another of its list stands first
listed_meet : (e : EntityTable) (xs : List BlockLine) (l : BlockLine) (ys : List BlockLine) (m : Option ListKind) (gap : Bool) → gap ≡ gap_after xs →
    EndsListed (single_groups e xs) m → BeginsListed (single_groups e (l ∷ ys)) m →
    single_groups e (xs ++ l ∷ ys) ≡ single_groups e xs ++ shift_groups gap (length xs) (single_groups e (l ∷ ys)) → ItemsMeet e xs l ys
listed_meet e xs l ys m gap gaps ends heads wholes =
    let n = length xs in
    let last = of_part ends.begin ends.gap (Listed ends.kind ends.tight ends.items) in
    let head = of_part 0 heads.gap (Listed heads.kind heads.tight heads.items) in
    let go = goes_on ends.front ends.begin ends.gap ends.kind ends.tight ends.items in
    let one = first_item 0 heads.gap heads.kind heads.tight heads.items heads.rest in
    let same : is_same_list ends.kind heads.kind ≡ true = ap (λ z. same_mark (Some ends.kind) z) heads.mark ∙ ends.same in
    let all : single_groups e (xs ++ l ∷ ys) ≡ ends.front ++ last ∷ shift_groups gap n (head ∷ heads.rest) =
    wholes
    ∙ ap (λ z. z ++ shift_groups gap n (single_groups e (l ∷ ys))) ends.is
    ∙ ap (λ z. (ends.front ++ last ∷ []) ++ shift_groups gap n z) heads.is
    ∙ append_assoc ends.front (last ∷ []) (shift_groups gap n (head ∷ heads.rest)) in
    record {
      before = go.before;
      kind = go.list;
      first = go.first;
      later = go.later;
      other = heads.kind;
      item = one.item;
      items = one.later;
      blocks = one.blocks;
      line = one.line;
      front = ap tops_of ends.is ∙ go.alone;
      alone = ap tops_of heads.is ∙ one.is;
      whole =
          ap tops_of all
          ∙ go.joined (shift_groups gap n (head ∷ heads.rest)) heads.kind (item_behind gap n one.item) (map (moved_item n) one.later) (map (moved_top n) one.blocks) same (one.behind gap n)
          ∙ ap (λ z. go.before ++ ItemList go.list go.first (go.later ++ items_behind z n one.item one.later) ∷ map (moved_top n) one.blocks) gaps;
    }

pub items_meet_at : (e : EntityTable) (xs : List BlockLine) (l : BlockLine) (ys : List BlockLine) → joins_list xs l ≡ true → ItemsMeet e xs l ys
unfolding joins_list joins_behind gap_after
items_meet_at e xs l ys j =
    let all = xs ++ l ∷ ys in
    let d = suc (visible_in all) in
    let v = visible_append xs (l ∷ ys) in
    let less : visible_in xs < d = omega (arith, v) in
    let fits : visible_in xs ≤ d = omega (arith, v) in
    let rest_fits : visible_in (l ∷ ys) ≤ d = omega (arith, v) in
    let T = tip_within d in
    let R = groups_within e d in
    let c : Cut = cut_by T xs in
    let m = list_mark (begun l) in
    let u = (cut_within (depth_of xs) xs).tail in
    let w = three_true (is_apart (tip_within (depth_of xs)) u l) (is_blank_line l) (same_mark (tail_mark u) m) j in
    let marks : same_mark (tail_mark c.tail) m ≡ true = ap (λ (z : Cut). same_mark (tail_mark z.tail) m) (cut_deep d xs fits) ∙ w.2 in
    let ends : EndsListed (singles_at e d xs) m = tail_listed e R c.before c.tail m marks in
    let heads : BeginsListed (singles_at e d (l ∷ ys)) m = headed_listed e R (stretches (cut_by T (l ∷ ys))) (tail_mark c.tail) m (first_headed T l ys w.1) marks in
    let front : singles_at e d xs ≡ single_groups e xs = singles_deep e d xs fits in
    let behind : singles_at e d (l ∷ ys) ≡ single_groups e (l ∷ ys) = singles_deep e d (l ∷ ys) rest_fits in
    let gap = gap_behind T c in
    let wholes : single_groups e all ≡ single_groups e xs ++ shift_groups gap (length xs) (single_groups e (l ∷ ys)) =
    sym (singles_deep e d all (omega arith))
    ∙ singles_meet e d xs l ys (apart_deep d xs l less ∙ w.0) w.1
    ∙ ap (λ z. z ++ shift_groups gap (length xs) (singles_at e d (l ∷ ys))) front
    ∙ ap (λ z. single_groups e xs ++ shift_groups gap (length xs) z) behind in
    listed_meet e xs l ys m gap (gap_deep d xs less) (subst (λ z. EndsListed z m) front ends) (subst (λ z. BeginsListed z m) behind heads) wholes

put_together : (gap : Bool) (k : ℕ) (before : List TopBlock) (kind : ListKind) (first : ListItem) (later : List ListItem) (other : ListKind) (item : ListItem) (items : List ListItem) (blocks : List TopBlock) →
    joined_blocks gap k (before ++ ItemList kind first later ∷ []) (ItemList other item items ∷ blocks)
    ≡ before ++ ItemList kind first (later ++ items_behind gap k item items) ∷ map (moved_top k) blocks
unfolding joined_blocks
put_together gap k [] kind first later other item items blocks = refl
put_together gap k (b ∷ []) kind first later other item items blocks = refl
put_together gap k (b ∷ c ∷ bs) kind first later other item items blocks = ap (λ z. b ∷ z) (put_together gap k (c ∷ bs) kind first later other item items blocks)

meet_as_one : (e : EntityTable) (xs : List BlockLine) (l : BlockLine) (ys : List BlockLine) → ItemsMeet e xs l ys →
    top_blocks e (xs ++ l ∷ ys) ≡ joined_blocks (gap_after xs) (length xs) (top_blocks e xs) (top_blocks e (l ∷ ys))
meet_as_one e xs l ys w =
    w.whole
    ∙ sym (put_together (gap_after xs) (length xs) w.before w.kind w.first w.later w.other w.item w.items w.blocks)
    ∙ ap (λ z. joined_blocks (gap_after xs) (length xs) z (ItemList w.other w.item w.items ∷ w.blocks)) (sym w.front)
    ∙ ap (λ z. joined_blocks (gap_after xs) (length xs) (top_blocks e xs) z) (sym w.alone)

-- The blocks are those of the lines before it alone, and those of the lines from it on alone, and where they meet one list goes on.
pub lists_meet : (e : EntityTable) (xs : List BlockLine) (l : BlockLine) (ys : List BlockLine) → joins_list xs l ≡ true →
    top_blocks e (xs ++ l ∷ ys) ≡ joined_blocks (gap_after xs) (length xs) (top_blocks e xs) (top_blocks e (l ∷ ys))
lists_meet e xs l ys j = meet_as_one e xs l ys (items_meet_at e xs l ys j)
