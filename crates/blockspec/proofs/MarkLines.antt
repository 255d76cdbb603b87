-- The later items of lists with what stands before each, line by line: a line adds one exactly where it begins an item of the list that stands last.
use Rattle.std.proofs.Common.{◌≡◌, ℕ, suc, ◌+◌, ◌-◌, ◌≤◌, Bool, true, false, not, ◌&&◌, ◌||◌, List, [], ◌∷◌, ◌++◌, length, map, refl, sym, ◌∙◌, ap, subst, arith, length-append}
use Rattle.std.proofs.lemmas.List.{map-append, append-nil}
use Rattle.std.specs.List.{flat_map}
use Rattle.std.specs.Prelude.{if◌then◌else◌}
use Rattle.mdtext.specs.EntityTable.{EntityTable}
use Rattle.blockspec.specs.BlockLine.{BlockLine}
use Rattle.blockspec.specs.BlankLines.{is_blank_line}
use Rattle.blockspec.specs.BlockStart.{begun}
use Rattle.blockspec.specs.BlockTree.{ListKind}
use Rattle.blockspec.specs.BlockUnits.{group_of, groups_within, groups, visible_in, found_units}
use Rattle.blockspec.specs.Laziness.{Tip}
use Rattle.blockspec.specs.LineSummary.{part_mark}
use Rattle.blockspec.specs.Lists.{Part, Leaves, Quoted, Listed, Group, is_same_list, part_before, nodes_of}
use Rattle.blockspec.specs.Meetings.{joins_behind, joins_list, gap_after}
use Rattle.blockspec.specs.NodeTree.{ItemNodes, no_nodes, texts_in, texts_in_items, definitions_in, definitions_in_items}
use Rattle.blockspec.specs.Stretches.{Stretch, Step, Continues, IsLastLine, IsOverBefore, step, is_single, Tail, Empty, Going, Over, Cut, no_lines, all_of, stretches, ended, gap_behind, first_of, tail_of, begin_where, grown, after_step, add_at, add, cut_from, cut_by, cut_within, tip_within}
use Rattle.blockspec.specs.UnitBegin.{is_stop, is_apart, list_mark, same_mark, tail_mark, begins_behind, begins_unit, units_of}
use Rattle.blockspec.specs.UnitReader.{lines_held}
use Rattle.blockspec.proofs.BeginLaws.{begins_in}
use Rattle.blockspec.proofs.CutLaws.{cut_from_append, apart_begins}
use Rattle.blockspec.proofs.DepthLaws.{begins_deep}
use Rattle.blockspec.proofs.HandedLaws.{held_next, held_one}
use Rattle.blockspec.proofs.UnitLaws.{keeps, step_keeps, mark_of_part}
use Rattle.blockspec.proofs.UnitReaderLaws.{IsOne}
use Rattle.blockspec.proofs.VisibleLaws.{visible_append}
use Rattle.blockspec.specs.ItemMarks.{ItemMark, last_item, is_parted, item_marks, block_marks, list_marks, mark_behind, marks_next, join_of}
use Rattle.blockspec.specs.Joins.{item_joins, block_joins}
use Rattle.blockspec.specs.TopBlocks.{ListItem, TopBlock, Other, ItemList, is_tight_list, nodes_of_items, top_group, with_item_where, with_item, with_part, tops_of, top_blocks, moved_item, item_behind, items_behind, moved_top}
use Rattle.blockspec.proofs.ItemsMeet.{singles_deep, blocks_are, ItemsMeet, items_meet_at}
use Rattle.blockspec.proofs.JoinLines.{joins_deep}
use Rattle.blockspec.proofs.UnitsMeet.{texts_together, definitions_together, list_texts, list_definitions}

-- ---- blocks whose later items begin in the same lines, with the same before each

abbrev AtSame : ListItem → ListItem → Type 0
AtSame i j = (i.line ≡ j.line) × (i.gap ≡ j.gap)

abbrev pub SameInside : ListItem → ListItem → Type 0
SameInside i j = (i.nodes ≡ j.nodes) × (i.tight ≡ j.tight)

abbrev AlikeLater : (item : ListItem) → (later : List ListItem) → (other : ListItem) → (more : List ListItem) → Type 0
AlikeLater i [] j [] = Unit {0}
AlikeLater i (n ∷ is) j (m ∷ js) = SameInside i j × AtSame n m × AlikeLater n is m js
AlikeLater i (n ∷ is) j [] = ⊥
AlikeLater i [] j (m ∷ js) = ⊥

abbrev Alike : List TopBlock → List TopBlock → Type 0
Alike [] [] = Unit {0}
Alike (Other g ∷ ts) (Other h ∷ us) = Alike ts us
Alike (ItemList k i is ∷ ts) (ItemList m j js ∷ us) = (k ≡ m) × AtSame i j × AlikeLater i is j js × Alike ts us
Alike ts us = ⊥

abbrev pub item_mark : (line texts definitions : ℕ) → (loose : Bool) → ItemMark
item_mark l t d w = record { line = l; texts = t; definitions = d; loose = w }

abbrev pub texts_of : ItemNodes → ℕ
texts_of nodes = length (texts_in_items nodes)

abbrev pub definitions_of : ItemNodes → ℕ
definitions_of nodes = length (definitions_in_items nodes)

alike_items : (b t d : ℕ) (i : ListItem) (is : List ListItem) (j : ListItem) (js : List ListItem) → AlikeLater i is j js → item_marks b t d i is ≡ item_marks b t d j js
unfolding item_marks
alike_items b t d i [] j [] w = refl
alike_items b t d i (n ∷ is) j [] w = absurd w
alike_items b t d i [] j (m ∷ js) w = absurd w
alike_items b t d i (n ∷ is) j (m ∷ js) w =
    ap (λ z. item_mark (n.line - b) (t + texts_of z) (d + definitions_of z) (not i.tight || n.gap) ∷ item_marks b (t + texts_of z) (d + definitions_of z) n is) w.0.0
    ∙ ap (λ z. item_mark (n.line - b) (t + texts_of j.nodes) (d + definitions_of j.nodes) (not z || n.gap) ∷ item_marks b (t + texts_of j.nodes) (d + definitions_of j.nodes) n is) w.0.1
    ∙ ap (λ z. item_mark (z - b) (t + texts_of j.nodes) (d + definitions_of j.nodes) (not j.tight || n.gap) ∷ item_marks b (t + texts_of j.nodes) (d + definitions_of j.nodes) n is) w.1.0
    ∙ ap (λ z. item_mark (m.line - b) (t + texts_of j.nodes) (d + definitions_of j.nodes) (not j.tight || z) ∷ item_marks b (t + texts_of j.nodes) (d + definitions_of j.nodes) n is) w.1.1
    ∙ ap (λ z. item_mark (m.line - b) (t + texts_of j.nodes) (d + definitions_of j.nodes) (not j.tight || m.gap) ∷ z) (alike_items b (t + texts_of j.nodes) (d + definitions_of j.nodes) n is m js w.2)

alike_marks : (ts us : List TopBlock) → Alike ts us → flat_map block_marks ts ≡ flat_map block_marks us
alike_marks [] [] w = refl
alike_marks [] (Other h ∷ us) w = absurd w
alike_marks [] (ItemList m j js ∷ us) w = absurd w
alike_marks (Other g ∷ ts) [] w = absurd w
alike_marks (Other g ∷ ts) (Other h ∷ us) w = alike_marks ts us w
alike_marks (Other g ∷ ts) (ItemList m j js ∷ us) w = absurd w
alike_marks (ItemList k i is ∷ ts) [] w = absurd w
alike_marks (ItemList k i is ∷ ts) (Other h ∷ us) w = absurd w
alike_marks (ItemList k i is ∷ ts) (ItemList m j js ∷ us) w =
    ap (λ z. item_marks z 0 0 i is ++ flat_map block_marks ts) w.1.0
    ∙ ap (λ z. z ++ flat_map block_marks ts) (alike_items j.line 0 0 i is j js w.2)
    ∙ ap (λ z. item_marks j.line 0 0 j js ++ z) (alike_marks ts us w.3)

where_alike : (same : Bool) (kind : ListKind) (item : ListItem) (k : ListKind) (i : ListItem) (is : List ListItem) (j : ListItem) (js : List ListItem) (ts us : List TopBlock) →
    AtSame i j → AlikeLater i is j js → Alike ts us → Alike (with_item_where same kind item k i is ts) (with_item_where same kind item k j js us)
where_alike true kind item k i is j js ts us e w v = (refl, (refl, refl), ((refl, refl), e, w), v)
where_alike false kind item k i is j js ts us e w v = (refl, (refl, refl), tt, (refl, e, w, v))

item_alike : (kind : ListKind) (item : ListItem) (ts us : List TopBlock) → Alike ts us → Alike (with_item kind item ts) (with_item kind item us)
unfolding with_item
item_alike kind item [] [] w = (refl, (refl, refl), tt, tt)
item_alike kind item [] (Other h ∷ us) w = absurd w
item_alike kind item [] (ItemList m j js ∷ us) w = absurd w
item_alike kind item (Other g ∷ ts) [] w = absurd w
item_alike kind item (Other g ∷ ts) (Other h ∷ us) w = (refl, (refl, refl), tt, w)
item_alike kind item (Other g ∷ ts) (ItemList m j js ∷ us) w = absurd w
item_alike kind item (ItemList k i is ∷ ts) [] w = absurd w
item_alike kind item (ItemList k i is ∷ ts) (Other h ∷ us) w = absurd w
item_alike kind item (ItemList k i is ∷ ts) (ItemList m j js ∷ us) w =
    subst (λ z. Alike (with_item_where (is_same_list kind k) kind item k i is ts) (with_item_where (is_same_list kind z) kind item z j js us)) w.0
    (where_alike (is_same_list kind k) kind item k i is j js ts us w.1 w.2 w.3)

part_alike : (g : Group) (p : Part) (ts us : List TopBlock) → Alike ts us → Alike (with_part g p ts) (with_part g p us)
part_alike g (Leaves leaves) ts us w = w
part_alike g (Quoted nodes) ts us w = w
part_alike g (Listed kind t items) ts us w = item_alike kind (record { line = g.begin; gap = g.gap; tight = t; nodes = items }) ts us w

last_alike : (g h : Group) (p q : Part) → g.begin ≡ h.begin → g.gap ≡ h.gap → part_mark p ≡ part_mark q → Alike (with_part g p []) (with_part h q [])
unfolding with_item
last_alike g h (Leaves leaves) (Leaves others) b v m = tt
last_alike g h (Leaves leaves) (Quoted nodes) b v m = tt
last_alike g h (Quoted nodes) (Leaves others) b v m = tt
last_alike g h (Quoted nodes) (Quoted others) b v m = tt
last_alike g h (Leaves leaves) (Listed kind t items) b v m = absurd (let x : ⊥ = cc in x)
last_alike g h (Quoted nodes) (Listed kind t items) b v m = absurd (let x : ⊥ = cc in x)
last_alike g h (Listed kind t items) (Leaves leaves) b v m = absurd (let x : ⊥ = cc in x)
last_alike g h (Listed kind t items) (Quoted nodes) b v m = absurd (let x : ⊥ = cc in x)
last_alike g h (Listed kind t items) (Listed other s more) b v m = let k : kind ≡ other = cc in (k, (b, v), tt, tt)

behind_alike : (gs : List Group) (g h : Group) → g.begin ≡ h.begin → g.gap ≡ h.gap → part_mark g.part ≡ part_mark h.part → Alike (tops_of (gs ++ g ∷ [])) (tops_of (gs ++ h ∷ []))
unfolding tops_of
behind_alike [] g h b v m = last_alike g h g.part h.part b v m
behind_alike (f ∷ gs) g h b v m = part_alike f f.part (tops_of (gs ++ g ∷ [])) (tops_of (gs ++ h ∷ [])) (behind_alike gs g h b v m)

-- ---- a line that begins no item and no unit

abbrev marks_in : EntityTable → (List BlockLine → List Group) → List Stretch → List ItemMark
marks_in e R ss = flat_map block_marks (tops_of (map (group_of e R) ss))

grown_marks : (e : EntityTable) (R : List BlockLine → List Group) (before : List Stretch) (s : Stretch) (kind : _) (l : BlockLine) → list_mark kind ≡ list_mark s.kind →
    marks_in e R (before ++ grown s kind l ∷ []) ≡ marks_in e R (before ++ s ∷ [])
grown_marks e R before s kind l m =
    let G = group_of e R in
    let r = grown s kind l in
    ap (λ z. flat_map block_marks (tops_of z)) (map-append G before (r ∷ []))
    ∙ alike_marks (tops_of (map G before ++ G r ∷ [])) (tops_of (map G before ++ G s ∷ []))
    (behind_alike (map G before) (G r) (G s) refl refl (mark_of_part e R kind s.first (s.later ++ l ∷ []) ∙ m ∙ sym (mark_of_part e R s.kind s.first s.later)))
    ∙ ap (λ z. flat_map block_marks (tops_of z)) (sym (map-append G before (s ∷ [])))

abbrev cut_of : List Stretch → Tail → Bool → ℕ → Cut
cut_of before t b m = record { before = before; tail = t; blank = b; lines = m }

step_marks : (T : List BlockLine → Tip) (e : EntityTable) (R : List BlockLine → List Group) (before : List Stretch) (s : Stretch) (b : Bool) (m : ℕ) (l : BlockLine) (st : Step) →
    keeps (list_mark s.kind) st → is_stop st ≡ false → marks_in e R (stretches (after_step T (cut_of before (Going s) b m) s l st)) ≡ marks_in e R (before ++ s ∷ [])
unfolding after_step all_of
step_marks T e R before s b m l (Continues kind) k w = grown_marks e R before s kind l k
step_marks T e R before s b m l (IsLastLine kind) k w = grown_marks e R before s kind l k
step_marks T e R before s b m l IsOverBefore k w = absurd (let x : ⊥ = cc in x)

inside_marks : (T : List BlockLine → Tip) (e : EntityTable) (R : List BlockLine → List Group) (before : List Stretch) (t : Tail) (b : Bool) (m : ℕ) (l : BlockLine) → is_apart T t l ≡ false →
    marks_in e R (stretches (add_at T (cut_of before t b m) l t)) ≡ marks_in e R (all_of before t)
unfolding is_apart add_at all_of
inside_marks T e R before Empty b m l w = absurd (let x : ⊥ = cc in x)
inside_marks T e R before (Over s) b m l w = absurd (let x : ⊥ = cc in x)
inside_marks T e R before (Going s) b m l w = step_marks T e R before s b m l (step T s.kind s.first s.later l) (step_keeps T s.kind s.first s.later l) w

ended_all : (before : List Stretch) (t : Tail) → all_of before (ended t) ≡ all_of before t
unfolding all_of
ended_all before Empty = refl
ended_all before (Going s) = refl
ended_all before (Over s) = refl

line_marks : (T : List BlockLine → Tip) (e : EntityTable) (R : List BlockLine → List Group) (c : Cut) (l : BlockLine) (apart blank : Bool) →
    is_apart T c.tail l ≡ apart → is_blank_line l ≡ blank → (apart && not blank) ≡ false → marks_in e R (stretches (add T c l)) ≡ marks_in e R (stretches c)
unfolding begin_where
line_marks T e R c l false blank a b w = inside_marks T e R c.before c.tail c.blank c.lines l a
line_marks T e R c l true true a b w =
    ap (λ (z : Cut). marks_in e R (stretches z)) (apart_begins T c l c.tail a ∙ ap (λ z. begin_where z T c l) b)
    ∙ ap (marks_in e R) (ended_all c.before c.tail)
line_marks T e R c l true false a b w = absurd (let x : ⊥ = cc in x)

neither : (a b c : Bool) → (a && not b && not c) ≡ false → (a && not b && c) ≡ false → (a && not b) ≡ false
neither false b c e f = refl
neither true true c e f = refl
neither true false true e f = absurd (let x : ⊥ = cc in x)
neither true false false e f = absurd (let x : ⊥ = cc in x)

marks_at : (e : EntityTable) (d : ℕ) (ls : List BlockLine) → visible_in ls ≤ d → list_marks e ls ≡ marks_in e (groups_within e d) (stretches (cut_within d ls))
marks_at e d ls h = ap (λ z. flat_map block_marks (tops_of z)) (sym (singles_deep e d ls h))

-- Such a line leaves the later items as they were.
pub marks_kept : (e : EntityTable) (xs : List BlockLine) (l : BlockLine) → begins_unit xs l ≡ false → joins_list xs l ≡ false → list_marks e (xs ++ l ∷ []) ≡ list_marks e xs
unfolding begins_behind joins_behind cut_from
marks_kept e xs l begins joins =
    let all = xs ++ l ∷ [] in
    let d = suc (visible_in all) in
    let T = tip_within d in
    let R = groups_within e d in
    let c : Cut = cut_by T xs in
    let v = visible_append xs (l ∷ []) in
    let apart = neither (is_apart T c.tail l) (is_blank_line l) (same_mark (tail_mark c.tail) (list_mark (begun l))) (begins_deep d xs l (omega (arith, v)) ∙ begins) (joins_deep d xs l (omega (arith, v)) ∙ joins) in
    marks_at e d all (omega arith)
    ∙ ap (λ (z : Cut). marks_in e R (stretches z)) (cut_from_append T no_lines xs (l ∷ []))
    ∙ line_marks T e R c l (is_apart T c.tail l) (is_blank_line l) refl refl apart
    ∙ sym (marks_at e d xs (omega (arith, v)))

-- ---- a first line

part_none : (g : Group) (p : Part) → flat_map block_marks (with_part g p []) ≡ []
unfolding with_item item_marks
part_none g (Leaves leaves) = refl
part_none g (Quoted nodes) = refl
part_none g (Listed kind t items) = refl

first_marks : (T : List BlockLine → Tip) (e : EntityTable) (R : List BlockLine → List Group) (l : BlockLine) (blank : Bool) → marks_in e R (stretches (begin_where blank T no_lines l)) ≡ []
unfolding begin_where all_of tops_of
first_marks T e R l true = refl
first_marks T e R l false = go (is_single (begun l) l) (first_of 0 (gap_behind T no_lines) l)
  where
    go : (b : Bool) (s : Stretch) → marks_in e R (all_of [] (tail_of b s)) ≡ []
    go true s = let g = group_of e R s in part_none g g.part
    go false s = let g = group_of e R s in part_none g g.part

-- One line has no later item.
pub marks_none : (e : EntityTable) (l : BlockLine) → list_marks e (l ∷ []) ≡ []
unfolding cut_from add_at
marks_none e l =
    let d = visible_in (l ∷ []) in
    marks_at e d (l ∷ []) (omega arith) ∙ first_marks (tip_within d) e (groups_within e d) l (is_blank_line l)

-- ---- a line that begins a later item

-- items behind others: what stands before the first of them is all that the others give
pub marks_behind : (b t d : ℕ) (item : ListItem) (later : List ListItem) (next : ListItem) (more : List ListItem) →
    item_marks b t d item (later ++ next ∷ more)
    ≡ item_marks b t d item later
    ++ item_mark (next.line - b) (t + texts_of (nodes_of_items item later)) (d + definitions_of (nodes_of_items item later)) (not (last_item item later).tight || next.gap)
    ∷ item_marks b (t + texts_of (nodes_of_items item later)) (d + definitions_of (nodes_of_items item later)) next more
unfolding item_marks nodes_of_items
marks_behind b t d item [] next more = refl
marks_behind b t d item (i ∷ later) next more =
    let N = nodes_of_items i later in
    let t1 = t + texts_of item.nodes in
    let d1 = d + definitions_of item.nodes in
    let w = not (last_item i later).tight || next.gap in
    let head = item_mark (i.line - b) t1 d1 (not item.tight || i.gap) in
    let texts : t1 + texts_of N ≡ t + length (texts_in_items (nodes_of_items item (i ∷ later))) =
    (let p = length-append (texts_in_items item.nodes) (texts_in_items N) in omega (arith, p)) ∙ ap (λ z. t + length z) (sym (texts_together item.nodes N)) in
    let definitions : d1 + definitions_of N ≡ d + length (definitions_in_items (nodes_of_items item (i ∷ later))) =
    (let p = length-append (definitions_in_items item.nodes) (definitions_in_items N) in omega (arith, p)) ∙ ap (λ z. d + length z) (sym (definitions_together item.nodes N)) in
    ap (λ z. head ∷ z) (marks_behind b t1 d1 i later next more)
    ∙ ap (λ z. head ∷ item_marks b t1 d1 i later ++ item_mark (next.line - b) z (d1 + definitions_of N) w ∷ item_marks b z (d1 + definitions_of N) next more) texts
    ∙ ap (λ z. head ∷ item_marks b t1 d1 i later ++ item_mark (next.line - b) (t + texts_of (nodes_of_items item (i ∷ later))) z w ∷ item_marks b (t + texts_of (nodes_of_items item (i ∷ later))) z next more) definitions

moved_later : (k b t d : ℕ) (item : ListItem) (later : List ListItem) (first : ListItem) → SameInside first item → item_marks (b + k) t d first (map (moved_item k) later) ≡ item_marks b t d item later
unfolding item_marks
moved_later k b t d item [] first e = refl
moved_later k b t d item (i ∷ later) first e =
    let n : (i.line + k) - (b + k) ≡ i.line - b = omega arith in
    ap (λ z. item_mark (i.line + k - (b + k)) (t + texts_of z) (d + definitions_of z) (not first.tight || i.gap) ∷ item_marks (b + k) (t + texts_of z) (d + definitions_of z) (moved_item k i) (map (moved_item k) later)) e.0
    ∙ ap (λ z. item_mark (i.line + k - (b + k)) (t + texts_of item.nodes) (d + definitions_of item.nodes) (not z || i.gap) ∷ item_marks (b + k) (t + texts_of item.nodes) (d + definitions_of item.nodes) (moved_item k i) (map (moved_item k) later)) e.1
    ∙ ap (λ z. item_mark z (t + texts_of item.nodes) (d + definitions_of item.nodes) (not item.tight || i.gap) ∷ item_marks (b + k) (t + texts_of item.nodes) (d + definitions_of item.nodes) (moved_item k i) (map (moved_item k) later)) n
    ∙ ap (λ z. item_mark (i.line - b) (t + texts_of item.nodes) (d + definitions_of item.nodes) (not item.tight || i.gap) ∷ z) (moved_later k b (t + texts_of item.nodes) (d + definitions_of item.nodes) i later (moved_item k i) (refl, refl))

-- blocks further on
pub moved_marks : (k : ℕ) (ts : List TopBlock) → flat_map block_marks (map (moved_top k) ts) ≡ flat_map block_marks ts
moved_marks k [] = refl
moved_marks k (Other g ∷ ts) = moved_marks k ts
moved_marks k (ItemList kind first later ∷ ts) =
    ap (λ z. z ++ flat_map block_marks (map (moved_top k) ts)) (moved_later k first.line 0 0 first later (moved_item k first) (refl, refl))
    ∙ ap (λ z. item_marks first.line 0 0 first later ++ z) (moved_marks k ts)

-- a list that is all of some lines
pub record IsAll (before : List TopBlock) (first : ListItem) (blocks : List TopBlock) : Type 0 where
  pub front : before ≡ []
  pub behind : blocks ≡ []
  pub line : first.line ≡ 0

pub all_in : (n : ℕ) (before : List TopBlock) (kind : ListKind) (first : ListItem) (later : List ListItem) (blocks : List TopBlock) →
    IsOne (begins_in (found_units (map top_group (before ++ ItemList kind first later ∷ blocks)) n)) → IsAll before first blocks
unfolding found_units
all_in n [] kind first later [] one = record { front = refl; behind = refl; line = one }
all_in n [] kind first later (b ∷ blocks) one = absurd one
all_in n (t ∷ []) kind first later blocks one = absurd one
all_in n (t ∷ u ∷ ts) kind first later blocks one = absurd one

pub stands_alone : (e : EntityTable) (xs : List BlockLine) (before : List TopBlock) (kind : ListKind) (first : ListItem) (later : List ListItem)
    (blocks : List TopBlock) →
    IsOne (begins_in (units_of e xs)) → top_blocks e xs ≡ before ++ ItemList kind first later ∷ blocks → IsAll before first blocks
stands_alone e xs before kind first later blocks one is =
    all_in (length xs) before kind first later blocks
    (subst (λ z. IsOne (begins_in (found_units z (length xs)))) (sym (blocks_are e xs) ∙ ap (map top_group) is) one)

-- what a list alone gives is what all lines do
pub behind_is : (e : EntityTable) (xs : List BlockLine) (kind : ListKind) (first : ListItem) (later : List ListItem) → top_blocks e xs ≡ ItemList kind first later ∷ [] →
    mark_behind e xs ≡ item_mark (length xs) (texts_of (nodes_of_items first later)) (definitions_of (nodes_of_items first later)) (not (last_item first later).tight || gap_after xs)
unfolding nodes_of
behind_is e xs kind first later is =
    let t = is_tight_list first later in
    let N = nodes_of_items first later in
    let w = not (last_item first later).tight || gap_after xs in
    let gs : groups e xs ≡ top_group (ItemList kind first later) ∷ [] = sym (blocks_are e xs) ∙ ap (map top_group) is in
    ap (λ z. item_mark (length xs) (length (texts_in (nodes_of (groups e xs)))) (length (definitions_in (nodes_of (groups e xs)))) (is_parted z || gap_after xs)) is
    ∙ ap (λ z. item_mark (length xs) (length (texts_in (nodes_of z))) (length (definitions_in (nodes_of z))) w) gs
    ∙ ap (λ z. item_mark (length xs) (length z) (length (definitions_in (part_before (Listed kind t N) no_nodes))) w) (list_texts kind t N)
    ∙ ap (λ z. item_mark (length xs) (texts_of N) (length z) w) (list_definitions kind t N)

none_behind : (other : ListKind) (item : ListItem) (items : List ListItem) (blocks : List TopBlock) → flat_map block_marks (ItemList other item items ∷ blocks) ≡ [] →
    (items ≡ []) × (flat_map block_marks blocks ≡ [])
unfolding item_marks
none_behind other item [] blocks e = (refl, e)
none_behind other item (i ∷ items) blocks e = absurd (let x : ⊥ = cc in x)

more_met : (e : EntityTable) (xs : List BlockLine) (l : BlockLine) → IsOne (begins_in (units_of e xs)) → ItemsMeet e xs l [] → list_marks e (xs ++ l ∷ []) ≡ list_marks e xs ++ mark_behind e xs ∷ []
unfolding item_marks
more_met e xs l one w =
    let n = length xs in
    let N = nodes_of_items w.first w.later in
    let s = stands_alone e xs w.before w.kind w.first w.later [] one w.front in
    let none = none_behind w.other w.item w.items w.blocks (ap (flat_map block_marks) (sym w.alone) ∙ marks_none e l) in
    let next = item_behind (gap_after xs) n w.item in
    let loose = not (last_item w.first w.later).tight || gap_after xs in
    let front : top_blocks e xs ≡ ItemList w.kind w.first w.later ∷ [] = w.front ∙ ap (λ z. z ++ ItemList w.kind w.first w.later ∷ []) s.front in
    let marks = item_marks w.first.line 0 0 w.first w.later in
    let was : list_marks e xs ≡ marks = ap (flat_map block_marks) front ∙ append-nil marks in
    let line : w.item.line + n - w.first.line ≡ n = (let a = w.line in let b = s.line in omega (arith, a, b)) in
    ap (flat_map block_marks) w.whole
    ∙ ap (λ z. flat_map block_marks (z ++ ItemList w.kind w.first (w.later ++ items_behind (gap_after xs) n w.item w.items) ∷ map (moved_top n) w.blocks)) s.front
    ∙ ap (λ z. item_marks w.first.line 0 0 w.first (w.later ++ next ∷ map (moved_item n) z) ++ flat_map block_marks (map (moved_top n) w.blocks)) none.0
    ∙ ap (λ z. item_marks w.first.line 0 0 w.first (w.later ++ next ∷ []) ++ z) (moved_marks n w.blocks ∙ none.1)
    ∙ append-nil (item_marks w.first.line 0 0 w.first (w.later ++ next ∷ []))
    ∙ marks_behind w.first.line 0 0 w.first w.later next []
    ∙ ap (λ z. marks ++ item_mark z (0 + texts_of N) (0 + definitions_of N) loose ∷ []) line
    ∙ ap (λ z. marks ++ item_mark n z (0 + definitions_of N) loose ∷ []) (let z : 0 + texts_of N ≡ texts_of N = omega arith in z)
    ∙ ap (λ z. marks ++ item_mark n (texts_of N) z loose ∷ []) (let z : 0 + definitions_of N ≡ definitions_of N = omega arith in z)
    ∙ ap (λ z. z ++ item_mark n (texts_of N) (definitions_of N) loose ∷ []) (sym was)
    ∙ ap (λ z. list_marks e xs ++ z ∷ []) (sym (behind_is e xs w.kind w.first w.later front))

-- Behind lines that give one unit it adds the item that begins in it.
pub marks_more : (e : EntityTable) (xs : List BlockLine) (l : BlockLine) → IsOne (begins_in (units_of e xs)) → joins_list xs l ≡ true → list_marks e (xs ++ l ∷ []) ≡ list_marks e xs ++ mark_behind e xs ∷ []
marks_more e xs l one j = more_met e xs l one (items_meet_at e xs l [] j)

-- ---- without the definitions

items_join : (b t d : ℕ) (item : ListItem) (later : List ListItem) → map join_of (item_marks b t d item later) ≡ item_joins b (t + texts_of item.nodes) later
unfolding item_marks
items_join b t d item [] = refl
items_join b t d item (i ∷ later) =
    ap (λ z. record { line = i.line - b; texts = t + texts_of item.nodes } ∷ z) (items_join b (t + texts_of item.nodes) (d + definitions_of item.nodes) i later)

block_join : (block : TopBlock) → map join_of (block_marks block) ≡ block_joins block
block_join (Other g) = refl
block_join (ItemList kind first later) =
    items_join first.line 0 0 first later
    ∙ ap (λ z. item_joins first.line z later) (let z : 0 + texts_of first.nodes ≡ texts_of first.nodes = omega arith in z)

pub marks_join : (blocks : List TopBlock) → map join_of (flat_map block_marks blocks) ≡ flat_map block_joins blocks
marks_join [] = refl
marks_join (block ∷ blocks) =
    map-append join_of (block_marks block) (flat_map block_marks blocks)
    ∙ ap (λ z. z ++ map join_of (flat_map block_marks blocks)) (block_join block)
    ∙ ap (λ z. block_joins block ++ z) (marks_join blocks)

-- ---- one line more for a reader

pub held_marks : (e : EntityTable) (xs : List BlockLine) (l : BlockLine) →
    list_marks e (lines_held [] (xs ++ l ∷ [])) ≡ marks_next (begins_unit (lines_held [] xs) l) (joins_list (lines_held [] xs) l) (list_marks e (lines_held [] xs)) (mark_behind e (lines_held [] xs))
held_marks e xs l = ap (list_marks e) (held_next [] xs l) ∙ go (begins_unit H l) (joins_list H l) refl refl
  where
    H : List BlockLine
    H = lines_held [] xs

    go : (b j : Bool) → begins_unit H l ≡ b → joins_list H l ≡ j → list_marks e (if b then l ∷ [] else H ++ l ∷ []) ≡ marks_next b j (list_marks e H) (mark_behind e H)
    go true j b w = marks_none e l
    go false true b w = marks_more e H l (held_one e xs) w
    go false false b w = marks_kept e H l b w
