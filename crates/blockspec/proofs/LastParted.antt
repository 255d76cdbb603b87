-- What makes a list loose at its end, as the summary of the lines tells: a gap inside its last item, and one behind the lines.
use Rattle.std.proofs.Common.{◌≡◌, ℕ, suc, Bool, true, false, not, ◌&&◌, List, [], ◌∷◌, ◌++◌, map, refl, sym, ◌∙◌, ap, arith}
use Rattle.std.proofs.lemmas.List.{map-append}
use Rattle.mdtext.specs.EntityTable.{EntityTable}
use Rattle.blockspec.specs.BlockLine.{BlockLine}
use Rattle.blockspec.specs.BlankLines.{is_blank_line}
use Rattle.blockspec.specs.BlockKinds.{Kind, Paragraph, SetextHeading, Table, AtxHeading, ThematicBreak, FencedCode, IndentedCode, HtmlBlock, Holds}
use Rattle.blockspec.specs.BlockStart.{begun}
use Rattle.blockspec.specs.BlockTree.{ListKind}
use Rattle.blockspec.specs.BlockUnits.{container_part, part_at, group_of, groups_within, visible_in, depth_of}
use Rattle.blockspec.specs.Laziness.{Tip, is_verbatim}
use Rattle.blockspec.specs.LineSummary.{summary_tip, last_groups, last_at, last_of, summary_within, summary_of}
use Rattle.blockspec.specs.Lists.{Part, Leaves, Quoted, Listed, Group, is_same_list}
use Rattle.blockspec.specs.Meetings.{gap_after}
use Rattle.blockspec.specs.Stretches.{Stretch, Step, Continues, IsLastLine, IsOverBefore, step, is_single, Tail, Empty, Going, Over, Cut, no_lines, all_of, stretches, gap_behind, first_of, tail_of, begin_where, after_step, add_at, add, cut_from, cut_within, tip_within}
use Rattle.blockspec.proofs.ReaderLaws.{summary_deep}
use Rattle.blockspec.proofs.SummaryLaws.{laws}
use Rattle.blockspec.specs.ItemMarks.{is_parted}
use Rattle.blockspec.specs.TopBlocks.{ListItem, TopBlock, Other, ItemList, with_item_where, with_item, item_of_group, with_part, tops_of, single_groups, top_blocks}
use Rattle.blockspec.specs.SummaryJoins.{is_parted_part, is_parted_first, is_parted_after, gap_in}
use Rattle.blockspec.proofs.TopLaws.{item_first}

-- ---- blocks and their groups

-- the same of the last of some groups
abbrev parted_last : List Group → Bool
parted_last [] = false
parted_last (g ∷ []) = is_parted_part g.part
parted_last (g ∷ h ∷ gs) = parted_last (h ∷ gs)

where_parted : (same : Bool) (kind : ListKind) (item : ListItem) (other : ListKind) (first : ListItem) (later : List ListItem) (ts : List TopBlock) →
    is_parted (with_item_where same kind item other first later ts) ≡ is_parted (ItemList other first later ∷ ts)
where_parted true kind item other first later [] = refl
where_parted true kind item other first later (t ∷ ts) = refl
where_parted false kind item other first later ts = refl

item_parted : (kind : ListKind) (item : ListItem) (t : TopBlock) (ts : List TopBlock) → is_parted (with_item kind item (t ∷ ts)) ≡ is_parted (t ∷ ts)
unfolding with_item
item_parted kind item (Other g) ts = refl
item_parted kind item (ItemList other first later) ts = where_parted (is_same_list kind other) kind item other first later ts

part_parted : (g : Group) (p : Part) (t : TopBlock) (ts : List TopBlock) → is_parted (with_part g p (t ∷ ts)) ≡ is_parted (t ∷ ts)
part_parted g (Leaves leaves) t ts = refl
part_parted g (Quoted nodes) t ts = refl
part_parted g (Listed kind tight items) t ts = item_parted kind (item_of_group g tight items) t ts

-- blocks that are behind another
behind_parted : (g h : Group) (p q : Part) (ts : List TopBlock) → is_parted (with_part g p (with_part h q ts)) ≡ is_parted (with_part h q ts)
behind_parted g h p (Leaves leaves) ts = part_parted g p (Other h) ts
behind_parted g h p (Quoted nodes) ts = part_parted g p (Other h) ts
behind_parted g h p (Listed kind tight items) ts =
    let f = item_first kind ts in
    let item = item_of_group h tight items in
    ap (λ z. is_parted (with_part g p z)) (f.is item) ∙ part_parted g p (ItemList kind item f.later) f.blocks ∙ ap is_parted (sym (f.is item))

one_parted : (g : Group) (p : Part) → is_parted (with_part g p []) ≡ is_parted_part p
unfolding with_item
one_parted g (Leaves leaves) = refl
one_parted g (Quoted nodes) = refl
one_parted g (Listed kind tight items) = refl

tops_parted : (gs : List Group) → is_parted (tops_of gs) ≡ parted_last gs
unfolding tops_of
tops_parted [] = refl
tops_parted (g ∷ []) = one_parted g g.part
tops_parted (g ∷ h ∷ gs) = behind_parted g h g.part h.part (tops_of gs) ∙ tops_parted (h ∷ gs)

last_one : (gs : List Group) (g : Group) → parted_last (gs ++ g ∷ []) ≡ is_parted_part g.part
last_one [] g = refl
last_one (h ∷ []) g = refl
last_one (h ∷ k ∷ gs) g = last_one (k ∷ gs) g

-- ---- the last block of a cut

-- no block stands before where none is last
abbrev IsFull : List Stretch → Tail → Type 0
IsFull before Empty = before ≡ []
IsFull before (Going s) = Unit {0}
IsFull before (Over s) = Unit {0}

ended_full : (T : List BlockLine → Tip) (c : Cut) (l : BlockLine) (t : Tail) → c.tail ≡ t → IsFull c.before t → IsFull (begin_where true T c l).before (begin_where true T c l).tail
unfolding begin_where
ended_full T c l Empty e w = rw e w
ended_full T c l (Going s) e w = rw e tt
ended_full T c l (Over s) e w = rw e tt

single_full : (before : List Stretch) (single : Bool) (s : Stretch) → IsFull before (tail_of single s)
single_full before true s = tt
single_full before false s = tt

begin_full : (T : List BlockLine → Tip) (c : Cut) (l : BlockLine) (blank : Bool) → IsFull c.before c.tail → IsFull (begin_where blank T c l).before (begin_where blank T c l).tail
unfolding begin_where
begin_full T c l true w = ended_full T c l c.tail refl w
begin_full T c l false w = single_full (stretches c) (is_single (begun l) l) (first_of c.lines (gap_behind T c) l)

after_full : (T : List BlockLine → Tip) (c : Cut) (s : Stretch) (l : BlockLine) (st : Step) → IsFull c.before c.tail → IsFull (after_step T c s l st).before (after_step T c s l st).tail
unfolding after_step
after_full T c s l (Continues kind) w = tt
after_full T c s l (IsLastLine kind) w = tt
after_full T c s l IsOverBefore w = begin_full T c l (is_blank_line l) w

add_full : (T : List BlockLine → Tip) (c : Cut) (l : BlockLine) (t : Tail) → IsFull c.before c.tail → IsFull (add_at T c l t).before (add_at T c l t).tail
unfolding add_at
add_full T c l Empty w = begin_full T c l (is_blank_line l) w
add_full T c l (Over s) w = begin_full T c l (is_blank_line l) w
add_full T c l (Going s) w = after_full T c s l (step T s.kind s.first s.later l) w

cut_full : (T : List BlockLine → Tip) (c : Cut) (ls : List BlockLine) → IsFull c.before c.tail → IsFull (cut_from T c ls).before (cut_from T c ls).tail
unfolding cut_from
cut_full T c [] w = w
cut_full T c (l ∷ ls) w = cut_full T (add T c l) ls (add_full T c l c.tail w)

at_parted : (e : EntityTable) (d : ℕ) (k : Kind) (s : Stretch) → is_parted_part (part_at e (groups_within e d) k s.first s.later) ≡ is_parted_first (last_groups e (last_at (summary_within e d) k s))
unfolding last_at last_groups
at_parted e d (Holds c) s = ap (λ z. is_parted_part (container_part c z)) ((laws e d).reads _)
at_parted e d Paragraph s = refl
at_parted e d (SetextHeading level) s = refl
at_parted e d (Table above) s = refl
at_parted e d (AtxHeading level content) s = refl
at_parted e d ThematicBreak s = refl
at_parted e d (FencedCode i u v info c) s = refl
at_parted e d IndentedCode s = refl
at_parted e d (HtmlBlock kind) s = refl

tail_parted : (e : EntityTable) (d : ℕ) (before : List Stretch) (t : Tail) → IsFull before t →
    (let R = groups_within e d in parted_last (map (group_of e R) (all_of before t)) ≡ is_parted_first (last_groups e (last_of e R (summary_within e d) t)))
unfolding all_of last_of last_groups
tail_parted e d before Empty w = ap (λ z. parted_last (map (group_of e (groups_within e d)) z)) w
tail_parted e d before (Over s) w =
    let G = group_of e (groups_within e d) in
    ap parted_last (map-append G before (s ∷ [])) ∙ last_one (map G before) (G s)
tail_parted e d before (Going s) w =
    let G = group_of e (groups_within e d) in
    ap parted_last (map-append G before (s ∷ [])) ∙ last_one (map G before) (G s) ∙ at_parted e d s.kind s

-- Whether a gap parts two blocks of the last item follows from the summary.
pub summary_parted : (e : EntityTable) (ls : List BlockLine) → is_parted (top_blocks e ls) ≡ is_parted_after e (summary_of e ls)
unfolding summary_within
summary_parted e ls =
    let d = visible_in ls in
    let c : Cut = cut_within d ls in
    tops_parted (single_groups e ls) ∙ tail_parted e d c.before c.tail (cut_full (tip_within d) no_lines ls refl)

gap_law : (e : EntityTable) (d : ℕ) (ls : List BlockLine) → gap_behind (tip_within d) (cut_within d ls) ≡ gap_in (summary_within e (suc d) ls)
unfolding summary_within tip_within summary_tip
gap_law e d ls = let c : Cut = cut_within d ls in ap (λ z. c.blank && not (is_verbatim z)) ((laws e (suc d)).tips ls)

-- and so does whether a gap is behind the lines
pub summary_gapped : (e : EntityTable) (ls : List BlockLine) → gap_after ls ≡ gap_in (summary_of e ls)
unfolding gap_after
summary_gapped e ls =
    let d = depth_of ls in
    gap_law e d ls ∙ ap gap_in (summary_deep e (suc d) ls (omega arith))
