-- One line more: what the lines give follows from their summary.
use Rattle.std.proofs.Common.{◌≡◌, ℕ, zero, suc, Bool, true, false, not, ◌&&◌, List, [], ◌∷◌, ◌++◌, map, refl, sym, ◌∙◌, ap}
use Rattle.std.proofs.lemmas.List.{map-append}
use Rattle.mdtext.specs.EntityTable.{EntityTable}
use Rattle.blockspec.specs.BlockLine.{BlockLine}
use Rattle.blockspec.specs.BlankLines.{is_blank_line}
use Rattle.blockspec.specs.BlockKinds.{Container, Kind, Paragraph, SetextHeading, Table, AtxHeading, ThematicBreak, FencedCode, IndentedCode, HtmlBlock, Holds}
use Rattle.blockspec.specs.BlockStart.{begun}
use Rattle.blockspec.specs.BlockUnits.{group_of, groups_within}
use Rattle.blockspec.specs.ContainerLines.{opened, inside, inner, is_bare}
use Rattle.blockspec.specs.Laziness.{is_verbatim}
use Rattle.blockspec.specs.LineSummary.{Summary, summary, Last, ended_block, open_leaf, open_container, no_summary, summary_tip, last_tip, leaf_group, container_group, closed, last_groups, ended_last, new_last, summary_gap, begin_after, last_grown, leaf_after, container_after, last_after, line_added, last_at, last_of, summary_by, summary_within, is_apart_after, mark_of, begins_after}
use Rattle.blockspec.specs.Lists.{Part, Group, grouped, merged}
use Rattle.blockspec.specs.OpenLeaf.{OpenLeaf, leaf_from, is_parted}
use Rattle.blockspec.specs.Stretches.{Stretch, Step, Continues, IsLastLine, IsOverBefore, continues_if, goes_on, step, is_single, Tail, Empty, Going, Over, Cut, no_lines, all_of, ended, tip_at, tip_of, gap_behind, first_of, tail_of, begin_where, grown, after_step, add_at, cut_from, cut_by, tip_within}
use Rattle.blockspec.specs.UnitBegin.{is_stop, is_apart, list_mark, same_mark, tail_mark, begins_behind}
use Rattle.blockspec.proofs.CutLaws.{cut_from_append}
use Rattle.blockspec.proofs.GroupLaws.{one_group}
use Rattle.blockspec.proofs.ItemLaws.{merged_nil, grouped_merged}
use Rattle.blockspec.proofs.LeafSteps.{IsLeaf, Sort, is_container, is_leaf, sort_of, LeafStep, step_leaf, IsMade, TailMade, cut_made}
use Rattle.blockspec.proofs.OpenLeafLaws.{leaf_tip, leaf_part, next_by, leaf_next, next_parts}
use Rattle.blockspec.proofs.UnitLaws.{mark_of_part}

-- what is known of one depth
pub record Laws (e : EntityTable) (depth : ℕ) : Type 0 where
  pub none : summary_within e depth [] ≡ no_summary
  pub tips : (ls : List BlockLine) → tip_within depth ls ≡ summary_tip (summary_within e depth ls)
  pub reads : (ls : List BlockLine) → groups_within e depth ls ≡ closed e (summary_within e depth ls)
  pub adds : (ls : List BlockLine) (l : BlockLine) → summary_within e depth (ls ++ l ∷ []) ≡ line_added e depth (summary_within e depth ls) l

abbrev of_kind : ℕ → Bool → Kind → BlockLine → List BlockLine → Stretch
of_kind b g k f r = record { begin = b; gap = g; kind = k; first = f; later = r }

pub leaf_last : (S : List BlockLine → Summary) (k : Kind) (s : Stretch) → IsLeaf k → last_at S k s ≡ open_leaf s.begin s.gap (leaf_from k s.first s.later)
unfolding last_at
leaf_last S (Holds container) s w = absurd w
leaf_last S Paragraph s w = refl
leaf_last S (SetextHeading level) s w = refl
leaf_last S (Table above) s w = refl
leaf_last S (AtxHeading level content) s w = refl
leaf_last S ThematicBreak s w = refl
leaf_last S (FencedCode i m n info c) s w = refl
leaf_last S IndentedCode s w = refl
leaf_last S (HtmlBlock kind) s w = refl

at_tip : {e : EntityTable} {d : ℕ} (h : Laws e d) (b : ℕ) (g : Bool) (k : Kind) (f : BlockLine) (r : List BlockLine) → Sort k → IsMade k r →
    tip_at (tip_within d) k f r ≡ last_tip (last_at (summary_within e d) k (of_kind b g k f r))
unfolding last_tip last_at
at_tip h b g (Holds c) f r is_container v = h.tips (inner c f r)
at_tip {e = e} {d = d} h b g k f r (is_leaf w) v = leaf_tip (tip_within d) k f r w v ∙ ap last_tip (sym (leaf_last (summary_within e d) k (of_kind b g k f r) w))

of_tip : {e : EntityTable} {d : ℕ} (h : Laws e d) (t : Tail) → TailMade t → tip_of (tip_within d) t ≡ last_tip (last_of e (groups_within e d) (summary_within e d) t)
unfolding tip_of last_of last_tip
of_tip h Empty v = refl
of_tip h (Over s) v = refl
of_tip h (Going s) v = at_tip h s.begin s.gap s.kind s.first s.later (sort_of s.kind) v

abbrev group_with : ℕ → Bool → Part → Group
group_with b g p = record { begin = b; gap = g; part = p }

at_groups : {e : EntityTable} {d : ℕ} (h : Laws e d) (b : ℕ) (g : Bool) (k : Kind) (f : BlockLine) (r : List BlockLine) → Sort k →
    last_groups e (last_at (summary_within e d) k (of_kind b g k f r)) ≡ group_of e (groups_within e d) (of_kind b g k f r) ∷ []
unfolding last_groups last_at
at_groups h b g (Holds c) f r is_container = ap (λ z. container_group b g c z ∷ []) (sym (h.reads (inner c f r)))
at_groups {e = e} {d = d} h b g k f r (is_leaf w) =
    ap (last_groups e) (leaf_last (summary_within e d) k (of_kind b g k f r) w)
    ∙ ap (λ z. group_with b g z ∷ []) (sym (leaf_part e (groups_within e d) k f r w))

at_ended : {e : EntityTable} {d : ℕ} (h : Laws e d) (b : ℕ) (g : Bool) (k : Kind) (f : BlockLine) (r : List BlockLine) → Sort k →
    ended_last e (last_at (summary_within e d) k (of_kind b g k f r)) ≡ ended_block (group_of e (groups_within e d) (of_kind b g k f r))
unfolding ended_last last_at
at_ended h b g (Holds c) f r is_container = ap (λ z. ended_block (container_group b g c z)) (sym (h.reads (inner c f r)))
at_ended {e = e} {d = d} h b g k f r (is_leaf w) =
    ap (ended_last e) (leaf_last (summary_within e d) k (of_kind b g k f r) w)
    ∙ ap (λ z. ended_block (group_with b g z)) (sym (leaf_part e (groups_within e d) k f r w))

-- what the blocks of a cut give, before the last one
abbrev over : EntityTable → (depth : ℕ) → List Stretch → List Group
over e d before = grouped (map (group_of e (groups_within e d)) before)

push_groups : (e : EntityTable) (d : ℕ) (before : List Stretch) (s : Stretch) →
    over e d (before ++ s ∷ []) ≡ merged (over e d before) (group_of e (groups_within e d) s ∷ [])
push_groups e d before s =
    let G = group_of e (groups_within e d) in
    ap grouped (map-append G before (s ∷ []))
    ∙ grouped_merged (map G before) (G s ∷ [])
    ∙ ap (λ z. merged (over e d before) z) (one_group (G s))

of_groups : {e : EntityTable} {d : ℕ} (h : Laws e d) (before : List Stretch) (t : Tail) →
    over e d (all_of before t) ≡ merged (over e d before) (last_groups e (last_of e (groups_within e d) (summary_within e d) t))
unfolding all_of last_of last_groups
of_groups {e = e} {d = d} h before Empty = sym (merged_nil (over e d before))
of_groups {e = e} {d = d} h before (Over s) = push_groups e d before s
of_groups {e = e} {d = d} h before (Going s) =
    push_groups e d before s ∙ ap (λ z. merged (over e d before) z) (sym (at_groups h s.begin s.gap s.kind s.first s.later (sort_of s.kind)))

of_ended : {e : EntityTable} {d : ℕ} (h : Laws e d) (t : Tail) →
    last_of e (groups_within e d) (summary_within e d) (ended t) ≡ ended_last e (last_of e (groups_within e d) (summary_within e d) t)
unfolding last_of ended_last
of_ended h Empty = refl
of_ended h (Over s) = refl
of_ended h (Going s) = sym (at_ended h s.begin s.gap s.kind s.first s.later (sort_of s.kind))

one_line : {e : EntityTable} {d : ℕ} (h : Laws e d) (l : BlockLine) → summary_within e d (l ∷ []) ≡ line_added e d no_summary l
one_line {e = e} {d = d} h l = h.adds [] l ∙ ap (λ z. line_added e d z l) h.none

-- a leaf that begins with a line
abbrev pub leaf_begun : EntityTable → (single : Bool) → ℕ → Bool → OpenLeaf → Last
leaf_begun e true b g leaf = ended_block (leaf_group e b g leaf)
leaf_begun e false b g leaf = open_leaf b g leaf

pub new_leaf : (e : EntityTable) (more : Summary → BlockLine → Summary) (single : Bool) (k : Kind) (s : Stretch) → IsLeaf k →
    new_last e more single k s ≡ leaf_begun e single s.begin s.gap (leaf_from k s.first [])
unfolding new_last
new_leaf e more single (Holds container) s w = absurd w
new_leaf e more true Paragraph s w = refl
new_leaf e more false Paragraph s w = refl
new_leaf e more true (SetextHeading level) s w = refl
new_leaf e more false (SetextHeading level) s w = refl
new_leaf e more true (Table above) s w = refl
new_leaf e more false (Table above) s w = refl
new_leaf e more true (AtxHeading level content) s w = refl
new_leaf e more false (AtxHeading level content) s w = refl
new_leaf e more true ThematicBreak s w = refl
new_leaf e more false ThematicBreak s w = refl
new_leaf e more true (FencedCode i m n info c) s w = refl
new_leaf e more false (FencedCode i m n info c) s w = refl
new_leaf e more true IndentedCode s w = refl
new_leaf e more false IndentedCode s w = refl
new_leaf e more true (HtmlBlock kind) s w = refl
new_leaf e more false (HtmlBlock kind) s w = refl

leaf_first : (e : EntityTable) (d : ℕ) (B : Bool) (b : ℕ) (g : Bool) (k : Kind) (f : BlockLine) → IsLeaf k →
    last_of e (groups_within e d) (summary_within e d) (tail_of B (of_kind b g k f [])) ≡ new_last e (line_added e d) B k (of_kind b g k f [])
unfolding last_of
leaf_first e d true b g k f w = ap (λ z. ended_block (group_with b g z)) (leaf_part e (groups_within e d) k f [] w) ∙ sym (new_leaf e (line_added e d) true k (of_kind b g k f []) w)
leaf_first e d false b g k f w = leaf_last (summary_within e d) k (of_kind b g k f []) w ∙ sym (new_leaf e (line_added e d) false k (of_kind b g k f []) w)

first_last : {e : EntityTable} {d : ℕ} (h : Laws e d) (b : ℕ) (g : Bool) (k : Kind) (f : BlockLine) → Sort k →
    last_of e (groups_within e d) (summary_within e d) (tail_of (is_single k f) (of_kind b g k f [])) ≡ new_last e (line_added e d) (is_single k f) k (of_kind b g k f [])
unfolding last_of last_at new_last is_single is_bare
first_last h b g (Holds c) f is_container = ap (open_container b g (is_blank_line (opened c f)) c) (one_line h (opened c f))
first_last {e = e} {d = d} h b g k f (is_leaf w) = leaf_first e d (is_single k f) b g k f w

begin_law : {e : EntityTable} {d : ℕ} (h : Laws e d) (c : Cut) (l : BlockLine) (blank : Bool) → TailMade c.tail →
    summary_by e (groups_within e d) (summary_within e d) (begin_where blank (tip_within d) c l)
    ≡ begin_after e (line_added e d) blank (summary (over e d c.before) (last_of e (groups_within e d) (summary_within e d) c.tail) c.blank c.lines) l
unfolding begin_where begin_after
begin_law {e = e} {d = d} h c l true v = ap (λ z. summary (over e d c.before) z true (suc c.lines)) (of_ended h c.tail)
begin_law {e = e} {d = d} h c l false v =
    let L = last_of e (groups_within e d) (summary_within e d) in
    let B = is_single (begun l) l in
    ap (λ z. summary z (L (tail_of B (first_of c.lines (gap_behind (tip_within d) c) l))) false (suc c.lines)) (of_groups h c.before c.tail)
    ∙ ap (λ z. summary (merged (over e d c.before) (last_groups e (L c.tail))) (L (tail_of B (first_of c.lines (c.blank && not (is_verbatim z)) l))) false (suc c.lines)) (of_tip h c.tail v)
    ∙ ap (λ z. summary (merged (over e d c.before) (last_groups e (L c.tail))) z false (suc c.lines)) (first_last h c.lines (summary_gap (L c.tail) c.blank) (begun l) l (sort_of (begun l)))

abbrev cut_of : List Stretch → Tail → Bool → ℕ → Cut
cut_of before t b m = record { before = before; tail = t; blank = b; lines = m }

leaf_law : {e : EntityTable} {d : ℕ} (h : Laws e d) (before : List Stretch) (s : Stretch) (b : Bool) (m : ℕ) (l : BlockLine) (st : Step) → IsLeaf s.kind → IsMade s.kind s.later → LeafStep st →
    summary_by e (groups_within e d) (summary_within e d) (after_step (tip_within d) (cut_of before (Going s) b m) s l st)
    ≡ leaf_after e (line_added e d) s.begin s.gap (next_by s.first (s.later ++ l ∷ []) st) (summary (over e d before) (open_leaf s.begin s.gap (leaf_from s.kind s.first s.later)) b m) l
unfolding after_step leaf_after last_grown last_of
leaf_law {e = e} {d = d} h before s b m l (Continues kind) w u v =
    ap (λ z. summary (over e d before) z (is_blank_line l) (suc m)) (leaf_last (summary_within e d) kind (grown s kind l) v)
leaf_law {e = e} {d = d} h before s b m l (IsLastLine kind) w u v =
    ap (λ z. summary (over e d before) (ended_block (group_with s.begin s.gap z)) (is_blank_line l) (suc m))
    (leaf_part e (groups_within e d) kind s.first (s.later ++ l ∷ []) v)
leaf_law {e = e} {d = d} h before s b m l IsOverBefore w u v =
    begin_law h (cut_of before (Going s) b m) l (is_blank_line l) u
    ∙ ap (λ z. begin_after e (line_added e d) (is_blank_line l) (summary (over e d before) z b m) l) (leaf_last (summary_within e d) s.kind s w)

-- ---- containers

bare_push : (c : Container) (f : BlockLine) (r : List BlockLine) (l : BlockLine) → is_bare c f (r ++ l ∷ []) ≡ false
unfolding is_bare
bare_push c f [] l = refl
bare_push c f (x ∷ r) l = refl

pub inner_push : (c : Container) (f : BlockLine) (r : List BlockLine) (l : BlockLine) → inner c f (r ++ l ∷ []) ≡ inner c f r ++ inside c l ∷ []
inner_push c f r l = ap (λ z. opened c f ∷ z) (map-append (inside c) r (l ∷ []))

container_law : {e : EntityTable} {d : ℕ} (h : Laws e d) (before : List Stretch) (n : ℕ) (g : Bool) (c : Container) (f : BlockLine) (r : List BlockLine) (b : Bool) (m : ℕ) (l : BlockLine) (takes : Bool) →
    summary_by e (groups_within e d) (summary_within e d) (after_step (tip_within d) (cut_of before (Going (of_kind n g (Holds c) f r)) b m) (of_kind n g (Holds c) f r) l (continues_if takes (Holds c)))
    ≡ container_after e (line_added e d) takes n g c (summary_within e d (inner c f r)) (summary (over e d before) (open_container n g (is_bare c f r) c (summary_within e d (inner c f r))) b m) l
unfolding after_step container_after last_grown last_of last_at
container_law {e = e} {d = d} h before n g c f r b m l true =
    let G = over e d before in
    ap (λ z. summary G (open_container n g z c (summary_within e d (inner c f (r ++ l ∷ [])))) (is_blank_line l) (suc m)) (bare_push c f r l)
    ∙ ap (λ z. summary G (open_container n g false c z) (is_blank_line l) (suc m)) (ap (summary_within e d) (inner_push c f r l) ∙ h.adds (inner c f r) (inside c l))
container_law h before n g c f r b m l false = begin_law h (cut_of before (Going (of_kind n g (Holds c) f r)) b m) l (is_blank_line l) tt

-- ---- one line more

open_law : {e : EntityTable} {d : ℕ} (h : Laws e d) (before : List Stretch) (n : ℕ) (g : Bool) (k : Kind) (f : BlockLine) (r : List BlockLine) (b : Bool) (m : ℕ) (l : BlockLine) → Sort k → IsMade k r →
    summary_by e (groups_within e d) (summary_within e d) (after_step (tip_within d) (cut_of before (Going (of_kind n g k f r)) b m) (of_kind n g k f r) l (step (tip_within d) k f r l))
    ≡ last_after e (line_added e d) (last_at (summary_within e d) k (of_kind n g k f r)) (summary (over e d before) (last_at (summary_within e d) k (of_kind n g k f r)) b m) l
unfolding last_after last_at step
open_law {e = e} {d = d} h before n g (Holds c) f r b m l is_container v =
    container_law h before n g c f r b m l (goes_on c (is_bare c f r) (tip_within d (inner c f r)) l)
    ∙ ap (λ z. container_after e (line_added e d) (goes_on c (is_bare c f r) z l) n g c (summary_within e d (inner c f r)) (summary (over e d before) (last_at (summary_within e d) (Holds c) (of_kind n g (Holds c) f r)) b m) l) (h.tips (inner c f r))
open_law {e = e} {d = d} h before n g k f r b m l (is_leaf w) v =
    let G = over e d before in
    let s = of_kind n g k f r in
    leaf_law h before s b m l (step (tip_within d) k f r l) w v (step_leaf (tip_within d) k f r l w)
    ∙ ap (λ z. leaf_after e (line_added e d) n g z (summary G (open_leaf n g (leaf_from k f r)) b m) l) (leaf_next (tip_within d) k f r l w v)
    ∙ ap (λ z. last_after e (line_added e d) z (summary G z b m) l) (sym (leaf_last (summary_within e d) k s w))

at_law : {e : EntityTable} {d : ℕ} (h : Laws e d) (before : List Stretch) (t : Tail) (b : Bool) (m : ℕ) (l : BlockLine) → TailMade t →
    summary_by e (groups_within e d) (summary_within e d) (add_at (tip_within d) (cut_of before t b m) l t)
    ≡ last_after e (line_added e d) (last_of e (groups_within e d) (summary_within e d) t) (summary (over e d before) (last_of e (groups_within e d) (summary_within e d) t) b m) l
unfolding add_at last_after last_of
at_law h before Empty b m l v = begin_law h (cut_of before Empty b m) l (is_blank_line l) v
at_law h before (Over s) b m l v = begin_law h (cut_of before (Over s) b m) l (is_blank_line l) v
at_law h before (Going s) b m l v = open_law h before s.begin s.gap s.kind s.first s.later b m l (sort_of s.kind) v

next : (e : EntityTable) (d : ℕ) → Laws e d → Laws e (suc d)
unfolding summary_within tip_within groups_within cut_from last_of closed summary_tip line_added grouped
next e d h = record {
  none = refl;
  tips = λ ls. of_tip h (cut_by (tip_within d) ls).tail (cut_made (tip_within d) no_lines ls tt);
  reads = λ ls. let c : Cut = cut_by (tip_within d) ls in of_groups h c.before c.tail;
  adds = λ ls l. let c : Cut = cut_by (tip_within d) ls in
      ap (λ (z : Cut). summary_by e (groups_within e d) (summary_within e d) z) (cut_from_append (tip_within d) no_lines ls (l ∷ []))
      ∙ at_law h c.before c.tail c.blank c.lines l (cut_made (tip_within d) no_lines ls tt);
}

zero_laws : (e : EntityTable) → Laws e zero
unfolding summary_within tip_within groups_within closed summary_tip line_added last_tip last_groups grouped
zero_laws e = record { none = refl; tips = λ ls. refl; reads = λ ls. refl; adds = λ ls l. refl }

-- What lines give, what is open at their end and the summary of one line more follow from their summary.
pub laws : (e : EntityTable) (d : ℕ) → Laws e d
laws e zero = zero_laws e
laws e (suc d) = next e d (laws e d)

-- ---- whether the next line begins a unit

not_takes : (b : Bool) (k : Kind) → is_stop (continues_if b k) ≡ not b
not_takes true k = refl
not_takes false k = refl

at_apart : {e : EntityTable} {d : ℕ} (h : Laws e d) (n : ℕ) (g : Bool) (k : Kind) (f : BlockLine) (r : List BlockLine) (l : BlockLine) → Sort k → IsMade k r →
    is_stop (step (tip_within d) k f r l) ≡ is_apart_after (last_at (summary_within e d) k (of_kind n g k f r)) l
unfolding is_apart_after last_at step
at_apart {d = d} h n g (Holds c) f r l is_container v =
    not_takes (goes_on c (is_bare c f r) (tip_within d (inner c f r)) l) (Holds c)
    ∙ ap (λ z. not (goes_on c (is_bare c f r) z l)) (h.tips (inner c f r))
at_apart {e = e} {d = d} h n g k f r l (is_leaf w) v =
    next_parts f (r ++ l ∷ []) (step (tip_within d) k f r l)
    ∙ ap is_parted (leaf_next (tip_within d) k f r l w v)
    ∙ ap (λ z. is_apart_after z l) (sym (leaf_last (summary_within e d) k (of_kind n g k f r) w))

pub of_apart : {e : EntityTable} {d : ℕ} (h : Laws e d) (t : Tail) (l : BlockLine) → TailMade t →
    is_apart (tip_within d) t l ≡ is_apart_after (last_of e (groups_within e d) (summary_within e d) t) l
unfolding is_apart last_of is_apart_after
of_apart h Empty l v = refl
of_apart h (Over s) l v = refl
of_apart h (Going s) l v = at_apart h s.begin s.gap s.kind s.first s.later l (sort_of s.kind) v

at_mark : (S : List BlockLine → Summary) (k : Kind) (s : Stretch) → list_mark k ≡ mark_of (last_at S k s)
unfolding mark_of last_at
at_mark S (Holds c) s = refl
at_mark S Paragraph s = refl
at_mark S (SetextHeading level) s = refl
at_mark S (Table above) s = refl
at_mark S (AtxHeading level content) s = refl
at_mark S ThematicBreak s = refl
at_mark S (FencedCode i u v info c) s = refl
at_mark S IndentedCode s = refl
at_mark S (HtmlBlock kind) s = refl

pub tail_marked : (e : EntityTable) (d : ℕ) (t : Tail) → tail_mark t ≡ mark_of (last_of e (groups_within e d) (summary_within e d) t)
unfolding last_of mark_of
tail_marked e d Empty = refl
tail_marked e d (Over s) = sym (mark_of_part e (groups_within e d) s.kind s.first s.later)
tail_marked e d (Going s) = at_mark (summary_within e d) s.kind s

-- Whether a line begins a unit follows from the summary of those before it.
pub begins_law : (e : EntityTable) (d : ℕ) (xs : List BlockLine) (l : BlockLine) →
    begins_behind (tip_within d) (cut_by (tip_within d) xs) l ≡ begins_after (summary_within e (suc d) xs) l
unfolding begins_behind begins_after summary_within
begins_law e d xs l =
    let t = (cut_by (tip_within d) xs).tail in
    let last = last_of e (groups_within e d) (summary_within e d) t in
    ap (λ z. z && not (is_blank_line l) && not (same_mark (tail_mark t) (list_mark (begun l)))) (of_apart (laws e d) t l (cut_made (tip_within d) no_lines xs tt))
    ∙ ap (λ z. is_apart_after last l && not (is_blank_line l) && not (same_mark z (list_mark (begun l)))) (tail_marked e d t)
