-- Units before a line that begins one, and from it on.
use Rattle.std.proofs.Common.{◌≡◌, ℕ, suc, ◌+◌, Bool, true, false, not, ◌&&◌, List, [], ◌∷◌, ◌++◌, length, map, Option, Some, None, refl, sym, ◌∙◌, ap, arith}
use Rattle.std.proofs.lemmas.List.{map-append}
use Rattle.mdtext.specs.EntityTable.{EntityTable}
use Rattle.blockspec.specs.BlockLine.{BlockLine}
use Rattle.blockspec.specs.BlankLines.{is_blank_line}
use Rattle.blockspec.specs.BlockKinds.{Quote, Item, Kind, Paragraph, SetextHeading, Table, AtxHeading, ThematicBreak, FencedCode, IndentedCode, HtmlBlock, Holds}
use Rattle.blockspec.specs.BlockStart.{begun}
use Rattle.blockspec.specs.BlockTree.{ListKind}
use Rattle.blockspec.specs.BlockUnits.{container_part, part_at, group_of, groups_within, found_units}
use Rattle.blockspec.specs.Laziness.{Tip}
use Rattle.blockspec.specs.Lists.{Part, Leaves, Quoted, Listed, Group, grouped}
use Rattle.blockspec.specs.Stretches.{Stretch, Step, Continues, IsLastLine, IsOverBefore, continues_if, fence_step, html_step, interrupted, paragraph_step, step, is_single, Tail, Empty, Going, Over, Cut, no_lines, all_of, stretches, ended, gap_behind, first_of, tail_of, begin_where, grown, after_step, add_at, add, cut_from, cut_by, tip_within}
use Rattle.blockspec.specs.LineSummary.{part_mark}
use Rattle.blockspec.specs.UnitBegin.{is_apart, list_mark, same_mark, tail_mark, begins_behind, shift_found}
use Rattle.blockspec.specs.UnitTree.{FoundUnit}
use Rattle.blockspec.proofs.CutLaws.{cut_from_append, all_of_prepend, shift, shift_all, moved, stretches_moved, meets}
use Rattle.blockspec.specs.Meetings.{shift_group, shift_groups}
use Rattle.blockspec.proofs.GroupLaws.{joins, grouped_first, grouped_append, grouped_shift, found_append, found_shift}

pub joins_marks : (p q : Part) → joins p q ≡ same_mark (part_mark p) (part_mark q)
joins_marks (Leaves leaves) q = refl
joins_marks (Quoted nodes) q = refl
joins_marks (Listed kind t items) (Leaves leaves) = refl
joins_marks (Listed kind t items) (Quoted nodes) = refl
joins_marks (Listed kind t items) (Listed other t' items') = refl

pub mark_of_part : (e : EntityTable) (R : List BlockLine → List Group) (k : Kind) (f : BlockLine) (r : List BlockLine) → part_mark (part_at e R k f r) ≡ list_mark k
unfolding container_part
mark_of_part e R (Holds (Item marker needed)) f r = refl
mark_of_part e R (Holds Quote) f r = refl
mark_of_part e R Paragraph f r = refl
mark_of_part e R (SetextHeading level) f r = refl
mark_of_part e R (Table above) f r = refl
mark_of_part e R (AtxHeading level content) f r = refl
mark_of_part e R ThematicBreak f r = refl
mark_of_part e R (FencedCode indentation mark length info closed) f r = refl
mark_of_part e R IndentedCode f r = refl
mark_of_part e R (HtmlBlock kind) f r = refl

-- ---- an item stays one

abbrev pub keeps : Option ListKind → Step → Type 0
keeps m (Continues kind) = list_mark kind ≡ m
keeps m (IsLastLine kind) = list_mark kind ≡ m
keeps m IsOverBefore = Unit {0}

takes_keeps : (b : Bool) (k : Kind) → keeps (list_mark k) (continues_if b k)
takes_keeps true k = refl
takes_keeps false k = tt

fence_keeps : (b : Bool) (indentation mark n : ℕ) (info : List ℕ) → keeps None (fence_step b (FencedCode indentation mark n info))
fence_keeps true indentation mark n info = refl
fence_keeps false indentation mark n info = refl

html_keeps : (blank ends : Bool) (kind : ℕ) → keeps None (html_step blank ends kind)
html_keeps true ends kind = takes_keeps _ (HtmlBlock kind)
html_keeps false true kind = refl
html_keeps false false kind = refl

interrupted_keeps : (k : Option Kind) → keeps None (interrupted k)
interrupted_keeps None = refl
interrupted_keeps (Some (SetextHeading level)) = refl
interrupted_keeps (Some (Table above)) = refl
interrupted_keeps (Some (Holds container)) = tt
interrupted_keeps (Some Paragraph) = tt
interrupted_keeps (Some (AtxHeading level content)) = tt
interrupted_keeps (Some ThematicBreak) = tt
interrupted_keeps (Some (FencedCode indentation mark length info closed)) = tt
interrupted_keeps (Some IndentedCode) = tt
interrupted_keeps (Some (HtmlBlock kind)) = tt

paragraph_keeps : (lazy blank : Bool) (k : Option Kind) → keeps None (paragraph_step lazy blank k)
paragraph_keeps true blank k = refl
paragraph_keeps false true k = tt
paragraph_keeps false false k = interrupted_keeps k

pub step_keeps : (T : List BlockLine → Tip) (k : Kind) (f : BlockLine) (r : List BlockLine) (l : BlockLine) → keeps (list_mark k) (step T k f r l)
unfolding step
step_keeps T (Holds container) f r l = takes_keeps _ (Holds container)
step_keeps T (FencedCode indentation mark n info closed) f r l = fence_keeps _ indentation mark n info
step_keeps T (HtmlBlock kind) f r l = html_keeps _ _ kind
step_keeps T Paragraph f r l = paragraph_keeps _ _ _
step_keeps T (Table above) f r l = takes_keeps _ (Table above)
step_keeps T IndentedCode f r l = takes_keeps _ IndentedCode
step_keeps T (SetextHeading level) f r l = tt
step_keeps T (AtxHeading level content) f r l = tt
step_keeps T ThematicBreak f r l = tt

-- ---- the first block of some lines

abbrev pub head_begin : List Stretch → ℕ
head_begin [] = 0
head_begin (s ∷ ss) = s.begin

abbrev pub head_mark : List Stretch → Option (Option ListKind)
head_mark [] = None
head_mark (s ∷ ss) = Some (list_mark s.kind)

-- a first block that begins with the first line, and is an item of this list or none
abbrev pub IsHeadedBy : Option ListKind → List Stretch → Type 0
IsHeadedBy m ss = (head_begin ss ≡ 0) × (head_mark ss ≡ Some m)

headed_push : (m : Option ListKind) (ss xs : List Stretch) → IsHeadedBy m ss → IsHeadedBy m (ss ++ xs)
headed_push m [] xs w = absurd (let e : None ≡ Some m = w.1 in let x : ⊥ = cc in x)
headed_push m (s ∷ ss) xs w = w

ended_headed : (m : Option ListKind) (before : List Stretch) (t : Tail) → IsHeadedBy m (all_of before t) → IsHeadedBy m (all_of before (ended t))
unfolding all_of
ended_headed m before Empty w = w
ended_headed m before (Going s) w = w
ended_headed m before (Over s) w = w

tail_headed : (m : Option ListKind) (before : List Stretch) (b : Bool) (s : Stretch) → IsHeadedBy m before → IsHeadedBy m (all_of before (tail_of b s))
unfolding all_of
tail_headed m before true s w = headed_push m before (s ∷ []) w
tail_headed m before false s w = headed_push m before (s ∷ []) w

begin_headed : (T : List BlockLine → Tip) (m : Option ListKind) (c : Cut) (l : BlockLine) (blank : Bool) → IsHeadedBy m (stretches c) → IsHeadedBy m (stretches (begin_where blank T c l))
unfolding begin_where
begin_headed T m c l true w = ended_headed m c.before c.tail w
begin_headed T m c l false w = tail_headed m (stretches c) _ _ w

grown_headed : (m : Option ListKind) (before : List Stretch) (s : Stretch) (k : Kind) (l : BlockLine) → list_mark k ≡ list_mark s.kind →
    IsHeadedBy m (before ++ s ∷ []) → IsHeadedBy m (before ++ grown s k l ∷ [])
grown_headed m [] s k l e w = (w.0, ap (λ (z : Option ListKind). Some z) e ∙ w.1)
grown_headed m (o ∷ os) s k l e w = w

step_headed : (T : List BlockLine → Tip) (m : Option ListKind) (c : Cut) (s : Stretch) (l : BlockLine) (st : Step) → keeps (list_mark s.kind) st →
    IsHeadedBy m (c.before ++ s ∷ []) → IsHeadedBy m (stretches c) → IsHeadedBy m (stretches (after_step T c s l st))
unfolding after_step all_of
step_headed T m c s l (Continues kind) k w w' = grown_headed m c.before s kind l k w
step_headed T m c s l (IsLastLine kind) k w w' = grown_headed m c.before s kind l k w
step_headed T m c s l IsOverBefore k w w' = begin_headed T m c l (is_blank_line l) w'

add_headed : (T : List BlockLine → Tip) (m : Option ListKind) (before : List Stretch) (t : Tail) (b : Bool) (n : ℕ) (l : BlockLine) → IsHeadedBy m (all_of before t) →
    IsHeadedBy m (stretches (add_at T (record { before = before; tail = t; blank = b; lines = n }) l t))
unfolding add_at all_of
add_headed T m before Empty b n l w = begin_headed T m (record { before = before; tail = Empty; blank = b; lines = n }) l (is_blank_line l) w
add_headed T m before (Over s) b n l w = begin_headed T m (record { before = before; tail = Over s; blank = b; lines = n }) l (is_blank_line l) w
add_headed T m before (Going s) b n l w =
    step_headed T m (record { before = before; tail = Going s; blank = b; lines = n }) s l (step T s.kind s.first s.later l) (step_keeps T s.kind s.first s.later l) w w

cut_headed : (T : List BlockLine → Tip) (m : Option ListKind) (c : Cut) (xs : List BlockLine) → IsHeadedBy m (stretches c) → IsHeadedBy m (stretches (cut_from T c xs))
unfolding cut_from
cut_headed T m c [] w = w
cut_headed T m c (x ∷ xs) w = cut_headed T m (add T c x) xs (add_headed T m c.before c.tail c.blank c.lines x w)

one_headed : (b : Bool) (l : BlockLine) → IsHeadedBy (list_mark (begun l)) (all_of [] (tail_of b (first_of 0 false l)))
unfolding all_of
one_headed true l = (refl, refl)
one_headed false l = (refl, refl)

-- the first of some lines that begins a block
pub first_headed : (T : List BlockLine → Tip) (l : BlockLine) (xs : List BlockLine) → is_blank_line l ≡ false → IsHeadedBy (list_mark (begun l)) (stretches (cut_by T (l ∷ xs)))
unfolding cut_from add_at begin_where all_of
first_headed T l xs e =
    let f : add T no_lines l ≡ record { before = []; tail = tail_of (is_single (begun l) l) (first_of 0 false l); blank = false; lines = 1 } =
    ap (λ z. begin_where z T no_lines l) e in
    cut_headed T (list_mark (begun l)) (add T no_lines l) xs (rw f (one_headed (is_single (begun l) l) l))

-- ---- what a cut is

-- where there is no last block there is none before it
abbrev pub IsWhole : List Stretch → Tail → Type 0
IsWhole before Empty = before ≡ []
IsWhole before (Going s) = Unit {0}
IsWhole before (Over s) = Unit {0}

tail_whole : (before : List Stretch) (b : Bool) (s : Stretch) → IsWhole before (tail_of b s)
tail_whole before true s = tt
tail_whole before false s = tt

ended_whole : (before : List Stretch) (t : Tail) → IsWhole before t → IsWhole before (ended t)
ended_whole before Empty w = w
ended_whole before (Going s) w = tt
ended_whole before (Over s) w = tt

begin_whole : (T : List BlockLine → Tip) (c : Cut) (l : BlockLine) (blank : Bool) → IsWhole c.before c.tail →
    IsWhole (begin_where blank T c l).before (begin_where blank T c l).tail
unfolding begin_where
begin_whole T c l true w = ended_whole c.before c.tail w
begin_whole T c l false w = tail_whole (stretches c) _ _

step_whole : (T : List BlockLine → Tip) (c : Cut) (s : Stretch) (l : BlockLine) (st : Step) → IsWhole c.before c.tail →
    IsWhole (after_step T c s l st).before (after_step T c s l st).tail
unfolding after_step
step_whole T c s l (Continues kind) w = tt
step_whole T c s l (IsLastLine kind) w = tt
step_whole T c s l IsOverBefore w = begin_whole T c l (is_blank_line l) w

add_whole : (T : List BlockLine → Tip) (c : Cut) (l : BlockLine) (t : Tail) → IsWhole c.before c.tail → IsWhole (add_at T c l t).before (add_at T c l t).tail
unfolding add_at
add_whole T c l Empty w = begin_whole T c l (is_blank_line l) w
add_whole T c l (Over s) w = begin_whole T c l (is_blank_line l) w
add_whole T c l (Going s) w = step_whole T c s l (step T s.kind s.first s.later l) w

pub cut_whole : (T : List BlockLine → Tip) (c : Cut) (xs : List BlockLine) → IsWhole c.before c.tail → IsWhole (cut_from T c xs).before (cut_from T c xs).tail
unfolding cut_from
cut_whole T c [] w = w
cut_whole T c (x ∷ xs) w = cut_whole T (add T c x) xs (add_whole T c x c.tail w)

-- how many lines a cut is of
begin_lines : (T : List BlockLine → Tip) (c : Cut) (l : BlockLine) (blank : Bool) → (begin_where blank T c l).lines ≡ suc c.lines
unfolding begin_where
begin_lines T c l true = refl
begin_lines T c l false = refl

step_lines : (T : List BlockLine → Tip) (c : Cut) (s : Stretch) (l : BlockLine) (st : Step) → (after_step T c s l st).lines ≡ suc c.lines
unfolding after_step
step_lines T c s l (Continues kind) = refl
step_lines T c s l (IsLastLine kind) = refl
step_lines T c s l IsOverBefore = begin_lines T c l (is_blank_line l)

pub add_lines : (T : List BlockLine → Tip) (c : Cut) (l : BlockLine) (t : Tail) → (add_at T c l t).lines ≡ suc c.lines
unfolding add_at
add_lines T c l Empty = begin_lines T c l (is_blank_line l)
add_lines T c l (Over s) = begin_lines T c l (is_blank_line l)
add_lines T c l (Going s) = step_lines T c s l (step T s.kind s.first s.later l)

pub cut_lines : (T : List BlockLine → Tip) (c : Cut) (xs : List BlockLine) → (cut_from T c xs).lines ≡ c.lines + length xs
unfolding cut_from
cut_lines T c [] = let e : c.lines ≡ c.lines + 0 = omega arith in e
cut_lines T c (x ∷ xs) =
    let a = cut_lines T (add T c x) xs in
    let b = add_lines T c x c.tail in
    let e : suc c.lines + length xs ≡ c.lines + suc (length xs) = omega arith in
    a ∙ ap (λ z. z + length xs) b ∙ e

-- ---- units

abbrev pub units_within : EntityTable → (depth : ℕ) → List BlockLine → List FoundUnit
units_within e depth ls = found_units (groups_within e depth ls) (length ls)

group_map : (e : EntityTable) (R : List BlockLine → List Group) (k : ℕ) (ss : List Stretch) → map (group_of e R) (map (shift k) ss) ≡ map (shift_group k) (map (group_of e R) ss)
group_map e R k [] = refl
group_map e R k (s ∷ ss) = ap (λ z. shift_group k (group_of e R s) ∷ z) (group_map e R k ss)

pub group_shift : (e : EntityTable) (R : List BlockLine → List Group) (g : Bool) (k : ℕ) (ss : List Stretch) →
    map (group_of e R) (shift_all g k ss) ≡ shift_groups g k (map (group_of e R) ss)
group_shift e R g k [] = refl
group_shift e R g k (s ∷ ss) = ap (λ z. record { begin = s.begin + k; gap = g; part = part_at e R s.kind s.first s.later } ∷ z) (group_map e R k ss)

-- groups in front, and groups that begin with the line behind them
units_parted : (gs : List Group) (g h : Group) (hs : List Group) (gap : Bool) (n m total : ℕ) → joins g.part h.part ≡ false → h.begin ≡ 0 → total ≡ m + n →
    found_units (grouped ((gs ++ g ∷ []) ++ shift_groups gap n (h ∷ hs))) total
    ≡ found_units (grouped (gs ++ g ∷ [])) n ++ map (shift_found n) (found_units (grouped (h ∷ hs)) m)
units_parted gs g h hs gap n m total e b t =
    let f = grouped_first h hs in
    let front = grouped (gs ++ g ∷ []) in
    let zero_more : 0 + n ≡ n = omega arith in
    let begin_is : f.first.begin + n ≡ n = ap (λ z. z + n) (f.begins ∙ b) ∙ zero_more in
    ap (λ z. found_units z total) (grouped_append gs g (record { begin = h.begin + n; gap = gap; part = h.part }) (map (shift_group n) hs) e)
    ∙ ap (λ z. found_units (front ++ z) total) (grouped_shift gap n (h ∷ hs))
    ∙ ap (λ z. found_units (front ++ shift_groups gap n z) total) f.is
    ∙ found_append front (record { begin = f.first.begin + n; gap = gap; part = f.first.part }) (map (shift_group n) f.rest) total
    ∙ ap (λ z. found_units front z ++ found_units (shift_groups gap n (f.first ∷ f.rest)) total) begin_is
    ∙ ap (λ z. found_units front n ++ found_units (shift_groups gap n (f.first ∷ f.rest)) z) t
    ∙ ap (λ z. found_units front n ++ z) (found_shift gap n (f.first ∷ f.rest) m)
    ∙ ap (λ z. found_units front n ++ map (shift_found n) (found_units z m)) (sym f.is)

the_mark : Option (Option ListKind) → Option ListKind
the_mark None = None
the_mark (Some m) = m

marks_apart : (e : EntityTable) (R : List BlockLine → List Group) (s r : Stretch) (m : Option ListKind) → Some (list_mark r.kind) ≡ Some m → same_mark (list_mark s.kind) m ≡ false →
    joins (group_of e R s).part (group_of e R r).part ≡ false
unfolding the_mark
marks_apart e R s r m f g =
    joins_marks (group_of e R s).part (group_of e R r).part
    ∙ ap (λ z. same_mark z (part_mark (group_of e R r).part)) (mark_of_part e R s.kind s.first s.later)
    ∙ ap (λ z. same_mark (list_mark s.kind) z) (mark_of_part e R r.kind r.first r.later ∙ ap the_mark f)
    ∙ g

-- a last block, and the blocks behind it
behind_last : (e : EntityTable) (R : List BlockLine → List Group) (before : List Stretch) (s : Stretch) (ss : List Stretch) (m : Option ListKind) (gap : Bool) (n M total : ℕ) →
    IsHeadedBy m ss → same_mark (list_mark s.kind) m ≡ false → total ≡ M + n →
    found_units (grouped (map (group_of e R) ((before ++ s ∷ []) ++ shift_all gap n ss))) total
    ≡ found_units (grouped (map (group_of e R) (before ++ s ∷ []))) n ++ map (shift_found n) (found_units (grouped (map (group_of e R) ss)) M)
behind_last e R before s [] m gap n M total w f t = absurd (let q : None ≡ Some m = w.1 in let x : ⊥ = cc in x)
behind_last e R before s (r ∷ rs) m gap n M total w f t =
    let G = group_of e R in
    let front : map G (before ++ s ∷ []) ≡ map G before ++ G s ∷ [] = map-append G before (s ∷ []) in
    let whole : map G ((before ++ s ∷ []) ++ shift_all gap n (r ∷ rs)) ≡ (map G before ++ G s ∷ []) ++ shift_groups gap n (G r ∷ map G rs) =
    map-append G (before ++ s ∷ []) (shift_all gap n (r ∷ rs))
    ∙ ap (λ z. z ++ map G (shift_all gap n (r ∷ rs))) front
    ∙ ap (λ z. (map G before ++ G s ∷ []) ++ z) (group_shift e R gap n (r ∷ rs)) in
    ap (λ z. found_units (grouped z) total) whole
    ∙ units_parted (map G before) (G s) (G r) (map G rs) gap n M total (marks_apart e R s r m w.1 f) w.0 t
    ∙ ap (λ z. found_units (grouped z) n ++ map (shift_found n) (found_units (grouped (G r ∷ map G rs)) M)) (sym front)

behind_none : (e : EntityTable) (R : List BlockLine → List Group) (before ss : List Stretch) (gap : Bool) (n M total : ℕ) → before ≡ [] → total ≡ M + n →
    found_units (grouped (map (group_of e R) (before ++ shift_all gap n ss))) total
    ≡ found_units (grouped (map (group_of e R) before)) n ++ map (shift_found n) (found_units (grouped (map (group_of e R) ss)) M)
unfolding grouped found_units
behind_none e R before ss gap n M total w t =
    let G = group_of e R in
    ap (λ z. found_units (grouped (map G (z ++ shift_all gap n ss))) total) w
    ∙ ap (λ z. found_units (grouped z) total) (group_shift e R gap n ss)
    ∙ ap (λ z. found_units z total) (grouped_shift gap n (map G ss))
    ∙ ap (λ z. found_units (shift_groups gap n (grouped (map G ss))) z) t
    ∙ found_shift gap n (grouped (map G ss)) M
    ∙ ap (λ z. found_units (grouped (map G z)) n ++ map (shift_found n) (found_units (grouped (map G ss)) M)) (sym w)

behind : (e : EntityTable) (R : List BlockLine → List Group) (before : List Stretch) (t : Tail) (ss : List Stretch) (m : Option ListKind) (gap : Bool) (n M total : ℕ) →
    IsWhole before t → IsHeadedBy m ss → same_mark (tail_mark t) m ≡ false → total ≡ M + n →
    found_units (grouped (map (group_of e R) (all_of before t ++ shift_all gap n ss))) total
    ≡ found_units (grouped (map (group_of e R) (all_of before t))) n ++ map (shift_found n) (found_units (grouped (map (group_of e R) ss)) M)
unfolding all_of
behind e R before Empty ss m gap n M total w v f t = behind_none e R before ss gap n M total w t
behind e R before (Going s) ss m gap n M total w v f t = behind_last e R before s ss m gap n M total v f t
behind e R before (Over s) ss m gap n M total w v f t = behind_last e R before s ss m gap n M total v f t

pub both_lengths : {A : Type 0} (xs ys : List A) → length (xs ++ ys) ≡ length ys + length xs
both_lengths [] ys = let e : length ys ≡ length ys + 0 = omega arith in e
both_lengths (x ∷ xs) ys =
    let a = both_lengths xs ys in
    let e : suc (length ys + length xs) ≡ length ys + suc (length xs) = omega arith in
    ap (λ z. suc z) a ∙ e

pub three_facts : (a b c : Bool) → (a && not b && not c) ≡ true → (a ≡ true) × (b ≡ false) × (c ≡ false)
three_facts true false false e = (refl, refl, refl)
three_facts true false true e = absurd (let x : ⊥ = cc in x)
three_facts true true c e = absurd (let x : ⊥ = cc in x)
three_facts false b c e = absurd (let x : ⊥ = cc in x)

-- Where a line goes on with no block, the stretches from it on are those of the lines from it on alone, so many lines further on.
pub stretches_meet : (T : List BlockLine → Tip) (xs : List BlockLine) (l : BlockLine) (ys : List BlockLine) → is_apart T (cut_by T xs).tail l ≡ true → is_blank_line l ≡ false →
    stretches (cut_by T (xs ++ l ∷ ys)) ≡ stretches (cut_by T xs) ++ shift_all (gap_behind T (cut_by T xs)) (length xs) (stretches (cut_by T (l ∷ ys)))
stretches_meet T xs l ys a b =
    let c : Cut = cut_by T xs in
    let c' : Cut = cut_by T (l ∷ ys) in
    let gap = gap_behind T c in
    let n : c.lines ≡ length xs = cut_lines T no_lines xs ∙ (let z : 0 + length xs ≡ length xs = omega arith in z) in
    ap (λ (z : Cut). stretches z) (cut_from_append T no_lines xs (l ∷ ys) ∙ meets T c l ys a b)
    ∙ all_of_prepend (stretches c) (moved gap c.lines c').before (moved gap c.lines c').tail
    ∙ ap (λ z. stretches c ++ z) (stretches_moved gap c.lines c'.before c'.tail c'.blank c'.lines)
    ∙ ap (λ k. stretches c ++ shift_all gap k (stretches c')) n

-- Where a line begins a unit, the units before it are those of the lines before it alone, and from it on they are those
-- of the lines from it on alone, so many lines further on.
pub units_split : (e : EntityTable) (d : ℕ) (xs : List BlockLine) (l : BlockLine) (ys : List BlockLine) →
    begins_behind (tip_within d) (cut_by (tip_within d) xs) l ≡ true →
    units_within e (suc d) (xs ++ l ∷ ys) ≡ units_within e (suc d) xs ++ map (shift_found (length xs)) (units_within e (suc d) (l ∷ ys))
unfolding groups_within begins_behind
units_split e d xs l ys b =
    let T = tip_within d in
    let w = three_facts (is_apart T (cut_by T xs).tail l) (is_blank_line l) (same_mark (tail_mark (cut_by T xs).tail) (list_mark (begun l))) b in
    let G = group_of e (groups_within e d) in
    let c : Cut = cut_by T xs in
    let c' : Cut = cut_by T (l ∷ ys) in
    let gap = gap_behind T c in
    let total = length (xs ++ l ∷ ys) in
    ap (λ z. found_units (grouped (map G z)) total) (stretches_meet T xs l ys w.0 w.1)
    ∙ behind e (groups_within e d) c.before c.tail (stretches c') (list_mark (begun l)) gap (length xs) (length (l ∷ ys)) total
    (cut_whole T no_lines xs refl) (first_headed T l ys w.1) w.2 (both_lengths xs (l ∷ ys))
