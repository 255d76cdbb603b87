-- The first line of a container too many, as lines come one after the other.
use Rattle.std.proofs.Common.{◌≡◌, ℕ, zero, suc, ◌+◌, ◌≤◌, ◌<◌, Bool, true, false, List, [], ◌∷◌, ◌++◌, length, map, Option, Some, None, refl, sym, ◌∙◌, ap, subst, append_assoc, arith}
use Rattle.std.proofs.lemmas.List.{map-append, append-nil, length-append, length-map}
use Rattle.std.specs.Option.{option_or, option_map}
use Rattle.std.specs.Prelude.{if◌then◌else◌, unwrap_or}
use Rattle.mdtext.specs.EntityTable.{EntityTable, usual_table}
use Rattle.blockspec.specs.BlockLine.{BlockLine, document_line}
use Rattle.blockspec.specs.BlankLines.{is_blank_line}
use Rattle.blockspec.specs.BlockKinds.{Free, Container, Kind, Paragraph, SetextHeading, Table, AtxHeading, ThematicBreak, FencedCode, IndentedCode, HtmlBlock, Holds}
use Rattle.blockspec.specs.BlockStart.{start_where, start, begun}
use Rattle.blockspec.specs.BlockUnits.{visible, visible_in, groups_within}
use Rattle.blockspec.specs.ContainerLines.{opened, inside, inner, is_bare}
use Rattle.blockspec.specs.Laziness.{Tip}
use Rattle.blockspec.specs.LineSummary.{Summary, no_summary, last_at, last_of, summary_within, is_apart_after}
use Rattle.blockspec.specs.Lists.{grouped}
use Rattle.blockspec.specs.Nesting.{deep_at, first_deep, deep_within, first_too_deep}
use Rattle.blockspec.specs.Stretches.{Stretch, Step, Continues, IsLastLine, IsOverBefore, continues_if, goes_on, step, is_single, Tail, Empty, Going, Over, Cut, no_lines, all_of, stretches, ended, gap_behind, first_of, tail_of, begin_where, grown, after_step, add_at, add, cut_from, cut_by, tip_within, cut_within}
use Rattle.blockspec.specs.SummaryDepth.{sinks_first, sinks_later, sinks_at, sinks_by, sinks}
use Rattle.blockspec.specs.UnitBegin.{is_stop, is_apart}
use Rattle.blockspec.proofs.CutLaws.{cut_from_append, apart_begins}
use Rattle.blockspec.proofs.DepthLaws.{IsMarked, AreLight, TailLight, room_left, all_light, cut_light, cut_light_before, none_light, cut_deep}
use Rattle.blockspec.proofs.LeafSteps.{IsLeaf, Sort, is_container, is_leaf, sort_of, LeafStep, step_leaf, cut_made}
use Rattle.blockspec.proofs.SummaryLaws.{leaf_last, inner_push, of_apart, laws}
use Rattle.blockspec.proofs.UnitLaws.{cut_lines}
use Rattle.blockspec.proofs.VisibleLaws.{inner_visible, visible_append, HasWidth, begun_width}

-- ---- the first of some that are there

none_of_or : (o : Option ℕ) → option_or o None ≡ o
none_of_or None = refl
none_of_or (Some n) = refl

pub or_associates : (a b c : Option ℕ) → option_or (option_or a b) c ≡ option_or a (option_or b c)
or_associates None b c = refl
or_associates (Some n) b c = refl

abbrev pub moved_on : ℕ → Option ℕ → Option ℕ
moved_on n o = option_map (λ line. n + line) o

pub or_moved : (n : ℕ) (a b : Option ℕ) → moved_on n (option_or a b) ≡ option_or (moved_on n a) (moved_on n b)
or_moved n None b = refl
or_moved n (Some m) b = refl

-- a line, where it is there
abbrev pub line_if : Bool → ℕ → Option ℕ
line_if b n = if b then Some n else None

if_moved : (n m k : ℕ) (b : Bool) → n + m ≡ k → moved_on n (line_if b m) ≡ line_if b k
if_moved n m k true e = ap (λ z. Some z) e
if_moved n m k false e = refl

-- ---- blocks one after the other

abbrev pub stretch_deep : (List BlockLine → Option ℕ) → Stretch → Option ℕ
stretch_deep D s = moved_on s.begin (deep_at D s.kind s.first s.later)

pub push_deep : (D : List BlockLine → Option ℕ) (ss : List Stretch) (s : Stretch) → first_deep D (ss ++ s ∷ []) ≡ option_or (first_deep D ss) (stretch_deep D s)
unfolding first_deep
push_deep D [] s = none_of_or (stretch_deep D s)
push_deep D (x ∷ ss) s = ap (λ z. option_or (stretch_deep D x) z) (push_deep D ss s) ∙ sym (or_associates (stretch_deep D x) (first_deep D ss) (stretch_deep D s))

single_deep : (D : List BlockLine → Option ℕ) (ss : List Stretch) (b : Bool) (s : Stretch) → first_deep D (all_of ss (tail_of b s)) ≡ option_or (first_deep D ss) (stretch_deep D s)
unfolding all_of
single_deep D ss true s = push_deep D ss s
single_deep D ss false s = push_deep D ss s

ended_all : (before : List Stretch) (t : Tail) → all_of before (ended t) ≡ all_of before t
unfolding all_of
ended_all before Empty = refl
ended_all before (Going s) = refl
ended_all before (Over s) = refl

leaf_deep : (D : List BlockLine → Option ℕ) (k : Kind) (f : BlockLine) (r : List BlockLine) → IsLeaf k → deep_at D k f r ≡ None
leaf_deep D (Holds container) f r w = absurd w
leaf_deep D Paragraph f r w = refl
leaf_deep D (SetextHeading level) f r w = refl
leaf_deep D (Table above) f r w = refl
leaf_deep D (AtxHeading level content) f r w = refl
leaf_deep D ThematicBreak f r w = refl
leaf_deep D (FencedCode i m n info c) f r w = refl
leaf_deep D IndentedCode f r w = refl
leaf_deep D (HtmlBlock kind) f r w = refl

-- ---- what is known of the lines in containers

-- `D` tells the first line too deep of some lines, `later` whether one line more is it, `first` whether the first one is
record Sinking (D : List BlockLine → Option ℕ) (later : Summary → BlockLine → Bool) (first : BlockLine → Bool) (S : List BlockLine → Summary) (d : ℕ) : Type 0 where
  opens : (l : BlockLine) → visible_in (l ∷ []) < d → D (l ∷ []) ≡ line_if (first l) 0
  adds : (ls : List BlockLine) (l : BlockLine) → visible_in (ls ++ l ∷ []) < d → D (ls ++ l ∷ []) ≡ option_or (D ls) (line_if (later (S ls) l) (length ls))

kind_sinks : {D : List BlockLine → Option ℕ} {later : Summary → BlockLine → Bool} {first : BlockLine → Bool} {S : List BlockLine → Summary} {d : ℕ} (h : Sinking D later first S d)
    (k : Kind) (n : ℕ) (l : BlockLine) → is_blank_line l ≡ false → HasWidth k → visible_in (l ∷ []) ≤ d →
    moved_on n (deep_at D k l []) ≡ line_if (sinks_first first k l) n
unfolding sinks_first
kind_sinks {first = first} h (Holds c) n l e w v =
    let u = inner_visible c l [] e w in
    ap (λ z. moved_on n z) (h.opens (opened c l) (omega (arith, u, v))) ∙ if_moved n 0 n (first (opened c l)) (omega arith)
kind_sinks h Paragraph n l e w v = refl
kind_sinks h (SetextHeading level) n l e w v = refl
kind_sinks h (Table above) n l e w v = refl
kind_sinks h (AtxHeading level content) n l e w v = refl
kind_sinks h ThematicBreak n l e w v = refl
kind_sinks h (FencedCode i m k info c) n l e w v = refl
kind_sinks h IndentedCode n l e w v = refl
kind_sinks h (HtmlBlock kind) n l e w v = refl

-- a blank line begins no container
blank_sinks : (first : BlockLine → Bool) (l : BlockLine) → is_blank_line l ≡ true → sinks_first first (begun l) l ≡ false
unfolding sinks_first start
blank_sinks first l e = ap (λ z. sinks_first first (unwrap_or (start_where z Free [] l) Paragraph) l) e

begin_sinks : {D : List BlockLine → Option ℕ} {later : Summary → BlockLine → Bool} {first : BlockLine → Bool} {S : List BlockLine → Summary} {d : ℕ} (h : Sinking D later first S d)
    (T : List BlockLine → Tip) (c : Cut) (l : BlockLine) (blank : Bool) → is_blank_line l ≡ blank → visible_in (l ∷ []) ≤ d →
    first_deep D (stretches (begin_where blank T c l)) ≡ option_or (first_deep D (stretches c)) (line_if (sinks_first first (begun l) l) c.lines)
unfolding begin_where
begin_sinks {D = D} {first = first} h T c l true e v =
    ap (λ z. first_deep D z) (ended_all c.before c.tail)
    ∙ sym (none_of_or (first_deep D (stretches c)))
    ∙ ap (λ z. option_or (first_deep D (stretches c)) (line_if z c.lines)) (sym (blank_sinks first l e))
begin_sinks {D = D} {first = first} h T c l false e v =
    single_deep D (stretches c) (is_single (begun l) l) (first_of c.lines (gap_behind T c) l)
    ∙ ap (λ z. option_or (first_deep D (stretches c)) z) (kind_sinks h (begun l) c.lines l e (begun_width l) v)

-- ---- a line that goes on with the last block

abbrev cut_of : List Stretch → Tail → Bool → ℕ → Cut
cut_of before t b m = record { before = before; tail = t; blank = b; lines = m }

abbrev of_kind : ℕ → Bool → Kind → BlockLine → List BlockLine → Stretch
of_kind b g k f r = record { begin = b; gap = g; kind = k; first = f; later = r }

grown_deep : (D : List BlockLine → Option ℕ) (before : List Stretch) (s : Stretch) (k : Kind) (l : BlockLine) → IsLeaf s.kind → IsLeaf k →
    first_deep D (before ++ grown s k l ∷ []) ≡ first_deep D (before ++ s ∷ [])
grown_deep D before s k l w v =
    push_deep D before (grown s k l)
    ∙ ap (λ z. option_or (first_deep D before) (moved_on s.begin z)) (leaf_deep D k s.first (s.later ++ l ∷ []) v ∙ sym (leaf_deep D s.kind s.first s.later w))
    ∙ sym (push_deep D before s)

leaf_stays : (D : List BlockLine → Option ℕ) (T : List BlockLine → Tip) (before : List Stretch) (s : Stretch) (b : Bool) (m : ℕ) (l : BlockLine) (st : Step) → IsLeaf s.kind → LeafStep st → is_stop st ≡ false →
    first_deep D (stretches (after_step T (cut_of before (Going s) b m) s l st)) ≡ first_deep D (all_of before (Going s))
unfolding after_step all_of
leaf_stays D T before s b m l (Continues kind) w v e = grown_deep D before s kind l w v
leaf_stays D T before s b m l (IsLastLine kind) w v e = grown_deep D before s kind l w v
leaf_stays D T before s b m l IsOverBefore w v e = absurd (let x : ⊥ = cc in x)

container_stays : {D : List BlockLine → Option ℕ} {later : Summary → BlockLine → Bool} {first : BlockLine → Bool} {S : List BlockLine → Summary} {d : ℕ} (h : Sinking D later first S d)
    (T : List BlockLine → Tip) (before : List Stretch) (n : ℕ) (g : Bool) (c : Container) (f : BlockLine) (r : List BlockLine) (b : Bool) (m : ℕ) (l : BlockLine) (takes : Bool) →
    is_stop (continues_if takes (Holds c)) ≡ false → IsMarked (Holds c) f → visible_in (f ∷ r ++ l ∷ []) ≤ d → n + suc (length r) ≡ m →
    first_deep D (stretches (after_step T (cut_of before (Going (of_kind n g (Holds c) f r)) b m) (of_kind n g (Holds c) f r) l (continues_if takes (Holds c))))
    ≡ option_or (first_deep D (all_of before (Going (of_kind n g (Holds c) f r)))) (line_if (later (S (inner c f r)) (inside c l)) m)
unfolding after_step all_of
container_stays h T before n g c f r b m l false e w v q = absurd (let x : ⊥ = cc in x)
container_stays {D = D} {later = later} {S = S} {d = d} h T before n g c f r b m l true e w v q =
    let s = of_kind n g (Holds c) f r in
    let there = later (S (inner c f r)) (inside c l) in
    let u = inner_visible c f (r ++ l ∷ []) w.0 w.1 in
    let k : visible_in (inner c f r ++ inside c l ∷ []) < d = subst (λ z. visible_in z < d) (inner_push c f r l) (omega (arith, u, v)) in
    let p = length-map r (inside c) in
    let reach : n + length (inner c f r) ≡ m = omega (arith, p, q) in
    push_deep D before (grown s (Holds c) l)
    ∙ ap (λ z. option_or (first_deep D before) (moved_on n (D z))) (inner_push c f r l)
    ∙ ap (λ z. option_or (first_deep D before) (moved_on n z)) (h.adds (inner c f r) (inside c l) k)
    ∙ ap (λ z. option_or (first_deep D before) z) (or_moved n (D (inner c f r)) (line_if there (length (inner c f r))))
    ∙ ap (λ z. option_or (first_deep D before) (option_or (moved_on n (D (inner c f r))) z)) (if_moved n (length (inner c f r)) m there reach)
    ∙ sym (or_associates (first_deep D before) (moved_on n (D (inner c f r))) (line_if there m))
    ∙ ap (λ z. option_or z (line_if there m)) (sym (push_deep D before s))

leaf_sinks : (D : List BlockLine → Option ℕ) (later : Summary → BlockLine → Bool) (S : List BlockLine → Summary)
    (T : List BlockLine → Tip) (before : List Stretch) (s : Stretch) (b : Bool) (m : ℕ) (l : BlockLine) → IsLeaf s.kind →
    is_stop (step T s.kind s.first s.later l) ≡ false →
    first_deep D (stretches (after_step T (cut_of before (Going s) b m) s l (step T s.kind s.first s.later l)))
    ≡ option_or (first_deep D (all_of before (Going s))) (line_if (sinks_later later (last_at S s.kind s) l) m)
unfolding sinks_later
leaf_sinks D later S T before s b m l w e =
    leaf_stays D T before s b m l (step T s.kind s.first s.later l) w (step_leaf T s.kind s.first s.later l w) e
    ∙ sym (none_of_or (first_deep D (all_of before (Going s))))
    ∙ ap (λ z. option_or (first_deep D (all_of before (Going s))) (line_if (sinks_later later z l) m)) (sym (leaf_last S s.kind s w))

stay_sinks : {D : List BlockLine → Option ℕ} {later : Summary → BlockLine → Bool} {first : BlockLine → Bool} {S : List BlockLine → Summary} {d : ℕ} (h : Sinking D later first S d)
    (T : List BlockLine → Tip) (before : List Stretch) (n : ℕ) (g : Bool) (k : Kind) (f : BlockLine) (r : List BlockLine) (b : Bool) (m : ℕ) (l : BlockLine) → Sort k →
    is_stop (step T k f r l) ≡ false → IsMarked k f → visible_in (f ∷ r ++ l ∷ []) ≤ d → n + suc (length r) ≡ m →
    first_deep D (stretches (after_step T (cut_of before (Going (of_kind n g k f r)) b m) (of_kind n g k f r) l (step T k f r l)))
    ≡ option_or (first_deep D (all_of before (Going (of_kind n g k f r)))) (line_if (sinks_later later (last_at S k (of_kind n g k f r)) l) m)
unfolding sinks_later last_at step
stay_sinks h T before n g (Holds c) f r b m l is_container e w v q = container_stays h T before n g c f r b m l (goes_on c (is_bare c f r) (T (inner c f r)) l) e w v q
stay_sinks {D = D} {later = later} {S = S} h T before n g k f r b m l (is_leaf u) e w v q = leaf_sinks D later S T before (of_kind n g k f r) b m l u e

-- ---- a block that lines may go on with reaches to the last line

abbrev Reaches : Tail → ℕ → Type 0
Reaches Empty m = Unit {0}
Reaches (Going s) m = s.begin + suc (length s.later) ≡ m
Reaches (Over s) m = Unit {0}

ended_reaches : (t : Tail) (m : ℕ) → Reaches (ended t) m
ended_reaches Empty m = tt
ended_reaches (Going s) m = tt
ended_reaches (Over s) m = tt

single_reaches : (b : Bool) (m : ℕ) (g : Bool) (l : BlockLine) → Reaches (tail_of b (first_of m g l)) (suc m)
single_reaches true m g l = tt
single_reaches false m g l = let e : m + 1 ≡ suc m = omega arith in e

begin_reaches : (T : List BlockLine → Tip) (c : Cut) (l : BlockLine) (blank : Bool) → Reaches (begin_where blank T c l).tail (begin_where blank T c l).lines
unfolding begin_where
begin_reaches T c l true = ended_reaches c.tail (suc c.lines)
begin_reaches T c l false = single_reaches (is_single (begun l) l) c.lines (gap_behind T c) l

step_reaches : (T : List BlockLine → Tip) (c : Cut) (s : Stretch) (l : BlockLine) (st : Step) → Reaches (Going s) c.lines → Reaches (after_step T c s l st).tail (after_step T c s l st).lines
unfolding after_step
step_reaches T c s l (Continues kind) w = let p = length-append s.later (l ∷ []) in omega (arith, p, w)
step_reaches T c s l (IsLastLine kind) w = tt
step_reaches T c s l IsOverBefore w = begin_reaches T c l (is_blank_line l)

add_reaches : (T : List BlockLine → Tip) (c : Cut) (l : BlockLine) (t : Tail) → Reaches t c.lines → Reaches (add_at T c l t).tail (add_at T c l t).lines
unfolding add_at
add_reaches T c l Empty w = begin_reaches T c l (is_blank_line l)
add_reaches T c l (Over s) w = begin_reaches T c l (is_blank_line l)
add_reaches T c l (Going s) w = step_reaches T c s l (step T s.kind s.first s.later l) w

cut_reaches : (T : List BlockLine → Tip) (c : Cut) (xs : List BlockLine) → Reaches c.tail c.lines → Reaches (cut_from T c xs).tail (cut_from T c xs).lines
unfolding cut_from
cut_reaches T c [] w = w
cut_reaches T c (x ∷ xs) w = cut_reaches T (add T c x) xs (add_reaches T c x c.tail w)

-- ---- one line more

one_visible : (l : BlockLine) → visible_in (l ∷ []) ≡ visible l.line.text
unfolding visible_in
one_visible l = omega arith

going_sinks : {D : List BlockLine → Option ℕ} {later : Summary → BlockLine → Bool} {first : BlockLine → Bool} (e : EntityTable) (d : ℕ) (h : Sinking D later first (summary_within e d) d)
    (before : List Stretch) (t : Tail) (b : Bool) (m : ℕ) (l : BlockLine) → is_apart (tip_within d) t l ≡ false → TailLight d t (visible l.line.text) → Reaches t m →
    first_deep D (stretches (add_at (tip_within d) (cut_of before t b m) l t))
    ≡ option_or (first_deep D (all_of before t)) (line_if (sinks_later later (last_of e (groups_within e d) (summary_within e d) t) l) m)
unfolding is_apart add_at last_of
going_sinks e d h before Empty b m l a w q = absurd (let x : ⊥ = cc in x)
going_sinks e d h before (Over s) b m l a w q = absurd (let x : ⊥ = cc in x)
going_sinks e d h before (Going s) b m l a w q =
    let v = visible_append (s.first ∷ s.later) (l ∷ []) in
    let o = one_visible l in
    stay_sinks h (tip_within d) before s.begin s.gap s.kind s.first s.later b m l (sort_of s.kind) a w.0 (omega (arith, v, o, w.1)) q

add_sinks : {D : List BlockLine → Option ℕ} {later : Summary → BlockLine → Bool} {first : BlockLine → Bool} (e : EntityTable) (d : ℕ) (h : Sinking D later first (summary_within e d) d)
    (before : List Stretch) (t : Tail) (b : Bool) (m : ℕ) (l : BlockLine) (apart : Bool) → is_apart (tip_within d) t l ≡ apart → TailLight d t (visible l.line.text) → Reaches t m →
    first_deep D (stretches (add_at (tip_within d) (cut_of before t b m) l t))
    ≡ option_or (first_deep D (all_of before t)) (line_if (sinks_at later first apart (last_of e (groups_within e d) (summary_within e d) t) l) m)
unfolding sinks_at
add_sinks {D = D} e d h before t b m l true a w q =
    let o = one_visible l in
    let n = room_left d t (visible l.line.text) w in
    ap (λ (z : Cut). first_deep D (stretches z)) (apart_begins (tip_within d) (cut_of before t b m) l t a)
    ∙ begin_sinks h (tip_within d) (cut_of before t b m) l (is_blank_line l) refl (omega (arith, o, n))
add_sinks e d h before t b m l false a w q = going_sinks e d h before t b m l a w q

abbrev pub deep_in : (List BlockLine → Option ℕ) → (depth : ℕ) → List BlockLine → Option ℕ
deep_in D d ls = first_deep D (stretches (cut_within d ls))

next_adds : {D : List BlockLine → Option ℕ} {later : Summary → BlockLine → Bool} {first : BlockLine → Bool} (e : EntityTable) (d : ℕ) (h : Sinking D later first (summary_within e d) d)
    (ls : List BlockLine) (l : BlockLine) → visible_in (ls ++ l ∷ []) < suc d →
    deep_in D d (ls ++ l ∷ []) ≡ option_or (deep_in D d ls) (line_if (sinks_by later first (summary_within e (suc d) ls) l) (length ls))
unfolding sinks_by summary_within cut_from
next_adds {D = D} {later = later} {first = first} e d h ls l v =
    let T = tip_within d in
    let c : Cut = cut_by T ls in
    let last = last_of e (groups_within e d) (summary_within e d) c.tail in
    let a = visible_append ls (l ∷ []) in
    let o = one_visible l in
    let room : visible_in ls + visible l.line.text ≤ d = omega (arith, a, o, v) in
    let w = cut_light_before T d no_lines ls (visible l.line.text) (tt, room) in
    let n : c.lines ≡ length ls = cut_lines T no_lines ls ∙ (let z : 0 + length ls ≡ length ls = omega arith in z) in
    ap (λ (z : Cut). first_deep D (stretches z)) (cut_from_append T no_lines ls (l ∷ []))
    ∙ add_sinks e d h c.before c.tail c.blank c.lines l (is_apart T c.tail l) refl w.1 (cut_reaches T no_lines ls tt)
    ∙ ap (λ z. option_or (deep_in D d ls) (line_if (sinks_at later first z last l) c.lines)) (of_apart (laws e d) c.tail l (cut_made T no_lines ls tt))
    ∙ ap (λ z. option_or (deep_in D d ls) (line_if (sinks_at later first (is_apart_after last l) last l) z)) n

next : {D : List BlockLine → Option ℕ} {later : Summary → BlockLine → Bool} {first : BlockLine → Bool} (e : EntityTable) (d : ℕ) → Sinking D later first (summary_within e d) d →
    Sinking (deep_in D d) (sinks_by later first) (sinks_by later first no_summary) (summary_within e (suc d)) (suc d)
unfolding summary_within first_deep cut_from all_of last_of grouped
next e d h = record { opens = λ l v. next_adds e d h [] l v; adds = λ ls l v. next_adds e d h ls l v }

-- the first line too deep, where containers lie in one another at most so deep
unfoldable pub deep_to : (depth limit : ℕ) → List BlockLine → Option ℕ
deep_to zero limit ls = None
deep_to (suc d) zero ls = deep_in (λ inside. Some 0) d ls
deep_to (suc d) (suc limit) ls = deep_in (deep_to d limit) d ls

no_room : (D : List BlockLine → Option ℕ) (later : Summary → BlockLine → Bool) (first : BlockLine → Bool) (S : List BlockLine → Summary) → Sinking D later first S 0
no_room D later first S = record { opens = λ l v. absurd (omega (arith, v)); adds = λ ls l v. absurd (omega (arith, v)) }

outermost : (S : List BlockLine → Summary) (d : ℕ) → Sinking (λ inside. Some 0) (λ inner inside. false) (λ inside. true) S d
outermost S d = record { opens = λ l v. refl; adds = λ ls l v. refl }

sinking : (e : EntityTable) (d limit : ℕ) → Sinking (deep_to d limit) (sinks limit) (sinks limit no_summary) (summary_within e d) d
unfolding deep_to sinks
sinking e zero limit = no_room (deep_to zero limit) (sinks limit) (sinks limit no_summary) (summary_within e zero)
sinking e (suc d) zero = next e d (outermost (summary_within e d) d)
sinking e (suc d) (suc limit) = next e d (sinking e d limit)

-- ---- every depth that suffices

at_same : (D E : List BlockLine → Option ℕ) (d : ℕ) → ((ls : List BlockLine) → visible_in ls < d → D ls ≡ E ls) →
    (k : Kind) (f : BlockLine) (r : List BlockLine) → IsMarked k f → visible_in (f ∷ r) ≤ d → deep_at D k f r ≡ deep_at E k f r
at_same D E d h (Holds c) f r w v = let u = inner_visible c f r w.0 w.1 in h (inner c f r) (omega (arith, u, v))
at_same D E d h Paragraph f r w v = refl
at_same D E d h (SetextHeading level) f r w v = refl
at_same D E d h (Table above) f r w v = refl
at_same D E d h (AtxHeading level content) f r w v = refl
at_same D E d h ThematicBreak f r w v = refl
at_same D E d h (FencedCode i m n info c) f r w v = refl
at_same D E d h IndentedCode f r w v = refl
at_same D E d h (HtmlBlock kind) f r w v = refl

first_same : (D E : List BlockLine → Option ℕ) (d : ℕ) → ((ls : List BlockLine) → visible_in ls < d → D ls ≡ E ls) →
    (ss : List Stretch) → AreLight d ss → first_deep D ss ≡ first_deep E ss
unfolding first_deep
first_same D E d h [] w = refl
first_same D E d h (s ∷ ss) w =
    ap (λ z. option_or (moved_on s.begin z) (first_deep D ss)) (at_same D E d h s.kind s.first s.later w.0.0 w.0.1)
    ∙ ap (λ z. option_or (stretch_deep E s) z) (first_same D E d h ss w.1)

pub deep_agrees : (d limit : ℕ) (ls : List BlockLine) → visible_in ls < d → deep_to d limit ls ≡ deep_within limit ls
unfolding deep_to deep_within
deep_agrees zero limit ls v = absurd (omega (arith, v))
deep_agrees (suc d) zero ls v = ap (λ (z : Cut). first_deep (λ inside. Some 0) (stretches z)) (cut_deep d ls (omega (arith, v)))
deep_agrees (suc d) (suc limit) ls v =
    let T = tip_within d in
    let c : Cut = cut_by T ls in
    let w = cut_light T d no_lines ls (none_light d ls (omega (arith, v))) in
    first_same (deep_to d limit) (deep_within limit) d (λ inside u. deep_agrees d limit inside u) (stretches c) (all_light d c.before c.tail 0 w.0 w.1)
    ∙ ap (λ (z : Cut). first_deep (deep_within limit) (stretches z)) (cut_deep d ls (omega (arith, v)))

-- Whether one line more is the first too deep follows from the summary of those before it.
pub deep_next : (e : EntityTable) (limit d : ℕ) (ls : List BlockLine) (l : BlockLine) → visible_in (ls ++ l ∷ []) < d →
    deep_within limit (ls ++ l ∷ []) ≡ option_or (deep_within limit ls) (if sinks limit (summary_within e d ls) l then Some (length ls) else None)
deep_next e limit d ls l v =
    let a = visible_append ls (l ∷ []) in
    sym (deep_agrees d limit (ls ++ l ∷ []) v)
    ∙ (sinking e d limit).adds ls l v
    ∙ ap (λ z. option_or z (line_if (sinks limit (summary_within e d ls) l) (length ls))) (deep_agrees d limit ls (omega (arith, a, v)))

-- Once there is a first, more lines leave it as it is.
pub deep_stays : (limit : ℕ) (ls more : List BlockLine) (n : ℕ) → deep_within limit ls ≡ Some n → deep_within limit (ls ++ more) ≡ Some n
deep_stays limit ls [] n e = ap (deep_within limit) (append-nil ls) ∙ e
deep_stays limit ls (l ∷ more) n e =
    let d = suc (visible_in (ls ++ l ∷ [])) in
    let here : deep_within limit (ls ++ l ∷ []) ≡ Some n =
    deep_next (usual_table []) limit d ls l (omega arith) ∙ ap (λ z. option_or z (line_if (sinks limit (summary_within (usual_table []) d ls) l) (length ls))) e in
    ap (deep_within limit) (sym (append_assoc ls (l ∷ []) more)) ∙ deep_stays limit (ls ++ l ∷ []) more n here

pub too_deep_stays : (limit : ℕ) (lines more : List (List ℕ)) (n : ℕ) → first_too_deep limit lines ≡ Some n → first_too_deep limit (lines ++ more) ≡ Some n
too_deep_stays limit lines more n e = ap (deep_within limit) (map-append document_line lines more) ∙ deep_stays limit (map document_line lines) (map document_line more) n e
