-- Any depth that suffices gives the same blocks: a container holds fewer characters than its lines have.
use Rattle.std.proofs.Common.{◌≡◌, ℕ, zero, suc, ◌+◌, ◌-◌, ◌≤◌, ◌<◌, Bool, true, false, not, ◌&&◌, List, [], ◌∷◌, ◌++◌, map, Option, Some, None, refl, sym, ◌∙◌, ap, subst, arith}
use Rattle.std.specs.Prelude.{nat_lt}
use Rattle.blockspec.specs.BlockLine.{BlockLine}
use Rattle.blockspec.specs.BlankLines.{is_blank_line}
use Rattle.blockspec.specs.BlockKinds.{Inside, Container, Kind, Paragraph, SetextHeading, Table, AtxHeading, ThematicBreak, FencedCode, IndentedCode, HtmlBlock, Holds}
use Rattle.blockspec.specs.BlockStart.{start, begun}
use Rattle.blockspec.specs.BlockUnits.{visible, visible_in, depth_of, container_part, part_at, group_of, groups_within, groups}
use Rattle.blockspec.specs.Lists.{grouped}
use Rattle.blockspec.specs.UnitBegin.{is_stop, is_apart, list_mark, same_mark, tail_mark, begins_behind, begins_unit}
use Rattle.mdtext.specs.EntityTable.{EntityTable}
use Rattle.blockspec.specs.ContainerLines.{inner, is_bare}
use Rattle.blockspec.specs.Laziness.{Tip, is_verbatim}
use Rattle.blockspec.specs.Stretches.{Stretch, Step, Continues, IsLastLine, IsOverBefore, continues_if, goes_on, closes, ends_html, is_row, is_code, fence_step, html_step, interrupted, paragraph_step, step, is_single, Tail, Empty, Going, Over, Cut, no_lines, all_of, stretches, ended, tip_at, tip_of, gap_behind, first_of, tail_of, begin_where, after_step, add_at, add, cut_from, cut_by, tip_within, cut_within}
use Rattle.blockspec.proofs.VisibleLaws.{marker_width, inner_visible, visible_append, HasWidth, begun_width}

-- ---- the cut asks only for the tips of what its containers hold

-- two tips agree on lines with fewer characters that count
pub record Agree (d : ℕ) (T U : List BlockLine → Tip) : Type 0 where
  pub same : (ls : List BlockLine) → visible_in ls < d → T ls ≡ U ls

-- a container's first line is not blank, and has a marker
abbrev pub IsMarked : Kind → BlockLine → Type 0
IsMarked (Holds container) f = (is_blank_line f ≡ false) × (1 ≤ marker_width container)
IsMarked Paragraph f = Unit {0}
IsMarked (SetextHeading level) f = Unit {0}
IsMarked (Table above) f = Unit {0}
IsMarked (AtxHeading level content) f = Unit {0}
IsMarked ThematicBreak f = Unit {0}
IsMarked (FencedCode i mark n info closed) f = Unit {0}
IsMarked IndentedCode f = Unit {0}
IsMarked (HtmlBlock kind) f = Unit {0}

width_marked : (k : Kind) (f : BlockLine) → is_blank_line f ≡ false → HasWidth k → IsMarked k f
width_marked (Holds container) f e w = (e, w)
width_marked Paragraph f e w = tt
width_marked (SetextHeading level) f e w = tt
width_marked (Table above) f e w = tt
width_marked (AtxHeading level content) f e w = tt
width_marked ThematicBreak f e w = tt
width_marked (FencedCode i mark n info closed) f e w = tt
width_marked IndentedCode f e w = tt
width_marked (HtmlBlock kind) f e w = tt

-- the tips of what a container holds agree
inner_agrees : {d : ℕ} {T U : List BlockLine → Tip} (a : Agree d T U) (c : Container) (f : BlockLine) (r : List BlockLine) → IsMarked (Holds c) f → visible_in (f ∷ r) ≤ d →
    T (inner c f r) ≡ U (inner c f r)
inner_agrees a c f r w h = let k = inner_visible c f r w.0 w.1 in a.same (inner c f r) (omega (arith, h, k))

step_agrees : {d : ℕ} {T U : List BlockLine → Tip} (a : Agree d T U) (k : Kind) (f : BlockLine) (r : List BlockLine) (l : BlockLine) → IsMarked k f → visible_in (f ∷ r) ≤ d →
    step T k f r l ≡ step U k f r l
unfolding step
step_agrees a (Holds c) f r l w h = ap (λ z. continues_if (goes_on c (is_bare c f r) z l) (Holds c)) (inner_agrees a c f r w h)
step_agrees a (FencedCode i mark n info closed) f r l w h = refl
step_agrees a (HtmlBlock kind) f r l w h = refl
step_agrees a Paragraph f r l w h = refl
step_agrees a (Table above) f r l w h = refl
step_agrees a IndentedCode f r l w h = refl
step_agrees a (SetextHeading level) f r l w h = refl
step_agrees a (AtxHeading level content) f r l w h = refl
step_agrees a ThematicBreak f r l w h = refl

at_agrees : {d : ℕ} {T U : List BlockLine → Tip} (a : Agree d T U) (k : Kind) (f : BlockLine) (r : List BlockLine) → IsMarked k f → visible_in (f ∷ r) ≤ d →
    tip_at T k f r ≡ tip_at U k f r
at_agrees a (Holds c) f r w h = inner_agrees a c f r w h
at_agrees a (FencedCode i mark n info closed) f r w h = refl
at_agrees a (HtmlBlock kind) f r w h = refl
at_agrees a Paragraph f r w h = refl
at_agrees a (Table above) f r w h = refl
at_agrees a IndentedCode f r w h = refl
at_agrees a (SetextHeading level) f r w h = refl
at_agrees a (AtxHeading level content) f r w h = refl
at_agrees a ThematicBreak f r w h = refl

-- a block whose lines have at most so many characters that count, and whose marker is one
abbrev pub IsLight : ℕ → Stretch → Type 0
IsLight d s = IsMarked s.kind s.first × (visible_in (s.first ∷ s.later) ≤ d)

abbrev pub AreLight : ℕ → List Stretch → Type 0
AreLight d [] = Unit {0}
AreLight d (s ∷ ss) = IsLight d s × AreLight d ss

-- where so many characters that count are still to come
abbrev pub TailLight : ℕ → Tail → ℕ → Type 0
TailLight d Empty n = n ≤ d
TailLight d (Going s) n = IsMarked s.kind s.first × (visible_in (s.first ∷ s.later) + n ≤ d)
TailLight d (Over s) n = IsLight d s × (n ≤ d)

tip_agrees : {d : ℕ} {T U : List BlockLine → Tip} (a : Agree d T U) (t : Tail) (n : ℕ) → TailLight d t n → tip_of T t ≡ tip_of U t
unfolding tip_of
tip_agrees a Empty n w = refl
tip_agrees {d = d} a (Going s) n w = let h : visible_in (s.first ∷ s.later) ≤ d = omega (arith, w.1) in at_agrees a s.kind s.first s.later w.0 h
tip_agrees a (Over s) n w = refl

begin_agrees : (T U : List BlockLine → Tip) (c : Cut) (l : BlockLine) (blank : Bool) → tip_of T c.tail ≡ tip_of U c.tail → begin_where blank T c l ≡ begin_where blank U c l
unfolding begin_where
begin_agrees T U c l true e = refl
begin_agrees T U c l false e =
    ap (λ z. record { before = stretches c; tail = tail_of (is_single (begun l) l) (first_of c.lines (c.blank && not (is_verbatim z)) l); blank = false; lines = suc c.lines }) e

after_agrees : (T U : List BlockLine → Tip) (c : Cut) (s : Stretch) (l : BlockLine) (st : Step) → tip_of T c.tail ≡ tip_of U c.tail → after_step T c s l st ≡ after_step U c s l st
unfolding after_step
after_agrees T U c s l (Continues kind) e = refl
after_agrees T U c s l (IsLastLine kind) e = refl
after_agrees T U c s l IsOverBefore e = begin_agrees T U c l (is_blank_line l) e

abbrev cut_of : List Stretch → Tail → Bool → ℕ → Cut
cut_of before t b m = record { before = before; tail = t; blank = b; lines = m }

add_agrees : {d : ℕ} {T U : List BlockLine → Tip} (a : Agree d T U) (before : List Stretch) (t : Tail) (b : Bool) (m : ℕ) (l : BlockLine) (n : ℕ) → TailLight d t n →
    add_at T (cut_of before t b m) l t ≡ add_at U (cut_of before t b m) l t
unfolding add_at
add_agrees {T = T} {U = U} a before Empty b m l n w = begin_agrees T U (cut_of before Empty b m) l (is_blank_line l) (tip_agrees a Empty n w)
add_agrees {T = T} {U = U} a before (Over s) b m l n w = begin_agrees T U (cut_of before (Over s) b m) l (is_blank_line l) (tip_agrees a (Over s) n w)
add_agrees {d = d} {T = T} {U = U} a before (Going s) b m l n w =
    let c = cut_of before (Going s) b m in
    let h : visible_in (s.first ∷ s.later) ≤ d = omega (arith, w.1) in
    ap (λ z. after_step T c s l z) (step_agrees a s.kind s.first s.later l w.0 h)
    ∙ after_agrees T U c s l (step U s.kind s.first s.later l) (tip_agrees a (Going s) n w)

-- ---- one line more leaves blocks light

abbrev StepMarked : BlockLine → Step → Type 0
StepMarked f (Continues k) = IsMarked k f
StepMarked f (IsLastLine k) = IsMarked k f
StepMarked f IsOverBefore = Unit {0}

takes_marked : (b : Bool) (k : Kind) (f : BlockLine) → IsMarked k f → StepMarked f (continues_if b k)
takes_marked true k f w = w
takes_marked false k f w = tt

fence_marked : (b : Bool) (i mark n : ℕ) (info : List ℕ) (f : BlockLine) → StepMarked f (fence_step b (FencedCode i mark n info))
fence_marked true i mark n info f = tt
fence_marked false i mark n info f = tt

html_marked : (blank ends : Bool) (kind : ℕ) (f : BlockLine) → StepMarked f (html_step blank ends kind)
html_marked true ends kind f = takes_marked (nat_lt kind 6) (HtmlBlock kind) f tt
html_marked false true kind f = tt
html_marked false false kind f = tt

interrupted_marked : (k : Option Kind) (f : BlockLine) → StepMarked f (interrupted k)
interrupted_marked None f = tt
interrupted_marked (Some (SetextHeading level)) f = tt
interrupted_marked (Some (Table above)) f = tt
interrupted_marked (Some (Holds container)) f = tt
interrupted_marked (Some Paragraph) f = tt
interrupted_marked (Some (AtxHeading level content)) f = tt
interrupted_marked (Some ThematicBreak) f = tt
interrupted_marked (Some (FencedCode i mark n info closed)) f = tt
interrupted_marked (Some IndentedCode) f = tt
interrupted_marked (Some (HtmlBlock kind)) f = tt

paragraph_marked : (lazy blank : Bool) (k : Option Kind) (f : BlockLine) → StepMarked f (paragraph_step lazy blank k)
paragraph_marked true blank k f = tt
paragraph_marked false true k f = tt
paragraph_marked false false k f = interrupted_marked k f

step_marked : (T : List BlockLine → Tip) (k : Kind) (f : BlockLine) (r : List BlockLine) (l : BlockLine) → IsMarked k f → StepMarked f (step T k f r l)
unfolding step
step_marked T (Holds c) f r l w = takes_marked (goes_on c (is_bare c f r) (T (inner c f r)) l) (Holds c) f w
step_marked T (FencedCode i mark n info closed) f r l w = fence_marked (closes mark n l) i mark n info f
step_marked T (HtmlBlock kind) f r l w = html_marked (is_blank_line l) (ends_html kind l) kind f
step_marked T Paragraph f r l w = paragraph_marked l.lazy (is_blank_line l) (start Inside (f ∷ r) l) f
step_marked T (Table above) f r l w = takes_marked (is_row l) (Table above) f tt
step_marked T IndentedCode f r l w = takes_marked (is_code l) IndentedCode f tt
step_marked T (SetextHeading level) f r l w = tt
step_marked T (AtxHeading level content) f r l w = tt
step_marked T ThematicBreak f r l w = tt

push_light : (d : ℕ) (ss : List Stretch) (s : Stretch) → AreLight d ss → IsLight d s → AreLight d (ss ++ s ∷ [])
push_light d [] s w v = (v, tt)
push_light d (x ∷ ss) s w v = (w.0, push_light d ss s w.1 v)

pub all_light : (d : ℕ) (before : List Stretch) (t : Tail) (n : ℕ) → AreLight d before → TailLight d t n → AreLight d (all_of before t)
unfolding all_of
all_light d before Empty n w v = w
all_light d before (Going s) n w v = push_light d before s w (v.0, omega (arith, v.1))
all_light d before (Over s) n w v = push_light d before s w v.0

-- a cut, and how many characters that count are still to come
abbrev pub CutLight : ℕ → Cut → ℕ → Type 0
CutLight d c n = AreLight d c.before × TailLight d c.tail n

ended_light : (d : ℕ) (t : Tail) (m n : ℕ) → TailLight d t (m + n) → TailLight d (ended t) n
ended_light d Empty m n w = omega (arith, w)
ended_light d (Going s) m n w = ((w.0, omega (arith, w.1)), omega (arith, w.1))
ended_light d (Over s) m n w = (w.0, omega (arith, w.1))

pub room_left : (d : ℕ) (t : Tail) (n : ℕ) → TailLight d t n → n ≤ d
room_left d Empty n w = w
room_left d (Going s) n w = omega (arith, w.1)
room_left d (Over s) n w = w.1

new_light : (d : ℕ) (b : Bool) (m : ℕ) (g : Bool) (l : BlockLine) (n : ℕ) → is_blank_line l ≡ false → visible l.line.text + n ≤ d → TailLight d (tail_of b (first_of m g l)) n
unfolding visible_in
new_light d true m g l n e h = ((width_marked (begun l) l e (begun_width l), omega (arith, h)), omega (arith, h))
new_light d false m g l n e h = (width_marked (begun l) l e (begun_width l), omega (arith, h))

begin_light : (T : List BlockLine → Tip) (d : ℕ) (c : Cut) (l : BlockLine) (n : ℕ) (blank : Bool) → is_blank_line l ≡ blank → CutLight d c (visible l.line.text + n) →
    CutLight d (begin_where blank T c l) n
unfolding begin_where
begin_light T d c l n true e w = (w.0, ended_light d c.tail (visible l.line.text) n w.1)
begin_light T d c l n false e w = (
  all_light d c.before c.tail (visible l.line.text + n) w.0 w.1,
  new_light d (is_single (begun l) l) c.lines (gap_behind T c) l n e (room_left d c.tail (visible l.line.text + n) w.1),
)

grown_visible : (f : BlockLine) (r : List BlockLine) (l : BlockLine) → visible_in (f ∷ r ++ l ∷ []) ≡ visible_in (f ∷ r) + visible l.line.text
unfolding visible_in
grown_visible f r l = let h = visible_append r (l ∷ []) in omega (arith, h)

step_light : (T : List BlockLine → Tip) (d : ℕ) (before : List Stretch) (s : Stretch) (b : Bool) (m : ℕ) (l : BlockLine) (n : ℕ) (st : Step) → StepMarked s.first st →
    CutLight d (cut_of before (Going s) b m) (visible l.line.text + n) → CutLight d (after_step T (cut_of before (Going s) b m) s l st) n
unfolding after_step
step_light T d before s b m l n (Continues kind) k w = let h = grown_visible s.first s.later l in (w.0, (k, omega (arith, h, w.1.1)))
step_light T d before s b m l n (IsLastLine kind) k w = let h = grown_visible s.first s.later l in (w.0, ((k, omega (arith, h, w.1.1)), omega (arith, w.1.1)))
step_light T d before s b m l n IsOverBefore k w = begin_light T d (cut_of before (Going s) b m) l n (is_blank_line l) refl w

add_light : (T : List BlockLine → Tip) (d : ℕ) (before : List Stretch) (t : Tail) (b : Bool) (m : ℕ) (l : BlockLine) (n : ℕ) → CutLight d (cut_of before t b m) (visible l.line.text + n) →
    CutLight d (add_at T (cut_of before t b m) l t) n
unfolding add_at
add_light T d before Empty b m l n w = begin_light T d (cut_of before Empty b m) l n (is_blank_line l) refl w
add_light T d before (Over s) b m l n w = begin_light T d (cut_of before (Over s) b m) l n (is_blank_line l) refl w
add_light T d before (Going s) b m l n w = step_light T d before s b m l n (step T s.kind s.first s.later l) (step_marked T s.kind s.first s.later l w.1.0) w

-- some lines, where so many characters that count are still to come behind them
pub cut_light_before : (T : List BlockLine → Tip) (d : ℕ) (c : Cut) (xs : List BlockLine) (n : ℕ) → CutLight d c (visible_in xs + n) → CutLight d (cut_from T c xs) n
unfolding cut_from visible_in
cut_light_before T d c [] n w = let e : 0 + n ≡ n = omega arith in subst (λ z. CutLight d c z) e w
cut_light_before T d c (x ∷ xs) n w =
    let e : visible x.line.text + visible_in xs + n ≡ visible x.line.text + (visible_in xs + n) = omega arith in
    cut_light_before T d (add T c x) xs n (add_light T d c.before c.tail c.blank c.lines x (visible_in xs + n) (subst (λ z. CutLight d c z) e w))

pub cut_light : (T : List BlockLine → Tip) (d : ℕ) (c : Cut) (xs : List BlockLine) → CutLight d c (visible_in xs) → CutLight d (cut_from T c xs) 0
cut_light T d c xs w = let e : visible_in xs ≡ visible_in xs + 0 = omega arith in cut_light_before T d c xs 0 (subst (λ z. CutLight d c z) e w)

pub cut_agrees : {d : ℕ} {T U : List BlockLine → Tip} (a : Agree d T U) (c : Cut) (xs : List BlockLine) → CutLight d c (visible_in xs) → cut_from T c xs ≡ cut_from U c xs
unfolding cut_from visible_in
cut_agrees a c [] w = refl
cut_agrees {d = d} {T = T} {U = U} a c (x ∷ xs) w =
    ap (λ z. cut_from T z xs) (add_agrees a c.before c.tail c.blank c.lines x (visible x.line.text + visible_in xs) w.1)
    ∙ cut_agrees a (add U c x) xs (add_light U d c.before c.tail c.blank c.lines x (visible_in xs) w)

-- ---- depths

pub none_light : (d : ℕ) (ls : List BlockLine) → visible_in ls ≤ d → CutLight d no_lines (visible_in ls)
none_light d ls h = (tt, h)

tip_next : {d : ℕ} → Agree d (tip_within d) (tip_within (suc d)) → Agree (suc d) (tip_within (suc d)) (tip_within (suc (suc d)))
unfolding tip_within
tip_next {d = d} a = record {
  same = λ ls h.
      let T = tip_within d in
      let U = tip_within (suc d) in
      let k : visible_in ls ≤ d = omega (arith, h) in
      let w = none_light d ls k in
      ap (λ (z : Cut). tip_of T z.tail) (cut_agrees a no_lines ls w)
      ∙ tip_agrees a (cut_by U ls).tail 0 (cut_light U d no_lines ls w).1;
}

tip_zero : Agree zero (tip_within zero) (tip_within 1)
tip_zero = record { same = λ ls h. absurd (omega (arith, h)) }

pub tips_agree : (d : ℕ) → Agree d (tip_within d) (tip_within (suc d))
tips_agree zero = tip_zero
tips_agree (suc d) = tip_next (tips_agree d)

apart_agrees : {d : ℕ} {T U : List BlockLine → Tip} (a : Agree d T U) (t : Tail) (n : ℕ) (l : BlockLine) → TailLight d t n → is_apart T t l ≡ is_apart U t l
unfolding is_apart
apart_agrees a Empty n l w = refl
apart_agrees a (Over s) n l w = refl
apart_agrees {d = d} a (Going s) n l w =
    let h : visible_in (s.first ∷ s.later) ≤ d = omega (arith, w.1) in ap is_stop (step_agrees a s.kind s.first s.later l w.0 h)

-- whether a line begins a unit
begins_next : (d : ℕ) (xs : List BlockLine) (l : BlockLine) → visible_in xs ≤ d →
    begins_behind (tip_within d) (cut_by (tip_within d) xs) l ≡ begins_behind (tip_within (suc d)) (cut_by (tip_within (suc d)) xs) l
unfolding begins_behind
begins_next d xs l h =
    let T = tip_within d in
    let U = tip_within (suc d) in
    let a = tips_agree d in
    let w = none_light d xs h in
    ap (λ (z : Cut). is_apart T z.tail l && not (is_blank_line l) && not (same_mark (tail_mark z.tail) (list_mark (begun l)))) (cut_agrees a no_lines xs w)
    ∙ ap (λ z. z && not (is_blank_line l) && not (same_mark (tail_mark (cut_by U xs).tail) (list_mark (begun l))))
    (apart_agrees a (cut_by U xs).tail 0 l (cut_light U d no_lines xs w).1)

-- what containers hold, by depth
pub record GroupsAgree (e : EntityTable) (d : ℕ) : Type 0 where
  pub same : (ls : List BlockLine) → visible_in ls < d → groups_within e d ls ≡ groups_within e (suc d) ls

pub part_agrees : {e : EntityTable} {d : ℕ} (a : GroupsAgree e d) (k : Kind) (f : BlockLine) (r : List BlockLine) → IsMarked k f → visible_in (f ∷ r) ≤ d →
    part_at e (groups_within e d) k f r ≡ part_at e (groups_within e (suc d)) k f r
part_agrees a (Holds c) f r w h = let v = inner_visible c f r w.0 w.1 in ap (λ z. container_part c z) (a.same (inner c f r) (omega (arith, h, v)))
part_agrees a (FencedCode i mark n info closed) f r w h = refl
part_agrees a (HtmlBlock kind) f r w h = refl
part_agrees a Paragraph f r w h = refl
part_agrees a (Table above) f r w h = refl
part_agrees a IndentedCode f r w h = refl
part_agrees a (SetextHeading level) f r w h = refl
part_agrees a (AtxHeading level content) f r w h = refl
part_agrees a ThematicBreak f r w h = refl

pub map_agrees : {e : EntityTable} {d : ℕ} (a : GroupsAgree e d) (ss : List Stretch) → AreLight d ss → map (group_of e (groups_within e d)) ss ≡ map (group_of e (groups_within e (suc d))) ss
map_agrees a [] w = refl
map_agrees {e = e} {d = d} a (s ∷ ss) w =
    ap (λ z. record { begin = s.begin; gap = s.gap; part = z } ∷ map (group_of e (groups_within e d)) ss) (part_agrees a s.kind s.first s.later w.0.0 w.0.1)
    ∙ ap (λ z. group_of e (groups_within e (suc d)) s ∷ z) (map_agrees a ss w.1)

groups_next : (e : EntityTable) (d : ℕ) → GroupsAgree e d → GroupsAgree e (suc d)
unfolding groups_within
groups_next e d g = record {
  same = λ ls h.
      let T = tip_within d in
      let U = tip_within (suc d) in
      let a = tips_agree d in
      let k : visible_in ls ≤ d = omega (arith, h) in
      let w = none_light d ls k in
      let c : Cut = cut_by U ls in
      let v = cut_light U d no_lines ls w in
      ap (λ (z : Cut). grouped (map (group_of e (groups_within e d)) (stretches z))) (cut_agrees a no_lines ls w)
      ∙ ap (λ z. grouped z) (map_agrees g (stretches c) (all_light d c.before c.tail 0 v.0 v.1));
}

groups_zero : (e : EntityTable) → GroupsAgree e zero
groups_zero e = record { same = λ ls h. absurd (omega (arith, h)) }

pub groups_agree : (e : EntityTable) (d : ℕ) → GroupsAgree e d
groups_agree e zero = groups_zero e
groups_agree e (suc d) = groups_next e d (groups_agree e d)

-- ---- every depth that suffices

steady : {A : Type 0} (P : ℕ → A) (m k : ℕ) → ((n : ℕ) → m ≤ n → P n ≡ P (suc n)) → P m ≡ P (k + m)
steady P m zero h = let z : m ≡ 0 + m = omega arith in ap P z
steady P m (suc k) h = let z : suc (k + m) ≡ suc k + m = omega arith in steady P m k h ∙ h (k + m) (omega arith) ∙ ap P z

-- What stays from each depth to the next is the same at all.
pub at_depth : {A : Type 0} (P : ℕ → A) (m d : ℕ) → ((n : ℕ) → m ≤ n → P n ≡ P (suc n)) → m ≤ d → P d ≡ P m
at_depth P m d h w =
    let k = d - m in
    let z : k + m ≡ d = omega (arith, w) in
    sym (steady P m k h ∙ ap P z)

-- Any depth above the number of characters that count gives what lines give.
pub groups_deep : (e : EntityTable) (d : ℕ) (ls : List BlockLine) → visible_in ls < d → groups_within e d ls ≡ groups e ls
groups_deep e d ls h = at_depth (λ n. groups_within e n ls) (depth_of ls) d (λ n w. (groups_agree e n).same ls (omega (arith, w))) (omega (arith, h))

cut_next : (d : ℕ) (ls : List BlockLine) → visible_in ls ≤ d → cut_within d ls ≡ cut_within (suc d) ls
cut_next d ls h = cut_agrees (tips_agree d) no_lines ls (none_light d ls h)

-- and cuts the lines alike.
pub cut_deep : (d : ℕ) (ls : List BlockLine) → visible_in ls ≤ d → cut_within d ls ≡ cut_within (depth_of ls) ls
cut_deep d ls h =
    let n = visible_in ls in
    at_depth (λ k. cut_within k ls) n d (λ k w. cut_next k ls w) h
    ∙ sym (at_depth (λ k. cut_within k ls) n (depth_of ls) (λ k w. cut_next k ls w) (omega arith))

pub begins_deep : (d : ℕ) (xs : List BlockLine) (l : BlockLine) → visible_in xs < d → begins_behind (tip_within d) (cut_by (tip_within d) xs) l ≡ begins_unit xs l
unfolding begins_unit
begins_deep d xs l h =
    at_depth (λ n. begins_behind (tip_within n) (cut_by (tip_within n) xs) l) (depth_of xs) d (λ n w. begins_next n xs l (omega (arith, w))) (omega (arith, h))

apart_next : (d : ℕ) (xs : List BlockLine) (l : BlockLine) → visible_in xs ≤ d →
    is_apart (tip_within d) (cut_within d xs).tail l ≡ is_apart (tip_within (suc d)) (cut_within (suc d) xs).tail l
apart_next d xs l h =
    let U = tip_within (suc d) in
    let a = tips_agree d in
    let w = none_light d xs h in
    ap (λ (z : Cut). is_apart (tip_within d) z.tail l) (cut_agrees a no_lines xs w)
    ∙ apart_agrees a (cut_by U xs).tail 0 l (cut_light U d no_lines xs w).1

pub apart_deep : (d : ℕ) (xs : List BlockLine) (l : BlockLine) → visible_in xs < d →
    is_apart (tip_within d) (cut_within d xs).tail l ≡ is_apart (tip_within (depth_of xs)) (cut_within (depth_of xs) xs).tail l
apart_deep d xs l h =
    at_depth (λ n. is_apart (tip_within n) (cut_within n xs).tail l) (depth_of xs) d (λ n w. apart_next n xs l (omega (arith, w))) (omega (arith, h))

gap_next : (d : ℕ) (xs : List BlockLine) → visible_in xs ≤ d →
    gap_behind (tip_within d) (cut_within d xs) ≡ gap_behind (tip_within (suc d)) (cut_within (suc d) xs)
gap_next d xs h =
    let U = tip_within (suc d) in
    let a = tips_agree d in
    let w = none_light d xs h in
    ap (λ (z : Cut). gap_behind (tip_within d) z) (cut_agrees a no_lines xs w)
    ∙ ap (λ z. (cut_by U xs).blank && not (is_verbatim z)) (tip_agrees a (cut_by U xs).tail 0 (cut_light U d no_lines xs w).1)

pub gap_deep : (d : ℕ) (xs : List BlockLine) → visible_in xs < d →
    gap_behind (tip_within d) (cut_within d xs) ≡ gap_behind (tip_within (depth_of xs)) (cut_within (depth_of xs) xs)
gap_deep d xs h =
    at_depth (λ n. gap_behind (tip_within n) (cut_within n xs)) (depth_of xs) d (λ n w. gap_next n xs (omega (arith, w))) (omega (arith, h))
