-- A unit begins only at a line that begins one behind the lines before it.
use Rattle.std.proofs.Common.{◌≡◌, ℕ, suc, ◌+◌, ◌≤◌, ◌<◌, Bool, true, false, not, ◌&&◌, List, [], ◌∷◌, ◌++◌, length, map, Option, Some, None, refl, sym, ◌∙◌, ap, subst, append_assoc, arith}
use Rattle.std.proofs.lemmas.List.{map-append, append-nil}
use Rattle.std.specs.Prelude.{Contains, if◌then◌else◌}
use Rattle.mdtext.specs.EntityTable.{EntityTable}
use Rattle.blockspec.specs.BlockLine.{BlockLine, document_line}
use Rattle.blockspec.specs.BlankLines.{is_blank_line}
use Rattle.blockspec.specs.BlockStart.{begun}
use Rattle.blockspec.specs.BlockTree.{ListKind}
use Rattle.blockspec.specs.BlockUnits.{group_of, groups_within, found_units, visible_in, depth_of, groups, units, begins}
use Rattle.blockspec.specs.Laziness.{Tip}
use Rattle.blockspec.specs.Lists.{Part, Leaves, Quoted, Listed, Group, is_same_list, joined_where, joined_list, joined, grouped}
use Rattle.blockspec.specs.Stretches.{Stretch, Step, Continues, IsLastLine, IsOverBefore, step, Tail, Empty, Going, Over, Cut, no_lines, all_of, stretches, begin_where, grown, after_step, add_at, add, cut_from, cut_by, tip_within}
use Rattle.blockspec.specs.LineSummary.{part_mark}
use Rattle.blockspec.specs.Meetings.{IsBeginning}
use Rattle.blockspec.specs.UnitBegin.{is_apart, list_mark, same_mark, tail_mark, begins_behind, begins_unit, units_of, shift_found}
use Rattle.blockspec.specs.UnitTree.{FoundUnit}
use Rattle.blockspec.proofs.CutLaws.{cut_from_append}
use Rattle.blockspec.proofs.VisibleLaws.{visible_append}
use Rattle.blockspec.proofs.DepthLaws.{groups_deep, begins_deep}
use Rattle.blockspec.proofs.DocumentLaws.{units_meet, map_length, document_units, document_meets}
use Rattle.blockspec.proofs.GroupLaws.{joins, grouped_first, joined_nil}
use Rattle.blockspec.proofs.Lacking.{Lacks, both_lack, lacks_not, behind_first}
use Rattle.blockspec.proofs.Outlines.{Mark, outline, last_mark, grown_outline, cut_of, stays, begin_none, begin_one, blank_outline, begun_outline, same_as_last}
use Rattle.blockspec.proofs.UnitLaws.{IsHeadedBy, first_headed, IsWhole, cut_whole, add_lines, cut_lines, joins_marks, mark_of_part, keeps, step_keeps}

abbrev unless : Bool → ℕ → List ℕ → List ℕ
unless true n ns = ns
unless false n ns = n ∷ ns

-- where units begin, behind a block that is an item of a list or none
starts : Option ListKind → List Mark → List ℕ
starts m [] = []
starts m (x ∷ xs) = unless (same_mark m x.1) x.0 (starts x.1 xs)

after_first : List ℕ → List ℕ
after_first [] = []
after_first (n ∷ ns) = ns

begins_of : List Group → List ℕ
begins_of gs = map (λ g. g.begin) gs

where_begins : (b : Bool) (g : Group) (kind : ListKind) (t : Bool) (items : _) (n : Group) (t' : Bool) (later : _) (ns : List Group) →
    begins_of (joined_where b g kind t items n t' later ns) ≡ g.begin ∷ unless b n.begin (begins_of ns)
unfolding begins_of
where_begins true g kind t items n t' later ns = refl
where_begins false g kind t items n t' later ns = refl

list_begins : (g : Group) (kind : ListKind) (t : Bool) (items : _) (n : Group) (p : Part) (ns : List Group) →
    begins_of (joined_list g kind t items n p ns) ≡ g.begin ∷ unless (joins (Listed kind t items) p) n.begin (begins_of ns)
unfolding begins_of
list_begins g kind t items n (Leaves leaves) ns = refl
list_begins g kind t items n (Quoted nodes) ns = refl
list_begins g kind t items n (Listed other t' later) ns = where_begins (is_same_list kind other) g kind t items n t' later ns

joined_begins : (g : Group) (p : Part) (n : Group) (ns : List Group) → begins_of (joined g p (n ∷ ns)) ≡ g.begin ∷ unless (joins p n.part) n.begin (begins_of ns)
unfolding begins_of
joined_begins g (Leaves leaves) n ns = refl
joined_begins g (Quoted nodes) n ns = refl
joined_begins g (Listed kind t items) n ns = list_begins g kind t items n n.part ns

-- a group behind another
behind_this_group : (e : EntityTable) (R : List BlockLine → List Group) (s r : Stretch) (rs : List Stretch) →
    begins_of (grouped (map (group_of e R) (r ∷ rs))) ≡ starts None (outline (r ∷ rs)) →
    begins_of (joined (group_of e R s) (group_of e R s).part (grouped (map (group_of e R) (r ∷ rs)))) ≡ starts None (outline (s ∷ r ∷ rs))
unfolding starts begins_of after_first
behind_this_group e R s r rs h =
    let G = group_of e R in
    let f = grouped_first (G r) (map G rs) in
    let marks : joins (G s).part (G r).part ≡ same_mark (list_mark s.kind) (list_mark r.kind) =
    joins_marks (G s).part (G r).part
    ∙ ap (λ z. same_mark z (part_mark (G r).part)) (mark_of_part e R s.kind s.first s.later)
    ∙ ap (λ z. same_mark (list_mark s.kind) z) (mark_of_part e R r.kind r.first r.later) in
    let rest : begins_of f.rest ≡ starts (list_mark r.kind) (outline rs) = ap (λ z. after_first (begins_of z)) (sym f.is) ∙ ap after_first h in
    ap (λ z. begins_of (joined (G s) (G s).part z)) f.is
    ∙ joined_begins (G s) (G s).part f.first f.rest
    ∙ ap (λ z. s.begin ∷ unless z f.first.begin (begins_of f.rest)) (f.same (G s).part ∙ marks)
    ∙ ap (λ z. s.begin ∷ unless (same_mark (list_mark s.kind) (list_mark r.kind)) z (begins_of f.rest)) f.begins
    ∙ ap (λ z. s.begin ∷ unless (same_mark (list_mark s.kind) (list_mark r.kind)) r.begin z) rest

groups_begin : (e : EntityTable) (R : List BlockLine → List Group) (ss : List Stretch) → begins_of (grouped (map (group_of e R) ss)) ≡ starts None (outline ss)
unfolding starts begins_of grouped
groups_begin e R [] = refl
groups_begin e R (s ∷ []) = ap begins_of (joined_nil (group_of e R s) (group_of e R s).part)
groups_begin e R (s ∷ r ∷ rs) = behind_this_group e R s r rs (groups_begin e R (r ∷ rs))

-- ---- what later lines add

unless_append : (b : Bool) (n : ℕ) (ns ms : List ℕ) → unless b n (ns ++ ms) ≡ unless b n ns ++ ms
unless_append true n ns ms = refl
unless_append false n ns ms = refl

starts_append : (m : Option ListKind) (xs ys : List Mark) → starts m (xs ++ ys) ≡ starts m xs ++ starts (last_mark m xs) ys
unfolding starts last_mark
starts_append m [] ys = refl
starts_append m (x ∷ xs) ys =
    ap (λ z. unless (same_mark m x.1) x.0 z) (starts_append x.1 xs ys)
    ∙ unless_append (same_mark m x.1) x.0 (starts x.1 xs) (starts (last_mark x.1 xs) ys)

-- all begin before a line, or at it or behind
abbrev AreBelow : ℕ → List Mark → Type 0
AreBelow n [] = Unit {0}
AreBelow n (x ∷ xs) = (x.0 < n) × AreBelow n xs

abbrev AreFrom : ℕ → List Mark → Type 0
AreFrom n [] = Unit {0}
AreFrom n (x ∷ xs) = (n ≤ x.0) × AreFrom n xs

unless_lacks : (n : ℕ) (b : Bool) (m : ℕ) (ms : List ℕ) → (m ≡ n → ⊥) → Lacks n ms → Lacks n (unless b m ms)
unless_lacks n true m ms f w = w
unless_lacks n false m ms f w = (f, w)

below_lacks : (n : ℕ) (m : Option ListKind) (xs : List Mark) → AreBelow n xs → Lacks n (starts m xs)
unfolding starts
below_lacks n m [] w = tt
below_lacks n m (x ∷ xs) w = unless_lacks n (same_mark m x.1) x.0 (starts x.1 xs) (λ e. absurd (omega (arith, w.0, e))) (below_lacks n x.1 xs w.1)

from_lacks : (n : ℕ) (m : Option ListKind) (xs : List Mark) → AreFrom (suc n) xs → Lacks n (starts m xs)
unfolding starts
from_lacks n m [] w = tt
from_lacks n m (x ∷ xs) w = unless_lacks n (same_mark m x.1) x.0 (starts x.1 xs) (λ e. absurd (omega (arith, w.0, e))) (from_lacks n x.1 xs w.1)

below_more : (n m : ℕ) (xs : List Mark) → n ≤ m → AreBelow n xs → AreBelow m xs
below_more n m [] h w = tt
below_more n m (x ∷ xs) h w = (omega (arith, h, w.0), below_more n m xs h w.1)

from_less : (n m : ℕ) (xs : List Mark) → m ≤ n → AreFrom n xs → AreFrom m xs
from_less n m [] h w = tt
from_less n m (x ∷ xs) h w = (omega (arith, h, w.0), from_less n m xs h w.1)

below_both : (n : ℕ) (xs ys : List Mark) → AreBelow n xs → AreBelow n ys → AreBelow n (xs ++ ys)
below_both n [] ys v w = w
below_both n (x ∷ xs) ys v w = (v.0, below_both n xs ys v.1 w)

from_both : (n : ℕ) (xs ys : List Mark) → AreFrom n xs → AreFrom n ys → AreFrom n (xs ++ ys)
from_both n [] ys v w = w
from_both n (x ∷ xs) ys v w = (v.0, from_both n xs ys v.1 w)

-- one line more: at most one block more, which begins there
record Adds (c : Cut) (ss : List Stretch) : Type 0 where
  more : List Mark
  is : outline ss ≡ outline (stretches c) ++ more
  from : AreFrom c.lines more
  below : AreBelow (suc c.lines) more

adds_none : (c : Cut) (ss : List Stretch) → outline ss ≡ outline (stretches c) → Adds c ss
adds_none c ss e = record { more = []; is = e ∙ sym (append-nil (outline (stretches c))); from = tt; below = tt }

begin_adds : (T : List BlockLine → Tip) (c : Cut) (l : BlockLine) (blank : Bool) → Adds c (stretches (begin_where blank T c l))
begin_adds T c l true = adds_none c (stretches (begin_where true T c l)) (begin_none T c l)
begin_adds T c l false = record { more = (c.lines, list_mark (begun l)) ∷ []; is = begin_one T c l; from = (omega arith, tt); below = (omega arith, tt) }

step_adds : (T : List BlockLine → Tip) (before : List Stretch) (s : Stretch) (b : Bool) (m : ℕ) (l : BlockLine) (st : Step) → keeps (list_mark s.kind) st →
    Adds (cut_of before (Going s) b m) (stretches (after_step T (cut_of before (Going s) b m) s l st))
unfolding after_step all_of
step_adds T before s b m l (Continues kind) k = adds_none (cut_of before (Going s) b m) (before ++ grown s kind l ∷ []) (grown_outline before s kind l k)
step_adds T before s b m l (IsLastLine kind) k = adds_none (cut_of before (Going s) b m) (before ++ grown s kind l ∷ []) (grown_outline before s kind l k)
step_adds T before s b m l IsOverBefore k = begin_adds T (cut_of before (Going s) b m) l (is_blank_line l)

add_adds : (T : List BlockLine → Tip) (before : List Stretch) (t : Tail) (b : Bool) (m : ℕ) (l : BlockLine) → Adds (cut_of before t b m) (stretches (add_at T (cut_of before t b m) l t))
unfolding add_at
add_adds T before Empty b m l = begin_adds T (cut_of before Empty b m) l (is_blank_line l)
add_adds T before (Over s) b m l = begin_adds T (cut_of before (Over s) b m) l (is_blank_line l)
add_adds T before (Going s) b m l = step_adds T before s b m l (step T s.kind s.first s.later l) (step_keeps T s.kind s.first s.later l)

cut_below : (T : List BlockLine → Tip) (c : Cut) (xs : List BlockLine) → AreBelow c.lines (outline (stretches c)) →
    AreBelow (cut_from T c xs).lines (outline (stretches (cut_from T c xs)))
unfolding cut_from
cut_below T c [] w = w
cut_below T c (x ∷ xs) w =
    let a = add_adds T c.before c.tail c.blank c.lines x in
    let n = add_lines T c x c.tail in
    let v : AreBelow (suc c.lines) (outline (stretches c) ++ a.more) =
    below_both (suc c.lines) (outline (stretches c)) a.more (below_more c.lines (suc c.lines) (outline (stretches c)) (omega arith) w) a.below in
    let u : AreBelow (add T c x).lines (outline (stretches (add T c x))) =
    subst (λ z. AreBelow z (outline (stretches (add T c x)))) (sym n) (subst (λ z. AreBelow (suc c.lines) z) (sym a.is) v) in
    cut_below T (add T c x) xs u

-- lines behind others add blocks that begin behind
record Goes (T : List BlockLine → Tip) (c : Cut) (xs : List BlockLine) : Type 0 where
  more : List Mark
  is : outline (stretches (cut_from T c xs)) ≡ outline (stretches c) ++ more
  from : AreFrom c.lines more

cut_goes : (T : List BlockLine → Tip) (c : Cut) (xs : List BlockLine) → Goes T c xs
unfolding cut_from
cut_goes T c [] = record { more = []; is = sym (append-nil (outline (stretches c))); from = tt }
cut_goes T c (x ∷ xs) =
    let a = add_adds T c.before c.tail c.blank c.lines x in
    let g = cut_goes T (add T c x) xs in
    let n = add_lines T c x c.tail in
    record {
      more = a.more ++ g.more;
      is = g.is ∙ ap (λ z. z ++ g.more) a.is ∙ append_assoc (outline (stretches c)) a.more g.more;
      from = from_both c.lines a.more g.more a.from (from_less (add T c x).lines c.lines g.more (omega (arith, n)) g.from);
    }

-- ---- a line that begins no unit

-- the blocks so far, and blocks that begin behind
rest_lacks : (n : ℕ) (o more : List Mark) → AreBelow n o → AreFrom (suc n) more → Lacks n (starts None (o ++ more))
rest_lacks n o more v w =
    subst (λ z. Lacks n z) (sym (starts_append None o more)) (both_lack n (starts None o) (starts (last_mark None o) more) (below_lacks n None o v) (from_lacks n (last_mark None o) more w))

-- and between them an item of the list that stands last
item_lacks : (n : ℕ) (o more : List Mark) (m : Option ListKind) → AreBelow n o → AreFrom (suc n) more → same_mark (last_mark None o) m ≡ true → Lacks n (starts None (o ++ (n, m) ∷ more))
unfolding starts
item_lacks n o more m v w e =
    let tail : Lacks n (unless (same_mark (last_mark None o) m) n (starts m more)) = subst (λ z. Lacks n (unless z n (starts m more))) (sym e) (from_lacks n m more w) in
    subst (λ z. Lacks n z) (sym (starts_append None o ((n, m) ∷ more))) (both_lack n (starts None o) (starts (last_mark None o) ((n, m) ∷ more)) (below_lacks n None o v) tail)

line_lacks : (T : List BlockLine → Tip) (c : Cut) (l : BlockLine) (more : List Mark) (apart blank same : Bool) →
    is_apart T c.tail l ≡ apart → is_blank_line l ≡ blank → same_mark (tail_mark c.tail) (list_mark (begun l)) ≡ same → (apart && not blank && not same) ≡ false →
    IsWhole c.before c.tail → AreBelow c.lines (outline (stretches c)) → AreFrom (suc c.lines) more → Lacks c.lines (starts None (outline (stretches (add T c l)) ++ more))
line_lacks T c l more false blank same a b s e w v f =
    subst (λ z. Lacks c.lines (starts None (z ++ more))) (sym (stays T c.before c.tail c.blank c.lines l a)) (rest_lacks c.lines (outline (stretches c)) more v f)
line_lacks T c l more true true same a b s e w v f =
    subst (λ z. Lacks c.lines (starts None (z ++ more))) (sym (blank_outline T c l a b)) (rest_lacks c.lines (outline (stretches c)) more v f)
line_lacks T c l more true false true a b s e w v f =
    let o = outline (stretches c) in
    let m = list_mark (begun l) in
    let is = ap (λ z. z ++ more) (begun_outline T c l a b) ∙ append_assoc o ((c.lines, m) ∷ []) more in
    subst (λ z. Lacks c.lines (starts None z)) (sym is) (item_lacks c.lines o more m v f (same_as_last c.before c.tail m true w s))
line_lacks T c l more true false false a b s e w v f = absurd (let x : ⊥ = cc in x)

-- ---- units

found_begins : (gs : List Group) (n : ℕ) → map (λ (f : FoundUnit). f.begin) (found_units gs n) ≡ begins_of gs
unfolding found_units begins_of
found_begins [] n = refl
found_begins (g ∷ gs) n = ap (λ z. g.begin ∷ z) (found_begins gs n)

units_lack : (e : EntityTable) (xs : List BlockLine) (l : BlockLine) (ys : List BlockLine) → begins_unit xs l ≡ false →
    Lacks (length xs) (map (λ (f : FoundUnit). f.begin) (units_of e (xs ++ l ∷ ys)))
unfolding begins_behind groups_within cut_from all_of
units_lack e xs l ys b =
    let all = xs ++ l ∷ ys in
    let d = suc (visible_in all) in
    let T = tip_within d in
    let c : Cut = cut_by T xs in
    let v = visible_append xs (l ∷ ys) in
    let front : visible_in xs < d = omega (arith, v) in
    let no : begins_behind T c l ≡ false = begins_deep d xs l front ∙ b in
    let g = cut_goes T (add T c l) ys in
    let n : c.lines ≡ length xs = cut_lines T no_lines xs ∙ (let z : 0 + length xs ≡ length xs = omega arith in z) in
    let from : AreFrom (suc c.lines) g.more = subst (λ z. AreFrom z g.more) (add_lines T c l c.tail) g.from in
    let lacks : Lacks c.lines (starts None (outline (stretches (add T c l)) ++ g.more)) =
    line_lacks T c l g.more (is_apart T c.tail l) (is_blank_line l) (same_mark (tail_mark c.tail) (list_mark (begun l))) refl refl refl no
    (cut_whole T no_lines xs refl) (cut_below T no_lines xs tt) from in
    let whole : begins_of (groups e all) ≡ starts None (outline (stretches (add T c l)) ++ g.more) =
    ap begins_of (sym (groups_deep e (suc d) all (omega arith)))
    ∙ groups_begin e (groups_within e d) (stretches (cut_by T all))
    ∙ ap (λ (z : Cut). starts None (outline (stretches z))) (cut_from_append T no_lines xs (l ∷ ys))
    ∙ ap (λ z. starts None z) g.is in
    subst (λ z. Lacks (length xs) z) (sym (found_begins (groups e all) (length all)))
    (subst (λ z. Lacks (length xs) z) (sym whole) (subst (λ z. Lacks z (starts None (outline (stretches (add T c l)) ++ g.more))) n lacks))

-- A unit begins at a line only if the line begins one behind those before it.
pub begins_only : (e : EntityTable) (xs : List BlockLine) (l : BlockLine) (ys : List BlockLine) →
    Contains (map (λ (f : FoundUnit). f.begin) (units_of e (xs ++ l ∷ ys))) (length xs) → begins_unit xs l ≡ true
begins_only e xs l ys w = go (begins_unit xs l) refl
  where
    go : (b : Bool) → begins_unit xs l ≡ b → b ≡ true
    go true h = refl
    go false h = absurd (lacks_not (length xs) (map (λ (f : FoundUnit). f.begin) (units_of e (xs ++ l ∷ ys))) (units_lack e xs l ys h) w.0 w.1 w.2)

abbrev pub begins_in : List FoundUnit → List ℕ
begins_in us = map (λ f. f.begin) us

pub record BeginsAt (n : ℕ) (ns : List ℕ) : Type 0 where
  pub rest : List ℕ
  pub is : ns ≡ n ∷ rest

starts_first : (m : Option ListKind) (ss : List Stretch) → IsHeadedBy m ss → BeginsAt 0 (starts None (outline ss))
unfolding starts
starts_first m [] w = absurd (let e : None ≡ Some m = w.1 in let x : ⊥ = cc in x)
starts_first m (s ∷ ss) w = record { rest = starts (list_mark s.kind) (outline ss); is = ap (λ z. z ∷ starts (list_mark s.kind) (outline ss)) w.0 }

-- the first unit of lines that begin with a line that is not blank
pub units_first : (e : EntityTable) (l : BlockLine) (ys : List BlockLine) → is_blank_line l ≡ false → BeginsAt 0 (begins_in (units_of e (l ∷ ys)))
unfolding groups_within
units_first e l ys b =
    let all = l ∷ ys in
    let d = visible_in all in
    let T = tip_within d in
    let f = starts_first (list_mark (begun l)) (stretches (cut_by T all)) (first_headed T l ys b) in
    record {
      rest = f.rest;
      is =
          found_begins (groups e all) (length all)
          ∙ ap begins_of (sym (groups_deep e (suc d) all (omega arith)))
          ∙ groups_begin e (groups_within e d) (stretches (cut_by T all))
          ∙ f.is;
    }

pub shifted_begins : (k : ℕ) (us : List FoundUnit) → begins_in (map (shift_found k) us) ≡ map (λ n. n + k) (begins_in us)
shifted_begins k [] = refl
shifted_begins k (u ∷ us) = ap (λ z. (u.begin + k) ∷ z) (shifted_begins k us)

visible_there : (a b c : Bool) → (a && not b && not c) ≡ true → b ≡ false
visible_there true false c e = refl
visible_there true true c e = absurd (let x : ⊥ = cc in x)
visible_there false b c e = absurd (let x : ⊥ = cc in x)

pub begun_visible : (xs : List BlockLine) (l : BlockLine) → begins_unit xs l ≡ true → is_blank_line l ≡ false
unfolding begins_unit begins_behind
begun_visible xs l b =
    let T = tip_within (depth_of xs) in
    let t = (cut_by T xs).tail in
    visible_there (is_apart T t l) (is_blank_line l) (same_mark (tail_mark t) (list_mark (begun l))) b

-- A line that begins a unit behind those before it is the first of one, whatever comes after.
pub begins_there : (e : EntityTable) (xs : List BlockLine) (l : BlockLine) (ys : List BlockLine) → begins_unit xs l ≡ true →
    Contains (begins_in (units_of e (xs ++ l ∷ ys))) (length xs)
begins_there e xs l ys b =
    let f = units_first e l ys (begun_visible xs l b) in
    let n = length xs in
    let zero_more : 0 + n ≡ n = omega arith in
    let is : begins_in (units_of e (xs ++ l ∷ ys)) ≡ begins_in (units_of e xs) ++ n ∷ map (λ m. m + n) f.rest =
    ap begins_in (units_meet e xs l ys b)
    ∙ map-append (λ (u : FoundUnit). u.begin) (units_of e xs) (map (shift_found n) (units_of e (l ∷ ys)))
    ∙ ap (λ z. begins_in (units_of e xs) ++ z) (shifted_begins n (units_of e (l ∷ ys)) ∙ ap (map (λ m. m + n)) f.is)
    ∙ ap (λ z. begins_in (units_of e xs) ++ z ∷ map (λ m. m + n) f.rest) zero_more in
    subst (λ z. Contains z n) (sym is) (behind_first (begins_in (units_of e xs)) (map (λ m. m + n) f.rest) n)

-- ---- line by line

with_begin : Bool → ℕ → List ℕ → List ℕ
with_begin true n ns = ns ++ n ∷ []
with_begin false n ns = ns

begin_if : (b : Bool) (n : ℕ) (ns : List ℕ) → with_begin b n ns ≡ (if b then ns ++ n ∷ [] else ns)
unfolding with_begin
begin_if true n ns = refl
begin_if false n ns = refl

push_starts : (o : List Mark) (n : ℕ) (m : Option ListKind) (same : Bool) → same_mark (last_mark None o) m ≡ same →
    starts None (o ++ (n, m) ∷ []) ≡ with_begin (not same) n (starts None o)
unfolding starts with_begin
push_starts o n m true e = starts_append None o ((n, m) ∷ []) ∙ ap (λ z. starts None o ++ unless z n []) e ∙ append-nil (starts None o)
push_starts o n m false e = starts_append None o ((n, m) ∷ []) ∙ ap (λ z. starts None o ++ unless z n []) e

line_starts : (T : List BlockLine → Tip) (c : Cut) (l : BlockLine) (apart blank same : Bool) →
    is_apart T c.tail l ≡ apart → is_blank_line l ≡ blank → same_mark (tail_mark c.tail) (list_mark (begun l)) ≡ same → IsWhole c.before c.tail →
    starts None (outline (stretches (add T c l))) ≡ with_begin (apart && not blank && not same) c.lines (starts None (outline (stretches c)))
unfolding with_begin
line_starts T c l false blank same a b s w = ap (starts None) (stays T c.before c.tail c.blank c.lines l a)
line_starts T c l true true same a b s w = ap (starts None) (blank_outline T c l a b)
line_starts T c l true false same a b s w =
    let m = list_mark (begun l) in
    ap (starts None) (begun_outline T c l a b) ∙ push_starts (outline (stretches c)) c.lines m same (same_as_last c.before c.tail m same w s)

begins_at : (e : EntityTable) (d : ℕ) (xs : List BlockLine) → visible_in xs ≤ d → begins_in (units_of e xs) ≡ starts None (outline (stretches (cut_by (tip_within d) xs)))
unfolding groups_within
begins_at e d xs h =
    found_begins (groups e xs) (length xs)
    ∙ ap begins_of (sym (groups_deep e (suc d) xs (omega (arith, h))))
    ∙ groups_begin e (groups_within e d) (stretches (cut_by (tip_within d) xs))

-- With one line more a unit more begins, and begins there, exactly if the line begins one behind those before it.
pub begins_next : (e : EntityTable) (xs : List BlockLine) (l : BlockLine) →
    begins_in (units_of e (xs ++ l ∷ [])) ≡ (if begins_unit xs l then begins_in (units_of e xs) ++ length xs ∷ [] else begins_in (units_of e xs))
unfolding begins_behind cut_from with_begin
begins_next e xs l =
    let all = xs ++ l ∷ [] in
    let d = suc (visible_in all) in
    let T = tip_within d in
    let c : Cut = cut_by T xs in
    let v = visible_append xs (l ∷ []) in
    let n : c.lines ≡ length xs = cut_lines T no_lines xs ∙ (let z : 0 + length xs ≡ length xs = omega arith in z) in
    begins_at e d all (omega arith)
    ∙ ap (λ (z : Cut). starts None (outline (stretches z))) (cut_from_append T no_lines xs (l ∷ []))
    ∙ line_starts T c l (is_apart T c.tail l) (is_blank_line l) (same_mark (tail_mark c.tail) (list_mark (begun l))) refl refl refl (cut_whole T no_lines xs refl)
    ∙ ap (λ z. with_begin z c.lines (starts None (outline (stretches c)))) (begins_deep d xs l (omega (arith, v)))
    ∙ ap (λ z. with_begin (begins_unit xs l) z (starts None (outline (stretches c)))) n
    ∙ ap (λ z. with_begin (begins_unit xs l) (length xs) z) (sym (begins_at e d xs (omega (arith, v))))
    ∙ begin_if (begins_unit xs l) (length xs) (begins_in (units_of e xs))

-- the same of a document
document_begins : (e : EntityTable) (front : List (List ℕ)) (line : List ℕ) (later : List (List ℕ)) →
    begins e (front ++ line ∷ later) ≡ begins_in (units_of e (map document_line front ++ document_line line ∷ map document_line later))
document_begins e front line later =
    ap begins_in (document_units e (front ++ line ∷ later) ∙ ap (λ z. units_of e z) (map-append document_line front (line ∷ later)))

pub document_only : (e : EntityTable) (front : List (List ℕ)) (line : List ℕ) (later : List (List ℕ)) →
    Contains (begins e (front ++ line ∷ later)) (length front) → IsBeginning front line
document_only e front line later w =
    begins_only e (map document_line front) (document_line line) (map document_line later)
    (subst (λ z. Contains (begins_in (units_of e (map document_line front ++ document_line line ∷ map document_line later))) z) (sym (map_length document_line front))
    (subst (λ z. Contains z (length front)) (document_begins e front line later) w))

pub document_there : (e : EntityTable) (front : List (List ℕ)) (line : List ℕ) (later : List (List ℕ)) →
    IsBeginning front line → Contains (begins e (front ++ line ∷ later)) (length front)
document_there e front line later b =
    subst (λ z. Contains z (length front)) (sym (document_begins e front line later))
    (subst (λ z. Contains (begins_in (units_of e (map document_line front ++ document_line line ∷ map document_line later))) z) (map_length document_line front)
    (begins_there e (map document_line front) (document_line line) (map document_line later) b))

-- Where a unit begins, what comes later leaves the units before it and the beginning itself.
pub document_stays : (e : EntityTable) (front : List (List ℕ)) (line : List ℕ) (later other : List (List ℕ)) →
    Contains (begins e (front ++ line ∷ later)) (length front) →
    Contains (begins e (front ++ line ∷ other)) (length front)
    × (units e (front ++ line ∷ other) ≡ units e front ++ map (shift_found (length front)) (units e (line ∷ other)))
document_stays e front line later other w =
    let b = document_only e front line later w in (document_there e front line other b, document_meets e front line other b)
