-- How lines are cut that stand behind others.
use Rattle.std.proofs.Common.{◌≡◌, ℕ, suc, ◌+◌, Bool, true, false, ◌&&◌, List, [], ◌∷◌, ◌++◌, map, refl, sym, ◌∙◌, ap, append_assoc, arith}
use Rattle.std.proofs.Math.Bool.{and-true}
use Rattle.std.proofs.lemmas.List.{map-append, append-nil}
use Rattle.blockspec.specs.BlockLine.{BlockLine}
use Rattle.blockspec.specs.BlankLines.{is_blank_line}
use Rattle.blockspec.specs.BlockStart.{begun}
use Rattle.blockspec.specs.Laziness.{Tip}
use Rattle.blockspec.specs.UnitBegin.{is_stop, is_apart}
use Rattle.blockspec.specs.Stretches.{Stretch, Step, Continues, IsLastLine, IsOverBefore, step, is_single, Tail, Empty, Going, Over, Cut, no_lines, all_of, stretches, ended, tip_of, gap_behind, first_of, tail_of, begin_where, begin, grown, after_step, add_at, add, cut_from, cut_by}

pub cut_from_append : (T : List BlockLine → Tip) (c : Cut) (xs ys : List BlockLine) → cut_from T c (xs ++ ys) ≡ cut_from T (cut_from T c xs) ys
unfolding cut_from
cut_from_append T c [] ys = refl
cut_from_append T c (x ∷ xs) ys = cut_from_append T (add T c x) xs ys

-- ---- blocks before

-- a cut with more blocks before it
abbrev pub prepend : List Stretch → Cut → Cut
prepend os c = record { before = os ++ c.before; tail = c.tail; blank = c.blank; lines = c.lines }

pub all_of_prepend : (os before : List Stretch) (t : Tail) → all_of (os ++ before) t ≡ os ++ all_of before t
unfolding all_of
all_of_prepend os before Empty = refl
all_of_prepend os before (Going s) = append_assoc os before (s ∷ [])
all_of_prepend os before (Over s) = append_assoc os before (s ∷ [])

begin_where_prepend : (T : List BlockLine → Tip) (blank : Bool) (os : List Stretch) (c : Cut) (l : BlockLine) →
    begin_where blank T (prepend os c) l ≡ prepend os (begin_where blank T c l)
unfolding begin_where
begin_where_prepend T true os c l = refl
begin_where_prepend T false os c l =
    ap (λ z. record { before = z; tail = tail_of (is_single (begun l) l) (first_of c.lines (gap_behind T c) l); blank = false; lines = suc c.lines })
    (all_of_prepend os c.before c.tail)

after_step_prepend : (T : List BlockLine → Tip) (os : List Stretch) (c : Cut) (s : Stretch) (l : BlockLine) (st : Step) →
    after_step T (prepend os c) s l st ≡ prepend os (after_step T c s l st)
unfolding after_step
after_step_prepend T os c s l (Continues kind) = refl
after_step_prepend T os c s l (IsLastLine kind) = refl
after_step_prepend T os c s l IsOverBefore = begin_where_prepend T (is_blank_line l) os c l

add_at_prepend : (T : List BlockLine → Tip) (os : List Stretch) (c : Cut) (l : BlockLine) (t : Tail) → add_at T (prepend os c) l t ≡ prepend os (add_at T c l t)
unfolding add_at
add_at_prepend T os c l Empty = begin_where_prepend T (is_blank_line l) os c l
add_at_prepend T os c l (Over s) = begin_where_prepend T (is_blank_line l) os c l
add_at_prepend T os c l (Going s) = after_step_prepend T os c s l (step T s.kind s.first s.later l)

pub cut_from_prepend : (T : List BlockLine → Tip) (os : List Stretch) (c : Cut) (xs : List BlockLine) → cut_from T (prepend os c) xs ≡ prepend os (cut_from T c xs)
unfolding cut_from
cut_from_prepend T os c [] = refl
cut_from_prepend T os c (x ∷ xs) = ap (λ z. cut_from T z xs) (add_at_prepend T os c x c.tail) ∙ cut_from_prepend T os (add T c x) xs

-- ---- lines before

-- a stretch so many lines further on
abbrev pub shift : ℕ → Stretch → Stretch
shift k s = record { begin = s.begin + k; gap = s.gap; kind = s.kind; first = s.first; later = s.later }

-- and with another mark of a gap
abbrev pub shift_first : Bool → ℕ → Stretch → Stretch
shift_first g k s = record { begin = s.begin + k; gap = g; kind = s.kind; first = s.first; later = s.later }

abbrev pub shift_tail : ℕ → Tail → Tail
shift_tail k Empty = Empty
shift_tail k (Going s) = Going (shift k s)
shift_tail k (Over s) = Over (shift k s)

-- blocks so many lines further on, the first with another mark of a gap
abbrev pub shift_all : Bool → ℕ → List Stretch → List Stretch
shift_all g k [] = []
shift_all g k (s ∷ ss) = shift_first g k s ∷ map (shift k) ss

abbrev pub move : Bool → ℕ → List Stretch → Tail → (blank : Bool) → (lines : ℕ) → Cut
move g k [] Empty blank lines = record { before = []; tail = Empty; blank = blank; lines = lines + k }
move g k [] (Going s) blank lines = record { before = []; tail = Going (shift_first g k s); blank = blank; lines = lines + k }
move g k [] (Over s) blank lines = record { before = []; tail = Over (shift_first g k s); blank = blank; lines = lines + k }
move g k (o ∷ os) t blank lines = record { before = shift_first g k o ∷ map (shift k) os; tail = shift_tail k t; blank = blank; lines = lines + k }

abbrev pub moved : Bool → ℕ → Cut → Cut
moved g k c = move g k c.before c.tail c.blank c.lines

-- a cut with a block
pub data IsBegun : List Stretch → Tail → Type 0 where
  begun_going : {s : Stretch} → IsBegun [] (Going s)
  begun_over : {s : Stretch} → IsBegun [] (Over s)
  begun_before : {o : Stretch} {os : List Stretch} {t : Tail} → IsBegun (o ∷ os) t

tail_of_shift : (b : Bool) (k : ℕ) (s : Stretch) → shift_tail k (tail_of b s) ≡ tail_of b (shift k s)
tail_of_shift true k s = refl
tail_of_shift false k s = refl

-- the blocks of a cut
pub stretches_moved : (g : Bool) (k : ℕ) (before : List Stretch) (t : Tail) (blank : Bool) (n : ℕ) →
    stretches (move g k before t blank n) ≡ shift_all g k (all_of before t)
unfolding all_of
stretches_moved g k [] Empty blank n = refl
stretches_moved g k [] (Going s) blank n = refl
stretches_moved g k [] (Over s) blank n = refl
stretches_moved g k (o ∷ os) Empty blank n = refl
stretches_moved g k (o ∷ os) (Going s) blank n = ap (λ z. shift_first g k o ∷ z) (sym (map-append (shift k) os (s ∷ [])))
stretches_moved g k (o ∷ os) (Over s) blank n = ap (λ z. shift_first g k o ∷ z) (sym (map-append (shift k) os (s ∷ [])))

abbrev went : List Stretch → (B G : Bool) → ℕ → BlockLine → Cut
went before B G n l = record { before = before; tail = tail_of B (first_of n G l); blank = false; lines = suc n }

more_lines : (n k : ℕ) → suc (n + k) ≡ suc n + k
more_lines n k = omega arith

-- a line that begins a block, behind others
begins_moved : (g : Bool) (k : ℕ) (o : Stretch) (os : List Stretch) (B G : Bool) (n : ℕ) (l : BlockLine) →
    went (shift_first g k o ∷ map (shift k) os) B G (n + k) l ≡ moved g k (went (o ∷ os) B G n l)
begins_moved g k o os B G n l =
    let before = shift_first g k o ∷ map (shift k) os in
    ap (λ z. record { before = before; tail = tail_of B (first_of (n + k) G l); blank = false; lines = z }) (more_lines n k)
    ∙ ap (λ z. record { before = before; tail = z; blank = false; lines = suc n + k }) (sym (tail_of_shift B k (first_of n G l)))

push_moved : (g : Bool) (k : ℕ) (o : Stretch) (os : List Stretch) (s : Stretch) (B G : Bool) (n : ℕ) (l : BlockLine) →
    went (shift_first g k o ∷ map (shift k) os ++ shift k s ∷ []) B G (n + k) l ≡ moved g k (went (o ∷ os ++ s ∷ []) B G n l)
push_moved g k o os s B G n l =
    ap (λ z. went (shift_first g k o ∷ z) B G (n + k) l) (sym (map-append (shift k) os (s ∷ [])))
    ∙ begins_moved g k o (os ++ s ∷ []) B G n l

-- a blank line that goes on with no block, behind others
abbrev rested : List Stretch → Tail → ℕ → Cut
rested before t n = record { before = before; tail = ended t; blank = true; lines = suc n }

rests_first : (g : Bool) (k : ℕ) (s : Stretch) (n : ℕ) → rested [] (Over (shift_first g k s)) (n + k) ≡ moved g k (rested [] (Over s) n)
rests_first g k s n = ap (λ z. record { before = []; tail = Over (shift_first g k s); blank = true; lines = z }) (more_lines n k)

rests_moved : (g : Bool) (k : ℕ) (o : Stretch) (os : List Stretch) (t : Tail) (n : ℕ) →
    rested (shift_first g k o ∷ map (shift k) os) (shift_tail k t) (n + k) ≡ moved g k (rested (o ∷ os) t n)
rests_moved g k o os Empty n = ap (λ z. record { before = shift_first g k o ∷ map (shift k) os; tail = Empty; blank = true; lines = z }) (more_lines n k)
rests_moved g k o os (Going s) n = ap (λ z. record { before = shift_first g k o ∷ map (shift k) os; tail = Over (shift k s); blank = true; lines = z }) (more_lines n k)
rests_moved g k o os (Over s) n = ap (λ z. record { before = shift_first g k o ∷ map (shift k) os; tail = Over (shift k s); blank = true; lines = z }) (more_lines n k)

abbrev cut_of : List Stretch → Tail → Bool → ℕ → Cut
cut_of before t b n = record { before = before; tail = t; blank = b; lines = n }

begin_moved : (T : List BlockLine → Tip) (g : Bool) (k : ℕ) (before : List Stretch) (t : Tail) (b : Bool) (n : ℕ) (l : BlockLine) (blank : Bool) → IsBegun before t →
    begin_where blank T (move g k before t b n) l ≡ moved g k (begin_where blank T (cut_of before t b n) l)
unfolding begin_where all_of tip_of
begin_moved T g k [] Empty b n l blank w = elim w [ ]
begin_moved T g k [] (Going s) b n l true w = rests_first g k s n
begin_moved T g k [] (Over s) b n l true w = rests_first g k s n
begin_moved T g k [] (Going s) b n l false w = begins_moved g k s [] (is_single (begun l) l) (gap_behind T (cut_of [] (Going s) b n)) n l
begin_moved T g k [] (Over s) b n l false w = begins_moved g k s [] (is_single (begun l) l) (gap_behind T (cut_of [] (Over s) b n)) n l
begin_moved T g k (o ∷ os) t b n l true w = rests_moved g k o os t n
begin_moved T g k (o ∷ os) Empty b n l false w = begins_moved g k o os (is_single (begun l) l) (gap_behind T (cut_of (o ∷ os) Empty b n)) n l
begin_moved T g k (o ∷ os) (Going s) b n l false w = push_moved g k o os s (is_single (begun l) l) (gap_behind T (cut_of (o ∷ os) (Going s) b n)) n l
begin_moved T g k (o ∷ os) (Over s) b n l false w = push_moved g k o os s (is_single (begun l) l) (gap_behind T (cut_of (o ∷ os) (Over s) b n)) n l

-- one line more
first_moved : (T : List BlockLine → Tip) (g : Bool) (k : ℕ) (s : Stretch) (b : Bool) (n : ℕ) (l : BlockLine) (st : Step) →
    after_step T (cut_of [] (Going (shift_first g k s)) b (n + k)) (shift_first g k s) l st ≡ moved g k (after_step T (cut_of [] (Going s) b n) s l st)
unfolding after_step
first_moved T g k s b n l (Continues kind) = ap (λ z. record { before = []; tail = Going (shift_first g k (grown s kind l)); blank = is_blank_line l; lines = z }) (more_lines n k)
first_moved T g k s b n l (IsLastLine kind) = ap (λ z. record { before = []; tail = Over (shift_first g k (grown s kind l)); blank = is_blank_line l; lines = z }) (more_lines n k)
first_moved T g k s b n l IsOverBefore = begin_moved T g k [] (Going s) b n l (is_blank_line l) begun_going

later_moved : (T : List BlockLine → Tip) (g : Bool) (k : ℕ) (o : Stretch) (os : List Stretch) (s : Stretch) (b : Bool) (n : ℕ) (l : BlockLine) (st : Step) →
    after_step T (move g k (o ∷ os) (Going s) b n) (shift k s) l st ≡ moved g k (after_step T (cut_of (o ∷ os) (Going s) b n) s l st)
unfolding after_step
later_moved T g k o os s b n l (Continues kind) = ap (λ z. record { before = shift_first g k o ∷ map (shift k) os; tail = Going (shift k (grown s kind l)); blank = is_blank_line l; lines = z }) (more_lines n k)
later_moved T g k o os s b n l (IsLastLine kind) = ap (λ z. record { before = shift_first g k o ∷ map (shift k) os; tail = Over (shift k (grown s kind l)); blank = is_blank_line l; lines = z }) (more_lines n k)
later_moved T g k o os s b n l IsOverBefore = begin_moved T g k (o ∷ os) (Going s) b n l (is_blank_line l) begun_before

add_moved : (T : List BlockLine → Tip) (g : Bool) (k : ℕ) (before : List Stretch) (t : Tail) (b : Bool) (n : ℕ) (l : BlockLine) → IsBegun before t →
    add T (move g k before t b n) l ≡ moved g k (add_at T (cut_of before t b n) l t)
unfolding add_at
add_moved T g k [] Empty b n l w = elim w [ ]
add_moved T g k [] (Going s) b n l w = first_moved T g k s b n l (step T s.kind s.first s.later l)
add_moved T g k [] (Over s) b n l w = begin_moved T g k [] (Over s) b n l (is_blank_line l) w
add_moved T g k (o ∷ os) Empty b n l w = begin_moved T g k (o ∷ os) Empty b n l (is_blank_line l) w
add_moved T g k (o ∷ os) (Going s) b n l w = later_moved T g k o os s b n l (step T s.kind s.first s.later l)
add_moved T g k (o ∷ os) (Over s) b n l w = begin_moved T g k (o ∷ os) (Over s) b n l (is_blank_line l) w

tail_of_begun : (b : Bool) (s : Stretch) → IsBegun [] (tail_of b s)
tail_of_begun true s = begun_over
tail_of_begun false s = begun_going

begin_begun : (T : List BlockLine → Tip) (before : List Stretch) (t : Tail) (b : Bool) (n : ℕ) (l : BlockLine) (blank : Bool) → IsBegun before t →
    IsBegun (begin_where blank T (cut_of before t b n) l).before (begin_where blank T (cut_of before t b n) l).tail
unfolding begin_where all_of
begin_begun T [] Empty b n l blank w = elim w [ ]
begin_begun T [] (Going s) b n l true w = begun_over
begin_begun T [] (Over s) b n l true w = begun_over
begin_begun T [] (Going s) b n l false w = begun_before
begin_begun T [] (Over s) b n l false w = begun_before
begin_begun T (o ∷ os) t b n l true w = begun_before
begin_begun T (o ∷ os) Empty b n l false w = begun_before
begin_begun T (o ∷ os) (Going s) b n l false w = begun_before
begin_begun T (o ∷ os) (Over s) b n l false w = begun_before

going_begun : (before : List Stretch) (s r : Stretch) → IsBegun before (Going s) → IsBegun before (Going r)
going_begun [] s r w = begun_going
going_begun (o ∷ os) s r w = begun_before

over_begun : (before : List Stretch) (s r : Stretch) → IsBegun before (Going s) → IsBegun before (Over r)
over_begun [] s r w = begun_over
over_begun (o ∷ os) s r w = begun_before

step_begun : (T : List BlockLine → Tip) (before : List Stretch) (s : Stretch) (b : Bool) (n : ℕ) (l : BlockLine) (st : Step) → IsBegun before (Going s) →
    IsBegun (after_step T (cut_of before (Going s) b n) s l st).before (after_step T (cut_of before (Going s) b n) s l st).tail
unfolding after_step
step_begun T before s b n l (Continues kind) w = going_begun before s (grown s kind l) w
step_begun T before s b n l (IsLastLine kind) w = over_begun before s (grown s kind l) w
step_begun T before s b n l IsOverBefore w = begin_begun T before (Going s) b n l (is_blank_line l) w

add_begun : (T : List BlockLine → Tip) (before : List Stretch) (t : Tail) (b : Bool) (n : ℕ) (l : BlockLine) → IsBegun before t →
    IsBegun (add_at T (cut_of before t b n) l t).before (add_at T (cut_of before t b n) l t).tail
unfolding add_at
add_begun T before Empty b n l w = begin_begun T before Empty b n l (is_blank_line l) w
add_begun T before (Over s) b n l w = begin_begun T before (Over s) b n l (is_blank_line l) w
add_begun T before (Going s) b n l w = step_begun T before s b n l (step T s.kind s.first s.later l) w

cut_from_moved : (T : List BlockLine → Tip) (g : Bool) (k : ℕ) (c : Cut) (xs : List BlockLine) → IsBegun c.before c.tail →
    cut_from T (moved g k c) xs ≡ moved g k (cut_from T c xs)
unfolding cut_from
cut_from_moved T g k c [] w = refl
cut_from_moved T g k c (x ∷ xs) w =
    ap (λ z. cut_from T z xs) (add_moved T g k c.before c.tail c.blank c.lines x w)
    ∙ cut_from_moved T g k (add T c x) xs (add_begun T c.before c.tail c.blank c.lines x w)

-- ---- where a block begins

stops : (T : List BlockLine → Tip) (c : Cut) (s : Stretch) (l : BlockLine) (st : Step) → is_stop st ≡ true → after_step T c s l st ≡ begin T c l
unfolding after_step
stops T c s l IsOverBefore e = refl
stops T c s l (Continues kind) e = (cc)
stops T c s l (IsLastLine kind) e = (cc)

pub apart_begins : (T : List BlockLine → Tip) (c : Cut) (l : BlockLine) (t : Tail) → is_apart T t l ≡ true → add_at T c l t ≡ begin T c l
unfolding is_apart add_at
apart_begins T c l Empty e = refl
apart_begins T c l (Over s) e = refl
apart_begins T c l (Going s) e = stops T c s l (step T s.kind s.first s.later l) e

zero_more : (n : ℕ) → 0 + n ≡ n
zero_more n = omega arith

one_more : (n : ℕ) → suc n ≡ 1 + n
one_more n = omega arith

-- the first block of some lines, behind others
first_went : (B g G : Bool) (n : ℕ) (l : BlockLine) → went [] B (g && true) n l ≡ moved g n (went [] B G 0 l)
first_went true g G n l =
    ap (λ z. record { before = []; tail = Over (first_of n z l); blank = false; lines = suc n }) (and-true g)
    ∙ ap (λ z. record { before = []; tail = Over (first_of z g l); blank = false; lines = suc n }) (sym (zero_more n))
    ∙ ap (λ z. record { before = []; tail = Over (first_of (0 + n) g l); blank = false; lines = z }) (one_more n)
first_went false g G n l =
    ap (λ z. record { before = []; tail = Going (first_of n z l); blank = false; lines = suc n }) (and-true g)
    ∙ ap (λ z. record { before = []; tail = Going (first_of z g l); blank = false; lines = suc n }) (sym (zero_more n))
    ∙ ap (λ z. record { before = []; tail = Going (first_of (0 + n) g l); blank = false; lines = z }) (one_more n)

-- From the line on that begins a block, the cut is that of these lines alone, so many lines further on.
pub meets : (T : List BlockLine → Tip) (c : Cut) (l : BlockLine) (xs : List BlockLine) → is_apart T c.tail l ≡ true → is_blank_line l ≡ false →
    cut_from T c (l ∷ xs) ≡ prepend (stretches c) (moved (gap_behind T c) c.lines (cut_by T (l ∷ xs)))
unfolding cut_from begin_where add_at tip_of all_of
meets T c l xs e f =
    let B = is_single (begun l) l in
    let G = gap_behind T c in
    let one : Cut = went [] B false 0 l in
    let began : add T c l ≡ prepend (stretches c) (moved G c.lines one) =
    apart_begins T c l c.tail e
    ∙ ap (λ z. begin_where z T c l) f
    ∙ ap (λ z. record { before = z; tail = tail_of B (first_of c.lines G l); blank = false; lines = suc c.lines }) (sym (append-nil (stretches c)))
    ∙ ap (λ z. prepend (stretches c) (went [] B z c.lines l)) (sym (and-true G))
    ∙ ap (λ z. prepend (stretches c) z) (first_went B G false c.lines l) in
    let alone : add T no_lines l ≡ one = ap (λ z. begin_where z T no_lines l) f in
    ap (λ z. cut_from T z xs) began
    ∙ cut_from_prepend T (stretches c) (moved G c.lines one) xs
    ∙ ap (λ z. prepend (stretches c) z) (cut_from_moved T G c.lines one xs (tail_of_begun B (first_of 0 false l)))
    ∙ ap (λ z. prepend (stretches c) (moved G c.lines (cut_from T z xs))) (sym alone)
