-- A list may be parted at a line exactly if the line begins an item of the list that stands last behind the lines before it.
use Rattle.std.proofs.Common.{◌≡◌, ℕ, suc, ◌+◌, ◌≤◌, ◌<◌, Bool, true, false, not, ◌&&◌, List, [], ◌∷◌, ◌++◌, length, map, Option, Some, None, refl, sym, ◌∙◌, ap, subst, append_assoc, arith}
use Rattle.std.proofs.lemmas.List.{map-append, append-nil}
use Rattle.std.specs.Prelude.{Contains}
use Rattle.std.specs.List.{flat_map}
use Rattle.mdtext.specs.EntityTable.{EntityTable}
use Rattle.blockspec.specs.BlockLine.{BlockLine, document_line}
use Rattle.blockspec.specs.BlankLines.{is_blank_line}
use Rattle.blockspec.specs.BlockStart.{begun}
use Rattle.blockspec.specs.BlockTree.{ListKind}
use Rattle.blockspec.specs.BlockUnits.{group_of, groups_within, visible_in, depth_of}
use Rattle.blockspec.specs.Laziness.{Tip}
use Rattle.blockspec.specs.LineSummary.{part_mark}
use Rattle.blockspec.specs.Lists.{Part, Leaves, Quoted, Listed, Group, is_same_list}
use Rattle.blockspec.specs.Meetings.{joins_behind, joins_list}
use Rattle.blockspec.specs.Stretches.{Stretch, Cut, no_lines, all_of, stretches, add, cut_from, cut_by, cut_within, tip_within}
use Rattle.blockspec.specs.UnitBegin.{is_apart, list_mark, same_mark, tail_mark}
use Rattle.blockspec.proofs.CutLaws.{cut_from_append}
use Rattle.blockspec.proofs.DepthLaws.{apart_deep, cut_deep}
use Rattle.blockspec.proofs.DocumentLaws.{map_length}
use Rattle.blockspec.proofs.Lacking.{Lacks, both_lack, lacks_not, behind_first}
use Rattle.blockspec.proofs.Outlines.{Mark, outline, last_mark, stays, blank_outline, begun_outline, same_as_last}
use Rattle.blockspec.proofs.UnitLaws.{IsWhole, cut_whole, cut_lines, mark_of_part}
use Rattle.blockspec.proofs.VisibleLaws.{visible_append}
use Rattle.blockspec.specs.Joins.{later_lines, joins}
use Rattle.blockspec.specs.TopBlocks.{ListItem, TopBlock, ItemList, with_item_where, with_item, item_of_group, with_part, tops_of, top_blocks}
use Rattle.blockspec.proofs.ItemsMeet.{singles_at, singles_deep}
use Rattle.blockspec.proofs.TopLaws.{item_first}

-- ---- blocks by their marks

abbrev pub number_if : Bool → ℕ → List ℕ → List ℕ
number_if true n ns = n ∷ ns
number_if false n ns = ns

abbrev pub with_number : Bool → ℕ → List ℕ → List ℕ
with_number true n ns = ns ++ n ∷ []
with_number false n ns = ns

-- where items of the same list begin as the block before them, behind a block that is an item of a list or none
later_from : Option ListKind → List Mark → List ℕ
later_from m [] = []
later_from m (x ∷ xs) = number_if (same_mark m x.1) x.0 (later_from x.1 xs)

abbrev marks_of : List Group → List Mark
marks_of gs = map (λ g. (g.begin, part_mark g.part)) gs

abbrev of_part : ℕ → Bool → Part → Group
of_part b gap p = record { begin = b; gap = gap; part = p }

where_lines : (same : Bool) (kind : ListKind) (item : ListItem) (other : ListKind) (first : ListItem) (later : List ListItem) (ts : List TopBlock) →
    flat_map later_lines (with_item_where same kind item other first later ts) ≡ number_if same first.line (flat_map later_lines (ItemList other first later ∷ ts))
where_lines true kind item other first later ts = refl
where_lines false kind item other first later ts = refl

behind_item : (kind : ListKind) (item : ListItem) (b : ℕ) (gap : Bool) (p : Part) (ts : List TopBlock) (ms : List Mark) →
    flat_map later_lines (with_part (of_part b gap p) p ts) ≡ later_from (part_mark p) ms →
    flat_map later_lines (with_item kind item (with_part (of_part b gap p) p ts)) ≡ later_from (Some kind) ((b, part_mark p) ∷ ms)
unfolding with_item later_from
behind_item kind item b gap (Leaves leaves) ts ms h = h
behind_item kind item b gap (Quoted nodes) ts ms h = h
behind_item kind item b gap (Listed other t items) ts ms h =
    let f = item_first other ts in
    let one = item_of_group (of_part b gap (Listed other t items)) t items in
    ap (λ z. flat_map later_lines (with_item kind item z)) (f.is one)
    ∙ where_lines (is_same_list kind other) kind item other one f.later f.blocks
    ∙ ap (λ z. number_if (is_same_list kind other) b z) (ap (flat_map later_lines) (sym (f.is one)) ∙ h)

one_line : (b : ℕ) (gap : Bool) (p : Part) → flat_map later_lines (with_part (of_part b gap p) p []) ≡ []
unfolding with_item
one_line b gap (Leaves leaves) = refl
one_line b gap (Quoted nodes) = refl
one_line b gap (Listed kind t items) = refl

two_lines : (b : ℕ) (gap : Bool) (p : Part) (b' : ℕ) (gap' : Bool) (p' : Part) (ts : List TopBlock) (ms : List Mark) →
    flat_map later_lines (with_part (of_part b' gap' p') p' ts) ≡ later_from (part_mark p') ms →
    flat_map later_lines (with_part (of_part b gap p) p (with_part (of_part b' gap' p') p' ts)) ≡ later_from (part_mark p) ((b', part_mark p') ∷ ms)
unfolding later_from
two_lines b gap (Leaves leaves) b' gap' p' ts ms h = h
two_lines b gap (Quoted nodes) b' gap' p' ts ms h = h
two_lines b gap (Listed kind t items) b' gap' p' ts ms h = behind_item kind (item_of_group (of_part b gap (Listed kind t items)) t items) b' gap' p' ts ms h

groups_lines : (g : Group) (gs : List Group) → flat_map later_lines (tops_of (g ∷ gs)) ≡ later_from (part_mark g.part) (marks_of gs)
unfolding tops_of later_from
groups_lines g [] = one_line g.begin g.gap g.part
groups_lines g (h ∷ gs) = two_lines g.begin g.gap g.part h.begin h.gap h.part (tops_of gs) (marks_of gs) (groups_lines h gs)

all_lines : (gs : List Group) → flat_map later_lines (tops_of gs) ≡ later_from None (marks_of gs)
unfolding tops_of later_from
all_lines [] = refl
all_lines (g ∷ gs) = groups_lines g gs

outlined : (e : EntityTable) (R : List BlockLine → List Group) (ss : List Stretch) → marks_of (map (group_of e R) ss) ≡ outline ss
outlined e R [] = refl
outlined e R (s ∷ ss) =
    ap (λ z. (s.begin, z) ∷ marks_of (map (group_of e R) ss)) (mark_of_part e R s.kind s.first s.later)
    ∙ ap (λ z. (s.begin, list_mark s.kind) ∷ z) (outlined e R ss)

abbrev pub joins_in : EntityTable → List BlockLine → List ℕ
joins_in e ls = flat_map later_lines (top_blocks e ls)

joins_at : (e : EntityTable) (d : ℕ) (ls : List BlockLine) → visible_in ls ≤ d → joins_in e ls ≡ later_from None (outline (stretches (cut_within d ls)))
joins_at e d ls h =
    ap (λ z. flat_map later_lines (tops_of z)) (sym (singles_deep e d ls h))
    ∙ all_lines (singles_at e d ls)
    ∙ ap (later_from None) (outlined e (groups_within e d) (stretches (cut_within d ls)))

-- ---- one line more

with_append : (b : Bool) (n : ℕ) (ns ms : List ℕ) → number_if b n (ns ++ ms) ≡ number_if b n ns ++ ms
with_append true n ns ms = refl
with_append false n ns ms = refl

later_append : (m : Option ListKind) (xs ys : List Mark) → later_from m (xs ++ ys) ≡ later_from m xs ++ later_from (last_mark m xs) ys
unfolding later_from last_mark
later_append m [] ys = refl
later_append m (x ∷ xs) ys =
    ap (λ z. number_if (same_mark m x.1) x.0 z) (later_append x.1 xs ys)
    ∙ with_append (same_mark m x.1) x.0 (later_from x.1 xs) (later_from (last_mark x.1 xs) ys)

push_where : (same : Bool) (n : ℕ) (ns : List ℕ) → ns ++ number_if same n [] ≡ with_number same n ns
push_where true n ns = refl
push_where false n ns = append-nil ns

push_later : (o : List Mark) (n : ℕ) (m : Option ListKind) (same : Bool) → same_mark (last_mark None o) m ≡ same →
    later_from None (o ++ (n, m) ∷ []) ≡ with_number same n (later_from None o)
unfolding later_from
push_later o n m same e =
    later_append None o ((n, m) ∷ []) ∙ ap (λ z. later_from None o ++ number_if z n []) e ∙ push_where same n (later_from None o)

line_later : (T : List BlockLine → Tip) (c : Cut) (l : BlockLine) (apart blank same : Bool) →
    is_apart T c.tail l ≡ apart → is_blank_line l ≡ blank → same_mark (tail_mark c.tail) (list_mark (begun l)) ≡ same → IsWhole c.before c.tail →
    later_from None (outline (stretches (add T c l))) ≡ with_number (apart && not blank && same) c.lines (later_from None (outline (stretches c)))
line_later T c l false blank same a b s w = ap (later_from None) (stays T c.before c.tail c.blank c.lines l a)
line_later T c l true true same a b s w = ap (later_from None) (blank_outline T c l a b)
line_later T c l true false same a b s w =
    let m = list_mark (begun l) in
    ap (later_from None) (begun_outline T c l a b) ∙ push_later (outline (stretches c)) c.lines m same (same_as_last c.before c.tail m same w s)

-- whether a line begins a later item is told by every depth that suffices
pub joins_deep : (d : ℕ) (xs : List BlockLine) (l : BlockLine) → visible_in xs < d → joins_behind (tip_within d) (cut_by (tip_within d) xs) l ≡ joins_list xs l
unfolding joins_list joins_behind
joins_deep d xs l h =
    let m = list_mark (begun l) in
    let t = (cut_within (depth_of xs) xs).tail in
    ap (λ (z : Cut). is_apart (tip_within d) (cut_within d xs).tail l && not (is_blank_line l) && same_mark (tail_mark z.tail) m) (cut_deep d xs (omega (arith, h)))
    ∙ ap (λ z. z && not (is_blank_line l) && same_mark (tail_mark t) m) (apart_deep d xs l h)

-- With one line more a list may be parted at that line too, exactly if it begins an item of the list that stands last.
pub joins_next : (e : EntityTable) (xs : List BlockLine) (l : BlockLine) → joins_in e (xs ++ l ∷ []) ≡ with_number (joins_list xs l) (length xs) (joins_in e xs)
unfolding joins_behind cut_from
joins_next e xs l =
    let all = xs ++ l ∷ [] in
    let d = suc (visible_in all) in
    let T = tip_within d in
    let c : Cut = cut_by T xs in
    let v = visible_append xs (l ∷ []) in
    let n : c.lines ≡ length xs = cut_lines T no_lines xs ∙ (let z : 0 + length xs ≡ length xs = omega arith in z) in
    joins_at e d all (omega arith)
    ∙ ap (λ (z : Cut). later_from None (outline (stretches z))) (cut_from_append T no_lines xs (l ∷ []))
    ∙ line_later T c l (is_apart T c.tail l) (is_blank_line l) (same_mark (tail_mark c.tail) (list_mark (begun l))) refl refl refl (cut_whole T no_lines xs refl)
    ∙ ap (λ z. with_number z c.lines (later_from None (outline (stretches c)))) (joins_deep d xs l (omega (arith, v)))
    ∙ ap (λ z. with_number (joins_list xs l) z (later_from None (outline (stretches c)))) n
    ∙ ap (λ z. with_number (joins_list xs l) (length xs) z) (sym (joins_at e d xs (omega (arith, v))))

-- ---- all lines

-- the lines behind some others that begin later items
joins_along : (front ls : List BlockLine) → List ℕ
joins_along front [] = []
joins_along front (l ∷ ls) = number_if (joins_list front l) (length front) (joins_along (front ++ l ∷ []) ls)

number_pushed : (b : Bool) (n : ℕ) (ns ms : List ℕ) → with_number b n ns ++ ms ≡ ns ++ number_if b n ms
number_pushed true n ns ms = append_assoc ns (n ∷ []) ms
number_pushed false n ns ms = refl

joins_go : (e : EntityTable) (front ls : List BlockLine) → joins_in e (front ++ ls) ≡ joins_in e front ++ joins_along front ls
unfolding joins_along
joins_go e front [] = ap (joins_in e) (append-nil front) ∙ sym (append-nil (joins_in e front))
joins_go e front (l ∷ ls) =
    ap (joins_in e) (sym (append_assoc front (l ∷ []) ls))
    ∙ joins_go e (front ++ l ∷ []) ls
    ∙ ap (λ z. z ++ joins_along (front ++ l ∷ []) ls) (joins_next e front l)
    ∙ number_pushed (joins_list front l) (length front) (joins_in e front) (joins_along (front ++ l ∷ []) ls)

abbrev pub AreFrom : ℕ → List ℕ → Type 0
AreFrom n [] = Unit {0}
AreFrom n (m ∷ ms) = (n ≤ m) × AreFrom n ms

abbrev pub AreBelow : ℕ → List ℕ → Type 0
AreBelow n [] = Unit {0}
AreBelow n (m ∷ ms) = (m < n) × AreBelow n ms

from_less : (n m : ℕ) (xs : List ℕ) → m ≤ n → AreFrom n xs → AreFrom m xs
from_less n m [] h w = tt
from_less n m (x ∷ xs) h w = (omega (arith, h, w.0), from_less n m xs h w.1)

from_if : (b : Bool) (n : ℕ) (ns : List ℕ) → AreFrom n ns → AreFrom n (number_if b n ns)
from_if true n ns w = (omega arith, w)
from_if false n ns w = w

below_if : (b : Bool) (k n : ℕ) (ns : List ℕ) → n < k → AreBelow k ns → AreBelow k (number_if b n ns)
below_if true k n ns h w = (h, w)
below_if false k n ns h w = w

pushed_length : {A : Type 0} (xs : List A) (x : A) → length (xs ++ x ∷ []) ≡ suc (length xs)
pushed_length [] x = refl
pushed_length (y ∷ xs) x = ap (λ z. suc z) (pushed_length xs x)

along_from : (front ls : List BlockLine) → AreFrom (length front) (joins_along front ls)
unfolding joins_along
along_from front [] = tt
along_from front (l ∷ ls) =
    let n = pushed_length front l in
    from_if (joins_list front l) (length front) (joins_along (front ++ l ∷ []) ls)
    (from_less (length (front ++ l ∷ [])) (length front) (joins_along (front ++ l ∷ []) ls) (omega (arith, n)) (along_from (front ++ l ∷ []) ls))

along_below : (front ls : List BlockLine) (k : ℕ) → length front + length ls ≤ k → AreBelow k (joins_along front ls)
unfolding joins_along
along_below front [] k h = tt
along_below front (l ∷ ls) k h =
    let n = pushed_length front l in
    below_if (joins_list front l) k (length front) (joins_along (front ++ l ∷ []) ls) (omega (arith, h)) (along_below (front ++ l ∷ []) ls k (omega (arith, h, n)))

no_joins : (e : EntityTable) → joins_in e [] ≡ []
unfolding cut_from all_of tops_of
no_joins e = refl

-- the lines of some lists that may be parted lie in them
pub joins_below : (e : EntityTable) (xs : List BlockLine) → AreBelow (length xs) (joins_in e xs)
joins_below e xs =
    subst (λ z. AreBelow (length xs) z) (sym (joins_go e [] xs ∙ ap (λ z. z ++ joins_along [] xs) (no_joins e))) (along_below [] xs (length xs) (omega arith))

-- ---- a line of the whole

below_lacks : (n : ℕ) (xs : List ℕ) → AreBelow n xs → Lacks n xs
below_lacks n [] w = tt
below_lacks n (x ∷ xs) w = (λ e. absurd (omega (arith, w.0, e)), below_lacks n xs w.1)

from_lacks : (n : ℕ) (xs : List ℕ) → AreFrom (suc n) xs → Lacks n xs
from_lacks n [] w = tt
from_lacks n (x ∷ xs) w = (λ e. absurd (omega (arith, w.0, e)), from_lacks n xs w.1)

joins_split : (e : EntityTable) (xs : List BlockLine) (l : BlockLine) (ys : List BlockLine) →
    joins_in e (xs ++ l ∷ ys) ≡ joins_in e xs ++ number_if (joins_list xs l) (length xs) (joins_along (xs ++ l ∷ []) ys)
unfolding joins_along
joins_split e xs l ys = joins_go e xs (l ∷ ys)

pub joins_there : (e : EntityTable) (xs : List BlockLine) (l : BlockLine) (ys : List BlockLine) → joins_list xs l ≡ true → Contains (joins_in e (xs ++ l ∷ ys)) (length xs)
joins_there e xs l ys j =
    let rest = joins_along (xs ++ l ∷ []) ys in
    let is : joins_in e (xs ++ l ∷ ys) ≡ joins_in e xs ++ length xs ∷ rest = joins_split e xs l ys ∙ ap (λ z. joins_in e xs ++ number_if z (length xs) rest) j in
    subst (λ z. Contains z (length xs)) (sym is) (behind_first (joins_in e xs) rest (length xs))

pub joins_only : (e : EntityTable) (xs : List BlockLine) (l : BlockLine) (ys : List BlockLine) → Contains (joins_in e (xs ++ l ∷ ys)) (length xs) → joins_list xs l ≡ true
joins_only e xs l ys w = go (joins_list xs l) refl
  where
    rest : List ℕ
    rest = joins_along (xs ++ l ∷ []) ys

    from : AreFrom (suc (length xs)) rest
    from = subst (λ z. AreFrom z rest) (pushed_length xs l) (along_from (xs ++ l ∷ []) ys)

    go : (b : Bool) → joins_list xs l ≡ b → b ≡ true
    go true h = refl
    go false h =
        let is : joins_in e (xs ++ l ∷ ys) ≡ joins_in e xs ++ rest = joins_split e xs l ys ∙ ap (λ z. joins_in e xs ++ number_if z (length xs) rest) h in
        let none = both_lack (length xs) (joins_in e xs) rest (below_lacks (length xs) (joins_in e xs) (joins_below e xs)) (from_lacks (length xs) rest from) in
        absurd (lacks_not (length xs) (joins_in e (xs ++ l ∷ ys)) (subst (λ z. Lacks (length xs) z) (sym is) none) w.0 w.1 w.2)

-- ---- the same of a document

document_joins : (e : EntityTable) (front : List (List ℕ)) (line : List ℕ) (later : List (List ℕ)) →
    joins e (front ++ line ∷ later) ≡ joins_in e (map document_line front ++ document_line line ∷ map document_line later)
document_joins e front line later = ap (joins_in e) (map-append document_line front (line ∷ later))

-- whether a line of a document begins a later item of a top-level list, behind these lines
pub document_joins_there : (e : EntityTable) (front : List (List ℕ)) (line : List ℕ) (later : List (List ℕ)) →
    joins_list (map document_line front) (document_line line) ≡ true → Contains (joins e (front ++ line ∷ later)) (length front)
document_joins_there e front line later j =
    let xs = map document_line front in
    subst (λ z. Contains z (length front)) (sym (document_joins e front line later))
    (subst (λ z. Contains (joins_in e (xs ++ document_line line ∷ map document_line later)) z) (map_length document_line front)
    (joins_there e xs (document_line line) (map document_line later) j))

pub document_joins_only : (e : EntityTable) (front : List (List ℕ)) (line : List ℕ) (later : List (List ℕ)) →
    Contains (joins e (front ++ line ∷ later)) (length front) → joins_list (map document_line front) (document_line line) ≡ true
document_joins_only e front line later w =
    let xs = map document_line front in
    joins_only e xs (document_line line) (map document_line later)
    (subst (λ z. Contains (joins_in e (xs ++ document_line line ∷ map document_line later)) z) (sym (map_length document_line front))
    (subst (λ z. Contains z (length front)) (document_joins e front line later) w))
