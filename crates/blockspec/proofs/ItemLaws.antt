-- Groups before a line that begins a block, and from it on: only the last of the one and the first of the other may be
-- items of one list.
use Rattle.std.proofs.Common.{◌≡◌, ℕ, suc, ◌<◌, Bool, true, false, not, ◌&&◌, List, [], ◌∷◌, ◌++◌, length, map, refl, sym, ◌∙◌, ap, arith, ◌==◌}
use Rattle.std.proofs.lemmas.Bool.{eqb-true}
use Rattle.std.proofs.lemmas.List.{map-append}
use Rattle.mdtext.specs.EntityTable.{EntityTable}
use Rattle.blockspec.specs.BlockLine.{BlockLine}
use Rattle.blockspec.specs.BlankLines.{is_blank_line}
use Rattle.blockspec.specs.BlockStart.{begun}
use Rattle.blockspec.specs.BlockTree.{ListKind, bullet, ordered}
use Rattle.blockspec.specs.BlockUnits.{group_of, groups_within, groups, visible_in, depth_of}
use Rattle.blockspec.specs.Lists.{Part, Leaves, Quoted, Listed, Group, is_same_list, items_before, joined_where, joined_list, joined, grouped, merged}
use Rattle.blockspec.specs.NodeTree.{ItemNodes, no_item_nodes, item_node}
use Rattle.blockspec.specs.Stretches.{Cut, stretches, gap_behind, cut_by, cut_within, tip_within}
use Rattle.blockspec.specs.Meetings.{shift_groups, joins_behind, joins_list, gap_after}
use Rattle.blockspec.specs.UnitBegin.{is_apart, list_mark, same_mark, tail_mark}
use Rattle.blockspec.proofs.CutLaws.{shift_all}
use Rattle.blockspec.proofs.VisibleLaws.{visible_append}
use Rattle.blockspec.proofs.DepthLaws.{groups_deep, apart_deep, gap_deep}
use Rattle.blockspec.proofs.GroupLaws.{joins, HasFirst, list_first, joined_apart, grouped_shift}
use Rattle.blockspec.proofs.UnitLaws.{stretches_meet, group_shift}

abbrev of_part : ℕ → Bool → Part → Group
of_part b gap p = record { begin = b; gap = gap; part = p }

and_assoc : (a b c : Bool) → (a && (b && c)) ≡ ((a && b) && c)
and_assoc true b c = refl
and_assoc false b c = refl

items_assoc : (a b c : ItemNodes) → items_before a (items_before b c) ≡ items_before (items_before a b) c
items_assoc no_item_nodes b c = refl
items_assoc (item_node nodes a) b c = ap (item_node nodes) (items_assoc a b c)

-- whether a list goes on is the same of each of its items
pub same_list : (a b c : ListKind) → is_same_list a b ≡ true → is_same_list b c ≡ is_same_list a c
same_list (bullet m) (bullet n) (bullet k) e = ap (λ z. z == k) (sym (eqb-true m n e))
same_list (bullet m) (bullet n) (ordered d s) e = refl
same_list (ordered d s) (ordered d' s') (ordered d'' s'') e = ap (λ z. z == d'') (sym (eqb-true d d' e))
same_list (ordered d s) (ordered d' s') (bullet m) e = refl
same_list (bullet m) (ordered d s) c e = absurd (let x : ⊥ = cc in x)
same_list (ordered d s) (bullet m) c e = absurd (let x : ⊥ = cc in x)

-- three items of one list
three_where : (same : Bool) (b : ℕ) (gap : Bool) (kind : ListKind) (t : Bool) (items : ItemNodes) (b' : ℕ) (gap' : Bool) (kind' : ListKind) (t' : Bool) (items' : ItemNodes)
    (h : Group) (t'' : Bool) (items'' : ItemNodes) (hs : List Group) → is_same_list kind kind' ≡ true →
    joined (of_part b gap (Listed kind t items)) (Listed kind t items) (joined_where same (of_part b' gap' (Listed kind' t' items')) kind' t' items' h t'' items'' hs)
    ≡ joined_where same (of_part b gap (Listed kind (t && not gap' && t') (items_before items items'))) kind (t && not gap' && t') (items_before items items') h t'' items'' hs
three_where true b gap kind t items b' gap' kind' t' items' h t'' items'' hs e =
    ap (λ z. joined_where z (of_part b gap (Listed kind t items)) kind t items (of_part b' gap' (Listed kind' (t' && not h.gap && t'') (items_before items' items''))) (t' && not h.gap && t'') (items_before items' items'') hs) e
    ∙ ap (λ z. of_part b gap (Listed kind z (items_before items (items_before items' items''))) ∷ hs)
    (and_assoc (t && not gap') (t' && not h.gap) t'' ∙ ap (λ z. z && t'') (and_assoc (t && not gap') t' (not h.gap)))
    ∙ ap (λ z. of_part b gap (Listed kind ((t && not gap' && t') && not h.gap && t'') z) ∷ hs) (items_assoc items items' items'')
three_where false b gap kind t items b' gap' kind' t' items' h t'' items'' hs e =
    ap (λ z. joined_where z (of_part b gap (Listed kind t items)) kind t items (of_part b' gap' (Listed kind' t' items')) t' items' (h ∷ hs)) e

three_list : (b : ℕ) (gap : Bool) (kind : ListKind) (t : Bool) (items : ItemNodes) (b' : ℕ) (gap' : Bool) (kind' : ListKind) (t' : Bool) (items' : ItemNodes)
    (h : Group) (q : Part) (hs : List Group) → is_same_list kind kind' ≡ true →
    joined (of_part b gap (Listed kind t items)) (Listed kind t items) (joined_list (of_part b' gap' (Listed kind' t' items')) kind' t' items' h q hs)
    ≡ joined_list (of_part b gap (Listed kind (t && not gap' && t') (items_before items items'))) kind (t && not gap' && t') (items_before items items') h q hs
three_list b gap kind t items b' gap' kind' t' items' h (Leaves leaves) hs e =
    ap (λ z. joined_where z (of_part b gap (Listed kind t items)) kind t items (of_part b' gap' (Listed kind' t' items')) t' items' (h ∷ hs)) e
three_list b gap kind t items b' gap' kind' t' items' h (Quoted nodes) hs e =
    ap (λ z. joined_where z (of_part b gap (Listed kind t items)) kind t items (of_part b' gap' (Listed kind' t' items')) t' items' (h ∷ hs)) e
three_list b gap kind t items b' gap' kind' t' items' h (Listed kind'' t'' items'') hs e =
    three_where (is_same_list kind' kind'') b gap kind t items b' gap' kind' t' items' h t'' items'' hs e
    ∙ ap (λ z. joined_where z (of_part b gap (Listed kind (t && not gap' && t') (items_before items items'))) kind (t && not gap' && t') (items_before items items') h t'' items'' hs)
    (same_list kind kind' kind'' e)

two_apart : (g : Group) (p : Part) (b : ℕ) (q : Part) (gs : List Group) → HasFirst b q gs → joins p q ≡ false → joined g p gs ≡ g ∷ gs
two_apart g p b q gs f e = ap (λ z. joined g p z) f.is ∙ joined_apart g p f.first f.rest (f.same p ∙ e) ∙ ap (λ z. g ∷ z) (sym f.is)

-- an item before another of its list, or of another list
two_where : (same : Bool) (b : ℕ) (gap : Bool) (kind : ListKind) (t : Bool) (items : ItemNodes) (b' : ℕ) (gap' : Bool) (kind' : ListKind) (t' : Bool) (items' : ItemNodes) (h : Group) (hs : List Group) →
    is_same_list kind kind' ≡ same →
    joined (of_part b gap (Listed kind t items)) (Listed kind t items) (joined_list (of_part b' gap' (Listed kind' t' items')) kind' t' items' h h.part hs)
    ≡ merged (joined_where same (of_part b gap (Listed kind t items)) kind t items (of_part b' gap' (Listed kind' t' items')) t' items' []) (h ∷ hs)
two_where true b gap kind t items b' gap' kind' t' items' h hs e = three_list b gap kind t items b' gap' kind' t' items' h h.part hs e
two_where false b gap kind t items b' gap' kind' t' items' h hs e = two_apart (of_part b gap (Listed kind t items)) (Listed kind t items) b' (Listed kind' t' items') (joined_list (of_part b' gap' (Listed kind' t' items')) kind' t' items' h h.part hs) (list_first b' gap' kind' t' items' h h.part hs) e

pub merged_nil : (gs : List Group) → merged gs [] ≡ gs
merged_nil [] = refl
merged_nil (g ∷ []) = refl
merged_nil (g ∷ n ∷ gs) = ap (λ z. g ∷ z) (merged_nil (n ∷ gs))

two_parts : (b : ℕ) (gap : Bool) (kind : ListKind) (t : Bool) (items : ItemNodes) (b' : ℕ) (gap' : Bool) (q : Part) (h : Group) (hs : List Group) →
    joined (of_part b gap (Listed kind t items)) (Listed kind t items) (joined (of_part b' gap' q) q (h ∷ hs))
    ≡ merged (joined_list (of_part b gap (Listed kind t items)) kind t items (of_part b' gap' q) q []) (h ∷ hs)
two_parts b gap kind t items b' gap' (Leaves leaves) h hs = refl
two_parts b gap kind t items b' gap' (Quoted nodes) h hs = refl
two_parts b gap kind t items b' gap' (Listed kind' t' items') h hs = two_where (is_same_list kind kind') b gap kind t items b' gap' kind' t' items' h hs refl

one_merged : (b : ℕ) (gap : Bool) (p : Part) (n h : Group) (hs : List Group) →
    joined (of_part b gap p) p (joined n n.part (h ∷ hs)) ≡ merged (joined (of_part b gap p) p (n ∷ [])) (h ∷ hs)
one_merged b gap (Leaves leaves) n h hs = refl
one_merged b gap (Quoted nodes) n h hs = refl
one_merged b gap (Listed kind t items) n h hs = two_parts b gap kind t items n.begin n.gap n.part h hs

where_merged : (same : Bool) (g : Group) (kind : ListKind) (t : Bool) (items : ItemNodes) (n : Group) (t' : Bool) (items' : ItemNodes) (m : Group) (ns hs : List Group) →
    joined_where same g kind t items n t' items' (merged (m ∷ ns) hs) ≡ merged (joined_where same g kind t items n t' items' (m ∷ ns)) hs
where_merged true g kind t items n t' items' m ns hs = refl
where_merged false g kind t items n t' items' m ns hs = refl

list_merged : (g : Group) (kind : ListKind) (t : Bool) (items : ItemNodes) (n : Group) (q : Part) (m : Group) (ns hs : List Group) →
    joined_list g kind t items n q (merged (m ∷ ns) hs) ≡ merged (joined_list g kind t items n q (m ∷ ns)) hs
list_merged g kind t items n (Leaves leaves) m ns hs = refl
list_merged g kind t items n (Quoted nodes) m ns hs = refl
list_merged g kind t items n (Listed kind' t' items') m ns hs = where_merged (is_same_list kind kind') g kind t items n t' items' m ns hs

more_merged : (b : ℕ) (gap : Bool) (p : Part) (n m : Group) (ns hs : List Group) →
    joined (of_part b gap p) p (n ∷ merged (m ∷ ns) hs) ≡ merged (joined (of_part b gap p) p (n ∷ m ∷ ns)) hs
more_merged b gap (Leaves leaves) n m ns hs = refl
more_merged b gap (Quoted nodes) n m ns hs = refl
more_merged b gap (Listed kind t items) n m ns hs = list_merged (of_part b gap (Listed kind t items)) kind t items n n.part m ns hs

none_merged : (b : ℕ) (gap : Bool) (p : Part) (hs : List Group) → joined (of_part b gap p) p hs ≡ merged (joined (of_part b gap p) p []) hs
none_merged b gap (Leaves leaves) [] = refl
none_merged b gap (Quoted nodes) [] = refl
none_merged b gap (Listed kind t items) [] = refl
none_merged b gap (Leaves leaves) (h ∷ hs) = refl
none_merged b gap (Quoted nodes) (h ∷ hs) = refl
none_merged b gap (Listed kind t items) (h ∷ hs) = refl

joined_merged : (g : Group) (ns hs : List Group) → joined g g.part (merged ns hs) ≡ merged (joined g g.part ns) hs
joined_merged g [] hs = none_merged g.begin g.gap g.part hs
joined_merged g (n ∷ []) [] = sym (merged_nil (joined g g.part (n ∷ [])))
joined_merged g (n ∷ []) (h ∷ hs) = one_merged g.begin g.gap g.part n h hs
joined_merged g (n ∷ m ∷ ns) hs = more_merged g.begin g.gap g.part n m ns hs

-- Groups one after the other are joined on either side, and then where they meet.
pub grouped_merged : (gs hs : List Group) → grouped (gs ++ hs) ≡ merged (grouped gs) (grouped hs)
unfolding grouped
grouped_merged [] hs = refl
grouped_merged (g ∷ gs) hs = ap (λ z. joined g g.part z) (grouped_merged gs hs) ∙ joined_merged g (grouped gs) (grouped hs)

groups_split : (e : EntityTable) (d : ℕ) (xs : List BlockLine) (l : BlockLine) (ys : List BlockLine) →
    is_apart (tip_within d) (cut_by (tip_within d) xs).tail l ≡ true → is_blank_line l ≡ false →
    groups_within e (suc d) (xs ++ l ∷ ys)
    ≡ merged (groups_within e (suc d) xs) (shift_groups (gap_behind (tip_within d) (cut_by (tip_within d) xs)) (length xs) (groups_within e (suc d) (l ∷ ys)))
unfolding groups_within
groups_split e d xs l ys a b =
    let T = tip_within d in
    let G = group_of e (groups_within e d) in
    let c : Cut = cut_by T xs in
    let c' : Cut = cut_by T (l ∷ ys) in
    let gap = gap_behind T c in
    ap (λ z. grouped (map G z)) (stretches_meet T xs l ys a b)
    ∙ ap grouped (map-append G (stretches c) (shift_all gap (length xs) (stretches c')))
    ∙ grouped_merged (map G (stretches c)) (map G (shift_all gap (length xs) (stretches c')))
    ∙ ap (λ z. merged (grouped (map G (stretches c))) z)
    (ap grouped (group_shift e (groups_within e d) gap (length xs) (stretches c')) ∙ grouped_shift gap (length xs) (map G (stretches c')))

-- From a line on that begins a block, a list's later item too, the groups are those of these lines alone, so many lines
-- further on; those before it are those of the lines before it alone; and where they meet one list may go on.
pub groups_meet : (e : EntityTable) (d : ℕ) (xs : List BlockLine) (l : BlockLine) (ys : List BlockLine) → visible_in (xs ++ l ∷ ys) < d →
    is_apart (tip_within d) (cut_by (tip_within d) xs).tail l ≡ true → is_blank_line l ≡ false →
    groups e (xs ++ l ∷ ys) ≡ merged (groups e xs) (shift_groups (gap_behind (tip_within d) (cut_by (tip_within d) xs)) (length xs) (groups e (l ∷ ys)))
groups_meet e d xs l ys h a b =
    let v = visible_append xs (l ∷ ys) in
    let gap = gap_behind (tip_within d) (cut_by (tip_within d) xs) in
    sym (groups_deep e (suc d) (xs ++ l ∷ ys) (omega (arith, h)))
    ∙ groups_split e d xs l ys a b
    ∙ ap (λ z. merged z (shift_groups gap (length xs) (groups_within e (suc d) (l ∷ ys)))) (groups_deep e (suc d) xs (omega (arith, h, v)))
    ∙ ap (λ z. merged (groups e xs) (shift_groups gap (length xs) z)) (groups_deep e (suc d) (l ∷ ys) (omega (arith, h, v)))

front_two : (a b c : Bool) → (a && not b && c) ≡ true → (a ≡ true) × (b ≡ false)
front_two true false c e = (refl, refl)
front_two true true c e = absurd (let x : ⊥ = cc in x)
front_two false b c e = absurd (let x : ⊥ = cc in x)

-- The same where a line begins an item of the list that stands last.
pub items_that_meet : (e : EntityTable) (xs : List BlockLine) (l : BlockLine) (ys : List BlockLine) → joins_list xs l ≡ true →
    groups e (xs ++ l ∷ ys) ≡ merged (groups e xs) (shift_groups (gap_after xs) (length xs) (groups e (l ∷ ys)))
unfolding joins_list joins_behind gap_after
items_that_meet e xs l ys j =
    let all = xs ++ l ∷ ys in
    let d = suc (visible_in all) in
    let v = visible_append xs (l ∷ ys) in
    let front : visible_in xs < d = omega (arith, v) in
    let t = (cut_within (depth_of xs) xs).tail in
    let both = front_two (is_apart (tip_within (depth_of xs)) t l) (is_blank_line l) (same_mark (tail_mark t) (list_mark (begun l))) j in
    groups_meet e d xs l ys (omega arith) (apart_deep d xs l front ∙ both.0) both.1
    ∙ ap (λ z. merged (groups e xs) (shift_groups z (length xs) (groups e (l ∷ ys)))) (gap_deep d xs front)
