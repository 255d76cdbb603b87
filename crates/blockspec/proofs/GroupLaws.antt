-- How groups are joined to lists that stand behind others.
use Rattle.std.proofs.Common.{◌≡◌, ℕ, ◌+◌, ◌-◌, Bool, true, false, not, ◌&&◌, List, [], ◌∷◌, ◌++◌, map, refl, sym, ◌∙◌, ap, arith}
use Rattle.blockspec.specs.BlockTree.{ListKind}
use Rattle.blockspec.specs.Lists.{Part, Leaves, Quoted, Listed, Group, is_same_list, items_before, joined_where, joined_list, joined, grouped, part_before}
use Rattle.blockspec.specs.NodeTree.{no_nodes, ItemNodes, unit_of}
use Rattle.blockspec.specs.BlockUnits.{next_begin, found_units}
use Rattle.blockspec.specs.Meetings.{shift_group, shift_group_first, shift_groups}
use Rattle.blockspec.specs.UnitBegin.{shift_found}
use Rattle.blockspec.specs.UnitTree.{FoundUnit}

-- two neighbours are items of one list
abbrev pub joins : Part → Part → Bool
joins (Listed kind tight items) (Listed other tight' items') = is_same_list kind other
joins (Listed kind tight items) (Leaves leaves) = false
joins (Listed kind tight items) (Quoted nodes) = false
joins (Leaves leaves) part = false
joins (Quoted nodes) part = false

pub joined_nil : (g : Group) (p : Part) → joined g p [] ≡ g ∷ []
joined_nil g (Leaves leaves) = refl
joined_nil g (Quoted nodes) = refl
joined_nil g (Listed kind tight items) = refl

where_apart : (b : Bool) (g : Group) (kind : ListKind) (t : Bool) (items : ItemNodes) (n : Group) (t' : Bool) (later : ItemNodes) (ns : List Group) →
    b ≡ false → joined_where b g kind t items n t' later ns ≡ g ∷ n ∷ ns
where_apart false g kind t items n t' later ns e = refl
where_apart true g kind t items n t' later ns e = absurd (let x : ⊥ = cc in x)

list_apart : (g : Group) (kind : ListKind) (t : Bool) (items : ItemNodes) (n : Group) (p : Part) (ns : List Group) →
    joins (Listed kind t items) p ≡ false → joined_list g kind t items n p ns ≡ g ∷ n ∷ ns
list_apart g kind t items n (Leaves leaves) ns e = refl
list_apart g kind t items n (Quoted nodes) ns e = refl
list_apart g kind t items n (Listed other t' later) ns e = where_apart (is_same_list kind other) g kind t items n t' later ns e

pub joined_apart : (g : Group) (p : Part) (n : Group) (ns : List Group) → joins p n.part ≡ false → joined g p (n ∷ ns) ≡ g ∷ n ∷ ns
joined_apart g (Leaves leaves) n ns e = refl
joined_apart g (Quoted nodes) n ns e = refl
joined_apart g (Listed kind t items) n ns e = list_apart g kind t items n n.part ns e

where_append : (b : Bool) (g : Group) (kind : ListKind) (t : Bool) (items : ItemNodes) (n : Group) (t' : Bool) (later : ItemNodes) (ns ys : List Group) →
    joined_where b g kind t items n t' later (ns ++ ys) ≡ joined_where b g kind t items n t' later ns ++ ys
where_append true g kind t items n t' later ns ys = refl
where_append false g kind t items n t' later ns ys = refl

list_append : (g : Group) (kind : ListKind) (t : Bool) (items : ItemNodes) (n : Group) (p : Part) (ns ys : List Group) →
    joined_list g kind t items n p (ns ++ ys) ≡ joined_list g kind t items n p ns ++ ys
list_append g kind t items n (Leaves leaves) ns ys = refl
list_append g kind t items n (Quoted nodes) ns ys = refl
list_append g kind t items n (Listed other t' later) ns ys = where_append (is_same_list kind other) g kind t items n t' later ns ys

joined_append : (g : Group) (p : Part) (n : Group) (ns ys : List Group) → joined g p (n ∷ ns ++ ys) ≡ joined g p (n ∷ ns) ++ ys
joined_append g (Leaves leaves) n ns ys = refl
joined_append g (Quoted nodes) n ns ys = refl
joined_append g (Listed kind t items) n ns ys = list_append g kind t items n n.part ns ys

-- the first of some groups that are joined begins as the first of them, and joins what it does
pub record HasFirst (b : ℕ) (p : Part) (gs : List Group) : Type 0 where
  pub first : Group
  pub rest : List Group
  pub is : gs ≡ first ∷ rest
  pub begins : first.begin ≡ b
  pub same : (q : Part) → joins q first.part ≡ joins q p

abbrev of_part : ℕ → Bool → Part → Group
of_part b gap p = record { begin = b; gap = gap; part = p }

alone : (b : ℕ) (gap : Bool) (p : Part) (gs : List Group) → HasFirst b p (of_part b gap p ∷ gs)
alone b gap p gs = record { first = of_part b gap p; rest = gs; is = refl; begins = refl; same = λ q. refl }

same_list : (kind : ListKind) (t t' : Bool) (items items' : ItemNodes) (q : Part) → joins q (Listed kind t items) ≡ joins q (Listed kind t' items')
same_list kind t t' items items' (Leaves leaves) = refl
same_list kind t t' items items' (Quoted nodes) = refl
same_list kind t t' items items' (Listed other t'' items'') = refl

where_first : (same : Bool) (b : ℕ) (gap : Bool) (kind : ListKind) (t : Bool) (items : ItemNodes) (n : Group) (t' : Bool) (later : ItemNodes) (ns : List Group) →
    HasFirst b (Listed kind t items) (joined_where same (of_part b gap (Listed kind t items)) kind t items n t' later ns)
where_first true b gap kind t items n t' later ns = record {
  first = of_part b gap (Listed kind (t && not n.gap && t') (items_before items later));
  rest = ns;
  is = refl;
  begins = refl;
  same = same_list kind (t && not n.gap && t') t (items_before items later) items;
}
where_first false b gap kind t items n t' later ns = alone b gap (Listed kind t items) (n ∷ ns)

pub list_first : (b : ℕ) (gap : Bool) (kind : ListKind) (t : Bool) (items : ItemNodes) (n : Group) (p : Part) (ns : List Group) →
    HasFirst b (Listed kind t items) (joined_list (of_part b gap (Listed kind t items)) kind t items n p ns)
list_first b gap kind t items n (Leaves leaves) ns = alone b gap (Listed kind t items) (n ∷ ns)
list_first b gap kind t items n (Quoted nodes) ns = alone b gap (Listed kind t items) (n ∷ ns)
list_first b gap kind t items n (Listed other t' later) ns = where_first (is_same_list kind other) b gap kind t items n t' later ns

joined_first : (b : ℕ) (gap : Bool) (p : Part) (gs : List Group) → HasFirst b p (joined (of_part b gap p) p gs)
joined_first b gap (Leaves leaves) gs = alone b gap (Leaves leaves) gs
joined_first b gap (Quoted nodes) gs = alone b gap (Quoted nodes) gs
joined_first b gap (Listed kind t items) [] = alone b gap (Listed kind t items) []
joined_first b gap (Listed kind t items) (n ∷ ns) = list_first b gap kind t items n n.part ns

pub grouped_first : (g : Group) (gs : List Group) → HasFirst g.begin g.part (grouped (g ∷ gs))
unfolding grouped
grouped_first g gs = joined_first g.begin g.gap g.part (grouped gs)

-- groups that are joined have a first one
some_first : (gs : List Group) (g : Group) → (n : Group) × (ns : List Group) × (grouped (gs ++ g ∷ []) ≡ n ∷ ns)
some_first [] g = let f = grouped_first g [] in (f.first, f.rest, f.is)
some_first (a ∷ gs) g = let f = grouped_first a (gs ++ g ∷ []) in (f.first, f.rest, f.is)

pub one_group : (g : Group) → grouped (g ∷ []) ≡ g ∷ []
unfolding grouped
one_group g = joined_nil g g.part

last_apart : (g h : Group) (hs : List Group) → joins g.part h.part ≡ false → joined g g.part (grouped (h ∷ hs)) ≡ g ∷ grouped (h ∷ hs)
last_apart g h hs e =
    let f = grouped_first h hs in
    ap (λ z. joined g g.part z) f.is
    ∙ joined_apart g g.part f.first f.rest (f.same g.part ∙ e)
    ∙ ap (λ z. g ∷ z) (sym f.is)

-- Where two neighbours are no items of one list, groups are joined on either side alone.
pub grouped_append : (gs : List Group) (g h : Group) (hs : List Group) → joins g.part h.part ≡ false →
    grouped ((gs ++ g ∷ []) ++ h ∷ hs) ≡ grouped (gs ++ g ∷ []) ++ grouped (h ∷ hs)
unfolding grouped
grouped_append [] g h hs e = last_apart g h hs e ∙ ap (λ z. z ++ grouped (h ∷ hs)) (sym (one_group g))
grouped_append (a ∷ gs) g h hs e =
    let f = some_first gs g in
    ap (λ z. joined a a.part z) (grouped_append gs g h hs e)
    ∙ ap (λ z. joined a a.part (z ++ grouped (h ∷ hs))) f.2
    ∙ joined_append a a.part f.0 f.1 (grouped (h ∷ hs))
    ∙ ap (λ z. joined a a.part z ++ grouped (h ∷ hs)) (sym f.2)

-- ---- lines before

where_shift : (same : Bool) (gap : Bool) (k : ℕ) (g : Group) (kind : ListKind) (t : Bool) (items : ItemNodes) (n : Group) (t' : Bool) (later : ItemNodes) (ns : List Group) →
    joined_where same (shift_group_first gap k g) kind t items (shift_group k n) t' later (map (shift_group k) ns)
    ≡ shift_groups gap k (joined_where same g kind t items n t' later ns)
where_shift true gap k g kind t items n t' later ns = refl
where_shift false gap k g kind t items n t' later ns = refl

list_shift : (gap : Bool) (k : ℕ) (g : Group) (kind : ListKind) (t : Bool) (items : ItemNodes) (n : Group) (p : Part) (ns : List Group) →
    joined_list (shift_group_first gap k g) kind t items (shift_group k n) p (map (shift_group k) ns) ≡ shift_groups gap k (joined_list g kind t items n p ns)
list_shift gap k g kind t items n (Leaves leaves) ns = refl
list_shift gap k g kind t items n (Quoted nodes) ns = refl
list_shift gap k g kind t items n (Listed other t' later) ns = where_shift (is_same_list kind other) gap k g kind t items n t' later ns

joined_shift : (gap : Bool) (k : ℕ) (g : Group) (p : Part) (gs : List Group) →
    joined (shift_group_first gap k g) p (map (shift_group k) gs) ≡ shift_groups gap k (joined g p gs)
joined_shift gap k g (Leaves leaves) gs = refl
joined_shift gap k g (Quoted nodes) gs = refl
joined_shift gap k g (Listed kind t items) [] = refl
joined_shift gap k g (Listed kind t items) (n ∷ ns) = list_shift gap k g kind t items n n.part ns

-- where the first mark of a gap stays
all_shift : (k : ℕ) (g : Group) (gs ns : List Group) → gs ≡ g ∷ ns → shift_groups g.gap k gs ≡ map (shift_group k) gs
all_shift k g gs ns e = ap (λ z. shift_groups g.gap k z) e ∙ ap (λ z. map (shift_group k) z) (sym e)

record KeepsGap (gap : Bool) (gs : List Group) : Type 0 where
  first : Group
  rest : List Group
  is : gs ≡ first ∷ rest
  gap_is : first.gap ≡ gap

keeps_alone : (g : Group) (gs : List Group) → KeepsGap g.gap (g ∷ gs)
keeps_alone g gs = record { first = g; rest = gs; is = refl; gap_is = refl }

where_keeps : (same : Bool) (g : Group) (kind : ListKind) (t : Bool) (items : ItemNodes) (n : Group) (t' : Bool) (later : ItemNodes) (ns : List Group) →
    KeepsGap g.gap (joined_where same g kind t items n t' later ns)
where_keeps true g kind t items n t' later ns =
    record { first = record { begin = g.begin; gap = g.gap; part = Listed kind (t && not n.gap && t') (items_before items later) }; rest = ns; is = refl; gap_is = refl }
where_keeps false g kind t items n t' later ns = keeps_alone g (n ∷ ns)

list_keeps : (g : Group) (kind : ListKind) (t : Bool) (items : ItemNodes) (n : Group) (p : Part) (ns : List Group) → KeepsGap g.gap (joined_list g kind t items n p ns)
list_keeps g kind t items n (Leaves leaves) ns = keeps_alone g (n ∷ ns)
list_keeps g kind t items n (Quoted nodes) ns = keeps_alone g (n ∷ ns)
list_keeps g kind t items n (Listed other t' later) ns = where_keeps (is_same_list kind other) g kind t items n t' later ns

joined_keeps : (g : Group) (p : Part) (gs : List Group) → KeepsGap g.gap (joined g p gs)
joined_keeps g (Leaves leaves) gs = keeps_alone g gs
joined_keeps g (Quoted nodes) gs = keeps_alone g gs
joined_keeps g (Listed kind t items) [] = keeps_alone g []
joined_keeps g (Listed kind t items) (n ∷ ns) = list_keeps g kind t items n n.part ns

keeps_shift : (k : ℕ) (gap : Bool) (gs : List Group) → KeepsGap gap gs → shift_groups gap k gs ≡ map (shift_group k) gs
keeps_shift k gap gs w = ap (λ z. shift_groups z k gs) (sym w.gap_is) ∙ all_shift k w.first gs w.rest w.is

grouped_map : (k : ℕ) (gs : List Group) → grouped (map (shift_group k) gs) ≡ map (shift_group k) (grouped gs)
unfolding grouped
grouped_map k [] = refl
grouped_map k (g ∷ gs) =
    ap (λ z. joined (shift_group k g) g.part z) (grouped_map k gs)
    ∙ joined_shift g.gap k g g.part (grouped gs)
    ∙ keeps_shift k g.gap (joined g g.part (grouped gs)) (joined_keeps g g.part (grouped gs))

pub grouped_shift : (gap : Bool) (k : ℕ) (gs : List Group) → grouped (shift_groups gap k gs) ≡ shift_groups gap k (grouped gs)
unfolding grouped
grouped_shift gap k [] = refl
grouped_shift gap k (g ∷ gs) =
    ap (λ z. joined (shift_group_first gap k g) g.part z) (grouped_map k gs)
    ∙ joined_shift gap k g g.part (grouped gs)

-- ---- units

-- the unit of a group
abbrev found_of : ℕ → Part → (next : ℕ) → FoundUnit
found_of b p next = record { begin = b; lines = next - b; unit = unit_of (part_before p no_nodes) }

next_append : (gs : List Group) (h : Group) (hs : List Group) (n : ℕ) → next_begin (gs ++ h ∷ hs) n ≡ next_begin gs h.begin
next_append [] h hs n = refl
next_append (g ∷ gs) h hs n = refl

pub found_append : (gs : List Group) (h : Group) (hs : List Group) (n : ℕ) → found_units (gs ++ h ∷ hs) n ≡ found_units gs h.begin ++ found_units (h ∷ hs) n
unfolding found_units
found_append [] h hs n = refl
found_append (g ∷ gs) h hs n =
    ap (λ z. found_of g.begin g.part z ∷ found_units (gs ++ h ∷ hs) n) (next_append gs h hs n)
    ∙ ap (λ z. found_of g.begin g.part (next_begin gs h.begin) ∷ z) (found_append gs h hs n)

same_lines : (a b k : ℕ) → (a + k) - (b + k) ≡ a - b
same_lines a b k = omega arith

next_shift : (k : ℕ) (gs : List Group) (n : ℕ) → next_begin (map (shift_group k) gs) (n + k) ≡ next_begin gs n + k
next_shift k [] n = refl
next_shift k (g ∷ gs) n = refl

-- a group's unit, whatever the mark of a gap
first_found : (k : ℕ) (g : Group) (gs : List Group) (n : ℕ) (more : List FoundUnit) →
    found_of (g.begin + k) g.part (next_begin (map (shift_group k) gs) (n + k)) ∷ more ≡ shift_found k (found_of g.begin g.part (next_begin gs n)) ∷ more
first_found k g gs n more =
    ap (λ z. found_of (g.begin + k) g.part z ∷ more) (next_shift k gs n)
    ∙ ap (λ z. record { begin = g.begin + k; lines = z; unit = unit_of (part_before g.part no_nodes) } ∷ more) (same_lines (next_begin gs n) g.begin k)

found_map : (k : ℕ) (gs : List Group) (n : ℕ) → found_units (map (shift_group k) gs) (n + k) ≡ map (shift_found k) (found_units gs n)
unfolding found_units
found_map k [] n = refl
found_map k (g ∷ gs) n =
    first_found k g gs n (found_units (map (shift_group k) gs) (n + k))
    ∙ ap (λ z. shift_found k (found_of g.begin g.part (next_begin gs n)) ∷ z) (found_map k gs n)

pub found_shift : (gap : Bool) (k : ℕ) (gs : List Group) (n : ℕ) → found_units (shift_groups gap k gs) (n + k) ≡ map (shift_found k) (found_units gs n)
unfolding found_units
found_shift gap k [] n = refl
found_shift gap k (g ∷ gs) n =
    first_found k g gs n (found_units (map (shift_group k) gs) (n + k))
    ∙ ap (λ z. shift_found k (found_of g.begin g.part (next_begin gs n)) ∷ z) (found_map k gs n)
