-- What one block more makes of some groups: where there are gaps, and which list goes on.
use Rattle.std.proofs.Common.{◌≡◌, ℕ, Bool, true, false, not, ◌&&◌, ◌||◌, List, [], ◌∷◌, ◌++◌, Option, Some, None, refl, sym, ◌∙◌, ap}
use Rattle.std.specs.List.{list_any}
use Rattle.blockspec.specs.BlockTree.{ListKind}
use Rattle.blockspec.specs.LineSummary.{part_mark}
use Rattle.blockspec.specs.Lists.{Part, Leaves, Quoted, Listed, Group, is_same_list, items_before, joined_where, joined, merged, is_tight_inside}
use Rattle.blockspec.specs.NodeTree.{ItemNodes}
use Rattle.blockspec.specs.UnitBegin.{same_mark}
use Rattle.blockspec.proofs.ItemLaws.{same_list}
use Rattle.mdblock.specs.held.LevelSteps.{last_mark, tight_with}
use Rattle.mdblock.specs.held.HeldNodes.{ListSoFar, list_behind, list_where, list_at, behind_group, list_of}

abbrev pub group_with : ℕ → Bool → Part → Group
group_with b gap p = record { begin = b; gap = gap; part = p }

-- ---- gaps

abbrev pub gaps : List Group → List Bool
gaps [] = []
gaps (g ∷ gs) = g.gap ∷ gaps gs

abbrev pub any_gap : List Bool → Bool
any_gap [] = false
any_gap (b ∷ bs) = b || any_gap bs

abbrev pub tight_gaps : List Bool → Bool
tight_gaps [] = true
tight_gaps (b ∷ bs) = not (any_gap bs)

any_gaps : (gs : List Group) → list_any (λ child. child.gap) gs ≡ any_gap (gaps gs)
any_gaps [] = refl
any_gaps (g ∷ gs) = ap (λ z. g.gap || z) (any_gaps gs)

pub tight_by_gaps : (gs : List Group) → is_tight_inside gs ≡ tight_gaps (gaps gs)
tight_by_gaps [] = refl
tight_by_gaps (g ∷ gs) = ap not (any_gaps gs)

abbrev pub gaps_by : (same : Bool) → List Bool → Bool → List Bool
gaps_by true gs gap = gs
gaps_by false gs gap = gs ++ gap ∷ []

gaps_cons : (same : Bool) (x : Bool) (gs : List Bool) (gap : Bool) → x ∷ gaps_by same gs gap ≡ gaps_by same (x ∷ gs) gap
gaps_cons true x gs gap = refl
gaps_cons false x gs gap = refl

gaps_where : (same : Bool) (g : Group) (kind : ListKind) (t : Bool) (items : ItemNodes) (h : Group) (t' : Bool) (items' : ItemNodes) →
    gaps (joined_where same g kind t items h t' items' []) ≡ gaps_by same (g.gap ∷ []) h.gap
gaps_where true g kind t items h t' items' = refl
gaps_where false g kind t items h t' items' = refl

gaps_two : (b : ℕ) (gap : Bool) (p : Part) (b' : ℕ) (gap' : Bool) (q : Part) →
    gaps (joined (group_with b gap p) p (group_with b' gap' q ∷ [])) ≡ gaps_by (same_mark (part_mark p) (part_mark q)) (gap ∷ []) gap'
gaps_two b gap (Leaves leaves) b' gap' q = refl
gaps_two b gap (Quoted nodes) b' gap' q = refl
gaps_two b gap (Listed kind t items) b' gap' (Leaves leaves) = refl
gaps_two b gap (Listed kind t items) b' gap' (Quoted nodes) = refl
gaps_two b gap (Listed kind t items) b' gap' (Listed kind' t' items') =
    gaps_where (is_same_list kind kind') (group_with b gap (Listed kind t items)) kind t items (group_with b' gap' (Listed kind' t' items')) t' items'

pub gaps_merged : (before : List Group) (b : ℕ) (gap : Bool) (p : Part) →
    gaps (merged before (group_with b gap p ∷ [])) ≡ gaps_by (same_mark (last_mark before) (part_mark p)) (gaps before) gap
gaps_merged [] b gap p = refl
gaps_merged (g ∷ []) b gap p = gaps_two g.begin g.gap g.part b gap p
gaps_merged (g ∷ n ∷ gs) b gap p =
    ap (λ z. g.gap ∷ z) (gaps_merged (n ∷ gs) b gap p) ∙ gaps_cons (same_mark (last_mark (n ∷ gs)) (part_mark p)) g.gap (gaps (n ∷ gs)) gap

-- Of a group only whether it is an item of which list tells what it is joined to.
pub same_gaps : (before : List Group) (b : ℕ) (gap : Bool) (p q : Part) → part_mark p ≡ part_mark q →
    is_tight_inside (merged before (group_with b gap p ∷ [])) ≡ is_tight_inside (merged before (group_with b gap q ∷ []))
same_gaps before b gap p q e =
    tight_by_gaps (merged before (group_with b gap p ∷ []))
    ∙ ap tight_gaps (gaps_merged before b gap p ∙ ap (λ z. gaps_by (same_mark (last_mark before) z) (gaps before) gap) e ∙ sym (gaps_merged before b gap q))
    ∙ sym (tight_by_gaps (merged before (group_with b gap q ∷ [])))

abbrev pub IsAny : List Group → Type 0
IsAny [] = ⊥
IsAny (g ∷ gs) = Unit {0}

any_push : (gs : List Bool) (gap : Bool) → any_gap (gs ++ gap ∷ []) ≡ any_gap gs || gap
any_push [] true = refl
any_push [] false = refl
any_push (true ∷ gs) gap = refl
any_push (false ∷ gs) gap = any_push gs gap

not_or : (a b : Bool) → not (a || b) ≡ not a && not b
not_or true b = refl
not_or false b = refl

-- a block that is joined to none
pub tight_apart : (before : List Group) (b : ℕ) (gap : Bool) (p : Part) → IsAny before → same_mark (last_mark before) (part_mark p) ≡ false →
    is_tight_inside (merged before (group_with b gap p ∷ [])) ≡ is_tight_inside before && not gap
tight_apart [] b gap p any apart = absurd any
tight_apart (g ∷ gs) b gap p any apart =
    tight_by_gaps (merged (g ∷ gs) (group_with b gap p ∷ []))
    ∙ ap tight_gaps (gaps_merged (g ∷ gs) b gap p ∙ ap (λ z. gaps_by z (gaps (g ∷ gs)) gap) apart)
    ∙ ap not (any_push (gaps gs) gap)
    ∙ not_or (any_gap (gaps gs)) gap
    ∙ ap (λ z. z && not gap) (sym (tight_by_gaps (g ∷ gs)))

-- the next item of the list
pub tight_joined : (before : List Group) (b : ℕ) (gap : Bool) (p : Part) → same_mark (last_mark before) (part_mark p) ≡ true →
    is_tight_inside (merged before (group_with b gap p ∷ [])) ≡ is_tight_inside before
tight_joined before b gap p same =
    tight_by_gaps (merged before (group_with b gap p ∷ []))
    ∙ ap tight_gaps (gaps_merged before b gap p ∙ ap (λ z. gaps_by z (gaps before) gap) same)
    ∙ sym (tight_by_gaps before)

-- a block that is joined to none, behind others or not
pub tight_pushed : (before : List Group) (b : ℕ) (gap : Bool) (p : Part) → same_mark (last_mark before) (part_mark p) ≡ false →
    is_tight_inside (merged before (group_with b gap p ∷ [])) ≡ tight_with before gap
tight_pushed [] b gap p apart = refl
tight_pushed (g ∷ gs) b gap p apart = tight_apart (g ∷ gs) b gap p tt apart

-- ---- the last list

any_where : (same : Bool) (g : Group) (kind : ListKind) (t : Bool) (items : ItemNodes) (h : Group) (t' : Bool) (items' : ItemNodes) → IsAny (joined_where same g kind t items h t' items' [])
any_where true g kind t items h t' items' = tt
any_where false g kind t items h t' items' = tt

any_two : (g : Group) (p q : Part) (b : ℕ) (gap : Bool) → IsAny (joined g p (group_with b gap q ∷ []))
any_two g (Leaves leaves) q b gap = tt
any_two g (Quoted nodes) q b gap = tt
any_two g (Listed kind t items) (Leaves leaves) b gap = tt
any_two g (Listed kind t items) (Quoted nodes) b gap = tt
any_two g (Listed kind t items) (Listed kind' t' items') b gap = any_where (is_same_list kind kind') g kind t items (group_with b gap (Listed kind' t' items')) t' items'

pub any_merged : (before : List Group) (b : ℕ) (gap : Bool) (p : Part) → IsAny (merged before (group_with b gap p ∷ []))
any_merged [] b gap p = tt
any_merged (g ∷ []) b gap p = any_two g g.part p b gap
any_merged (g ∷ n ∷ gs) b gap p = tt

mark_cons : (g : Group) (gs : List Group) → IsAny gs → last_mark (g ∷ gs) ≡ last_mark gs
mark_cons g [] any = absurd any
mark_cons g (n ∷ gs) any = refl

mark_where : (same : Bool) (g : Group) (kind : ListKind) (t : Bool) (items : ItemNodes) (b : ℕ) (gap : Bool) (kind' : ListKind) (t' : Bool) (items' : ItemNodes) (m : Option ListKind) →
    is_same_list kind kind' ≡ same →
    same_mark (last_mark (joined_where same g kind t items (group_with b gap (Listed kind' t' items')) t' items' [])) m ≡ same_mark (Some kind') m
mark_where true g kind t items b gap kind' t' items' None e = refl
mark_where true g kind t items b gap kind' t' items' (Some m) e = sym (same_list kind kind' m e)
mark_where false g kind t items b gap kind' t' items' m e = refl

mark_two : (g : Group) (p : Part) (b : ℕ) (gap : Bool) (q : Part) (m : Option ListKind) →
    same_mark (last_mark (joined g p (group_with b gap q ∷ []))) m ≡ same_mark (part_mark q) m
mark_two g (Leaves leaves) b gap q m = refl
mark_two g (Quoted nodes) b gap q m = refl
mark_two g (Listed kind t items) b gap (Leaves leaves) m = refl
mark_two g (Listed kind t items) b gap (Quoted nodes) m = refl
mark_two g (Listed kind t items) b gap (Listed kind' t' items') m = mark_where (is_same_list kind kind') g kind t items b gap kind' t' items' m refl

-- what goes on with the list that stands last goes on with its last item
pub mark_merged : (before : List Group) (b : ℕ) (gap : Bool) (p : Part) (m : Option ListKind) →
    same_mark (last_mark (merged before (group_with b gap p ∷ []))) m ≡ same_mark (part_mark p) m
mark_merged [] b gap p m = refl
mark_merged (g ∷ []) b gap p m = mark_two g g.part b gap p m
mark_merged (g ∷ n ∷ gs) b gap p m =
    ap (λ z. same_mark z m) (mark_cons g (merged (n ∷ gs) (group_with b gap p ∷ [])) (any_merged (n ∷ gs) b gap p)) ∙ mark_merged (n ∷ gs) b gap p m

-- ---- the list that an item is in

at_apart : (g : Group) (p : Part) (kind : ListKind) (gap : Bool) → same_mark (part_mark p) (Some kind) ≡ false → list_at g p kind gap ≡ list_behind (g ∷ []) kind
at_apart g (Leaves leaves) kind gap e = refl
at_apart g (Quoted nodes) kind gap e = refl
at_apart g (Listed first t items) kind gap e = ap (λ z. list_where z g first t items kind gap) e

-- the first one
pub list_apart : (before : List Group) (kind : ListKind) (gap : Bool) → same_mark (last_mark before) (Some kind) ≡ false → list_of before kind gap ≡ list_behind before kind
list_apart [] kind gap e = refl
list_apart (g ∷ []) kind gap e = at_apart g g.part kind gap e
list_apart (g ∷ n ∷ gs) kind gap e = ap (behind_group g) (list_apart (n ∷ gs) kind gap e)

-- the next one, behind an item with a gap before it or not
abbrev pub item_more : ListSoFar → (tight : Bool) → ItemNodes → (gap : Bool) → ListSoFar
item_more l tight items gap = record { front = l.front; kind = l.kind; tight = l.tight && tight && not gap; items = items_before l.items items }

list_cons : (g : Group) (gs : List Group) (kind : ListKind) (gap : Bool) → IsAny gs → list_of (g ∷ gs) kind gap ≡ behind_group g (list_of gs kind gap)
list_cons g [] kind gap any = absurd any
list_cons g (n ∷ gs) kind gap any = refl

next_where : (same : Bool) (b' : ℕ) (gap' : Bool) (first : ListKind) (t' : Bool) (items' : ItemNodes) (b : ℕ) (gap : Bool) (kind : ListKind) (t : Bool) (items : ItemNodes) (next : ListKind) (more : Bool) →
    is_same_list first kind ≡ same → is_same_list kind next ≡ true →
    list_of (joined_where same (group_with b' gap' (Listed first t' items')) first t' items' (group_with b gap (Listed kind t items)) t items []) next more
    ≡ item_more (list_where same (group_with b' gap' (Listed first t' items')) first t' items' kind gap) t items more
next_where true b' gap' first t' items' b gap kind t items next more e h =
    ap (λ z. list_where z (group_with b' gap' (Listed first (t' && not gap && t) (items_before items' items))) first (t' && not gap && t) (items_before items' items) next more)
    (sym (same_list first kind next e) ∙ h)
next_where false b' gap' first t' items' b gap kind t items next more e h =
    ap (λ z. behind_group (group_with b' gap' (Listed first t' items')) (list_where z (group_with b gap (Listed kind t items)) kind t items next more)) h

next_two : (b' : ℕ) (gap' : Bool) (p : Part) (b : ℕ) (gap : Bool) (kind : ListKind) (t : Bool) (items : ItemNodes) (next : ListKind) (more : Bool) → is_same_list kind next ≡ true →
    list_of (joined (group_with b' gap' p) p (group_with b gap (Listed kind t items) ∷ [])) next more ≡ item_more (list_at (group_with b' gap' p) p kind gap) t items more
next_two b' gap' (Leaves leaves) b gap kind t items next more h = ap (λ z. behind_group (group_with b' gap' (Leaves leaves)) (list_where z (group_with b gap (Listed kind t items)) kind t items next more)) h
next_two b' gap' (Quoted nodes) b gap kind t items next more h = ap (λ z. behind_group (group_with b' gap' (Quoted nodes)) (list_where z (group_with b gap (Listed kind t items)) kind t items next more)) h
next_two b' gap' (Listed first t' items') b gap kind t items next more h = next_where (is_same_list first kind) b' gap' first t' items' b gap kind t items next more refl h

pub list_next : (before : List Group) (b : ℕ) (gap : Bool) (kind : ListKind) (t : Bool) (items : ItemNodes) (next : ListKind) (more : Bool) → is_same_list kind next ≡ true →
    list_of (merged before (group_with b gap (Listed kind t items) ∷ [])) next more ≡ item_more (list_of before kind gap) t items more
list_next [] b gap kind t items next more h = ap (λ z. list_where z (group_with b gap (Listed kind t items)) kind t items next more) h
list_next (g ∷ []) b gap kind t items next more h = next_two g.begin g.gap g.part b gap kind t items next more h
list_next (g ∷ n ∷ gs) b gap kind t items next more h =
    list_cons g (merged (n ∷ gs) (group_with b gap (Listed kind t items) ∷ [])) next more (any_merged (n ∷ gs) b gap (Listed kind t items))
    ∙ ap (behind_group g) (list_next (n ∷ gs) b gap kind t items next more h)
