-- Blocks of groups, where lists keep their items: they are the groups joined; items behind a list that stands last go on with it; and what stands further on.
use Rattle.std.proofs.Common.{◌≡◌, ℕ, Bool, true, false, List, [], ◌∷◌, ◌++◌, map, refl, sym, ◌∙◌, ap}
use Rattle.std.proofs.lemmas.List.{append-nil}
use Rattle.blockspec.specs.BlockTree.{ListKind}
use Rattle.blockspec.specs.Lists.{Part, Leaves, Quoted, Listed, Group, is_same_list, joined, grouped}
use Rattle.blockspec.specs.Meetings.{shift_group, shift_groups}
use Rattle.blockspec.specs.NodeTree.{ItemNodes}
use Rattle.blockspec.specs.TopBlocks.{ListItem, TopBlock, Other, ItemList, is_tight_list, nodes_of_items, top_group, with_item_where, with_item, item_of_group, with_part, tops_of, moved_item, item_behind, moved_top}

abbrev of_part : ℕ → Bool → Part → Group
of_part b gap p = record { begin = b; gap = gap; part = p }

-- an item in front of some blocks is the first one of its list, whatever else it is
pub record ItemFirst (kind : ListKind) (ts : List TopBlock) : Type 0 where
  pub later : List ListItem
  pub blocks : List TopBlock
  pub is : (item : ListItem) → with_item kind item ts ≡ ItemList kind item later ∷ blocks
  pub moved : (k : ℕ) (item : ListItem) → with_item kind item (map (moved_top k) ts) ≡ ItemList kind item (map (moved_item k) later) ∷ map (moved_top k) blocks

where_first : (same : Bool) (kind other : ListKind) (first : ListItem) (later : List ListItem) (ts : List TopBlock) → is_same_list kind other ≡ same → ItemFirst kind (ItemList other first later ∷ ts)
unfolding with_item
where_first true kind other first later ts e = record {
  later = first ∷ later;
  blocks = ts;
  is = λ item. ap (λ z. with_item_where z kind item other first later ts) e;
  moved = λ k item. ap (λ z. with_item_where z kind item other (moved_item k first) (map (moved_item k) later) (map (moved_top k) ts)) e;
}
where_first false kind other first later ts e = record {
  later = [];
  blocks = ItemList other first later ∷ ts;
  is = λ item. ap (λ z. with_item_where z kind item other first later ts) e;
  moved = λ k item. ap (λ z. with_item_where z kind item other (moved_item k first) (map (moved_item k) later) (map (moved_top k) ts)) e;
}

pub item_first : (kind : ListKind) (ts : List TopBlock) → ItemFirst kind ts
unfolding with_item
item_first kind [] = record { later = []; blocks = []; is = λ item. refl; moved = λ k item. refl }
item_first kind (Other g ∷ ts) = record { later = []; blocks = Other g ∷ ts; is = λ item. refl; moved = λ k item. refl }
item_first kind (ItemList other first later ∷ ts) = where_first (is_same_list kind other) kind other first later ts refl

-- ---- blocks are the groups, joined

where_grouped : (same : Bool) (b : ℕ) (gap : Bool) (kind : ListKind) (t : Bool) (items : ItemNodes) (other : ListKind) (first : ListItem) (later : List ListItem) (ts : List TopBlock) → is_same_list kind other ≡ same →
    map top_group (with_item kind (item_of_group (of_part b gap (Listed kind t items)) t items) (ItemList other first later ∷ ts))
    ≡ joined (of_part b gap (Listed kind t items)) (Listed kind t items) (map top_group (ItemList other first later ∷ ts))
unfolding with_item is_tight_list nodes_of_items
where_grouped true b gap kind t items other first later ts e = rw e refl
where_grouped false b gap kind t items other first later ts e = rw e refl

item_grouped : (b : ℕ) (gap : Bool) (kind : ListKind) (t : Bool) (items : ItemNodes) (b' : ℕ) (gap' : Bool) (p : Part) (ts : List TopBlock) →
    map top_group (with_item kind (item_of_group (of_part b gap (Listed kind t items)) t items) (with_part (of_part b' gap' p) p ts))
    ≡ joined (of_part b gap (Listed kind t items)) (Listed kind t items) (map top_group (with_part (of_part b' gap' p) p ts))
unfolding with_item is_tight_list nodes_of_items
item_grouped b gap kind t items b' gap' (Leaves leaves) ts = refl
item_grouped b gap kind t items b' gap' (Quoted nodes) ts = refl
item_grouped b gap kind t items b' gap' (Listed kind' t' items') ts =
    let f = item_first kind' ts in
    let one = item_of_group (of_part b' gap' (Listed kind' t' items')) t' items' in
    let mine = item_of_group (of_part b gap (Listed kind t items)) t items in
    ap (λ z. map top_group (with_item kind mine z)) (f.is one)
    ∙ where_grouped (is_same_list kind kind') b gap kind t items kind' one f.later f.blocks refl
    ∙ ap (λ z. joined (of_part b gap (Listed kind t items)) (Listed kind t items) (map top_group z)) (sym (f.is one))

one_grouped : (b : ℕ) (gap : Bool) (p : Part) → map top_group (with_part (of_part b gap p) p []) ≡ joined (of_part b gap p) p []
unfolding with_item is_tight_list nodes_of_items
one_grouped b gap (Leaves leaves) = refl
one_grouped b gap (Quoted nodes) = refl
one_grouped b gap (Listed kind t items) = refl

two_grouped : (b : ℕ) (gap : Bool) (p : Part) (b' : ℕ) (gap' : Bool) (p' : Part) (ts : List TopBlock) →
    map top_group (with_part (of_part b gap p) p (with_part (of_part b' gap' p') p' ts)) ≡ joined (of_part b gap p) p (map top_group (with_part (of_part b' gap' p') p' ts))
two_grouped b gap (Leaves leaves) b' gap' p' ts = refl
two_grouped b gap (Quoted nodes) b' gap' p' ts = refl
two_grouped b gap (Listed kind t items) b' gap' p' ts = item_grouped b gap kind t items b' gap' p' ts

-- Blocks, where a list keeps its items, stand as the groups do that are joined.
pub tops_grouped : (gs : List Group) → map top_group (tops_of gs) ≡ grouped gs
unfolding tops_of grouped
tops_grouped [] = refl
tops_grouped (g ∷ []) = one_grouped g.begin g.gap g.part
tops_grouped (g ∷ h ∷ gs) =
    two_grouped g.begin g.gap g.part h.begin h.gap h.part (tops_of gs)
    ∙ ap (λ z. joined g g.part z) (tops_grouped (h ∷ gs))

-- ---- a list that stands last goes on

-- some blocks, of which a list stands last: whatever items are behind its own, and whatever blocks behind it
pub record ListLast (with_more : List ListItem → List TopBlock → List TopBlock) : Type 0 where
  pub before : List TopBlock
  pub kind : ListKind
  pub first : ListItem
  pub later : List ListItem
  pub is : (more : List ListItem) (blocks : List TopBlock) → with_more more blocks ≡ before ++ ItemList kind first (later ++ more) ∷ blocks

listed_put : (same : Bool) (kind other : ListKind) (item first : ListItem) (later : List ListItem) → is_same_list kind other ≡ same →
    ListLast (λ more blocks. with_item kind item (ItemList other first (later ++ more) ∷ blocks))
unfolding with_item
listed_put true kind other item first later e = record {
  before = [];
  kind = kind;
  first = item;
  later = first ∷ later;
  is = λ more blocks. ap (λ z. with_item_where z kind item other first (later ++ more) blocks) e;
}
listed_put false kind other item first later e = record {
  before = ItemList kind item [] ∷ [];
  kind = other;
  first = first;
  later = later;
  is = λ more blocks. ap (λ z. with_item_where z kind item other first (later ++ more) blocks) e;
}

behind_list : (same : Bool) (kind other : ListKind) (item head : ListItem) (tail : List ListItem) (before : List TopBlock) (last : ListKind) (first : ListItem) (later : List ListItem) → is_same_list kind other ≡ same →
    ListLast (λ more blocks. with_item kind item (ItemList other head tail ∷ before ++ ItemList last first (later ++ more) ∷ blocks))
unfolding with_item
behind_list true kind other item head tail before last first later e = record {
  before = ItemList kind item (head ∷ tail) ∷ before;
  kind = last;
  first = first;
  later = later;
  is = λ more blocks. ap (λ z. with_item_where z kind item other head tail (before ++ ItemList last first (later ++ more) ∷ blocks)) e;
}
behind_list false kind other item head tail before last first later e = record {
  before = ItemList kind item [] ∷ ItemList other head tail ∷ before;
  kind = last;
  first = first;
  later = later;
  is = λ more blocks. ap (λ z. with_item_where z kind item other head tail (before ++ ItemList last first (later ++ more) ∷ blocks)) e;
}

item_put : (kind : ListKind) (item : ListItem) (before : List TopBlock) (other : ListKind) (first : ListItem) (later : List ListItem) →
    ListLast (λ more blocks. with_item kind item (before ++ ItemList other first (later ++ more) ∷ blocks))
unfolding with_item
item_put kind item [] other first later = listed_put (is_same_list kind other) kind other item first later refl
item_put kind item (Other g ∷ before) other first later =
    record { before = ItemList kind item [] ∷ Other g ∷ before; kind = other; first = first; later = later; is = λ more blocks. refl }
item_put kind item (ItemList head i is ∷ before) other first later = behind_list (is_same_list kind head) kind head item i is before other first later refl

part_put : (g : Group) (p : Part) (before : List TopBlock) (other : ListKind) (first : ListItem) (later : List ListItem) →
    ListLast (λ more blocks. with_part g p (before ++ ItemList other first (later ++ more) ∷ blocks))
part_put g (Leaves leaves) before other first later = record { before = Other g ∷ before; kind = other; first = first; later = later; is = λ more blocks. refl }
part_put g (Quoted nodes) before other first later = record { before = Other g ∷ before; kind = other; first = first; later = later; is = λ more blocks. refl }
part_put g (Listed kind t items) before other first later = item_put kind (item_of_group g t items) before other first later

-- Behind groups of which an item stands last: the items of its list that stand in front of others go on with it.
pub record GoesOn (kind : ListKind) (gs : List Group) (last : Group) : Type 0 where
  pub before : List TopBlock
  pub list : ListKind
  pub first : ListItem
  pub later : List ListItem
  pub alone : tops_of (gs ++ last ∷ []) ≡ before ++ ItemList list first later ∷ []
  pub joined : (hs : List Group) (other : ListKind) (head : ListItem) (more : List ListItem) (blocks : List TopBlock) → is_same_list kind other ≡ true →
      tops_of hs ≡ ItemList other head more ∷ blocks → tops_of (gs ++ last ∷ hs) ≡ before ++ ItemList list first (later ++ head ∷ more) ∷ blocks

one_goes_on : (b : ℕ) (gap : Bool) (kind : ListKind) (t : Bool) (items : ItemNodes) → GoesOn kind [] (of_part b gap (Listed kind t items))
unfolding tops_of with_item
one_goes_on b gap kind t items =
    let mine = item_of_group (of_part b gap (Listed kind t items)) t items in
    record {
      before = [];
      list = kind;
      first = mine;
      later = [];
      alone = refl;
      joined = λ hs other head more blocks e w. ap (λ z. with_item kind mine z) w ∙ ap (λ z. with_item_where z kind mine other head more blocks) e;
    }

next_goes_on : (kind : ListKind) (g : Group) (gs : List Group) (last : Group) → GoesOn kind gs last → GoesOn kind (g ∷ gs) last
unfolding tops_of
next_goes_on kind g gs last w =
    let p = part_put g g.part w.before w.list w.first w.later in
    record {
      before = p.before;
      list = p.kind;
      first = p.first;
      later = p.later;
      alone =
          ap (λ z. with_part g g.part z) w.alone
          ∙ ap (λ z. with_part g g.part (w.before ++ ItemList w.list w.first z ∷ [])) (sym (append-nil w.later))
          ∙ p.is [] []
          ∙ ap (λ z. p.before ++ ItemList p.kind p.first z ∷ []) (append-nil p.later);
      joined = λ hs other head more blocks e v. ap (λ z. with_part g g.part z) (w.joined hs other head more blocks e v) ∙ p.is (head ∷ more) blocks;
    }

pub goes_on : (gs : List Group) (b : ℕ) (gap : Bool) (kind : ListKind) (t : Bool) (items : ItemNodes) → GoesOn kind gs (of_part b gap (Listed kind t items))
goes_on [] b gap kind t items = one_goes_on b gap kind t items
goes_on (g ∷ gs) b gap kind t items = next_goes_on kind g gs (of_part b gap (Listed kind t items)) (goes_on gs b gap kind t items)

-- ---- further on

moved_where : (same : Bool) (k : ℕ) (kind : ListKind) (item : ListItem) (other : ListKind) (first : ListItem) (later : List ListItem) (ts : List TopBlock) →
    with_item_where same kind (moved_item k item) other (moved_item k first) (map (moved_item k) later) (map (moved_top k) ts)
    ≡ map (moved_top k) (with_item_where same kind item other first later ts)
moved_where true k kind item other first later ts = refl
moved_where false k kind item other first later ts = refl

item_moved : (k : ℕ) (kind : ListKind) (item : ListItem) (ts : List TopBlock) → with_item kind (moved_item k item) (map (moved_top k) ts) ≡ map (moved_top k) (with_item kind item ts)
unfolding with_item
item_moved k kind item [] = refl
item_moved k kind item (Other g ∷ ts) = refl
item_moved k kind item (ItemList other first later ∷ ts) = moved_where (is_same_list kind other) k kind item other first later ts

part_moved : (k : ℕ) (g : Group) (p : Part) (ts : List TopBlock) → with_part (shift_group k g) p (map (moved_top k) ts) ≡ map (moved_top k) (with_part g p ts)
part_moved k g (Leaves leaves) ts = refl
part_moved k g (Quoted nodes) ts = refl
part_moved k g (Listed kind t items) ts = item_moved k kind (item_of_group g t items) ts

pub tops_moved : (k : ℕ) (gs : List Group) → tops_of (map (shift_group k) gs) ≡ map (moved_top k) (tops_of gs)
unfolding tops_of
tops_moved k [] = refl
tops_moved k (g ∷ gs) = ap (λ z. with_part (shift_group k g) g.part z) (tops_moved k gs) ∙ part_moved k g g.part (tops_of gs)

-- Groups of which an item stands first, so many lines further on, with or without a gap before it: the items of its list behind it, and the blocks behind that, are the same.
pub record FirstItem (kind : ListKind) (first : Group) (gs : List Group) : Type 0 where
  pub item : ListItem
  pub later : List ListItem
  pub blocks : List TopBlock
  pub line : item.line ≡ first.begin
  pub is : tops_of (first ∷ gs) ≡ ItemList kind item later ∷ blocks
  pub behind : (gap : Bool) (k : ℕ) → tops_of (shift_groups gap k (first ∷ gs)) ≡ ItemList kind (item_behind gap k item) (map (moved_item k) later) ∷ map (moved_top k) blocks

pub first_item : (b : ℕ) (gap : Bool) (kind : ListKind) (t : Bool) (items : ItemNodes) (gs : List Group) → FirstItem kind (of_part b gap (Listed kind t items)) gs
unfolding tops_of
first_item b gap kind t items gs =
    let f = item_first kind (tops_of gs) in
    let mine = item_of_group (of_part b gap (Listed kind t items)) t items in
    record {
      item = mine;
      later = f.later;
      blocks = f.blocks;
      line = refl;
      is = f.is mine;
      behind = λ gap k.
          ap (λ z. with_item kind (item_behind gap k mine) z) (tops_moved k gs)
          ∙ f.moved k (item_behind gap k mine);
    }
