-- Each item of a list gives one item of its tree, so the items in front of a join, and those behind it, are told by their number.
use Rattle.std.proofs.Common.{◌≡◌, ℕ, suc, ◌+◌, Bool, true, false, List, [], ◌∷◌, length, map, refl, sym, ◌∙◌, ap, subst}
use Rattle.mdtext.specs.EntityTable.{EntityTable}
use Rattle.blockspec.specs.BlockLine.{BlockLine}
use Rattle.blockspec.specs.BlockKinds.{Container, Quote, Item, Kind, Paragraph, SetextHeading, Table, AtxHeading, ThematicBreak, FencedCode, IndentedCode, HtmlBlock, Holds}
use Rattle.blockspec.specs.BlockTree.{ListKind, Items, item}
use Rattle.blockspec.specs.BlockUnits.{container_part, part_at, group_of, groups_within, visible_in}
use Rattle.blockspec.specs.Lists.{Part, Leaves, Quoted, Listed, Group, is_same_list, items_before}
use Rattle.blockspec.specs.NodeTree.{ItemNodes, no_item_nodes, item_node, texts_in, texts_in_items, placed, placed_items}
use Rattle.blockspec.specs.Stretches.{Stretch, stretches, cut_within}
use Rattle.blockspec.specs.TopBlocks.{ListItem, TopBlock, Other, ItemList, nodes_of_items, with_item_where, with_item, item_of_group, with_part, tops_of, single_groups, top_blocks}
use Rattle.mdblock.specs.Insets.{HasItems}
use Rattle.mdblock.specs.Spliced.{take_items, drop_items}
use Rattle.mdblock.specs.held.TreesBehind.{placed_before}
use Rattle.mdblock.proofs.PlacedNodes.{placed_items_before}

abbrev pub IsSingle : ItemNodes → Type 0
IsSingle no_item_nodes = ⊥
IsSingle (item_node N no_item_nodes) = Unit {0}
IsSingle (item_node N (item_node M rest)) = ⊥

abbrev pub AreSingle : List ListItem → Type 0
AreSingle [] = Unit {0}
AreSingle (i ∷ is) = IsSingle i.nodes × AreSingle is

abbrev SingleTop : TopBlock → Type 0
SingleTop (Other g) = Unit {0}
SingleTop (ItemList kind first later) = IsSingle first.nodes × AreSingle later

abbrev pub SingleTops : List TopBlock → Type 0
SingleTops [] = Unit {0}
SingleTops (t ∷ ts) = SingleTop t × SingleTops ts

abbrev SinglePart : Part → Type 0
SinglePart (Listed kind tight nodes) = IsSingle nodes
SinglePart (Leaves leaves) = Unit {0}
SinglePart (Quoted nodes) = Unit {0}

abbrev SingleGroups : List Group → Type 0
SingleGroups [] = Unit {0}
SingleGroups (g ∷ gs) = SinglePart g.part × SingleGroups gs

item_single : (kind : ListKind) (i : ListItem) (ts : List TopBlock) → IsSingle i.nodes → SingleTops ts → SingleTops (with_item kind i ts)
unfolding with_item
item_single kind i [] w v = ((w, tt), tt)
item_single kind i (Other g ∷ ts) w v = ((w, tt), v)
item_single kind i (ItemList other first later ∷ ts) w v = go (is_same_list kind other)
  where
    go : (same : Bool) → SingleTops (with_item_where same kind i other first later ts)
    go true = ((w, v.0), v.1)
    go false = ((w, tt), v)

part_single : (g : Group) (p : Part) (ts : List TopBlock) → SinglePart p → SingleTops ts → SingleTops (with_part g p ts)
part_single g (Listed kind tight nodes) ts w v = item_single kind (item_of_group g tight nodes) ts w v
part_single g (Leaves leaves) ts w v = (tt, v)
part_single g (Quoted nodes) ts w v = (tt, v)

tops_single : (gs : List Group) → SingleGroups gs → SingleTops (tops_of gs)
unfolding tops_of
tops_single [] w = tt
tops_single (g ∷ gs) w = part_single g g.part (tops_of gs) w.0 (tops_single gs w.1)

container_single : (c : Container) (gs : List Group) → SinglePart (container_part c gs)
unfolding container_part
container_single Quote gs = tt
container_single (Item marker needed) gs = tt

kind_single : (e : EntityTable) (inside : List BlockLine → List Group) (k : Kind) (first : BlockLine) (later : List BlockLine) → SinglePart (part_at e inside k first later)
kind_single e inside Paragraph first later = tt
kind_single e inside (SetextHeading level) first later = tt
kind_single e inside (Table above) first later = tt
kind_single e inside (AtxHeading level content) first later = tt
kind_single e inside ThematicBreak first later = tt
kind_single e inside (FencedCode indentation mark length info closed) first later = tt
kind_single e inside IndentedCode first later = tt
kind_single e inside (HtmlBlock kind) first later = tt
kind_single e inside (Holds container) first later = container_single container _

groups_single : (e : EntityTable) (inside : List BlockLine → List Group) (ss : List Stretch) → SingleGroups (map (group_of e inside) ss)
groups_single e inside [] = tt
groups_single e inside (s ∷ ss) = (kind_single e inside s.kind s.first s.later, groups_single e inside ss)

-- each item of the lists that lines give
pub blocks_single : (e : EntityTable) (ls : List BlockLine) → SingleTops (top_blocks e ls)
blocks_single e ls = tops_single (single_groups e ls) (groups_single e (groups_within e (visible_in ls)) (stretches (cut_within (visible_in ls) ls)))

-- ---- the items of two parts

abbrev count_items : ItemNodes → ℕ
count_items no_item_nodes = 0
count_items (item_node N rest) = suc (count_items rest)

placed_taken : (n : ℕ) (a : ItemNodes) (more : Items) → take_items (count_items a) (placed_before (placed_items n a) more) ≡ placed_items n a
unfolding placed_items
placed_taken n no_item_nodes more = refl
placed_taken n (item_node N a) more = ap (item (placed n N)) (placed_taken (n + length (texts_in N)) a more)

placed_all : (n : ℕ) (a : ItemNodes) → take_items (count_items a) (placed_items n a) ≡ placed_items n a
unfolding placed_items
placed_all n no_item_nodes = refl
placed_all n (item_node N a) = ap (item (placed n N)) (placed_all (n + length (texts_in N)) a)

placed_dropped : (n : ℕ) (a : ItemNodes) (more : Items) → drop_items (count_items a) (placed_before (placed_items n a) more) ≡ more
unfolding placed_items
placed_dropped n no_item_nodes more = refl
placed_dropped n (item_node N a) more = placed_dropped (n + length (texts_in N)) a more

single_more : (N : ItemNodes) (rest : ItemNodes) → IsSingle N → count_items (items_before N rest) ≡ suc (count_items rest)
single_more no_item_nodes rest w = absurd w
single_more (item_node M no_item_nodes) rest w = refl
single_more (item_node M (item_node K more)) rest w = absurd w

single_count : (N : ItemNodes) → IsSingle N → count_items N ≡ 1
single_count no_item_nodes w = absurd w
single_count (item_node M no_item_nodes) w = refl
single_count (item_node M (item_node K more)) w = absurd w

items_counted : (first : ListItem) (later : List ListItem) → IsSingle first.nodes → AreSingle later → count_items (nodes_of_items first later) ≡ suc (length later)
unfolding nodes_of_items
items_counted first [] w v = single_count first.nodes w
items_counted first (i ∷ later) w v = single_more first.nodes (nodes_of_items i later) w ∙ ap suc (items_counted i later v.0 v.1)

pub front_taken : (n : ℕ) (first : ListItem) (later : List ListItem) (more : ItemNodes) → IsSingle first.nodes → AreSingle later →
    take_items (suc (length later)) (placed_items n (items_before (nodes_of_items first later) more)) ≡ placed_items n (nodes_of_items first later)
front_taken n first later more w v =
    let N = nodes_of_items first later in
    ap (λ z. take_items (suc (length later)) z) (placed_items_before n N more)
    ∙ ap (λ z. take_items z (placed_before (placed_items n N) (placed_items (n + length (texts_in_items N)) more))) (sym (items_counted first later w v))
    ∙ placed_taken n N (placed_items (n + length (texts_in_items N)) more)

pub all_taken : (n : ℕ) (first : ListItem) (later : List ListItem) → IsSingle first.nodes → AreSingle later →
    take_items (suc (length later)) (placed_items n (nodes_of_items first later)) ≡ placed_items n (nodes_of_items first later)
all_taken n first later w v =
    let N = nodes_of_items first later in ap (λ z. take_items z (placed_items n N)) (sym (items_counted first later w v)) ∙ placed_all n N

pub front_dropped : (n : ℕ) (first : ListItem) (later : List ListItem) (more : ItemNodes) → IsSingle first.nodes → AreSingle later →
    drop_items (suc (length later)) (placed_items n (items_before (nodes_of_items first later) more)) ≡ placed_items (n + length (texts_in_items (nodes_of_items first later))) more
front_dropped n first later more w v =
    let N = nodes_of_items first later in
    ap (λ z. drop_items (suc (length later)) z) (placed_items_before n N more)
    ∙ ap (λ z. drop_items z (placed_before (placed_items n N) (placed_items (n + length (texts_in_items N)) more))) (sym (items_counted first later w v))
    ∙ placed_dropped n N (placed_items (n + length (texts_in_items N)) more)

-- ---- that there are so many

placed_has : (n : ℕ) (a : ItemNodes) (more : Items) → HasItems (count_items a) (placed_before (placed_items n a) more)
unfolding placed_items
placed_has n no_item_nodes more = tt
placed_has n (item_node N a) more = placed_has (n + length (texts_in N)) a more

placed_has_all : (n : ℕ) (a : ItemNodes) → HasItems (count_items a) (placed_items n a)
unfolding placed_items
placed_has_all n no_item_nodes = tt
placed_has_all n (item_node N a) = placed_has_all (n + length (texts_in N)) a

pub all_has : (n : ℕ) (first : ListItem) (later : List ListItem) → IsSingle first.nodes → AreSingle later → HasItems (suc (length later)) (placed_items n (nodes_of_items first later))
all_has n first later w v = subst (λ z. HasItems z (placed_items n (nodes_of_items first later))) (items_counted first later w v) (placed_has_all n (nodes_of_items first later))

pub front_has : (n : ℕ) (first : ListItem) (later : List ListItem) (more : ItemNodes) → IsSingle first.nodes → AreSingle later →
    HasItems (suc (length later)) (placed_items n (items_before (nodes_of_items first later) more))
front_has n first later more w v =
    let N = nodes_of_items first later in
    subst (HasItems (suc (length later))) (sym (placed_items_before n N more))
    (subst (λ z. HasItems z (placed_before (placed_items n N) (placed_items (n + length (texts_in_items N)) more))) (items_counted first later w v)
    (placed_has n N (placed_items (n + length (texts_in_items N)) more)))
