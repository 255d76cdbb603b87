-- The front of a list that can take the place of an old list's first items where that lies.
use Rattle.std.specs.Prelude.{ℕ, zero, suc, ◌≡◌, ◌+◌, ◌-◌, ◌<◌, ◌≤◌, ◌++◌, Bool, IfSome, Option, Some, None, List, length, map, option_map, take, drop, refl}
use Rattle.std.specs.Coded.{Coded, code_by, coded×, coded_option, coded_ℕ}
use Rattle.blockspec.specs.BlockTree.{ListKind, paragraph, heading, thematic_break, code_block, html_block, block_quote, list, table, Blocks, no_blocks, block, Items, no_items, item}
use Rattle.blockspec.specs.UnitTree.{UnitTree}
use Rattle.blockspec.specs.ItemMarks.{ItemMark}
use Rattle.mdblock.specs.Copies.{IsBehind, items_positions}
use Rattle.mdblock.specs.FoundLists.{FoundList, list_code}
use Rattle.mdblock.specs.Fronted.{IsInOrder, ListBase, behind_base, texts_staying}
use Rattle.mdblock.specs.Spliced.{as_first_list, drop_items, first_items, first_kind, mark_at, mark_further, no_mark, take_items}
use Rattle.mdblock.specs.held.TreesBehind.{placed_before}

-- Items that were read, and the number of the old list's later item that begins as the one behind them does; where not all of its items before that one give way,
-- the number of the later item from which on they do, and how many texts stand before that.
pub record ListInset : Type 0 where
  pub stay : Option ℕ
  pub before : ℕ
  pub part : FoundList
  pub join : ℕ

abbrev pub inset_code : Coded ListInset
inset_code =
    code_by (Option ℕ × (ℕ × (FoundList × ℕ))) (coded× (coded_option coded_ℕ) (coded× coded_ℕ (coded× list_code coded_ℕ)))
    (λ s. (s.stay, (s.before, (s.part, s.join)))) (λ p. record { stay = p.0; before = p.1.0; part = p.1.1.0; join = p.1.1.1 }) (λ _. refl)

-- what stays of a list that it is put into
abbrev pub inset_base : ListInset → (old : FoundList) → Option ListBase
inset_base i old = option_map (λ k. record { list = old; join = k }) i.stay

-- all items in front then
abbrev pub inset_front : ListInset → (old : FoundList) → FoundList
inset_front i old = behind_base (inset_base i old) i.part

-- the later items of that front
abbrev pub marks_in_front : Option ℕ → (old part : List ItemMark) → List ItemMark
marks_in_front None old part = part
marks_in_front (Some k) old part = take (k + 1) old ++ map (mark_further no_mark (mark_at old k)) part

-- so many items are there, or more
abbrev pub HasItems : ℕ → Items → Type 0
HasItems zero items = Unit {0}
HasItems (suc n) no_items = ⊥
HasItems (suc n) (item first items) = HasItems n items

-- one block and no other
abbrev pub IsAlone : Blocks → Type 0
IsAlone no_blocks = ⊥
IsAlone (block b no_blocks) = Unit {0}
IsAlone (block b (block c rest)) = ⊥

-- both are lists of so many items, or more, and the second stands alone
pub record HasLists (count : ℕ) (front old : Blocks) : Type 0 where
  pub kind : ListKind
  pub is_list : first_kind front ≡ Some kind
  pub some : HasItems count (first_items front)
  pub old_kind : ListKind
  pub old_tight : Bool
  pub old_items : Items
  pub alone : old ≡ block (list old_kind old_tight old_items) no_blocks
  pub old_some : HasItems count old_items

-- So many items of a list can take the place of as many of another one, and so many texts that of as many: those of these items have their positions in document
-- order, from 0 on, and those of the items behind go on from there.
pub record PutsInto (front old : UnitTree) (items texts : ℕ) : Type 0 where
  pub lists : HasLists items front.blocks old.blocks
  pub first : IsBehind 0 (items_positions (take_items items (first_items front.blocks))) texts
  pub enough : texts ≤ length front.texts
  pub later : IsBehind texts (items_positions (drop_items items (first_items old.blocks))) (length old.texts)

-- As many items and texts stand before the later item k of an old list as in front, and no definition.
pub record IsEven (front old : List ItemMark) (k : ℕ) : Type 0 where
  pub within : k < length old
  pub count : length front ≡ k + 1
  pub texts : (mark_at front k).texts ≡ (mark_at old k).texts
  pub defined : (mark_at front k).definitions ≡ 0
  pub old_defined : (mark_at old k).definitions ≡ 0

-- A front can take the place of an old list's items before its later item k.
pub record FitsInto (front old : FoundList) (k : ℕ) : Type 0 where
  pub even : IsEven front.marks old.marks k
  pub puts : PutsInto front.unit old.unit (k + 1) (mark_at old.marks k).texts

-- An inset can be put into a list: its front can take the place of the items before the join, and what stays lies in front of that, its texts in document order.
pub record FitsList (i : ListInset) (old : FoundList) : Type 0 where
  pub fits : FitsInto (inset_front i old) old i.join
  pub before : i.before ≡ texts_staying (inset_base i old)
  pub order : IsInOrder (inset_base i old)
  pub below : IfSome i.stay (λ k. k < i.join)

-- It can where both are even.
abbrev pub MayFit : (front old : FoundList) → (k : ℕ) → Type 0
MayFit front old k = IsEven front.marks old.marks k → PutsInto front.unit old.unit (k + 1) (mark_at old.marks k).texts

-- items in the place of those from one number on up to another, and the same of the members of a list
abbrev pub items_between : (start end : ℕ) → (items olds : Items) → Items
items_between start end items olds = placed_before (take_items start olds) (placed_before (take_items (end - start) items) (drop_items end olds))

abbrev pub parts_between : {A : Type 0} (start end : ℕ) → (parts olds : List A) → List A
parts_between start end parts olds = take start olds ++ (take (end - start) parts ++ drop end olds)

-- A unit that is one list can take so many items and texts in, from so many of its own on that stay.
pub record TakesIn (unit : UnitTree) (items : Items) (texts : List (List ℕ)) (start end before behind : ℕ) : Type 0 where
  pub alone : IsAlone unit.blocks
  pub ordered : start ≤ end
  pub there : HasItems end (first_items unit.blocks)
  pub some : HasItems (end - start) items
  pub later : before ≤ behind
  pub room : behind ≤ length unit.texts
  pub enough : behind - before ≤ length texts

-- the items of a list that stands first, in the place of as many of another one
abbrev pub put_blocks : (tight : Bool) → (count : ℕ) → (front old : Blocks) → Blocks
put_blocks tight count front old = as_first_list tight (placed_before (take_items count (first_items front)) (drop_items count (first_items old))) front

-- an old list with other items in place of its own; nothing where no list stands first
abbrev pub with_items : Items → Blocks → Blocks
with_items items no_blocks = no_blocks
with_items items (block (paragraph text task) rest) = no_blocks
with_items items (block (heading level text) rest) = no_blocks
with_items items (block thematic_break rest) = no_blocks
with_items items (block (code_block lang meta body) rest) = no_blocks
with_items items (block (html_block lines) rest) = no_blocks
with_items items (block (block_quote inner) rest) = no_blocks
with_items items (block (list kind tight olds) rest) = block (list kind tight items) no_blocks
with_items items (block (table aligns head rows) rest) = no_blocks
