-- A list whose first items are those that an old list has before one of its later items (CommonMark 5.3).
use Rattle.std.specs.Prelude.{ℕ, ◌+◌, ◌-◌, ◌≤◌, ◌^◌, Bool, min, List, ◌++◌, IfSome, Option, Some, None, length, map, take, refl}
use Rattle.std.specs.Coded.{Coded, code_by, coded×, coded_ℕ}
use Rattle.blockspec.specs.BlockTree.{Items}
use Rattle.blockspec.specs.UnitTree.{UnitTree}
use Rattle.blockspec.specs.ItemMarks.{ItemMark}
use Rattle.mdblock.specs.Copies.{IsBehind, copied_items, items_positions, texts_at}
use Rattle.mdblock.specs.FoundLists.{FoundList, list_code}
use Rattle.mdblock.specs.Spliced.{as_first_list, first_items, mark_at, mark_further, no_mark, take_items, tight_list}
use Rattle.mdblock.specs.held.TreesBehind.{placed_before}

-- an old list, and the number of the later item from which on it was read anew: the items before that one stay
pub record ListBase : Type 0 where
  pub list : FoundList
  pub join : ℕ

abbrev pub base_code : Coded ListBase
base_code = code_by (FoundList × ℕ) (coded× list_code coded_ℕ) (λ b. (b.list, b.join)) (λ p. record { list = p.0; join = p.1 }) (λ _. refl)

-- what stands before that later item
abbrev pub base_mark : ListBase → ItemMark
base_mark b = mark_at b.list.marks b.join

-- the items before it
abbrev pub base_items : ListBase → Items
base_items b = take_items (b.join + 1) (first_items b.list.unit.blocks)

-- The later items up to that one, and those of a list that was read from its first line on.
abbrev pub fronted_marks : ListBase → List ItemMark → List ItemMark
fronted_marks b marks = take (b.join + 1) b.list.marks ++ map (mark_further no_mark (base_mark b)) marks

abbrev pub fronted_unit : (tight : Bool) → ListBase → UnitTree → UnitTree
fronted_unit tight b unit =
    let olds = base_items b in
    let items = first_items unit.blocks in
    record {
      blocks = as_first_list tight (placed_before (copied_items 0 olds) (copied_items (length (items_positions olds)) items)) b.list.unit.blocks;
      definitions = take (base_mark b).definitions b.list.unit.definitions ++ unit.definitions;
      texts = texts_at b.list.unit.texts (items_positions olds) ++ texts_at unit.texts (items_positions items);
    }

-- The base's items, and behind them those of a list that was read from the later item on.
abbrev pub fronted_list : ListBase → FoundList → FoundList
fronted_list b f =
    let marks = fronted_marks b f.marks in
    record {
      begin = 0;
      lines = min ((base_mark b).line + f.lines) (2 ^ 64 - 1);
      unit = fronted_unit (tight_list f.parted marks) b f.unit;
      marks = marks;
      parted = f.parted;
    }

-- the list itself where there is no base
abbrev pub behind_base : Option ListBase → FoundList → FoundList
behind_base None f = f
behind_base (Some b) f = fronted_list b f

-- how many lines, items and texts stand before what was read
abbrev pub lines_staying : Option ListBase → ℕ
lines_staying None = 0
lines_staying (Some b) = (base_mark b).line

abbrev pub items_staying : Option ListBase → ℕ
items_staying None = 0
items_staying (Some b) = b.join + 1

abbrev pub texts_staying : Option ListBase → ℕ
texts_staying None = 0
texts_staying (Some b) = (base_mark b).texts

-- The texts of the items that stay have their positions in document order, from 0 on.
abbrev pub IsInOrder : Option ListBase → Type 0
IsInOrder base = IfSome base (λ b. IsBehind 0 (items_positions (base_items b)) (base_mark b).texts)

-- The texts of a list's items have their positions in document order, from 0 on, and are there.
pub record HasOrder (f : FoundList) : Type 0 where
  pub end : ℕ
  pub first : IsBehind 0 (items_positions (first_items f.unit.blocks)) end
  pub there : end ≤ length f.unit.texts
