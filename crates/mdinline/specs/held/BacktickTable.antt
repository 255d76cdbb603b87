-- What the reader keeps of the backtick strings of a text (CommonMark 6.1).
use Rattle.std.specs.Prelude.{◌≡◌, ◌<◌, ◌≤◌, ℕ, List, drop, Option, Some, IfSome}
use Rattle.std.specs.BTreeMap.{get}
use Rattle.std.specs.Ordering.{nat_cmp}
use Rattle.inlinespec.specs.BacktickStrings.{BeginsString}
use Rattle.inlinespec.specs.CodeSpans.{backticks}
use Rattle.mdinline.specs.declared.code_spans.Backticks.{Backticks}

-- For the length of each backtick string that begins before a place, the table holds a place that is not before that string.
abbrev pub HoldsLast : List ℕ → ℕ → (ℕ → Option ℕ) → Type 0
HoldsLast text at table = (j : ℕ) → j < at → BeginsString text j → (last : ℕ) × (table (backticks (drop j text)) ≡ Some last) × (j ≤ last)

-- the table, where it has been made, is that of the whole text
abbrev pub KnowsStrings : List ℕ → Backticks → Type 0
KnowsStrings text known = IfSome known.last (λ last. (k : ℕ) → HoldsLast text k (get nat_cmp last))
