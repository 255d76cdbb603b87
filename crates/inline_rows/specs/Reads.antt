-- What a row says: the tree of a text, the labels asked for, how deep it is nested.
use Rattle.std.specs.Prelude.{ℕ, true, List, []}
use Rattle.mdtext.specs.EntityTable.{builtin_table}
use Rattle.inlinespec.specs.InlineTree.{Inlines}
use Rattle.inlinespec.specs.LabelMap.{LabelMap, target_in}
use Rattle.inlinespec.specs.Nesting.{nest}
use Rattle.inlinespec.specs.TextTree.{inl, asked}

abbrev pub reads_under : LabelMap → List ℕ → Inlines
reads_under labels text = inl builtin_table (target_in labels) text

abbrev pub reads : List ℕ → Inlines
reads text = reads_under [] text

-- the same where one tilde alone is text
abbrev pub reads_double_tilde : List ℕ → Inlines
reads_double_tilde text = inl (record builtin_table { double_tilde = true }) (target_in []) text

abbrev pub asks_under : LabelMap → List ℕ → List (List ℕ)
asks_under labels text = asked builtin_table (target_in labels) text

abbrev pub asks : List ℕ → List (List ℕ)
asks text = asks_under [] text

abbrev pub nests : List ℕ → ℕ
nests text = nest (reads text)
