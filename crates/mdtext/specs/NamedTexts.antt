-- Texts by their names, as they are held: the bytes of all, and where a name and its text lie, in the names' order.
use Rattle.std.specs.Prelude.{◌≡◌, ℕ, ◌≤◌, ◌<◌, List, [], map, length, slice_range, slice_index_or, All, Result, MatchResult}
use Rattle.std.specs.Cmp.Lexicographic.{slice_cmp}
use Rattle.std.specs.List.Sorted.{IsStrictlySortedBy}
use Rattle.std.specs.Map.{keys_of, values_of}
use Rattle.std.specs.Ordering.{nat_cmp}
use Rattle.std.specs.Str.{IsUtf8}
use Rattle.std.specs.declared.cmp.Ordering.TheVariants.{Less, Equal, Greater}
use Rattle.mdtext.specs.EntityTable.{EntityNames}
use Rattle.mdtext.specs.declared.named_texts.Span.{Span}

-- the name and the text that lie at a span
abbrev pub named_text : List ℕ → Span → List ℕ × List ℕ
named_text bytes s = (slice_range bytes s.name s.text, slice_range bytes s.text s.end)

abbrev pub named_texts : List ℕ → List Span → EntityNames
named_texts bytes spans = map (named_text bytes) spans

abbrev pub LiesWithin : ℕ → Span → Type 0
LiesWithin len s = (s.name ≤ s.text) × (s.text ≤ s.end) × (s.end ≤ len)

-- what is held is a table, and each name and each text may be lent
pub record AreNamedTexts (bytes : List ℕ) (spans : List Span) : Type 0 where
  pub within : All (LiesWithin (length bytes)) spans
  pub sorted : IsStrictlySortedBy (slice_cmp nat_cmp) (keys_of (named_texts bytes spans))
  pub names : All IsUtf8 (keys_of (named_texts bytes spans))
  pub texts : All IsUtf8 (values_of (named_texts bytes spans))

abbrev pub name_at : EntityNames → ℕ → List ℕ
name_at table i = (slice_index_or table i ([], [])).0

-- a name stands behind the first i of a table
abbrev pub StandsBehind : EntityNames → List ℕ → ℕ → Type 0
StandsBehind table name i = (j : ℕ) → j < i → slice_cmp nat_cmp name (name_at table j) ≡ Greater

-- a name stands before those of a table from i on
abbrev pub StandsBefore : EntityNames → List ℕ → ℕ → Type 0
StandsBefore table name i = (j : ℕ) → i ≤ j → j < length table → slice_cmp nat_cmp name (name_at table j) ≡ Less

-- where a name stands in a table, or where it would stand
abbrev pub IsPlaceOf : EntityNames → List ℕ → Result ℕ ℕ → Type 0
IsPlaceOf table name place =
    MatchResult place
    (λ i. (i < length table) × StandsBehind table name i × (slice_cmp nat_cmp name (name_at table i) ≡ Equal))
    (λ i. (i ≤ length table) × StandsBehind table name i × StandsBefore table name i)
