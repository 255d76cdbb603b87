-- The tree of a text under a table of labels, and the labels that are looked up for it (CommonMark 6; GFM Strikethrough (extension)).
use Rattle.std.specs.Prelude.{◌≡◌, ℕ, List, [], ◌∷◌, fold, reverse}
use Rattle.std.specs.BTreeSet.{insert_key}
use Rattle.std.specs.Cmp.Lexicographic.{slice_cmp}
use Rattle.std.specs.Ordering.{nat_cmp}
use Rattle.mdtext.specs.EntityTable.{EntityTable}
use Rattle.inlinespec.specs.InlineTree.{Inlines}
use Rattle.inlinespec.specs.InlineEvents.{Event, tree_of}
use Rattle.inlinespec.specs.LinkTails.{Table}
use Rattle.inlinespec.specs.Emphasis.{settled}
use Rattle.inlinespec.specs.TextReading.{Item, reading, pieces_after, asks_of}

-- What is left of the pieces after these items, with their delimiter runs paired: openers that were not used are text.
abbrev pub events_of : List Item → List Event
events_of items = settled (reverse (pieces_after items []))

-- the tree of the one reading
unfoldable pub inl : EntityTable → Table → List ℕ → Inlines
inl entities table text = tree_of (events_of (reading entities table text))

-- labels in ascending order, each once
abbrev pub as_set : List (List ℕ) → List (List ℕ)
as_set labels = fold (insert_key (slice_cmp nat_cmp)) [] labels

-- the labels that are looked up for the one reading, found or not
unfoldable pub asked : EntityTable → Table → List ℕ → List (List ℕ)
asked entities table text = as_set (asks_of (reading entities table text))

-- two tables say the same of these labels
abbrev pub Agree : Table → Table → List (List ℕ) → Type 0
Agree one other [] = Unit {0}
Agree one other (label ∷ labels) = (one label ≡ other label) × Agree one other labels
