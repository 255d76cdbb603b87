-- What the reader makes of a `]` (CommonMark 6.3, 6.4).
use Rattle.std.specs.Prelude.{◌≡◌, ◌-◌, ℕ, List, Option, Some, None}
use Rattle.mdtext.specs.EntityTable.{EntityTable}
use Rattle.inlinespec.specs.TextReading.{Item, Spends, Links}
use Rattle.mdinline.specs.declared.links.FoundLink.{FoundLink}
use Rattle.mdinline.specs.held.LeafEvents.{goal_target}

-- the item of a `]` at a place, by the link or the image that was found there
abbrev pub IsLinkOf : EntityTable → List ℕ → ℕ → Item → Option FoundLink → Type 0
IsLinkOf entities text at item None = (item.size ≡ 1) × (item.deed ≡ Spends)
IsLinkOf entities text at item (Some r) = (item.size ≡ r.end - at) × (item.deed ≡ Links (goal_target entities text r.goal))
