-- Units that are one list, of which some items are new and those in front of them and behind them are an old list's.
use Rattle.std.specs.Prelude.{ℕ, ◌+◌, List, ◌++◌, drop, length, take}
use Rattle.inlinespec.specs.ParsedText.{ParsedText}
use Rattle.blockspec.specs.BlockTree.{Blocks, Items}
use Rattle.mdblock.specs.Copies.{copied_items}
use Rattle.mdblock.specs.Insets.{with_items}
use Rattle.mdblock.specs.Spliced.{drop_items, first_items, take_items}
use Rattle.mdblock.specs.held.TreesBehind.{placed_before}

-- Items, whose texts stand from one on, between so many of an old list's first ones and those from another one on.
abbrev pub inset_items : (front at : ℕ) → Items → (later : ℕ) → (olds : Items) → Items
inset_items front at items later olds = placed_before (take_items front olds) (placed_before (copied_items at items) (drop_items later olds))

-- an old unit's list with them; nothing where it is no list
abbrev pub inset_blocks : (front at : ℕ) → Items → (later : ℕ) → Blocks → Blocks
inset_blocks front at items later blocks = with_items (inset_items front at items later (first_items blocks)) blocks

-- what its texts read as: those of the new items in the place of as many old ones
abbrev pub inset_readings : (at : ℕ) → (texts olds : List ParsedText) → List ParsedText
inset_readings at texts olds = take at olds ++ (texts ++ drop (at + length texts) olds)
