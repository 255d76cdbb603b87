-- What callers see of a reader.
use Rattle.std.specs.Prelude.{ℕ, ◌-◌, Bool, false, List, Option, None, Some, length, map, string_bytes}
use Rattle.mdtext.specs.EntityTable.{EntityTable}
use Rattle.mdleaf.specs.DefinedLinks.{LinkDefinition, definition_of}
use Rattle.blockspec.specs.BlockTree.{Blocks, block, no_blocks}
use Rattle.blockspec.specs.ItemMarks.{ItemMark}
use Rattle.mdblock.specs.BlockView.{blocks_view}
use Rattle.mdblock.specs.FoundLists.{FoundList, join_mark}
use Rattle.mdblock.specs.held.ClosedViews.{list_view}
use Rattle.mdblock.specs.held.TreesBehind.{blocks_before}
use Rattle.mdblock.specs.declared.open_blocks.Level.{Level}
use Rattle.mdblock.specs.declared.open_blocks.OpenBlock.{OpenBlock}
use Rattle.mdblock.specs.declared.open_blocks.OpenBlock as open_block
use Rattle.mdblock.specs.declared.readers.OpenUnit.{OpenUnit}
use Rattle.mdblock.specs.held.OpenPositions.{LevelIn}

-- what is read and not handed out yet, its later items where it is a list, and whether the last line began one of them
pub record UnitSoFar : Type 0 where
  pub level : Level
  pub definitions : List LinkDefinition
  pub texts : List (List ℕ)
  pub begin : Option ℕ
  pub marks : List ItemMark
  pub joined : Bool

-- how many lines were read, by which entities and with how many containers allowed inside one another, and what is held, until a fault comes
pub record ReaderState : Type 0 where
  pub entities : EntityTable
  pub limit : ℕ
  pub fed : ℕ
  pub held : Option UnitSoFar

abbrev pub unit_so_far : OpenUnit → UnitSoFar
unit_so_far held = record {
  level = held.level;
  definitions = map definition_of held.gathering.definitions.items;
  texts = map string_bytes held.gathering.texts.items;
  begin = held.begin;
  marks = map join_mark held.joins.items;
  joined = held.joined;
}

-- the blocks that are over, and behind them a list without the item that is open in it
abbrev pub front_blocks : Blocks → OpenBlock → Blocks
front_blocks over open_block.Shut = over
front_blocks over (open_block.Leaf held) = over
front_blocks over (open_block.Quote' p inner last in_item begun blank spaced) = over
front_blocks over (open_block.List' p inner last in_item begun blank spaced list) = blocks_before over (block (list_view list) no_blocks)

-- what is held as a unit, without the item of a list that is open
abbrev pub held_front : OpenUnit → (begin fed : ℕ) → FoundList
held_front held begin fed = record {
  begin = begin;
  lines = fed - begin;
  unit = record {
    blocks = front_blocks (blocks_view held.level.over.items) held.level.last;
    definitions = map definition_of held.gathering.definitions.items;
    texts = map string_bytes held.gathering.texts.items;
  };
  marks = map join_mark held.joins.items;
  parted = false;
}

abbrev pub held_begin : Option UnitSoFar → Option ℕ
held_begin None = None
held_begin (Some held) = held.begin

abbrev pub held_joined : Option UnitSoFar → Bool
held_joined None = false
held_joined (Some held) = held.joined

-- each position in what is held is that of a text that was handed in
abbrev pub AreKept : OpenUnit → Type 0
AreKept held = LevelIn (length held.gathering.texts.items) held.level
