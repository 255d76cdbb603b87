-- What an open paragraph hands in at its end (CommonMark 4.7, 4.8; GFM Task list items (extension)).
use Rattle.std.specs.Prelude.{◌≡◌, ℕ, Bool, true, false, List, [], ◌∷◌, ◌++◌, length, map, Option, None, string_bytes}
use Rattle.std.specs.Option.{MatchOption}
use Rattle.mdscan.specs.TaskListItem.{task_marker}
use Rattle.mdleaf.specs.DefinedLinks.{LinkDefinition, definition_of}
use Rattle.blockspec.specs.BlockTree.{no_blocks, block}
use Rattle.mdblock.specs.BlockView.{block_view}
use Rattle.blockspec.specs.NodeTree.{Leaf, paragraph_leaf, leaf_texts, leaf_block}
use Rattle.blockspec.specs.TaskListItems.{task_paragraph}
use Rattle.mdblock.specs.declared.blocks.Block.{Block}
use Rattle.mdblock.specs.declared.gathering.Gathering.{Gathering}

abbrev pub gathered_texts : Gathering → List (List ℕ)
gathered_texts g = map string_bytes g.texts.items

abbrev pub gathered_definitions : Gathering → List LinkDefinition
gathered_definitions g = map definition_of g.definitions.items

-- a paragraph that may be the first block of an item, where its task marker is taken off
abbrev pub taken : (first : Bool) → (text : List ℕ) → Leaf
taken true text = task_paragraph (task_marker text) text
taken false text = paragraph_leaf None text

-- what is left behind the definitions, if anything is
abbrev pub left_behind : (first : Bool) → (text : List ℕ) → List Leaf
left_behind first [] = []
left_behind first (b ∷ text) = taken first (b ∷ text) ∷ []

-- a leaf as the block that is found, and its texts behind those that were handed in
abbrev pub IsLeafIn : Leaf → (old new : List (List ℕ)) → Option Block → Type 0
IsLeafIn leaf old new found =
    MatchOption found ⊥ (λ b. block (block_view b) no_blocks ≡ leaf_block (length old) leaf no_blocks) × (new ≡ old ++ leaf_texts leaf)

-- of no leaf or one; more are not handed in at once
abbrev pub IsHandedIn : List Leaf → (old new : List (List ℕ)) → Option Block → Type 0
IsHandedIn [] old new found = (found ≡ None) × (new ≡ old)
IsHandedIn (leaf ∷ []) old new found = IsLeafIn leaf old new found
IsHandedIn (leaf ∷ other ∷ leaves) old new found = ⊥
