-- What a level tells of the last item of the list that stands last: whether a gap parts two of its blocks.
use Rattle.std.proofs.Common.{◌≡◌, ℕ, Bool, false, List, refl, ◌∙◌, ap}
use Rattle.std.specs.Prelude.{if◌then◌else◌}
use Rattle.mdtext.specs.EntityTable.{EntityTable}
use Rattle.blockspec.specs.BlockKinds.{Quote, Item}
use Rattle.blockspec.specs.BlockUnits.{container_part}
use Rattle.blockspec.specs.LineSummary.{Summary, summary, Last, nothing_yet, ended_block, open_leaf, open_container, last_groups}
use Rattle.blockspec.specs.Lists.{Part, Leaves, Quoted, Listed, Group}
use Rattle.blockspec.specs.SummaryJoins.{is_parted_part, is_parted_first, is_parted_after}
use Rattle.mdblock.specs.held.HeldLevel.{StandsFor, StandsForLast, StandsForList, behind_over, is_list, is_parted_last}
use Rattle.mdblock.specs.declared.container.lists.OpenList.{OpenList}
use Rattle.mdblock.specs.declared.open_blocks.Level.{Level}
use Rattle.mdblock.specs.declared.open_blocks.OpenBlock.{OpenBlock}
use Rattle.mdblock.specs.declared.open_blocks.OpenBlock as open_block

no_list : (p : Part) → is_list p ≡ false → false ≡ is_parted_part p
no_list (Leaves leaves) h = refl
no_list (Quoted nodes) h = refl
no_list (Listed kind tight items) h = absurd (let x : ⊥ = cc in x)

ended_parted : (at : ℕ) (list : OpenList) (spaced : Bool) (before : List Group) (gap : Bool) (p : Part) → StandsForList at list before gap p → (if list.item_open then spaced else list.parted) ≡ is_parted_part p
ended_parted at list spaced before gap (Leaves leaves) st = absurd st
ended_parted at list spaced before gap (Quoted nodes) st = absurd st
ended_parted at list spaced before gap (Listed kind tight items) st = ap (λ z. if z then spaced else list.parted) st.0 ∙ st.2

last_parted : (e : EntityTable) (at : ℕ) (x : OpenBlock) (before : List Group) (last : Last) → StandsForLast e at x before last → is_parted_last x ≡ is_parted_first (last_groups e last)
unfolding last_groups container_part
last_parted e at open_block.Shut before nothing_yet st = refl
last_parted e at open_block.Shut before (ended_block g) st = no_list g.part st
last_parted e at open_block.Shut before (open_leaf begin gap leaf) st = absurd st
last_parted e at open_block.Shut before (open_container begin gap bare container inner) st = absurd st
last_parted e at (open_block.Leaf held) before nothing_yet st = absurd st
last_parted e at (open_block.Leaf held) before (ended_block g) st = absurd st
last_parted e at (open_block.Leaf held) before (open_leaf begin gap leaf) st = refl
last_parted e at (open_block.Leaf held) before (open_container begin gap bare container inner) st = absurd st
last_parted e at (open_block.Quote' p over held in_item begun blank spaced) before nothing_yet st = absurd st
last_parted e at (open_block.Quote' p over held in_item begun blank spaced) before (ended_block g) st = absurd st
last_parted e at (open_block.Quote' p over held in_item begun blank spaced) before (open_leaf begin gap leaf) st = absurd st
last_parted e at (open_block.Quote' p over held in_item begun blank spaced) before (open_container begin gap bare Quote inner) st = refl
last_parted e at (open_block.Quote' p over held in_item begun blank spaced) before (open_container begin gap bare (Item marker needed) inner) st = absurd st
last_parted e at (open_block.List' p over held in_item begun blank spaced list) before nothing_yet st = absurd st
last_parted e at (open_block.List' p over held in_item begun blank spaced list) before (ended_block g) st = ended_parted at list spaced before g.gap g.part st.0
last_parted e at (open_block.List' p over held in_item begun blank spaced list) before (open_leaf begin gap leaf) st = absurd st
last_parted e at (open_block.List' p over held in_item begun blank spaced list) before (open_container begin gap bare Quote inner) st = absurd st
last_parted e at (open_block.List' p over held in_item begun blank spaced list) before (open_container begin gap bare (Item marker needed) (summary b k n ls)) st =
    ap (λ z. if z then spaced else list.parted) st.0 ∙ st.4.4

pub level_parted : (e : EntityTable) (at : ℕ) (in_item : Bool) (level : Level) (s : Summary) → StandsFor e at in_item level s → is_parted_last level.last ≡ is_parted_after e s
level_parted e at in_item level (summary before last blank lines) st = last_parted e (behind_over e at in_item before last) level.last before last st.1
