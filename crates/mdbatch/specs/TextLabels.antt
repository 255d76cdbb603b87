-- Where the labels of a text lead (CommonMark 4.7).
use Rattle.std.specs.Prelude.{ℕ, List, Option}
use Rattle.std.specs.Option.{option_or}
use Rattle.blockspec.specs.BlockUnits.{definitions_of}
use Rattle.blockspec.specs.UnitTree.{FoundUnit}
use Rattle.inlinespec.specs.LabelMap.{LabelMap, LinkTarget, target_in}
use Rattle.inlinespec.specs.LinkTails.{Table}
use Rattle.mdsource.specs.LabelTable.{table_of}
use Rattle.mdsource.specs.Preludes.{HeldPrelude, target_beside}
use Rattle.mdbatch.specs.declared.page_labels.PageLabels.{PageLabels}

-- the target of a label: where the text defines it, what the text says, and else what the prelude says
abbrev pub target_by : LabelMap → HeldPrelude → Table
target_by own prelude label = option_or (target_in own label) (target_beside prelude label)

abbrev pub target_on_page : PageLabels → List ℕ → Option LinkTarget
target_on_page page label = target_by page.own.now page.prelude.now label

-- where labels lead in a text with these units, beside a prelude: of several definitions of a label the first counts
abbrev pub page_table : List FoundUnit → HeldPrelude → Table
page_table found prelude label = option_or (table_of (definitions_of found) label) (target_beside prelude label)
