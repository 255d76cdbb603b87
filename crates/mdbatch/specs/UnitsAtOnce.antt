-- The units of a text that defines no label, while it is read: each is written as it is found.
use Rattle.std.specs.Prelude.{◌≡◌, ℕ, List, [], true}
use Rattle.inlinespec.specs.LinkTails.{Table}
use Rattle.blockspec.specs.BlockUnits.{definitions_of}
use Rattle.blockspec.specs.UnitTree.{FoundUnit}
use Rattle.htmlspec.specs.BlockHtml.{ends_line}
use Rattle.mdsource.specs.Setting.{Setting}
use Rattle.mdbatch.specs.BatchHtml.{WritesUnits}

-- behind the text so far stand the pieces of these units, which define no label, and the text is empty or ends with LF
pub record AddsUnits (setting : Setting) (labels : Table) (found : List FoundUnit) (old new : List ℕ) : Type 0 where
  pub written : WritesUnits setting labels found old new
  pub undefining : definitions_of found ≡ []
  pub line : ends_line new ≡ true
