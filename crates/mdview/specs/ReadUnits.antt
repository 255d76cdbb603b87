-- Held units whose inline texts were read under some labels.
use Rattle.std.specs.Prelude.{◌≡◌, ℕ, false}
use Rattle.mdtext.specs.EntityTable.{EntityTable}
use Rattle.inlinespec.specs.LinkTails.{Table}
use Rattle.mdsource.specs.UnitTexts.{is_deep_under, readings_under}
use Rattle.mdview.specs.HeldUnit.{HeldUnit}

-- the texts of the unit were read under these labels
abbrev pub IsReadUnder : EntityTable → Table → HeldUnit → Type 0
IsReadUnder e labels u = u.read.readings ≡ readings_under e labels u.read.unit

-- in none of them do spans lie too deep under these labels
abbrev pub IsShallow : (limit : ℕ) → EntityTable → Table → HeldUnit → Type 0
IsShallow limit e labels u = is_deep_under limit e labels u.read.unit ≡ false
