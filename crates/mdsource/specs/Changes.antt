-- What an edit changes elsewhere: units whose texts asked for a label that leads elsewhere now are made again.
use Rattle.std.specs.Prelude.{ℕ, ◌+◌, ◌&&◌, Bool, true, false, not, List, [], ◌∷◌, ◌++◌, length, map, nat_lt, nat_le, Option, Some, None, if◌then◌else◌}
use Rattle.std.specs.List.{filter, list_any}
use Rattle.std.specs.Str.{bytes_eq}
use Rattle.blockspec.specs.BlockUnits.{begins}
use Rattle.inlinespec.specs.LabelMap.{LinkTarget}
use Rattle.inlinespec.specs.LinkTails.{Table}
use Rattle.inlinespec.specs.TextTree.{as_set}
use Rattle.inlinespec.specs.ParsedText.{ParsedText}
use Rattle.mdsource.specs.ChangedPieces.{ChangedPieces}
use Rattle.mdsource.specs.Setting.{Setting, Source}
use Rattle.mdsource.specs.LabelTable.{definitions_in, table}
use Rattle.mdsource.specs.View.{ViewedUnit, view}
use Rattle.mdsource.specs.Calls.{Call, edit, set_prelude, put}
use Rattle.mdsource.specs.Stretch.{Places, units_before, units_removed, units_added, lines_read}

-- two labels lead to the same, or both nowhere
abbrev pub is_same_target : Option LinkTarget → Option LinkTarget → Bool
is_same_target None None = true
is_same_target None (Some to) = false
is_same_target (Some from) None = false
is_same_target (Some from) (Some to) = bytes_eq from.url to.url && bytes_eq from.title to.title

-- a label leads elsewhere in another table
abbrev pub leads_elsewhere : (old new : Table) → List ℕ → Bool
leads_elsewhere old new label = not (is_same_target (old label) (new label))

-- the labels that lead elsewhere after a change of the source: they are defined before or after it
abbrev pub changed_labels : Setting → (old new : Source) → List (List ℕ)
changed_labels setting old new =
    as_set (filter (leads_elsewhere (table setting.entities old) (table setting.entities new))
    (map (λ definition. definition.label) (definitions_in setting.entities old ++ definitions_in setting.entities new)))

-- a text asked for a label that leads elsewhere in another table
abbrev pub asks_changed : (old new : Table) → ParsedText → Bool
asks_changed old new reading = list_any (leads_elsewhere old new) reading.asked

abbrev pub texts_asking : (old new : Table) → ViewedUnit → List ParsedText
texts_asking old new one = filter (asks_changed old new) one.readings

-- the unit with this number is a new one
abbrev pub is_added : (first added number : ℕ) → Bool
is_added first added number = nat_le first number && nat_lt number (first + added)

-- the numbers of units that are not new, from a number on, that have a text which asked for a label that leads elsewhere now
abbrev pub asking_from : (old new : Table) → (first added : ℕ) → (number : ℕ) → List ViewedUnit → List ℕ
asking_from old new first added number [] = []
asking_from old new first added number (one ∷ later) =
    if not (is_added first added number) && nat_lt 0 (length (texts_asking old new one))
    then number ∷ asking_from old new first added (number + 1) later
    else asking_from old new first added (number + 1) later

-- how many texts of units, from a number on, are to be read: all of a new unit, and of another one those that asked for such a label
abbrev pub texts_due : (old new : Table) → (first added : ℕ) → (number : ℕ) → List ViewedUnit → ℕ
texts_due old new first added number [] = 0
texts_due old new first added number (one ∷ later) =
    (if is_added first added number then length one.readings else length (texts_asking old new one)) + texts_due old new first added (number + 1) later

-- where an edit of a source begins and ends; a new prelude leaves all lines, so nothing is read again for it
abbrev pub places : Setting → Source → Call → Places
places setting old (edit at del add) =
    let new = put old (edit at del add) in
    record {
      old_begins = begins setting.entities old.lines;
      new_begins = begins setting.entities new.lines;
      new_lines = length new.lines;
      at = at;
      gone = del;
      come = length add;
    }
places setting old (set_prelude lines) =
    record { old_begins = []; new_begins = []; new_lines = 0; at = 0; gone = 0; come = 0 }

-- the patch of a call that is accepted
abbrev pub patch_of : Setting → Source → Call → ChangedPieces
patch_of setting old call =
    let p = places setting old call in
    let new = put old call in
    record {
      first = units_before p;
      removed = units_removed p;
      added = units_added p;
      again = asking_from (table setting.entities old) (table setting.entities new) (units_before p) (units_added p) 0 (view setting new);
    }

-- how many inline texts such a call reads at most
abbrev pub texts_read : Setting → Source → Call → ℕ
texts_read setting old call =
    let p = places setting old call in
    let new = put old call in
    texts_due (table setting.entities old) (table setting.entities new) (units_before p) (units_added p) 0 (view setting new)

-- how many lines it reads at most: those from the first one read to the meeting line; of a new prelude its own lines
abbrev pub lines_due : Setting → Source → Call → ℕ
lines_due setting old (edit at del add) = lines_read (places setting old (edit at del add))
lines_due setting old (set_prelude lines) = length lines
