-- What an edit brings where a list goes on in a held one.
use Rattle.std.specs.Prelude.{◌≡◌, List, [], ◌∷◌, ◌++◌, None, Some}
use Rattle.mdview.specs.HeldUnit.{HeldUnit}
use Rattle.mdview.specs.declared.inlines.brought_units.BroughtUnits.{BroughtUnits}
use Rattle.mdview.specs.declared.inlines.spliced_lists.JoinedList.{JoinedList}
use Rattle.mdview.specs.declared.inlines.spliced_lists.JoinedList.TheVariants.{Made, Inset}

-- the units, and behind them a list that was put together, or what the held one takes in
abbrev pub Adds : (units : List HeldUnit) → JoinedList → BroughtUnits → Type 0
Adds units (Made unit) brought = (brought.units.items ≡ units ++ unit ∷ []) × (brought.inset ≡ None)
Adds units (Inset inset) brought = (brought.units.items ≡ units) × (brought.inset ≡ Some inset)
