-- Units whose texts are read again, and what an edit changes.
use Rattle.std.specs.Prelude.{◌≡◌, ℕ, ◌+◌, ◌-◌, ◌^◌, ◌≤◌, zero, suc, false, if◌then◌else◌, nat_eq, nat_lt, min, List, [], ◌∷◌, ◌++◌, IfSome, None, Option, Some, length, map, option_map, slice_get}
use Rattle.std.specs.List.{All, list_any}
use Rattle.std.specs.Option.{option_to_list}
use Rattle.blockspec.specs.UnitTree.{UnitTree}
use Rattle.htmlspec.specs.declared.options.Options.{Options}
use Rattle.mdview.specs.declared.inlines.concerned_texts.Again.{Again}
use Rattle.mdview.specs.declared.held.unit_insets.UnitInset.{UnitInset}
use Rattle.mdview.specs.declared.update.Update.{Update}
use Rattle.mdview.specs.HeldUnit.{AreEnds, HeldUnit, IsRendered, html_of, unit_in}
use Rattle.mdview.specs.UnitInsets.{FitsUnit, put_in}
use Rattle.mdsource.specs.ChangedPieces.{ChangedPieces}

-- the list with its i-th member changed, if it has one
unfoldable pub map_at : {A : Type 0} → (A → A) → ℕ → List A → List A
map_at f i [] = []
map_at f zero (x ∷ xs) = f x ∷ xs
map_at f (suc i) (x ∷ xs) = x ∷ map_at f i xs

-- a unit with other readings and another piece
abbrev pub renewed : Again → HeldUnit → HeldUnit
renewed again u = record { read = record u.read { readings = again.inlines.items }; piece = again.piece.html; ends = again.piece.ends }

-- the units, of which these are read again
unfoldable pub all_renewed : List HeldUnit → List Again → List HeldUnit
all_renewed units [] = units
all_renewed units (one ∷ again) = all_renewed (map_at (renewed one) one.unit units) again

-- there is a reading for each text of the unit
abbrev pub Fits : List UnitTree → Again → Type 0
Fits units again = IfSome (slice_get units again.unit) (λ u. length again.inlines.items ≡ length u.texts)

-- the piece is the HTML of the unit, read so, and its items end where it says
abbrev pub IsWritten : Options → List UnitTree → Again → Type 0
IsWritten options units again = IfSome (slice_get units again.unit) (λ u. (again.piece.html ≡ html_of options u again.inlines.items) × AreEnds options again.inlines.items u.blocks again.piece.ends)

-- the units, and behind them the held one that takes an inset in, as it is then
abbrev pub with_inset : (held units : List HeldUnit) → Option UnitInset → List HeldUnit
with_inset held units None = units
with_inset held units (Some i) = units ++ option_to_list (option_map (put_in i) (slice_get held i.unit))

-- so many, and one more where there is an inset
abbrev pub count_with : ℕ → Option UnitInset → ℕ
count_with n None = n
count_with n (Some i) = n + 1

-- the held units, of which one takes an inset in
abbrev pub inset_put : List HeldUnit → Option UnitInset → List HeldUnit
inset_put units None = units
inset_put units (Some i) = map_at (put_in i) i.unit units

-- where those end that give way: before the one that takes an inset in
abbrev pub end_gone : (next : ℕ) → Option UnitInset → ℕ
end_gone next None = next
end_gone next (Some i) = i.unit

-- the units that an update of these held ones brings, in the place of those from number `first` up to `next`
unfoldable pub units_brought : (held : List HeldUnit) → Update → List HeldUnit
units_brought held update = with_inset held update.units.items update.inset

-- how many it brings
unfoldable pub count_brought : Update → ℕ
count_brought update = count_with (length update.units.items) update.inset

-- An inset goes into the last of the units that give way, and can.
abbrev pub IsInLast : (held : List HeldUnit) → (first next : ℕ) → Option UnitInset → Type 0
IsInLast held first next inset = IfSome inset (λ i. (i.unit + 1 ≡ next) × (first ≤ i.unit) × IfSome (slice_get held i.unit) (FitsUnit i))

-- The unit that takes an inset in is not read again.
abbrev pub IsApart : List Again → Option UnitInset → Type 0
IsApart again inset = IfSome inset (λ i. list_any (λ k. nat_eq k i.unit) (map (λ (one : Again). one.unit) again) ≡ false)

-- what an edit changes is fit for these units
pub record IsFitFor (options : Options) (held : List HeldUnit) (update : Update) : Type 0 where
  pub order : update.first ≤ update.next
  pub within : update.next ≤ length held
  pub fits : All (Fits (map unit_in held)) update.again.items
  pub written : All (IsWritten options (map unit_in held)) update.again.items
  pub pieces : All (IsRendered options) (units_brought held update)
  pub inset : IsInLast held update.first update.next update.inset
  pub apart : IsApart update.again.items update.inset

-- the number that a unit which stays has after the edit
abbrev pub number_after : Update → ℕ → ℕ
number_after update unit =
    if nat_lt unit update.next then unit else min (unit - update.next + update.first + count_brought update) (2 ^ 64 - 1)

-- the patch of an edit
pub record IsPatchOf (update : Update) (patch : ChangedPieces) : Type 0 where
  pub first : patch.first ≡ update.first
  pub removed : patch.removed ≡ update.next - update.first
  pub added : patch.added ≡ count_brought update
  pub again : patch.again ≡ map (λ (one : Again). number_after update one.unit) update.again.items
