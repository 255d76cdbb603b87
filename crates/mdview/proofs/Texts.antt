-- How many texts units have, and what fits a unit.
use Rattle.std.proofs.Common.{◌≡◌, ℕ, ◌+◌, ◌<◌, List, [], ◌∷◌, ◌++◌, length, map, get_or, refl, ap, ◌∙◌, arith, option_map, Some}
use Rattle.std.specs.Prelude.{slice_get, sum_by}
use Rattle.std.proofs.lemmas.List.{map-append}
use Rattle.std.proofs.lemmas.List.Sums.{sum_by-append, sum_by-cons}
use Rattle.std.proofs.lemmas.Option.{slice_get-map, slice_get-get_or}
use Rattle.mdview.specs.HeldUnit.{HeldUnit, ReadUnit, unit_in, read_of, texts_in, texts_of}

pub texts_more : (units : List HeldUnit) (u : HeldUnit) → texts_of (map read_of (units ++ u ∷ [])) ≡ texts_of (map read_of units) + texts_in u.read.unit
texts_more units u =
    let f : ReadUnit → ℕ = λ u. texts_in u.unit in
    let all = ap texts_of (map-append read_of units (u ∷ [])) ∙ sum_by-append f (map read_of units) (read_of u ∷ []) in
    let one = sum_by-cons f (read_of u) [] in
    let none : sum_by f [] ≡ 0 = refl in
    omega (arith, all, one, none)

pub found_at : (units : List HeldUnit) (i : ℕ) (u : HeldUnit) → i < length units → slice_get (map unit_in units) i ≡ Some (unit_in (get_or units i u))
found_at units i u below = slice_get-map unit_in units i ∙ ap (option_map unit_in) (slice_get-get_or units i u below)
