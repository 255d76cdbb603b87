-- How many lines the units that are held have.
use Rattle.std.proofs.Common.{◌≡◌, ◌<◌, ◌≤◌, ◌+◌, ℕ, zero, suc, List, [], ◌∷◌, length, map, drop, take, get_or, arith, refl, ap, sym, ◌∙◌}
use Rattle.std.specs.Prelude.{sum_by}
use Rattle.std.proofs.lemmas.List.Sums.{sum_by-cons}
use Rattle.mdsource.specs.UnitTiles.{begins_from}
use Rattle.std.proofs.Math.ListN.{get_or-map}
use Rattle.std.proofs.lemmas.List.{drop_more, length-map}
use Rattle.mdview.specs.HeldBlocks.{lines_in}
use Rattle.mdview.specs.HeldUnit.{HeldUnit, ReadUnit, read_of}

-- the unit of a number, and those behind it
pub sizes_here : (units : List HeldUnit) (i : ℕ) (u : HeldUnit) → i < length units → u ≡ get_or units i u
    → drop i (map lines_in units) ≡ lines_in u ∷ drop (i + 1) (map lines_in units)
sizes_here units i u below is =
    let many = length-map units lines_in in
    drop_more (map lines_in units) i (lines_in u) (omega (arith, many, below))
    ∙ ap (λ z. z ∷ drop (i + 1) (map lines_in units)) (get_or-map lines_in units i u ∙ ap lines_in (sym is))

-- the lines of the first units, by what is held and by what was read
pub lines_before : (units : List HeldUnit) (n : ℕ) → sum_by (λ (u : HeldUnit). u.read.lines) (take n units) ≡ sum_by (λ (u : ReadUnit). u.lines) (take n (map read_of units))
lines_before units zero = refl
lines_before [] (suc n) = refl
lines_before (u ∷ units) (suc n) =
    sum_by-cons (λ (v : HeldUnit). v.read.lines) u (take n units) ∙ ap (λ m. u.read.lines + m) (lines_before units n) ∙ sym (sum_by-cons (λ (v : ReadUnit). v.lines) (read_of u) (take n (map read_of units)))

-- where the units from one on begin
pub begins_at : (units : List HeldUnit) (head n : ℕ) → n ≤ length units
    → drop n (begins_from head (map lines_in units)) ≡ begins_from (head + sum_by (λ (u : HeldUnit). u.read.lines) (take n units)) (drop n (map lines_in units))
begins_at units head zero h = let same : head ≡ head + 0 = omega arith in ap (λ m. begins_from m (map lines_in units)) same
begins_at [] head (suc n) h = absurd (omega (arith, h))
begins_at (u ∷ units) head (suc n) h =
    let more = sum_by-cons (λ (v : HeldUnit). v.read.lines) u (take n units) in
    let same : (head + lines_in u) + sum_by (λ (v : HeldUnit). v.read.lines) (take n units) ≡ head + sum_by (λ (v : HeldUnit). v.read.lines) (u ∷ take n units) = omega (arith, more) in
    begins_at units (head + lines_in u) n (omega (arith, h)) ∙ ap (λ m. begins_from m (drop n (map lines_in units))) same
