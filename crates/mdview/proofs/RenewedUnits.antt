-- What stays, and what holds, where units are read again.
use Rattle.std.proofs.Common.{◌≡◌, ℕ, zero, suc, Bool, true, false, List, [], ◌∷◌, map, slice_get, refl, ◌∙◌, sym, arith, subst}
use Rattle.std.specs.Prelude.{◌==◌, ◌||◌, IfSome}
use Rattle.std.specs.List.{All, list_any}
use Rattle.std.proofs.lemmas.Bool.{true≢false, eq-eqb}
use Rattle.blockspec.specs.UnitTree.{UnitTree}
use Rattle.htmlspec.specs.declared.options.Options.{Options}
use Rattle.mdview.specs.declared.inlines.concerned_texts.Again.{Again}
use Rattle.mdview.specs.HeldUnit.{HeldUnit, IsRendered, unit_in}
use Rattle.mdview.specs.Update.{map_at, renewed, all_renewed, IsWritten}
use Rattle.mdview.proofs.MemberChanges.{map_changed, others_stay, all_first, all_rest}

pub renewed_first : (units : List HeldUnit) (one : Again) (again : List Again) → all_renewed units (one ∷ again) ≡ all_renewed (map_at (renewed one) one.unit units) again
unfolding all_renewed
renewed_first units one again = refl

pub renewed_none : (units : List HeldUnit) (again : List Again) → again ≡ [] → all_renewed units again ≡ units
unfolding all_renewed
renewed_none units again none = rw none refl

pub unit_trees_stay : (units : List HeldUnit) (again : List Again) → map unit_in (all_renewed units again) ≡ map unit_in units
unfolding all_renewed
unit_trees_stay units [] = refl
unit_trees_stay units (one ∷ again) =
    unit_trees_stay (map_at (renewed one) one.unit units) again ∙ map_changed unit_in (renewed one) (λ u. refl) one.unit units

-- one that is read again is rendered where its piece is its HTML
one_rendered : (options : Options) (one : Again) (i : ℕ) (units : List HeldUnit) → All (IsRendered options) units → IfSome (slice_get (map unit_in units) i) (λ u. IsWritten options (u ∷ []) (record { unit = 0; inlines = one.inlines; piece = one.piece }))
    → All (IsRendered options) (map_at (renewed one) i units)
unfolding map_at
one_rendered options one i [] all written k d below = absurd (omega arith)
one_rendered options one zero (u ∷ units) all written zero d below = written
one_rendered options one zero (u ∷ units) all written (suc k) d below = all (suc k) d (omega arith)
one_rendered options one (suc i) (u ∷ units) all written zero d below = all zero d (omega arith)
one_rendered options one (suc i) (u ∷ units) all written (suc k) d below =
    one_rendered options one i units (all_rest (IsRendered options) u units all) written k d (omega arith)

pub all_rendered : (options : Options) (trees : List UnitTree) (units : List HeldUnit) (again : List Again) → map unit_in units ≡ trees → All (IsRendered options) units → All (IsWritten options trees) again
    → All (IsRendered options) (all_renewed units again)
unfolding all_renewed
all_rendered options trees units [] same all written = all
all_rendered options trees units (one ∷ again) same all written =
    all_rendered options trees (map_at (renewed one) one.unit units) again
    (map_changed unit_in (renewed one) (λ u. refl) one.unit units ∙ same)
    (one_rendered options one one.unit units all (subst (λ fs. IsWritten options fs one) (sym same) (all_first (IsWritten options trees) one again written)))
    (all_rest (IsWritten options trees) one again written)

or_false : (a b : Bool) → (a || b) ≡ false → (a ≡ false) × (b ≡ false)
or_false false false e = (refl, refl)
or_false false true e = absurd (true≢false e)
or_false true b e = absurd (true≢false e)

-- those stay that are not read again
pub units_stay : (units : List HeldUnit) (again : List Again) (i : ℕ) → list_any (λ k. k == i) (map (λ (one : Again). one.unit) again) ≡ false → slice_get (all_renewed units again) i ≡ slice_get units i
unfolding all_renewed
units_stay units [] i none = refl
units_stay units (one ∷ again) i none =
    let both = or_false (one.unit == i) (list_any (λ k. k == i) (map (λ (one : Again). one.unit) again)) none in
    units_stay (map_at (renewed one) one.unit units) again i both.1 ∙ others_stay (renewed one) one.unit i units (λ e. true≢false (sym (eq-eqb one.unit i e) ∙ both.0))

not_that : (a b : Bool) → (a ≡ true → b ≡ true) → b ≡ false → a ≡ false
not_that false b leads none = refl
not_that true b leads none = sym (leads refl) ∙ none

-- where no number is one number, no other number is another, if those that are the other are the one
pub none_other : (f g : Again → ℕ) (i j : ℕ) → ((one : Again) → (f one == i) ≡ true → (g one == j) ≡ true) → (again : List Again)
    → list_any (λ k. k == j) (map g again) ≡ false → list_any (λ k. k == i) (map f again) ≡ false
none_other f g i j leads [] none = refl
none_other f g i j leads (one ∷ again) none =
    let both = or_false (g one == j) (list_any (λ k. k == j) (map g again)) none in
    let head : (f one == i) ≡ false = not_that (f one == i) (g one == j) (leads one) both.0 in
    rw head (none_other f g i j leads again both.1)
