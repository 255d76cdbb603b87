-- A member that is changed so that it weighs as before and has the same marks.
use Rattle.std.proofs.Common.{◌≡◌, ℕ, ◌-◌, ◌^◌, ◌<◌, List, length, get_or, min, ap, sym, subst, arith}
use Rattle.std.proofs.Math.ListN.{set}
use Rattle.std.proofs.lemmas.List.Elements.{All-get_or, All-set}
use Rattle.std.proofs.lemmas.List.Sums.{sum_by-set}
use Rattle.std.specs.Int.RustNames.{bit_and}
use Rattle.std.specs.List.{sum_by}
use Rattle.mdchunks.specs.Lists.{weigh}
use Rattle.mdchunks.specs.Marks.{AreMarksOf, IsApart}

pub weighs_alike : {A : Type 0} (w : A → ℕ) (xs : List A) (i : ℕ) (new d : A) → i < length xs → w new ≡ w (get_or xs i d) → weigh w (set xs i new) ≡ weigh w xs
weighs_alike w xs i new d here same =
    let sums = sum_by-set w xs i new d here in
    let sum : sum_by w (set xs i new) ≡ sum_by w xs = omega (arith, sums, same) in
    ap (λ n. min n (2 ^ 64 - 1)) sum

pub marked_alike : {A : Type 0} (m : A → ℕ) (xs : List A) (i : ℕ) (new d : A) (all : ℕ) → i < length xs → m new ≡ m (get_or xs i d) → AreMarksOf m xs all → AreMarksOf m (set xs i new) all
unfolding AreMarksOf
marked_alike m xs i new d all here same w =
    λ some apart.
    let before = w some apart in
    All-set (IsApart m some) xs i new (subst (λ n. bit_and n some ≡ 0) (sym same) (All-get_or (IsApart m some) xs i d here before)) before
