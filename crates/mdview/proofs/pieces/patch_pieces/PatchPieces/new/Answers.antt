use Rattle.std.proofs.Common.{◌≡◌, ◌==◌, ◌||◌, ◌&&◌, ◌+◌, not, nat_lt, sym, ap, ℕ, arith}
use Rattle.std.proofs.lemmas.List.Sorted.{IsNonDecreasingBy-from_sort, list_any-IsPermutation}
use Rattle.mdsource.specs.Patch.{brings}
use Rattle.mdview.specs.BroughtPieces.{changed}
use Rattle.mdview.proofs.BroughtLaws.{brought_alike}
use Rattle.mdview.proofs.pieces.patch_pieces.PatchPieces.new.Goals as goal

pub invariant_of-result : goal.invariant_of-result
invariant_of-result c = (IsNonDecreasingBy-from_sort (λ n. n) _ c.sort_unstable.ensures.sorted, omega (arith, c.requires))

pub returns : goal.returns
returns c =
    let given = changed c.args.first c.args.added c.args.again.items in
    let sorted = changed c.args.first c.args.added c.sort_unstable.new.self.items in
    let same : (k : ℕ) → brings sorted k ≡ brings given k = λ k.
    ap (λ b. (not (nat_lt k c.args.first) && nat_lt k (c.args.first + c.args.added)) || b) (sym (list_any-IsPermutation (λ j. j == k) _ _ c.sort_unstable.ensures.permutation)) in
    brought_alike sorted given same 0 c.args.pieces
