-- The labels that are looked up for texts.
use Rattle.std.specs.Prelude.{◌≡◌, ℕ, List, ◌++◌, fold}
use Rattle.std.proofs.Common.{ap, sym, ◌∙◌}
use Rattle.std.proofs.lemmas.List.Sums.{fold-append}
use Rattle.std.specs.BTreeSet.{insert_key}
use Rattle.std.specs.Cmp.Lexicographic.{slice_cmp}
use Rattle.std.specs.Ordering.{nat_cmp}

-- a set of labels with more of them
abbrev pub with_asked : List (List ℕ) → List (List ℕ) → List (List ℕ)
with_asked set labels = fold (insert_key (slice_cmp nat_cmp)) set labels

-- labels that are put into a set in two parts
pub asked_more : (a b c ls ms : List (List ℕ)) → b ≡ with_asked a ls → c ≡ with_asked b ms → c ≡ with_asked a (ls ++ ms)
asked_more a b c ls ms h k = k ∙ ap (λ s. with_asked s ms) h ∙ sym (fold-append (insert_key (slice_cmp nat_cmp)) a ls ms)
