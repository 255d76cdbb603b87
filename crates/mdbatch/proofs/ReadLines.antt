-- The lines of a text that were fed to a reader, and its fault.
use Rattle.std.proofs.Common.{◌≡◌, ℕ, List, [], ◌∷◌, ◌++◌, Some, length, refl, ap, sym, ◌∙◌, append_assoc, append-nil}
use Rattle.mdtext.specs.Lines.{split_lines}
use Rattle.blockspec.specs.Nesting.{first_too_deep}
use Rattle.blockspec.proofs.NestingLaws.{too_deep_stays}
use Rattle.mdblock.specs.declared.faults.BlockFault.{BlockFault}
use Rattle.mdblock.specs.declared.faults.BlockFault.TheVariants as block
use Rattle.mdsource.specs.BlockFaults.{block_fault_in}
use Rattle.mdbatch.specs.BatchHtml.{IsReadFault}

-- one line more is fed
pub next_fed : (all ls rest : List (List ℕ)) (line : List ℕ) (later : List (List ℕ)) → all ≡ ls ++ rest → rest ≡ line ∷ later → all ≡ (ls ++ line ∷ []) ++ later
next_fed all ls rest line later order next = order ∙ ap (λ z. ls ++ z) next ∙ sym (append_assoc ls (line ∷ []) later)

-- nothing is left
pub all_fed : (text : List ℕ) (ls : List (List ℕ)) (rest : List ℕ) → rest ≡ [] → split_lines text ≡ ls ++ split_lines rest → split_lines text ≡ ls
unfolding split_lines
all_fed text ls rest none order = order ∙ ap (λ z. ls ++ split_lines z) none ∙ append-nil ls

-- a fault of the reader is the text's
pub fault_is : (limit : ℕ) (all ls rest : List (List ℕ)) (line : List ℕ) (later : List (List ℕ)) (fault : BlockFault) (fed : ℕ) → all ≡ ls ++ rest → rest ≡ line ∷ later
    → fed ≡ length ls → (fault ≡ block.NestedTooDeep → first_too_deep limit (ls ++ line ∷ []) ≡ Some (length ls)) → IsReadFault (first_too_deep limit all) (block_fault_in fault fed)
fault_is limit all ls rest line later block.NestedTooDeep fed order next same deep =
    ap (first_too_deep limit) (next_fed all ls rest line later order next) ∙ too_deep_stays limit (ls ++ line ∷ []) later (length ls) (deep refl) ∙ ap Some (sym same)
fault_is limit all ls rest line later block.NoMemory fed order next same deep = tt
fault_is limit all ls rest line later block.Failed fed order next same deep = tt
