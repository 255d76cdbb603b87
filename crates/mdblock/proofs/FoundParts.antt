-- A unit that is found, by its parts.
use Rattle.std.proofs.Common.{◌≡◌, ℕ, Bool, List, ◌∙◌, ap}
use Rattle.mdleaf.specs.DefinedLinks.{LinkDefinition}
use Rattle.blockspec.specs.BlockTree.{Blocks}
use Rattle.blockspec.specs.ItemMarks.{ItemMark}
use Rattle.mdblock.specs.FoundLists.{FoundList}

abbrev pub found_of : (parted : Bool) → List ItemMark → (begin lines : ℕ) → Blocks → List LinkDefinition → List (List ℕ) → FoundList
found_of parted marks begin lines blocks definitions texts = record { begin = begin; lines = lines; unit = record { blocks = blocks; definitions = definitions; texts = texts }; marks = marks; parted = parted }

pub same_found : (begin : ℕ) (v w : Bool) (j k : List ItemMark) (m n : ℕ) (b c : Blocks) (d f : List LinkDefinition) (t u : List (List ℕ)) → v ≡ w → j ≡ k → m ≡ n → b ≡ c → d ≡ f → t ≡ u →
    found_of v j begin m b d t ≡ found_of w k begin n c f u
same_found begin v w j k m n b c d f t u hv hj hm hb hd ht =
    ap (λ z. found_of z j begin m b d t) hv
    ∙ ap (λ z. found_of w z begin m b d t) hj
    ∙ ap (λ z. found_of w k begin z b d t) hm
    ∙ ap (λ z. found_of w k begin n z d t) hb
    ∙ ap (λ z. found_of w k begin n c z t) hd
    ∙ ap (found_of w k begin n c f) ht
