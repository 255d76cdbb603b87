-- The blocks of a document before a line at which a list may be parted, and from it on.
use Rattle.std.proofs.Common.{◌≡◌, ℕ, List, ◌∷◌, ◌++◌, length, map, ◌∙◌, ap}
use Rattle.std.proofs.lemmas.List.{map-append}
use Rattle.std.specs.Prelude.{Contains}
use Rattle.mdtext.specs.EntityTable.{EntityTable}
use Rattle.blockspec.specs.BlockLine.{document_line}
use Rattle.blockspec.specs.Meetings.{gap_after}
use Rattle.blockspec.proofs.DocumentLaws.{map_length}
use Rattle.blockspec.specs.Joins.{joins}
use Rattle.blockspec.specs.TopBlocks.{joined_blocks, top_blocks}
use Rattle.blockspec.proofs.ItemsMeet.{lists_meet}
use Rattle.blockspec.proofs.JoinLines.{document_joins_only}
use Rattle.blockspec.proofs.UnitsMeet.{DocumentMeets, document_meets_inside}

-- The blocks are those of both parts, and the list that stands last in front goes on with the items from the line on.
pub document_lists_meet : (e : EntityTable) (front : List (List ℕ)) (line : List ℕ) (later : List (List ℕ)) → Contains (joins e (front ++ line ∷ later)) (length front) →
    top_blocks e (map document_line (front ++ line ∷ later))
    ≡ joined_blocks (gap_after (map document_line front)) (length front) (top_blocks e (map document_line front)) (top_blocks e (map document_line (line ∷ later)))
document_lists_meet e front line later w =
    let xs = map document_line front in
    let ys = map document_line later in
    ap (top_blocks e) (map-append document_line front (line ∷ later))
    ∙ lists_meet e xs (document_line line) ys (document_joins_only e front line later w)
    ∙ ap (λ z. joined_blocks (gap_after xs) z (top_blocks e xs) (top_blocks e (document_line line ∷ ys))) (map_length document_line front)

pub document_units_meet : (e : EntityTable) (front : List (List ℕ)) (line : List ℕ) (later : List (List ℕ)) → Contains (joins e (front ++ line ∷ later)) (length front) →
    DocumentMeets e front line later
document_units_meet e front line later w = document_meets_inside e front line later (document_joins_only e front line later w)
