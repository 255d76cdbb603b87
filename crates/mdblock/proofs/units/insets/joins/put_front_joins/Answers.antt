use Rattle.std.proofs.Common.{◌++◌, drop, length, map, sym, ◌∙◌, ap}
use Rattle.std.proofs.lemmas.List.{drop-map, map-append}
use Rattle.blockspec.proofs.DocumentLaws.{map_length}
use Rattle.mdblock.specs.FoundLists.{join_mark}
use Rattle.mdblock.specs.Insets.{marks_in_front}
use Rattle.mdblock.proofs.units.insets.joins.put_front_joins.Goals as goal

pub returns-in-None : goal.returns-in-None
returns-in-None c =
    let P = c.args.part.items in
    let O = c.args.joins.now.items in
    ap (map join_mark) c.put_first_joins.ensures
    ∙ map-append join_mark P (drop (length P) O)
    ∙ ap (λ z. map join_mark P ++ z) (sym (drop-map join_mark (length P) O) ∙ ap (λ z. drop z (map join_mark O)) (sym (map_length join_mark P)))
    ∙ ap (λ s. marks_in_front s (map join_mark O) (map join_mark P) ++ drop (length (marks_in_front s (map join_mark O) (map join_mark P))) (map join_mark O)) (sym c.in-None.is)
