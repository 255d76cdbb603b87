use Rattle.std.proofs.Common.{ap, ◌∙◌, sym, map, ◌++◌, string_bytes, append-nil}
use Rattle.std.proofs.lemmas.Bool.{eqb-true}
use Rattle.std.proofs.lemmas.List.{nil_from_length}
use Rattle.mdtext.specs.Lines.{without_nul, split_lines}
use Rattle.mdtext.proofs.lines.lines_of.Goals as goal

pub returns : goal.returns
unfolding split_lines
returns c =
    let no_rest = nil_from_length c.loop-rest.rest.now (eqb-true _ _ (sym c.is_empty.ensures ∙ c.loop-rest-test.false)) in
    sym (append-nil (map string_bytes c.loop-rest.lines.items)) ∙ ap (λ l. map string_bytes c.loop-rest.lines.items ++ map without_nul (split_lines l)) (sym no_rest) ∙ c.loop-rest.invariant.so_far
