use Rattle.std.proofs.Common.{Bor, List, ℕ, ap, ◌∙◌, sym, map, ◌++◌, append-nil}
use Rattle.std.proofs.lemmas.Bool.{eqb-true}
use Rattle.std.proofs.lemmas.List.{nil_from_length}
use Rattle.mdtext.specs.Lines.{split_lines}
use Rattle.jirmoans.proofs.texts.lines_in.Goals as goal

pub returns : goal.returns
unfolding split_lines
returns c =
    let read : List (List ℕ) = map (λ (line : Bor (List ℕ)). line.now) c.loop-rest.lines.items in
    let no_rest = nil_from_length c.loop-rest.rest.now (eqb-true _ _ (sym c.is_empty.ensures ∙ c.loop-rest-test.false)) in
    sym (append-nil read) ∙ ap (λ rest. read ++ split_lines rest) (sym no_rest) ∙ c.loop-rest.invariant.so_far
