use Rattle.std.proofs.Common.{ap, ◌∙◌, length, nat_lt, rules}
use Rattle.std.proofs.lemmas.Fn.{All-from_retain, filter_same}
use Rattle.mdchunks.specs.Lists.{IsFilled, joined}
use Rattle.mdchunks.proofs.Joined.{joined_filter}
use Rattle.mdchunks.proofs.removals.drop_empty.Goals as goal

pub returns-clause-members : goal.returns-clause-members
returns-clause-members g c =
    ap joined (filter_same _ (λ xs. nat_lt 0 (length xs)) _ (λ x r f' k. search rules) _ _ c.retain.ensures.filtered) ∙ joined_filter c.args.chunks.now.items

pub returns-clause-filled : goal.returns-clause-filled
returns-clause-filled g c = All-from_retain _ IsFilled _ (λ x r f' k. search rules) _ _ c.retain.ensures.filtered
