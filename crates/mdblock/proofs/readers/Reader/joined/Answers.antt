use Rattle.std.proofs.Common.{sym, ◌∙◌, ap}
use Rattle.mdblock.specs.held.ReaderState.{held_joined, unit_so_far}
use Rattle.std.specs.Prelude.{option_map}
use Rattle.mdblock.proofs.ReadsLaws.{reads_joined}
use Rattle.mdblock.proofs.readers.Reader.joined.Goals as goal

pub returns-in-Some-clause-joined : goal.returns-in-Some-clause-joined
returns-in-Some-clause-joined c = λ limit e ls r.
    sym (ap (λ z. held_joined (option_map unit_so_far z)) c.in-Some.is) ∙ ap (λ z. held_joined z.held) c.self.view_is ∙ reads_joined limit e c.args.self.now ls r

pub returns-in-None-clause-joined : goal.returns-in-None-clause-joined
returns-in-None-clause-joined c = λ limit e ls r.
    sym (ap (λ z. held_joined (option_map unit_so_far z)) c.in-None.is) ∙ ap (λ z. held_joined z.held) c.self.view_is ∙ reads_joined limit e c.args.self.now ls r
