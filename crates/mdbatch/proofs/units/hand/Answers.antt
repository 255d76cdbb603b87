use Rattle.std.proofs.Common.{◌++◌, append-nil, subst, sym}
use Rattle.std.specs.Option.{option_map, option_to_list}
use Rattle.mdblock.specs.FoundLists.{found_unit}
use Rattle.mdbatch.proofs.units.hand.Goals as goal

pub returns-in-None-clause-took : goal.returns-in-None-clause-took
returns-in-None-clause-took g c = λ all taken is.
    subst (λ f. g.S.UnitSink.took c.args.sink.now (all ++ option_to_list (option_map found_unit f))) (sym c.in-None.is)
    (subst (g.S.UnitSink.took c.args.sink.now) (sym (append-nil all)) taken)

pub returns-in-None-clause-alike : goal.returns-in-None-clause-alike
returns-in-None-clause-alike g c = g.met.S.UnitSink.alike_itself c.args.sink.now
