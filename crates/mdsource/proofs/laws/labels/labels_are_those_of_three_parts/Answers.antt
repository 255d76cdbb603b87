use Rattle.mdsource.specs.Calls.{edit, put}
use Rattle.mdsource.specs.Changes.{places}
use Rattle.mdsource.proofs.Definitions.{leads_behind, led_before}
use Rattle.mdsource.proofs.PutLines.{edit_is}
use Rattle.mdsource.proofs.laws.labels.labels_are_those_of_three_parts.Goals as goal

pub returns-clause-behind : goal.returns-clause-behind
returns-clause-behind c = λ setting old at del add label fits.
    leads_behind setting.entities old.lines (put old (edit at del add)).lines old.prelude (places setting old (edit at del add)) (edit_is setting old at del add fits) label

pub returns-clause-before : goal.returns-clause-before
returns-clause-before c = λ setting old at del add label fits.
    led_before setting.entities old.lines (put old (edit at del add)).lines old.prelude (places setting old (edit at del add)) (edit_is setting old at del add fits) label
