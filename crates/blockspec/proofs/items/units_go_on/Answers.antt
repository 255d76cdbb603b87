use Rattle.blockspec.proofs.DocumentItems.{document_units_meet}
use Rattle.blockspec.proofs.items.units_go_on.Goals as goal

pub returns : goal.returns
returns c = λ entities front line later there.
    let w = document_units_meet entities front line later there in
    (w.us, w.last, w.head, w.whole, w.vs, w.before, w.alone, w.both, w.first_line, w.lines, w.texts, w.definitions)
