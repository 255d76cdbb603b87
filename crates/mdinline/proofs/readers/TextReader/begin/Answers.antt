use Rattle.std.proofs.Common.{refl}
use Rattle.mdinline.proofs.readers.TextReader.begin.Goals as goal

pub returns-clause-reads : goal.returns-clause-reads
returns-clause-reads c = λ text. record {
  entities_same = refl;
  knows = c.new.ensures text 0;
  unused = c.clear.ensures.none;
  pieces = c.clear.ensures.pieces c.args.self.now.entities.now text;
}
