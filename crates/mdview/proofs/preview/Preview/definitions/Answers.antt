use Rattle.std.proofs.Common.{subst}
use Rattle.mdsource.specs.Preludes.{IsDefinedBy}
use Rattle.mdview.specs.Document.{Document}
use Rattle.mdview.proofs.preview.Preview.definitions.Goals as goal

pub returns-clause-defined : goal.returns-clause-defined
returns-clause-defined c = subst (λ (d : Document). IsDefinedBy d.entities c.self.inside.prelude) c.self.view_is c.self.invariant.7.defined
