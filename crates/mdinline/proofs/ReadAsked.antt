-- The labels that were looked up for a text, as a set.
use Rattle.std.proofs.Common.{◌≡◌, ℕ, List, [], ap, ◌∙◌}
use Rattle.mdtext.specs.EntityTable.{EntityTable}
use Rattle.inlinespec.specs.LinkTails.{Table}
use Rattle.inlinespec.specs.TextReading.{asks_of, reading}
use Rattle.inlinespec.specs.TextTree.{asked}
use Rattle.mdinline.specs.held.AskedLabels.{with_asked}

pub asked_is : (entities : EntityTable) (table : Table) (text : List ℕ) (old new : List (List ℕ)) → old ≡ [] → new ≡ with_asked old (asks_of (reading entities table text)) → new ≡ asked entities table text
unfolding asked
asked_is entities table text old new none e = e ∙ ap (λ set. with_asked set (asks_of (reading entities table text))) none
