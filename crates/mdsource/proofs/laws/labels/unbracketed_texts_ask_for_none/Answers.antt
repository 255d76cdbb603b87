use Rattle.inlinespec.proofs.UnaskedTexts.{asks_none, reads_alike}
use Rattle.mdsource.proofs.laws.labels.unbracketed_texts_ask_for_none.Goals as goal

pub returns-clause-asks : goal.returns-clause-asks
returns-clause-asks c = asks_none

pub returns-clause-reads : goal.returns-clause-reads
returns-clause-reads c = reads_alike
