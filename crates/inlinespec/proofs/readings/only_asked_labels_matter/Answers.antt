use Rattle.inlinespec.proofs.AskedLabels.{same_reading, same_inl, same_asked}
use Rattle.inlinespec.proofs.readings.only_asked_labels_matter.Goals as goal

pub returns-clause-reading : goal.returns-clause-reading
returns-clause-reading c = λ entities one other text h. same_reading one other entities text h

pub returns-clause-tree : goal.returns-clause-tree
returns-clause-tree c = λ entities one other text h. (same_inl one other entities text h, same_asked one other entities text h)
