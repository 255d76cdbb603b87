use Rattle.std.proofs.Common.{◌∙◌}
use Rattle.mdinline.proofs.ReadAsked.{asked_is}
use Rattle.mdinline.proofs.ReadTree.{tree_read}
use Rattle.mdinline.proofs.readers.TextReader.read.Goals as goal

pub returns-clause-asked : goal.returns-clause-asked
returns-clause-asked g c =
    c.in_ok-parsed.ensures.asked ∙ c.in_ok-finish.ensures
    ∙ asked_is c.args.self.now.entities.now (g.L.Labels.target c.args.labels.now) c.args.text.now c.new-asked.result.labels.keys c.read_into.new.asked.labels.keys c.new-asked.ensures c.in_ok-built.ensures.asks

pub returns-clause-tree : goal.returns-clause-tree
returns-clause-tree g c =
    let new = c.new-builder.ensures in
    let built = tree_read c.args.self.now.entities.now (g.L.Labels.target c.args.labels.now) c.args.text.now c.new-builder.result c.in_ok-built.built new.events new.frames new.joined c.in_ok-built.ensures.takes in
    c.in_ok-parsed.ensures.tree ∙ c.in_ok-row.ensures.tree built.closed built.joined ∙ built.tree
