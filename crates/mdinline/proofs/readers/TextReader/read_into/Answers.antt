use Rattle.std.proofs.Common.{◌≤◌, ◌<◌, subst, sym, ◌∙◌}
use Rattle.inlinespec.specs.Nesting.{nest}
use Rattle.inlinespec.specs.TextReading.{reading}
use Rattle.inlinespec.specs.TextTree.{events_of, inl}
use Rattle.mdinline.proofs.ReadDepth.{read_within, read_too_deep}
use Rattle.mdinline.proofs.readers.TextReader.read_into.Goals as goal

pub returns-clause-takes : goal.returns-clause-takes
returns-clause-takes g c =
    let entities = c.args.self.now.entities.now in
    let table = g.L.Labels.target c.args.labels.now in
    let text = c.args.text.now in
    let es = events_of (reading entities table text) in
    let takes = g.S.InlineSink.takes in
    let all = read_within takes entities table text c.new-sink.result c.read_all.new.sink c.new-sink.ensures.depth c.in_ok-read_all.ensures.takes (sym c.is_too_deep.ensures ∙ c.if-is_too_deep.false) in
    subst (λ s. takes c.args.sink es s) (sym c.into_sink.ensures) (subst (λ s. takes s es c.read_all.new.sink.sink) c.new-sink.ensures.sink all.1)

pub returns-clause-within : goal.returns-clause-within
returns-clause-within g c =
    let entities = c.args.self.now.entities.now in
    let table = g.L.Labels.target c.args.labels.now in
    let text = c.args.text.now in
    let all = read_within g.S.InlineSink.takes entities table text c.new-sink.result c.read_all.new.sink c.new-sink.ensures.depth c.in_ok-read_all.ensures.takes (sym c.is_too_deep.ensures ∙ c.if-is_too_deep.false) in
    subst (λ n. nest (inl entities table text) ≤ n) c.new-sink.ensures.limit all.0

pub returns-then-is_too_deep-clause-too_deep : goal.returns-then-is_too_deep-clause-too_deep
returns-then-is_too_deep-clause-too_deep g c = λ is.
    let entities = c.args.self.now.entities.now in
    let table = g.L.Labels.target c.args.labels.now in
    let text = c.args.text.now in
    subst (λ n. n < nest (inl entities table text)) c.new-sink.ensures.limit
    (read_too_deep g.S.InlineSink.takes entities table text c.new-sink.result c.read_all.new.sink c.new-sink.ensures.depth c.in_ok-read_all.ensures.takes c.new-sink.ensures.fits (sym c.is_too_deep.ensures ∙ c.if-is_too_deep.true))
