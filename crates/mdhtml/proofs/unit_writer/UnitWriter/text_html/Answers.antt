use Rattle.std.proofs.Common.{ap, ◌∙◌, string_bytes}
use Rattle.inlinespec.specs.TextReading.{reading}
use Rattle.inlinespec.specs.TextTree.{events_of}
use Rattle.htmlspec.specs.declared.options.Options.{Options}
use Rattle.htmlspec.specs.InlineWriting.{after_events}
use Rattle.mdhtml.specs.held.InlineWriter.{writing_of}
use Rattle.htmlspec.proofs.WrittenTrees.{read_shown}
use Rattle.mdhtml.proofs.unit_writer.UnitWriter.text_html.Goals as goal

pub returns-clause-html : goal.returns-clause-html
returns-clause-html g c =
    let told = c.in_ok-written.ensures.takes in
    let entities = c.args.self.now.reader.entities.now in
    let table = g.L.Labels.target c.args.labels.now in
    let text = c.args.text.now in
    let es = events_of (reading entities table text) in
    let o = c.args.self.now.options in
    ap string_bytes c.into_parts-html.ensures
    ∙ ap (λ w. w.html) (told.writing ∙ ap (λ (o : Options). after_events o (writing_of c.begin_text-writer.result) es) c.begin_text-writer.ensures.options ∙ ap (λ w. after_events o w es) c.begin_text-writer.ensures.nothing)
    ∙ read_shown o entities table text
