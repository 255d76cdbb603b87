use Rattle.std.proofs.Common.{ap, refl, sym, ◌∙◌, ◌∷◌, ◌++◌, [], Vec, String, Global, string_bytes}
use Rattle.mdtext.specs.EntityTable.{EntityTable}
use Rattle.htmlspec.specs.WrittenUnits.{is_deep_text, read_html}
use Rattle.mdhtml.specs.UnitWriters.{entities_of, options_of}
use Rattle.htmlspec.specs.declared.options.Options.{Options}
use Rattle.mdhtml.proofs.TextsWritten.{all_fit, all_texts, fits_more, none_yet, text_more}
use Rattle.mdhtml.proofs.unit_writer.UnitWriter.write_texts.Goals as goal

pub loop-text-init : goal.loop-text-init
loop-text-init g c = record {
  options = c.in_ok-let_go.ensures.options;
  entities = c.in_ok-let_go.ensures.entities;
  texts = none_yet (read_html (options_of c.args.self.now) (entities_of c.args.self.now) (g.L.Labels.target c.args.labels.now)) c.args.texts.now c.let_go.new.self.texts.items c.in_ok-let_go.ensures.texts;
  fits = refl;
}

pub loop-text-preserved : goal.loop-text-preserved
loop-text-preserved g c =
    let now = c.in_ok-html.ensures in
    let was = c.loop-text.invariant in
    let table = g.L.Labels.target c.args.labels.now in
    let shown = read_html (options_of c.args.self.now) (entities_of c.args.self.now) table in
    record {
      options = now.options ∙ was.options;
      entities = now.entities ∙ was.entities;
      texts = text_more shown c.args.texts.now c.loop-text.text-index c.text-item.result c.in_ok-html.html c.loop-text.self.texts.items c.push.new.self.items
          c.loop-text-test.true c.text-item.is
          (c.in_ok-push.ensures.items ∙ ap (λ (v : Vec (String Global) Global). v.items ++ c.in_ok-html.html ∷ []) now.texts)
          (now.html ∙ ap (λ t. read_html (options_of c.loop-text.self) (entities_of c.loop-text.self) table t) c.deref.ensures
          ∙ ap (λ (o : Options). read_html o (entities_of c.loop-text.self) table (string_bytes c.text-item.result)) was.options
          ∙ ap (λ (e : EntityTable). read_html (options_of c.args.self.now) e table (string_bytes c.text-item.result)) was.entities)
          was.texts;
      fits = fits_more (is_deep_text (options_of c.args.self.now) (entities_of c.args.self.now) table) c.args.texts.now c.loop-text.text-index c.text-item.result c.loop-text-test.true c.text-item.is
          (ap (λ (o : Options). is_deep_text o (entities_of c.args.self.now) table (string_bytes c.text-item.result)) (sym was.options)
          ∙ ap (λ (e : EntityTable). is_deep_text (options_of c.loop-text.self) e table (string_bytes c.text-item.result)) (sym was.entities)
          ∙ ap (λ t. is_deep_text (options_of c.loop-text.self) (entities_of c.loop-text.self) table t) (sym c.deref.ensures)
          ∙ now.within)
          was.fits;
    }

pub returns-clause-texts : goal.returns-clause-texts
returns-clause-texts g c =
    all_texts (read_html (options_of c.args.self.now) (entities_of c.args.self.now) (g.L.Labels.target c.args.labels.now)) c.args.texts.now c.loop-text.text-index c.loop-text.self.texts.items
    c.loop-text-test.false c.loop-text.invariant.texts

pub returns-clause-within : goal.returns-clause-within
returns-clause-within g c =
    all_fit (is_deep_text (options_of c.args.self.now) (entities_of c.args.self.now) (g.L.Labels.target c.args.labels.now)) c.args.texts.now c.loop-text.text-index
    c.loop-text-test.false c.loop-text.invariant.fits
