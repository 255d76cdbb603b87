use Rattle.std.proofs.Common.{◌≡◌, ℕ, Err, List, Ok, Result, refl, rules, subst, sym}
use Rattle.std.specs.Prelude.{String}
use Rattle.std.specs.Global.{Global}
use Rattle.mdtext.specs.EntityTable.{EntityTable}
use Rattle.mdtext.specs.Lines.{text_lines}
use Rattle.htmlspec.specs.declared.options.Options.{Options}
use Rattle.mdbatch.specs.ViewHtml.{ViewHtml}
use Rattle.mdsource.specs.Preludes.{HeldPrelude, IsDefinedBy}
use Rattle.mdsource.specs.declared.fault.EditFault.{EditFault}
use Rattle.mdsource.specs.declared.fault.EditFault.TheVariants.{NoMemory}
use Rattle.jirmoans.specs.Sessions.{HtmlBeside}
use Rattle.jirmoans.specs.declared.session.Session.{Session}
use Rattle.jirmoans.proofs.session.Session.html.Goals as goal

-- a text that was read with what a session's preview has, and with a prelude of its lines that its entities define
beside : (old : Session) (ended : Result (String Global) EditFault) (e : EntityTable) (o : Options) (prelude : HeldPrelude) (read source : List ℕ)
    → (IsDefinedBy e prelude → ViewHtml ended (record { entities = e; options = o }) (record { lines = text_lines read; prelude = prelude.lines }))
    → IsDefinedBy old.preview.entities prelude → e ≡ old.preview.entities → o ≡ old.preview.options → prelude.lines ≡ old.preview.prelude → read ≡ source → HtmlBeside source ended old
beside old ended e o prelude read source viewed defined same_entities same_options same_lines same_text =
    let view = viewed (subst (λ z. IsDefinedBy z prelude) (sym same_entities) defined) in
    let with_entities = subst (λ z. ViewHtml ended (record { entities = z; options = o }) (record { lines = text_lines read; prelude = prelude.lines })) same_entities view in
    let with_options =
    subst (λ z. ViewHtml ended (record { entities = old.preview.entities; options = z }) (record { lines = text_lines read; prelude = prelude.lines })) same_options with_entities in
    let with_lines =
    subst (λ z. ViewHtml ended (record { entities = old.preview.entities; options = old.preview.options }) (record { lines = text_lines read; prelude = z })) same_lines with_options in
    subst (λ z. ViewHtml ended (record { entities = old.preview.entities; options = old.preview.options }) (record { lines = text_lines z; prelude = old.preview.prelude })) same_text with_lines

pub returns-in-Ok-hold_all : goal.returns-in-Ok-hold_all
returns-in-Ok-hold_all c =
    let told : HtmlBeside c.args.text.now c.to_html-html.result c.args.self.now =
    beside c.args.self.now c.to_html-html.result c.entities.result.now c.options.result.now c.definitions.result.now c.in_ok-text.text.now c.args.text.now c.to_html-html.ensures.viewed
    c.definitions.ensures.defined c.entities.ensures c.options.ensures.value c.definitions.ensures.lines c.in_ok-text.ensures.0 in (
      c.in_ok-text.ensures.1,
      record {
        html = c.in-Ok.html;
        is = subst (λ ended. HtmlBeside c.args.text.now ended c.args.self.now) c.in-Ok.is told;
        shown = record {
          kept = (refl, refl);
          held = c.in-Ok-hold_all.ensures.held;
          at = c.in-Ok-hold_all.ensures.shown.0;
          count = c.in-Ok-hold_all.ensures.shown.1;
        };
      },
    )

pub returns-in-Err : goal.returns-in-Err
returns-in-Err c =
    let told : HtmlBeside c.args.text.now c.to_html-html.result c.args.self.now =
    beside c.args.self.now c.to_html-html.result c.entities.result.now c.options.result.now c.definitions.result.now c.in_ok-text.text.now c.args.text.now c.to_html-html.ensures.viewed
    c.definitions.ensures.defined c.entities.ensures c.options.ensures.value c.definitions.ensures.lines c.in_ok-text.ensures.0 in
    (c.in_ok-text.ensures.1, subst (λ ended. HtmlBeside c.args.text.now ended c.args.self.now) c.in-Err.is told, refl)
