use Rattle.std.proofs.Common.{ap, ◌∙◌, string_bytes, subst, sym}
use Rattle.std.proofs.lemmas.Result.{err_from_is_err_and}
use Rattle.mdsource.specs.Setting.{Setting}
use Rattle.mdbatch.specs.CleanText.{setting_for}
use Rattle.mdbatch.specs.GatheredUnits.{IsWoven, setting_of}
use Rattle.mdbatch.proofs.UnitsGathered.{cut_on_page, never_some, page_written, waiting_fault}
use Rattle.mdbatch.proofs.batch.gathered_html.Goals as goal

pub returns-in_err-append_waiting-clause-fault : goal.returns-in_err-append_waiting-clause-fault
returns-in_err-append_waiting-clause-fault c = λ all gathers.
    let setting = setting_for c.args.clean in
    let same = ap (λ o. record { entities = (setting_of c.new-writer.result).entities; options = o }) c.new-writer.ensures.options
    ∙ ap (λ e. record { entities = e; options = c.args.clean.options.now }) c.new-writer.ensures.entities in
    let p = err_from_is_err_and c.from_residual.result c.from_residual.ensures.1 in
    rw (p.1, p.2) (waiting_fault c.args.gathered.labels c.args.prelude.now (setting_of c.new-writer.result) setting all same gathers.labels c.args.gathered c.in_err-append_waiting.field-0.0 gathers c.in_err-append_waiting.ensures.fault)

pub returns-in-Some-clause-fault : goal.returns-in-Some-clause-fault
returns-in-Some-clause-fault c = λ all gathers.
    let setting = setting_for c.args.clean in
    let same = ap (λ o. record { entities = (setting_of c.new-writer.result).entities; options = o }) c.new-writer.ensures.options
    ∙ ap (λ e. record { entities = e; options = c.args.clean.options.now }) c.new-writer.ensures.entities in
    cut_on_page c.args.gathered.labels c.args.prelude.now (setting_of c.new-writer.result) setting all same gathers.labels c.args.gathered.waiting.items c.in-Some.line
    (string_bytes c.new-out.result) (string_bytes c.append_waiting.new.out) c.new-out.ensures.bytes
    (gathers.cut c.in-Some.line c.in-Some.is) c.in_ok-append_waiting.ensures.html

pub returns-clause-html : goal.returns-clause-html
returns-clause-html c = λ all gathers.
    let setting = setting_for c.args.clean in
    let same = ap (λ o. record { entities = (setting_of c.new-writer.result).entities; options = o }) c.new-writer.ensures.options
    ∙ ap (λ e. record { entities = e; options = c.args.clean.options.now }) c.new-writer.ensures.entities in
    let waiting = c.args.gathered.waiting.items in
    let html = string_bytes c.args.gathered.html in
    let woven = subst (λ (s : Setting). IsWoven s all waiting html) (sym same) (gathers.woven (never_some _ c.in_default.not-Some)) in
    page_written c.args.gathered.labels c.args.prelude.now (setting_of c.new-writer.result) setting all same gathers.labels html (string_bytes c.new-out.result) (string_bytes c.append_waiting.new.out) (string_bytes c.put_behind.new.out) c.new-out.ensures.bytes c.in_ok-put_behind.ensures
    (c.in_ok-append_waiting.ensures.html all html woven)
