use Rattle.std.proofs.Common.{◌++◌, ◌≡◌, ◌∙◌, Err, true, ap, arith, string_bytes, subst, sym}
use Rattle.std.proofs.lemmas.List.{nil_from_length}
use Rattle.std.proofs.lemmas.List.Elements.{All-head, All-tail}
use Rattle.std.specs.List.{All}
use Rattle.htmlspec.specs.BlockHtml.{ends_line}
use Rattle.htmlspec.specs.WrittenUnits.{is_deep_unit, written_unit}
use Rattle.mdsource.specs.Setting.{Setting}
use Rattle.mdblock.specs.FoundLists.{found_unit}
use Rattle.mdbatch.specs.BatchHtml.{deep_line}
use Rattle.mdsource.specs.TextFaults.{IsTextFault, text_fault_in}
use Rattle.mdbatch.specs.GatheredUnits.{EndsLine, IsWrittenTo, setting_of}
use Rattle.mdbatch.specs.TextLabels.{target_on_page}
use Rattle.mdbatch.proofs.UnitsGathered.{lines_joined, next_written, unit_fault}
use Rattle.mdbatch.proofs.UnitsWritten.{one_written}
use Rattle.mdbatch.proofs.batch.append_waiting.Goals as goal

pub append_unit-requires : goal.append_unit-requires
append_unit-requires c =
    let before = All-head EndsLine c.in-Some.waits c.next.new.self.rest.items (subst (All EndsLine) c.in-Some.ensures.steps.0 c.loop-waits.invariant.lines) in
    subst (λ l. ends_line l ≡ true) (sym c.in_ok-put_behind.ensures)
    (lines_joined (string_bytes c.loop-waits.out) (string_bytes c.in-Some.waits.before) c.loop-waits.invariant.ends_line before)

pub loop-waits-preserved : goal.loop-waits-preserved
loop-waits-preserved c =
    let setting = setting_of c.args.writer.now in
    let old = string_bytes c.args.out.now in
    let mid = string_bytes c.loop-waits.out in
    let before = string_bytes c.put_behind.new.out in
    let new = string_bytes c.append_unit.new.out in
    let table = target_on_page c.args.labels.now in
    let found = found_unit c.in-Some.waits.found in
    let rest = c.next.new.self.rest.items in
    let same = c.loop-waits.invariant.setting in
    let writes = c.in_default.ensures.html ∙ ap (λ unit. before ++ written_unit (setting_of c.loop-waits.writer).options (setting_of c.loop-waits.writer).entities table unit) c.unit.ensures
    ∙ ap (λ (s : Setting). before ++ written_unit s.options s.entities table found.unit) same in
    let within = ap (λ (s : Setting). is_deep_unit s.options s.entities table found.unit) (sym same)
    ∙ ap (is_deep_unit (setting_of c.loop-waits.writer).options (setting_of c.loop-waits.writer).entities table) (sym c.unit.ensures) ∙ c.in_default.ensures.within in
    record {
      setting = ap (λ o. record { entities = (setting_of c.append_unit.new.self).entities; options = o }) c.append_unit.ensures.options
          ∙ ap (λ e. record { entities = e; options = (setting_of c.loop-waits.writer).options }) c.append_unit.ensures.entities ∙ same;
      lines = All-tail EndsLine c.in-Some.waits rest (subst (All EndsLine) c.in-Some.ensures.steps.0 c.loop-waits.invariant.lines);
      written = λ all html woven.
          next_written setting table all c.in-Some.waits rest html old mid before new c.in_ok-put_behind.ensures
          (one_written setting table found before new within writes)
          (subst (λ items. IsWrittenTo setting table all items html old mid) c.in-Some.ensures.steps.0 (c.loop-waits.invariant.written all html woven));
      ends_line = c.in_default.ensures.ends_line;
    }

pub returns-clause-html : goal.returns-clause-html
returns-clause-html c = λ all html woven.
    let none = nil_from_length _ (omega (arith, c.in-None.ensures.steps.0, c.loop-waits.waits-iterator.rest.ok.0)) in
    subst (λ items. IsWrittenTo (setting_of c.args.writer.now) (target_on_page c.args.labels.now) all items html (string_bytes c.args.out.now) (string_bytes c.loop-waits.out)) none
    (c.loop-waits.invariant.written all html woven)

pub returns-in-Err-clause-fault : goal.returns-in-Err-clause-fault
returns-in-Err-clause-fault c = λ all html woven.
    let setting = setting_of c.args.writer.now in
    let table = target_on_page c.args.labels.now in
    let old = string_bytes c.args.out.now in
    let mid = string_bytes c.loop-waits.out in
    let same = c.loop-waits.invariant.setting in
    let waits = c.in-Some.waits in
    subst (IsTextFault (deep_line setting table all)) (sym (c.fault_in_unit.ensures ∙ ap (text_fault_in c.in-Err.fault) c.begin.ensures))
    (unit_fault setting table all waits c.next.new.self.rest.items html old mid c.in-Err.fault
    (λ is. ap (λ (s : Setting). is_deep_unit s.options s.entities table waits.found.unit) (sym same)
    ∙ ap (is_deep_unit (setting_of c.loop-waits.writer).options (setting_of c.loop-waits.writer).entities table) (sym c.unit.ensures) ∙ c.in-Err.ensures.too_deep (ap Err is))
    (subst (λ items. IsWrittenTo setting table all items html old mid) c.in-Some.ensures.steps.0 (c.loop-waits.invariant.written all html woven)))
