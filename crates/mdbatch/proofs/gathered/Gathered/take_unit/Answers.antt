use Rattle.std.proofs.Common.{◌≡◌, ◌++◌, ◌∙◌, [], ◌∷◌, Err, Some, true, ap, refl, string_bytes, subst, sym}
use Rattle.std.specs.List.{All, list_any}
use Rattle.std.proofs.lemmas.List.Elements.{All-push}
use Rattle.inlinespec.specs.LabelMap.{target_in}
use Rattle.htmlspec.specs.BlockHtml.{ends_line}
use Rattle.htmlspec.specs.WrittenUnits.{is_deep_unit, written_unit}
use Rattle.mdblock.specs.FoundLists.{found_unit}
use Rattle.mdbatch.specs.GatheredUnits.{EndsLine, IsWoven, closes_bracket, setting_of}
use Rattle.mdsource.specs.LabelTable.{with_definitions}
use Rattle.mdsource.proofs.LabelsLead.{labels_more}
use Rattle.mdbatch.proofs.UnitsGathered.{cut_more, is_none, not_both, not_none, woven_kept, woven_more}
use Rattle.mdbatch.proofs.UnitsWritten.{deep_anyhow, one_deep, one_written, written_anyhow}
use Rattle.mdbatch.proofs.gathered.Gathered.take_unit.Goals as goal

pub returns-then-is_some-clause-gathers : goal.returns-then-is_some-clause-gathers
returns-then-is_some-clause-gathers c = λ all before.
    let adds = c.in_ok-add_definitions.ensures ∙ ap (with_definitions c.args.self.now.labels) (c.definitions.ensures ∙ ap (λ unit. unit.definitions) c.unit.ensures) in
    let some = sym c.is_some.ensures ∙ c.if-is_some.true in
    record {
      labels = labels_more all (found_unit c.args.found) _ _ before.labels adds;
      lines = before.lines;
      line = λ none. not_none _ some none;
      woven = λ none. not_none _ some none;
      cut = λ line is. cut_more (setting_of c.args.writer.now) all (found_unit c.args.found) c.args.self.now.waiting.items line (before.cut line is);
    }

pub returns-then-may_ask-clause-gathers : goal.returns-then-may_ask-clause-gathers
returns-then-may_ask-clause-gathers c = λ all before.
    let adds = c.in_ok-add_definitions.ensures ∙ ap (with_definitions c.args.self.now.labels) (c.definitions.ensures ∙ ap (λ unit. unit.definitions) c.unit.ensures) in
    let setting = setting_of c.args.writer.now in
    let held = c.args.self.now.waiting.items in
    let new = string_bytes c.keep.new.self.html in
    let waits = c.in_ok-keep.ensures.waits in
    let one = waits.0 in
    let none = is_none _ (sym c.is_some.ensures ∙ c.if-is_some.false) in
    let ends = subst (λ h. ends_line h ≡ true) (sym waits.3) (before.line none) in
    let woven = woven_kept setting held all one (string_bytes c.args.self.now.html) new waits.3 c.in_ok-keep.ensures.html (before.woven none) in
    record {
      labels = labels_more all (found_unit c.args.found) _ _ before.labels (c.keep.ensures.labels ∙ adds);
      lines = subst (All EndsLine) (sym waits.1) (All-push EndsLine held one before.lines ends);
      line = λ stays. subst (λ l. ends_line l ≡ true) (sym c.in_ok-keep.ensures.html) refl;
      woven = λ stays. subst (λ items. IsWoven setting (all ++ found_unit c.args.found ∷ []) items new) (sym waits.1)
          (subst (λ found. IsWoven setting (all ++ found_unit found ∷ []) (held ++ one ∷ []) new) waits.2 woven);
      cut = λ line is. not_both _ line (c.keep.ensures.too_deep ∙ none) is;
    }

pub returns-in-Ok-clause-gathers : goal.returns-in-Ok-clause-gathers
returns-in-Ok-clause-gathers c = λ all before.
    let adds = c.in_ok-add_definitions.ensures ∙ ap (with_definitions c.args.self.now.labels) (c.definitions.ensures ∙ ap (λ unit. unit.definitions) c.unit.ensures) in
    let setting = setting_of c.args.writer.now in
    let found = found_unit c.args.found in
    let mid = string_bytes c.args.self.now.html in
    let new = string_bytes c.append_unit.new.out in
    let table = target_in c.args.no_labels.now in
    let none = is_none _ (sym c.is_some.ensures ∙ c.if-is_some.false) in
    let free = ap (λ unit. list_any closes_bracket unit.texts) (sym c.unit-2.ensures) ∙ c.may_ask.ensures c.if-may_ask.false in
    let writes = c.in-Ok.ensures.html ∙ ap (λ unit. mid ++ written_unit setting.options setting.entities table unit) c.unit-3.ensures in
    let within = ap (is_deep_unit setting.options setting.entities table) (sym c.unit-3.ensures) ∙ c.in-Ok.ensures.within in
    record {
      labels = labels_more all found _ _ before.labels adds;
      lines = before.lines;
      line = λ none. c.in-Ok.ensures.ends_line;
      woven = λ none. woven_more setting c.args.self.now.waiting.items all found mid new
          (written_anyhow setting table found mid new free (one_written setting table found mid new within writes)) (before.woven none);
      cut = λ line is. not_both _ line none is;
    }

pub returns-in-Err-TooDeep-clause-gathers : goal.returns-in-Err-TooDeep-clause-gathers
returns-in-Err-TooDeep-clause-gathers c = λ all before.
    let adds = c.in_ok-add_definitions.ensures ∙ ap (with_definitions c.args.self.now.labels) (c.definitions.ensures ∙ ap (λ unit. unit.definitions) c.unit.ensures) in
    let setting = setting_of c.args.writer.now in
    let found = found_unit c.args.found in
    let table = target_in c.args.no_labels.now in
    let none = is_none _ (sym c.is_some.ensures ∙ c.if-is_some.false) in
    let free = ap (λ unit. list_any closes_bracket unit.texts) (sym c.unit-2.ensures) ∙ c.may_ask.ensures c.if-may_ask.false in
    let deep = ap (is_deep_unit setting.options setting.entities table) (sym c.unit-3.ensures) ∙ c.in-Err-TooDeep.ensures.too_deep (ap Err c.in-Err-TooDeep.field-0-is) in
    record {
      labels = labels_more all found _ _ before.labels adds;
      lines = before.lines;
      line = λ none. not_none _ refl none;
      woven = λ none. not_none _ refl none;
      cut = λ line is. record {
        front = all;
        deep = found;
        rest = [];
        order = refl;
        is_deep = deep_anyhow setting table found line free (one_deep setting table found deep ∙ ap Some (sym c.begin.ensures) ∙ is);
        html = string_bytes c.args.self.now.html;
        woven = before.woven none;
      };
    }
