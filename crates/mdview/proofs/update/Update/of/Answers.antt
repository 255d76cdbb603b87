use Rattle.std.proofs.Common.{◌≡◌, ◌≤◌, ℕ, List, None, arith, map, option_map, ap, ◌∙◌, sym}
use Rattle.std.specs.List.{All}
use Rattle.std.specs.Prelude.{sum_by}
use Rattle.std.proofs.lemmas.Result.{IfErr-weaker, IfOk-weaker}
use Rattle.inlinespec.specs.LinkTails.{Table}
use Rattle.mdsource.specs.LabelTable.{table}
use Rattle.mdsource.specs.Refusals.{inline_too_deep, nesting_refusal}
use Rattle.mdsource.specs.Setting.{Setting}
use Rattle.mdsource.proofs.DeepUnits.{refused_for_spans}
use Rattle.mdview.specs.HeldBlocks.{lines_in, old_lines}
use Rattle.mdview.specs.ReadUnits.{IsReadUnder}
use Rattle.mdview.specs.HeldTexts.{IsRefusedBy, IsReread, asking_in_parts, deep_in_parts, head_read, number_again, setting_in, source_before, source_behind}
use Rattle.mdsource.specs.TextFaults.{IsTextFault}
use Rattle.mdview.specs.HeldUnit.{HeldUnit, unit_in}
use Rattle.mdview.specs.LabelTargets.{led_after, led_by, target_held}
use Rattle.mdview.specs.NewText.{lines_of}
use Rattle.mdview.specs.Update.{units_brought}
use Rattle.mdview.specs.declared.update.Update.{Update}
use Rattle.mdview.proofs.EditTexts.{all_read_under, all_reread_under, both_ok, deep_is, head_small, held_small, led_by_text, meet_small, nested_in_none, new_trees, numbers_are, texts_refused, trees_are, when_ok}
use Rattle.mdview.proofs.Replacing.{replacing}
use Rattle.mdview.proofs.SoonTexts.{texts_soon_are}
use Rattle.mdview.proofs.update.Update.of.Given.{Over}
use Rattle.mdview.proofs.update.Update.of.Goals.{In_ok-reparsed, In_ok-changes}
use Rattle.mdview.proofs.update.Update.of.Goals as goal

-- ---- where labels lead before the edit and behind it

led_before : (g : Over) (c : In_ok-reparsed g) → (label : List ℕ) → target_held c.args.held.now.labels.now label ≡ table c.args.held.now.entities.now (source_before c.args.held.now c.args.text) label
led_before g c label =
    let held = c.args.held.now in
    let old = old_lines c.args.text in
    c.args.held.now.led label ∙ ap (λ us. led_by us held.prelude.now label) (trees_are held.entities.now old held.head held.units.now.items c.requires.held)
    ∙ led_by_text held.entities.now old held.prelude.now c.args.held.now.defined label

led_behind : (g : Over) (c : In_ok-changes g) → (label : List ℕ)
    → led_after c.args.held.now.labels.now c.in_ok-changes.changes label ≡ table c.args.held.now.entities.now (source_behind c.args.held.now c.args.text) label
led_behind g c label =
    let held = c.args.held.now in
    let text = c.args.text in
    let E = held.entities.now in
    c.in_ok-changes.ensures.led label
    ∙ ap (λ us. led_by us held.prelude.now label)
    (new_trees (setting_in held) text held.prelude.now held.head held.units.now.items c.in_ok-reparsed.reparsed c.requires.held c.in_ok-reparsed.ensures.read (table E (source_before held text)) (table E (source_behind held text)))
    ∙ led_by_text E (lines_of text) held.prelude.now c.args.held.now.defined label

-- what is due for spans, in the parts that are read
due_in_parts : (g : Over) (c : In_ok-changes g) → nesting_refusal (setting_in c.args.held.now) (source_behind c.args.held.now c.args.text)
    ≡ option_map inline_too_deep (deep_in_parts c.args.held.now.options.now.max_spans c.args.held.now.entities.now (led_after c.args.held.now.labels.now c.in_ok-changes.changes)
    (head_read c.args.held.now.head c.in_ok-reparsed.reparsed) c.args.held.now.units.now.items c.in_ok-reparsed.reparsed)
due_in_parts g c =
    let held = c.args.held.now in
    let text = c.args.text in
    let setting : Setting = setting_in held in
    let E = held.entities.now in
    let deep = deep_is setting text held.prelude.now held.head held.units.now.items c.in_ok-reparsed.reparsed c.requires.held c.in_ok-reparsed.ensures.read (table E (source_before held text)) (table E (source_behind held text))
    (led_after held.labels.now c.in_ok-changes.changes) (led_behind g c) c.requires.old c.requires.few in
    nested_in_none setting (source_behind held text) c.in_ok-reparsed.ensures.fits ∙ refused_for_spans setting (source_behind held text) ∙ ap (option_map inline_too_deep) (sym deep)

-- how many lines stand before the first unit then, where reading ends, and how many lines the units have that are held
lines_small : (g : Over) (c : In_ok-reparsed g) → (head_read c.args.held.now.head c.in_ok-reparsed.reparsed ≤ 1000000) × (c.in_ok-reparsed.reparsed.meet ≤ 1000000) × (sum_by lines_in c.args.held.now.units.now.items ≤ 1000000)
lines_small g c =
    let held = c.args.held.now in
    let text = c.args.text in
    let before = table held.entities.now (source_before held text) in
    let after = table held.entities.now (source_behind held text) in
    let rp = c.in_ok-reparsed.reparsed in
    let read = c.in_ok-reparsed.ensures.read in (
      head_small (setting_in held) text held.prelude.now held.head held.units.now.items rp c.requires.held read before after c.requires.few,
      meet_small (setting_in held) text held.prelude.now held.head held.units.now.items rp c.requires.held read before after c.requires.few,
      held_small (setting_in held) text held.prelude.now held.head held.units.now.items rp c.requires.held read before after c.requires.old,
    )

-- ---- the answers

pub behind-requires-clause-near : goal.behind-requires-clause-near
behind-requires-clause-near g c = let small = lines_small g (goal.at.behind-requires-clause-near g c).In_ok-reparsed in omega (arith, small.0, small.2)

pub behind-requires-clause-far : goal.behind-requires-clause-far
behind-requires-clause-far g c = let small = lines_small g (goal.at.behind-requires-clause-far g c).In_ok-reparsed in omega (arith, small.1, small.2)

pub returns-clause-refused : goal.returns-clause-refused
returns-clause-refused g c =
    let held = c.args.held.now in
    let rp = c.in_ok-reparsed.reparsed in
    let why = nesting_refusal (setting_in held) (source_behind held c.args.text) in
    let parts = deep_in_parts held.options.now.max_spans held.entities.now (led_after held.labels.now c.in_ok-changes.changes) (head_read held.head rp) held.units.now.items rp in
    IfErr-weaker c.behind.result (IsTextFault parts) (IsRefusedBy why) (texts_refused why parts (due_in_parts g (goal.at.returns-clause-refused g c).In_ok-changes)) c.behind.ensures.deep

pub returns-clause-accepted : goal.returns-clause-accepted
returns-clause-accepted g c =
    let held = c.args.held.now in
    let rp = c.in_ok-reparsed.reparsed in
    let due = due_in_parts g (goal.at.returns-clause-accepted g c).In_ok-changes in
    when_ok c.behind.result
    (λ (none : deep_in_parts held.options.now.max_spans held.entities.now (led_after held.labels.now c.in_ok-changes.changes) (head_read held.head rp) held.units.now.items rp ≡ None). due ∙ ap (option_map inline_too_deep) none)
    c.behind.ensures.shallow

pub returns-clause-replacing : goal.returns-clause-replacing
returns-clause-replacing g c =
    replacing c.args.held.now.entities.now c.args.text c.args.held.now.head c.args.held.now.units.now.items c.in_ok-reparsed.reparsed c.requires.held c.in_ok-reparsed.ensures.read
    c.behind.result c.behind.ensures.place c.behind.ensures.lists c.behind.ensures.head

pub returns-clause-led : goal.returns-clause-led
returns-clause-led g c =
    let held = c.args.held.now in
    let led = led_behind g (goal.at.returns-clause-led g c).In_ok-changes in
    IfOk-weaker c.behind.result (λ (r : Update). r.changes ≡ c.in_ok-changes.changes)
    (λ (r : Update). (label : List ℕ) → led_after held.labels.now r.changes label ≡ table held.entities.now (source_behind held c.args.text) label)
    (λ r is label. ap (λ z. led_after held.labels.now z label) is ∙ led label) c.behind.ensures.changes

pub returns-clause-read : goal.returns-clause-read
returns-clause-read g c =
    let held = c.args.held.now in
    let E = held.entities.now in
    let new = led_after held.labels.now c.in_ok-changes.changes in
    let after = table E (source_behind held c.args.text) in
    let led = led_behind g (goal.at.returns-clause-read g c).In_ok-changes in
    let units : List HeldUnit = held.units.now.items in
    IfOk-weaker c.behind.result (λ (r : Update). All (IsReadUnder E new) (units_brought units r)) (λ (r : Update). All (IsReadUnder E after) (units_brought units r))
    (λ r all. all_read_under E new after led (units_brought units r) all) c.behind.ensures.read

pub returns-clause-reread : goal.returns-clause-reread
returns-clause-reread g c =
    let held = c.args.held.now in
    let E = held.entities.now in
    let units = map unit_in held.units.now.items in
    let new = led_after held.labels.now c.in_ok-changes.changes in
    let after = table E (source_behind held c.args.text) in
    let led = led_behind g (goal.at.returns-clause-reread g c).In_ok-changes in
    IfOk-weaker c.behind.result (λ (r : Update). All (IsReread E new units) r.again.items) (λ (r : Update). All (IsReread E after units) r.again.items)
    (λ r all. all_reread_under E new after led units r.again.items all) c.behind.ensures.reread

pub returns-clause-numbers : goal.returns-clause-numbers
returns-clause-numbers g c =
    let held = c.args.held.now in
    let text = c.args.text in
    let E = held.entities.now in
    let units : List HeldUnit = held.units.now.items in
    let rp = c.in_ok-reparsed.reparsed in
    let before : Table = table E (source_before held text) in
    let after : Table = table E (source_behind held text) in
    let old = target_held held.labels.now in
    let new = led_after held.labels.now c.in_ok-changes.changes in
    let at = goal.at.returns-clause-numbers g c in
    let same = numbers_are (setting_in held) text held.prelude.now held.head units rp c.requires.held c.in_ok-reparsed.ensures.read before after old new (led_before g at.In_ok-reparsed) (led_behind g at.In_ok-changes) in
    both_ok c.behind.result (λ (r : Update). map number_again r.again.items ≡ asking_in_parts E old new units rp.first rp.next) (λ (r : Update). (r.first ≡ rp.first) × (r.next ≡ rp.next))
    (λ (r : Update). map number_again r.again.items ≡ asking_in_parts E before after units r.first r.next)
    (λ r is place. is ∙ same ∙ ap (λ n. asking_in_parts E before after units n rp.next) (sym place.0) ∙ ap (λ n. asking_in_parts E before after units r.first n) (sym place.1))
    c.behind.ensures.numbers c.behind.ensures.place

pub returns-clause-texts : goal.returns-clause-texts
returns-clause-texts g c =
    let held = c.args.held.now in
    let at = goal.at.returns-clause-texts g c in
    let same = texts_soon_are (setting_in held) c.args.text held.prelude.now held.head held.units.now.items c.in_ok-reparsed.reparsed c.requires.held c.in_ok-reparsed.ensures.read held.prelude.now.lines c.in_ok-reparsed.ensures.soon
    (target_held held.labels.now) (led_after held.labels.now c.in_ok-changes.changes) (led_before g at.In_ok-reparsed) (led_behind g at.In_ok-changes) in
    omega (arith, same, c.behind.ensures.inlines, c.reparse.ensures.inlines)
