use Rattle.std.proofs.Common.{◌≡◌, List, [], None, arith, map, ◌∙◌, refl}
use Rattle.std.specs.List.{All}
use Rattle.std.proofs.lemmas.Result.{IfOk-weaker}
use Rattle.inlinespec.specs.LinkTails.{Table}
use Rattle.mdsource.specs.UnitTexts.{asking_texts, asking_units, deep_from}
use Rattle.mdsource.proofs.ReadingsUnder.{asking_texts_under, asking_units_under, deep_from_under}
use Rattle.mdview.specs.HeldBlocks.{held_tile}
use Rattle.mdview.specs.HeldTexts.{IsReread, asking_in_parts, deep_in_parts, head_read, texts_in_parts}
use Rattle.mdview.specs.HeldUnit.{HeldUnit, unit_in}
use Rattle.mdview.specs.LabelTargets.{led_after, led_by, target_held}
use Rattle.mdview.specs.UnitsFound.{found_in}
use Rattle.mdview.specs.declared.blocks.reparse.Reparsed.{Reparsed}
use Rattle.mdview.specs.declared.held.HeldText.{HeldText}
use Rattle.mdview.specs.declared.update.Update.{Update}
use Rattle.mdview.proofs.EditTexts.{all_reread_under, deep_by_all, numbers_by_all, texts_by_all}
use Rattle.mdview.proofs.update.Update.of_prelude.Given.{Over}
use Rattle.mdview.proofs.update.Update.of_prelude.Goals.{After-new}
use Rattle.mdview.proofs.update.Update.of_prelude.Goals as goal

-- What is read where no unit comes or goes: of all units, what asks for a label that leads elsewhere.
module _ (g : Over) (c : After-new g) where
  abbrev held : HeldText
  held = c.args.held.now

  abbrev old : Table
  old = target_held held.labels.now

  abbrev new : Table
  new = led_after held.labels.now c.in_ok-changes.changes

  abbrev after : Table
  after = led_by (map unit_in held.units.now.items) c.args.prelude.now

  abbrev unread : Reparsed
  unread = record { first = 0; next = 0; from = 0; meet = held.head; found = c.new.result; list = None; kept = None }

  none : found_in unread ≡ []
  unfolding found_in
  none = c.new.ensures.items

  numbers_are : asking_in_parts held.entities.now old new held.units.now.items 0 0
      ≡ asking_units held.entities.now old after 0 (map unit_in held.units.now.items)
  numbers_are =
      numbers_by_all held.entities.now old new held.options.now.max_spans held.units.now.items unread refl refl none
      ∙ asking_units_under held.entities.now old new old after (λ label. refl) c.in_ok-changes.ensures.led 0 (map unit_in held.units.now.items)

  texts_are : texts_in_parts held.entities.now old new held.units.now.items unread ≡ asking_texts held.entities.now old after (map unit_in held.units.now.items)
  texts_are =
      texts_by_all held.entities.now old new held.options.now.max_spans held.units.now.items unread refl refl none
      ∙ asking_texts_under held.entities.now old new old after (λ label. refl) c.in_ok-changes.ensures.led (map unit_in held.units.now.items)

  deep_is : deep_in_parts held.options.now.max_spans held.entities.now new (head_read held.head unread) held.units.now.items unread
      ≡ deep_from held.options.now.max_spans held.entities.now after held.head (map held_tile held.units.now.items)
  deep_is =
      deep_by_all held.entities.now old new held.options.now.max_spans held.units.now.items unread refl refl none (head_read held.head unread)
      ∙ deep_from_under held.options.now.max_spans held.entities.now new after c.in_ok-changes.ensures.led held.head (map held_tile held.units.now.items)

pub returns-clause-reread : goal.returns-clause-reread
returns-clause-reread g c =
    let held = c.args.held.now in
    let units : List HeldUnit = held.units.now.items in
    let new = led_after held.labels.now c.in_ok-changes.changes in
    let after = led_by (map unit_in units) c.args.prelude.now in
    IfOk-weaker c.behind.result (λ (r : Update). All (IsReread held.entities.now new (map unit_in units)) r.again.items) (λ (r : Update). All (IsReread held.entities.now after (map unit_in units)) r.again.items)
    (λ r all. all_reread_under held.entities.now new after c.in_ok-changes.ensures.led (map unit_in units) r.again.items all) c.behind.ensures.reread

pub returns-clause-numbers : goal.returns-clause-numbers
returns-clause-numbers g c = rw (numbers_are g (goal.at.returns-clause-numbers g c).After-new) at c.behind.ensures.numbers

pub returns-clause-shallow : goal.returns-clause-shallow
returns-clause-shallow g c = rw (deep_is g (goal.at.returns-clause-shallow g c).After-new) at c.behind.ensures.shallow

pub returns-clause-deep : goal.returns-clause-deep
returns-clause-deep g c = rw (deep_is g (goal.at.returns-clause-deep g c).After-new) at c.behind.ensures.deep

pub returns-clause-texts : goal.returns-clause-texts
returns-clause-texts g c =
    let same = texts_are g (goal.at.returns-clause-texts g c).After-new in omega (arith, same, c.behind.ensures.inlines)
