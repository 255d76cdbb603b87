use Rattle.std.proofs.Common.{◌≡◌, ◌+◌, ◌∙◌, List, ap, subst, sym, length, arith}
use Rattle.mdblock.specs.FoundLists.{FoundList}
use Rattle.mdblock.specs.Insets.{FitsList}
use Rattle.mdblock.specs.Spliced.{mark_at}
use Rattle.inlinespec.specs.ParsedText.{ParsedText}
use Rattle.mdview.specs.HeldLists.{list_in}
use Rattle.mdview.specs.HeldUnit.{HeldUnit}
use Rattle.mdview.specs.LabelMarks.{unit_marks}
use Rattle.mdview.proofs.PutInsets.{fits_there, readings_put, texts_put, texts_there}
use Rattle.mdview.proofs.held.units.HeldUnit.put.Goals as goal

pub put-requires : goal.put-requires
put-requires c =
    let i = c.args.inset in
    fits_there i c.self.inside.found (subst (λ (u : HeldUnit). FitsList i (list_in u)) (sym c.self.view_is) c.requires.fits)

pub put_between-requires : goal.put_between-requires
put_between-requires c =
    let i = c.args.inset in
    let found = c.self.inside.found in
    let fits = fits_there i found (subst (λ (u : HeldUnit). FitsList i (list_in u)) (sym c.self.view_is) c.requires.fits) in
    let few = texts_there i found fits in
    let given : i.before + length c.args.inlines.items ≡ (mark_at found.marks i.join).texts = c.requires.texts ∙ ap (λ (u : HeldUnit). (mark_at u.read.items i.join).texts) (sym c.self.view_is) in
    let many = c.self.invariant.0 in
    let before = c.before-before.ensures in
    omega (arith, few, many, given, before)

pub invariant_of-self : goal.invariant_of-self
invariant_of-self c =
    let i = c.args.inset in
    let found = c.self.inside.found in
    let fits = fits_there i found (subst (λ (u : HeldUnit). FitsList i (list_in u)) (sym c.self.view_is) c.requires.fits) in
    let few = texts_there i found fits in
    let given : i.before + length c.args.inlines.items ≡ (mark_at found.marks i.join).texts = c.requires.texts ∙ ap (λ (u : HeldUnit). (mark_at u.read.items i.join).texts) (sym c.self.view_is) in
    let many = c.self.invariant.0 in
    let before = c.before-before.ensures in (
      ap (λ (rs : List ParsedText). length rs) c.put_between.ensures
          ∙ readings_put c.before-before.result c.args.inlines.items c.self.inside.inlines.items (omega (arith, few, many, given, before)) ∙ many
          ∙ sym (texts_put i found fits) ∙ sym (ap (λ (l : FoundList). length l.unit.texts) c.put.ensures),
      c.marks_in-self-inside.ensures ∙ ap (λ t. unit_marks t c.deref.result.now) c.unit.ensures ∙ ap (unit_marks c.put.new.self.unit) c.deref.ensures.value,
    )
