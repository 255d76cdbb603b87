use Rattle.std.proofs.Common.{ap, sym, ◌∙◌, true, false}
use Rattle.std.specs.Option.{option_map, is_some}
use Rattle.blockspec.specs.BlockKinds.{SetextHeading}
use Rattle.mdblock.specs.held.StartKind.{kind_of_start}
use Rattle.mdblock.proofs.Interrupts.{interrupts_before, interrupts_after}
use Rattle.mdblock.proofs.ParagraphLaws.{opening_stops, ends_before, underlined, ends_after, behind_all}
use Rattle.mdblock.proofs.leaf.paragraphs.Paragraph.continuation_at_margin.Goals as goal

pub returns-in-Some-clause-continuation : goal.returns-in-Some-clause-continuation
returns-in-Some-clause-continuation c =
    let l = c.args.line.now in
    let found = sym c.before_underline.ensures.kind ∙ ap (option_map (kind_of_start l)) c.in-Some.is in
    (c.in-Some.ensures.parts, sym (interrupts_before l (kind_of_start l c.in-Some.opening) c.requires.blank c.requires.near found))

pub returns-in-Some-clause-step : goal.returns-in-Some-clause-step
returns-in-Some-clause-step c = λ lines h.
    let l = c.args.line.now in
    sym (ends_before (kind_of_start l) _ lines l (opening_stops l) c.before_underline.ensures.kind (ap is_some c.in-Some.is))

pub returns-in-Some-underline-clause-step : goal.returns-in-Some-underline-clause-step
returns-in-Some-underline-clause-step c = λ lines h.
    let l = c.args.line.now in
    sym (underlined (kind_of_start l) _ lines l c.in-Some-underline.level c.before_underline.ensures.kind (ap is_some c.in_default.is) (sym (c.underline.ensures lines h) ∙ ap (option_map SetextHeading) c.in-Some-underline.is))

pub returns-in-Some-after_underline-clause-continuation : goal.returns-in-Some-after_underline-clause-continuation
returns-in-Some-after_underline-clause-continuation c =
    let l = c.args.line.now in
    let found = sym c.after_underline.ensures.kind ∙ ap (option_map (kind_of_start l)) c.in-Some-after_underline.is in
    (c.in-Some-after_underline.ensures.parts, sym (interrupts_after l (kind_of_start l c.in-Some-after_underline.opening) c.requires.blank c.requires.near found))

pub returns-in-Some-after_underline-clause-step : goal.returns-in-Some-after_underline-clause-step
returns-in-Some-after_underline-clause-step c = λ lines h.
    let l = c.args.line.now in
    let none = sym (c.underline.ensures lines h) ∙ ap (option_map SetextHeading) c.in_default-underline.is in
    sym (ends_after (kind_of_start l) _ _ lines l (opening_stops l) c.before_underline.ensures.kind (ap is_some c.in_default.is) none c.after_underline.ensures.kind (ap is_some c.in-Some-after_underline.is))

pub returns-then-is_delimited-clause-step : goal.returns-then-is_delimited-clause-step
returns-then-is_delimited-clause-step c = λ lines h.
    let l = c.args.line.now in
    let none = sym (c.underline.ensures lines h) ∙ ap (option_map SetextHeading) c.in_default-underline.is in
    sym (behind_all (kind_of_start l) _ _ lines l true c.before_underline.ensures.kind (ap is_some c.in_default.is) none c.after_underline.ensures.kind (ap is_some c.in_default-after_underline.is) (sym c.if-is_delimited.true ∙ c.is_delimited.ensures.lines lines h))

pub returns-clause-step : goal.returns-clause-step
returns-clause-step c = λ lines h.
    let l = c.args.line.now in
    let none = sym (c.underline.ensures lines h) ∙ ap (option_map SetextHeading) c.in_default-underline.is in
    sym (behind_all (kind_of_start l) _ _ lines l false c.before_underline.ensures.kind (ap is_some c.in_default.is) none c.after_underline.ensures.kind (ap is_some c.in_default-after_underline.is) (sym c.if-is_delimited.false ∙ c.is_delimited.ensures.lines lines h))
