use Rattle.std.proofs.Common.{◌+◌, sym, ap, ◌∙◌, arith, rules}
use Rattle.mdinline.specs.held.PlainText.{is_bracket}
use Rattle.inlinespec.specs.Lexemes.{Lexeme}
use Rattle.mdinline.specs.declared.bracket_stack.BracketKind.TheVariants.{Link, Image, Closing}
use Rattle.mdinline.proofs.FoundLeaves.{bracket_is}
use Rattle.mdinline.proofs.SignItems.{at_bracket, at_closing, at_image, lone_mark, mark_and_other, no_bracket}
use Rattle.mdinline.proofs.bracket_stack.bracket_at.Goals as goal

pub returns-in-91-clause-value : goal.returns-in-91-clause-value
returns-in-91-clause-value c = λ entities.
    at_bracket entities c.args.text.now c.args.at c.in-91.is
    ∙ sym (bracket_is c.args.at (c.args.at + 1) 1 c.make_bracket.result Link c.make_bracket.ensures.end c.make_bracket.ensures.kind (omega arith))

pub returns-in-93-clause-value : goal.returns-in-93-clause-value
returns-in-93-clause-value c = λ entities.
    at_closing entities c.args.text.now c.args.at c.in-93.is
    ∙ sym (bracket_is c.args.at (c.args.at + 1) 1 c.make_bracket-in-93.result Closing c.make_bracket-in-93.ensures.end c.make_bracket-in-93.ensures.kind (omega arith))

pub returns-in-33-clause-value : goal.returns-in-33-clause-value
returns-in-33-clause-value c = λ entities.
    at_image entities c.args.text.now c.args.at c.in-33.is c.if-next-text.true c.if-text-next-eq91.true
    ∙ sym (bracket_is c.args.at (c.args.at + 1 + 1) 2 c.make_bracket-in-33.result Image c.make_bracket-in-33.ensures.end c.make_bracket-in-33.ensures.kind (omega arith))

pub returns-in_default-clause-value : goal.returns-in_default-clause-value
returns-in_default-clause-value c = λ entities. ap (λ (l : Lexeme). is_bracket l.kind) (mark_and_other entities c.args.text.now c.args.at c.in-33.is c.if-next-text.true c.if-text-next-eq91.false)

pub returns-in_default-2-clause-value : goal.returns-in_default-2-clause-value
returns-in_default-2-clause-value c = λ entities. ap (λ (l : Lexeme). is_bracket l.kind) (lone_mark entities c.args.text.now c.args.at c.in-33.is c.if-next-text.false)

pub returns-in_default-3-clause-value : goal.returns-in_default-3-clause-value
returns-in_default-3-clause-value c = λ entities. no_bracket entities c.args.text.now c.args.at (λ e. search rules) (λ e. search rules) (λ e. search rules)
