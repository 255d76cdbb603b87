use Rattle.std.proofs.Common.{◌||◌, min, nat_le, refl, ap, sym, ◌∙◌}
use Rattle.mdinline.proofs.TakenOpeners.{taken, left, none_unused, none_left}
use Rattle.mdinline.proofs.bracket_stack.BracketStack.take.Goals as goal

pub returns-in_default-clause-taken : goal.returns-in_default-clause-taken
returns-in_default-clause-taken c = λ ps h.
    let none = c.in_default.ensures.cases in
    none_unused ps c.args.self.now (record { unused = c.pop.new.self; before_link = c.args.self.now.before_link }) (sym c.args.self.now.unused.ok.0 ∙ none.0) (sym c.pop.new.self.ok.0 ∙ none.1) refl h

pub returns-in_default-clause-left : goal.returns-in_default-clause-left
returns-in_default-clause-left c = λ ps h.
    let none = c.in_default.ensures.cases in
    none_left ps c.args.self.now (record { unused = c.pop.new.self; before_link = c.args.self.now.before_link }) (sym c.args.self.now.unused.ok.0 ∙ none.0) (sym c.pop.new.self.ok.0 ∙ none.1) refl h

pub returns-clause-taken : goal.returns-clause-taken
returns-clause-taken c = λ ps h.
    let long = c.len-left.ensures ∙ c.pop.new.self.ok.0 in
    taken ps c.args.self.now (record { unused = c.pop.new.self; before_link = c.min-self.result }) c.in-Some.opening c.is_live-is_live.result c.in-Some.ensures.items
    (c.is_live-is_live.ensures ∙ ap (λ n. c.in-Some.opening.is_image || nat_le c.args.self.now.before_link n) long)
    (c.min-self.ensures ∙ ap (λ n. min c.args.self.now.before_link n) long) h

pub returns-clause-left : goal.returns-clause-left
returns-clause-left c = λ ps h.
    let long = c.len-left.ensures ∙ c.pop.new.self.ok.0 in
    left ps c.args.self.now (record { unused = c.pop.new.self; before_link = c.min-self.result }) c.in-Some.opening c.is_live-is_live.result c.in-Some.ensures.items
    (c.is_live-is_live.ensures ∙ ap (λ n. c.in-Some.opening.is_image || nat_le c.args.self.now.before_link n) long)
    (c.min-self.ensures ∙ ap (λ n. min c.args.self.now.before_link n) long) h
