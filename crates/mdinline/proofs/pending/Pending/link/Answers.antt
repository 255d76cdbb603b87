use Rattle.std.proofs.Common.{All, sym, subst, ◌∙◌, ap}
use Rattle.std.proofs.lemmas.List.Elements.{All-push}
use Rattle.inlinespec.specs.TextReading.{spent}
use Rattle.mdinline.specs.declared.bracket_stack.BracketStack.{BracketStack}
use Rattle.mdinline.specs.held.LeafEvents.{IsTokenOf}
use Rattle.mdinline.specs.held.UnusedOpeners.{AreOpenersOf}
use Rattle.mdinline.proofs.ReadLinked.{holds_link}
use Rattle.mdinline.proofs.pending.Pending.link.Goals as goal

pub returns-clause-openers : goal.returns-clause-openers
returns-clause-openers c = λ ps o t taken h.
    c.made.ensures.openers ps o t taken (subst (AreOpenersOf (spent ps)) (sym (c.replace.ensures.same.openings ∙ c.in_ok-settle.ensures.openings)) h)

pub returns-clause-tokens : goal.returns-clause-tokens
returns-clause-tokens c = λ text goal_is h.
    let replaced = c.replace.ensures.tokens text goal_is (c.in_ok-settle.ensures.tokens text h) in
    subst (All (IsTokenOf text)) (sym c.in_ok-push.ensures.items) (All-push (IsTokenOf text) c.replace.new.self.tokens.items _ replaced tt)

pub returns-clause-pieces : goal.returns-clause-pieces
returns-clause-pieces c = λ entities text handed ps kept taken.
    let replaced = c.replace.ensures in
    let now = c.replace.new.self in
    holds_link entities text handed ps c.args.opening c.args.goal c.args.self.now c.settle.new.self
    (record { tokens = c.push.new.self; runs = now.runs; places = now.places; openings = c.made.new.self; pairing = now.pairing; paired = now.paired; begun = now.begun })
    (c.in_ok-settle.ensures.pieces entities text kept) now.tokens.items replaced.value c.in_ok-push.ensures.items replaced.same.runs replaced.same.places replaced.same.begun
    (c.made.ensures.unused ∙ ap (λ (s : BracketStack). s.unused.items) (replaced.same.openings ∙ c.in_ok-settle.ensures.openings)) kept taken
