use Rattle.std.proofs.Common.{sym, subst}
use Rattle.mdinline.specs.held.FoundLinks.{IsLinkOf}
use Rattle.mdinline.proofs.BracketPlaces.{brackets_left, last_bracket}
use Rattle.mdinline.proofs.ClosingItems.{closing_live}
use Rattle.std.proofs.Common.{Some, None}
use Rattle.mdinline.proofs.readers.TextReader.find_link.Goals as goal

pub returns-in-Some-2-clause-value : goal.returns-in-Some-2-clause-value
returns-in-Some-2-clause-value g c = λ ps h entities.
    let taken = c.in-Some.ensures.taken ps h in
    let table = g.L.Labels.target c.args.labels.now in
    subst (λ item. IsLinkOf entities c.args.text.now c.args.at item (Some c.in-Some-2.found))
    (sym (closing_live entities table c.args.text.now c.args.at ps c.in-Some.opening c.in-Some.is_live taken.0 taken.1 c.if-not-is_live.false))
    ((rw c.in-Some-2.is at c.in_ok-found.ensures.value) entities)

pub returns-in-None-clause-value : goal.returns-in-None-clause-value
returns-in-None-clause-value g c = λ ps h entities.
    let taken = c.in-Some.ensures.taken ps h in
    let table = g.L.Labels.target c.args.labels.now in
    subst (λ item. IsLinkOf entities c.args.text.now c.args.at item None)
    (sym (closing_live entities table c.args.text.now c.args.at ps c.in-Some.opening c.in-Some.is_live taken.0 taken.1 c.if-not-is_live.false))
    ((rw c.in-None.is at c.in_ok-found.ensures.value) entities)

pub returns-in-None-clause-brackets : goal.returns-in-None-clause-brackets
returns-in-None-clause-brackets g c = brackets_left c.args.text.now c.args.at _ _ _ c.in-Some.ensures.unused c.requires.brackets

pub link_of-requires-clause-begin : goal.link_of-requires-clause-begin
link_of-requires-clause-begin g c = last_bracket c.args.text.now c.args.at _ _ _ c.in-Some.ensures.unused c.requires.brackets

pub returns-then-not-is_live-clause-brackets : goal.returns-then-not-is_live-clause-brackets
returns-then-not-is_live-clause-brackets g c = brackets_left c.args.text.now c.args.at _ _ _ c.in-Some.ensures.unused c.requires.brackets

pub returns-in-Some-2-clause-brackets : goal.returns-in-Some-2-clause-brackets
returns-in-Some-2-clause-brackets g c = brackets_left c.args.text.now c.args.at _ _ _ c.in-Some.ensures.unused c.requires.brackets

pub returns-in_default-clause-pieces : goal.returns-in_default-clause-pieces
returns-in_default-clause-pieces g c = λ handed ps h. c.take.ensures.pieces c.args.self.now.entities.now c.args.text.now handed ps h

pub returns-then-not-is_live-clause-pieces : goal.returns-then-not-is_live-clause-pieces
returns-then-not-is_live-clause-pieces g c = λ handed ps h. c.in-Some.ensures.pieces c.args.self.now.entities.now c.args.text.now handed ps h

pub returns-in_err-found-clause-pieces : goal.returns-in_err-found-clause-pieces
returns-in_err-found-clause-pieces g c = λ handed ps h. c.in-Some.ensures.pieces c.args.self.now.entities.now c.args.text.now handed ps h

pub returns-in-Some-2-clause-pieces : goal.returns-in-Some-2-clause-pieces
returns-in-Some-2-clause-pieces g c = λ handed ps h. c.in-Some.ensures.pieces c.args.self.now.entities.now c.args.text.now handed ps h

pub returns-in-None-clause-pieces : goal.returns-in-None-clause-pieces
returns-in-None-clause-pieces g c = λ handed ps h. c.in-Some.ensures.pieces c.args.self.now.entities.now c.args.text.now handed ps h

pub returns-in-Some-2-clause-opened : goal.returns-in-Some-2-clause-opened
returns-in-Some-2-clause-opened g c = λ handed ps h. c.in-Some.ensures.opened c.args.self.now.entities.now c.args.text.now handed ps h
