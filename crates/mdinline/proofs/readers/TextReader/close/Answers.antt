use Rattle.std.proofs.Common.{false, [], ◌<◌, length, ◌∷◌, ◌++◌, refl, ◌+◌, All, Vec, Global, ap, sym, subst, arith}
use Rattle.inlinespec.specs.TextReading.{after_deed, spent}
use Rattle.mdinline.specs.held.LeafEvents.{IsTokenOf}
use Rattle.mdinline.specs.held.UnusedOpeners.{AreOpenersOf}
use Rattle.mdinline.specs.declared.tokens.Token.{Token}
use Rattle.inlinespec.specs.InlineEvents.{written}
use Rattle.inlinespec.specs.Pieces.{Made}
use Rattle.mdinline.specs.held.ReadMarks.{ones}
use Rattle.mdinline.specs.held.ReadPending.{HoldsPieces}
use Rattle.mdinline.proofs.ReadHolding.{byte_part, holds_still}
use Rattle.mdinline.proofs.ClosingItems.{spent_and}
use Rattle.mdinline.proofs.PlainTokens.{bracket_token}
use Rattle.mdinline.proofs.readers.TextReader.close.Goals as goal

pub put-requires-clause-token : goal.put-requires-clause-token
put-requires-clause-token g c = bracket_token c.args.text.now c.args.at c.utf8.text c.requires.at c.requires.after.within c.requires.mark

pub returns-in_ok-link-in-Some-clause-tokens : goal.returns-in_ok-link-in-Some-clause-tokens
returns-in_ok-link-in-Some-clause-tokens g c =
    c.in_ok-link-in-Some.ensures.tokens c.args.text.now (rw c.in-Some.is at c.in_ok-opening.ensures.goal)
    (subst (λ (v : Vec Token Global). All (IsTokenOf c.args.text.now) v.items) (sym c.in_ok-opening.ensures.tokens) c.requires.tokens)

pub returns-in_ok-link-in-Some-clause-size : goal.returns-in_ok-link-in-Some-clause-size
returns-in_ok-link-in-Some-clause-size g c = λ ps h entities.
    let is = (rw c.in-Some.is at (c.in_ok-opening.ensures.value ps h)) entities in
    let from = rw c.in-Some.is at c.in_ok-opening.ensures.end in
    let size = is.0 in
    let later = from.from in
    omega (arith, size, later)

pub returns-in_ok-link-in-Some-clause-openers : goal.returns-in_ok-link-in-Some-clause-openers
returns-in_ok-link-in-Some-clause-openers g c = λ ps h entities.
    let is = (rw c.in-Some.is at (c.in_ok-opening.ensures.value ps h)) entities in
    let taken = rw c.in-Some.is at (c.in_ok-opening.ensures.taken ps h) in
    subst (λ d. AreOpenersOf (after_deed d ps) c.link.new.self.openings) (sym is.1) (c.in_ok-link-in-Some.ensures.openers ps taken.0 _ taken.1 (c.in_ok-opening.ensures.openers ps h))

pub returns-in_ok-put-in-None-clause-size : goal.returns-in_ok-put-in-None-clause-size
returns-in_ok-put-in-None-clause-size g c = λ ps h entities.
    let is = (rw c.in-None.is at (c.in_ok-opening.ensures.value ps h)) entities in
    ap (λ n. c.args.at + n) (sym is.0)

pub returns-in_ok-put-in-None-clause-openers : goal.returns-in_ok-put-in-None-clause-openers
returns-in_ok-put-in-None-clause-openers g c = λ ps h entities.
    let is = (rw c.in-None.is at (c.in_ok-opening.ensures.value ps h)) entities in
    subst (λ d. AreOpenersOf (after_deed d ps) c.put.new.self.pending.openings) (sym is.1)
    (spent_and ps c.put.new.self.pending.openings (subst (AreOpenersOf (spent ps)) (sym c.put.ensures.stays.openings) (c.in_ok-opening.ensures.openers ps h)))

pub returns-in_ok-link-in-Some-clause-takes : goal.returns-in_ok-link-in-Some-clause-takes
returns-in_ok-link-in-Some-clause-takes g c = (
  [],
  g.met.S.InlineSink.takes_none c.args.sink.now,
  λ handed ps unused h.
      let entities = c.args.self.now.entities.now in
      let text = c.args.text.now in
      let is = (rw c.in-Some.is at (c.in_ok-opening.ensures.value ps unused)) entities in
      let kept = c.in_ok-opening.ensures.pieces handed ps h in
      let taken = rw c.in-Some.is at (c.in_ok-opening.ensures.opened handed ps h) in
      holds_still entities text handed c.link.new.self _
      (subst (λ d. HoldsPieces entities text handed c.link.new.self (after_deed d ps)) (sym is.1) (c.in_ok-link-in-Some.ensures.pieces entities text handed ps kept.kept taken)),
)

pub returns-in_ok-put-in-None-clause-takes : goal.returns-in_ok-put-in-None-clause-takes
returns-in_ok-put-in-None-clause-takes g c =
    let put = c.in_ok-put-in-None.ensures.takes in (
      put.0,
      put.1,
      λ handed ps unused h.
          let entities = c.args.self.now.entities.now in
          let text = c.args.text.now in
          let is = (rw c.in-None.is at (c.in_ok-opening.ensures.value ps unused)) entities in
          let kept = c.in_ok-opening.ensures.pieces handed ps h in
          let after = c.requires.after in
          let within = after.within in
          let inside : c.args.at < length text = omega (arith, within) in
          subst (λ d. HoldsPieces entities text (handed ++ put.0) c.put.new.self.pending (after_deed d ps)) (sym is.1)
          ((rw c.in_ok-opening.ensures.entities at put.2) refl handed (spent ps) (Made false (written (93 ∷ [])) ∷ []) tt (ap (λ bs. ones (written bs)) (byte_part text c.args.at 93 inside c.requires.mark)) kept),
    )
