use Rattle.std.proofs.Common.{[], ◌++◌, true, false, refl, append_assoc, subst, arith}
use Rattle.inlinespec.specs.Links.{nearest_opener}
use Rattle.inlinespec.specs.TextReading.{after_deed, closing}
use Rattle.mdinline.specs.held.ReadPending.{HoldsPieces}
use Rattle.mdinline.proofs.ReadHolding.{holds_opening}
use Rattle.mdinline.proofs.Marks.{behind}
use Rattle.mdinline.proofs.readers.TextReader.bracket.Goals as goal

pub close-requires-clause-after : goal.close-requires-clause-after
close-requires-clause-after g c =
    let later = c.requires.bracket.later in
    let within = c.requires.bracket.within in
    record {
      later = omega arith;
      within = omega (arith, later, within);
      whole = behind c.args.text.now c.args.text.now c.args.at refl c.utf8.text (omega (arith, later, within)) c.requires.mark;
    }

pub returns-in_ok-open-in-Link-clause-brackets : goal.returns-in_ok-open-in-Link-clause-brackets
returns-in_ok-open-in-Link-clause-brackets g c =
    let later = c.requires.bracket.later in
    c.in_ok-open-in-Link.ensures.brackets c.args.text.now c.args.at c.requires.bracket.whole (omega (arith, later)) c.requires.brackets

pub returns-in_ok-open-in-Image-clause-brackets : goal.returns-in_ok-open-in-Image-clause-brackets
returns-in_ok-open-in-Image-clause-brackets g c =
    let later = c.requires.bracket.later in
    c.in_ok-open-in-Image.ensures.brackets c.args.text.now c.args.at c.requires.bracket.whole (omega (arith, later)) c.requires.brackets

pub returns-in_ok-open-in-Link-clause-takes : goal.returns-in_ok-open-in-Link-clause-takes
returns-in_ok-open-in-Link-clause-takes g c = (
  [],
  g.met.S.InlineSink.takes_none c.args.sink.now,
  λ handed ps unused h.
      let entities = c.args.self.now.entities.now in
      let text = c.args.text.now in
      let later = c.requires.bracket.later in
      rw c.in-Link.is (holds_opening entities text handed _ ps false c.args.at c.args.bracket.end (omega (arith, later)) (c.in_ok-open-in-Link.ensures.pieces entities text handed ps h)),
)

pub returns-in_ok-open-in-Image-clause-takes : goal.returns-in_ok-open-in-Image-clause-takes
returns-in_ok-open-in-Image-clause-takes g c = (
  [],
  g.met.S.InlineSink.takes_none c.args.sink.now,
  λ handed ps unused h.
      let entities = c.args.self.now.entities.now in
      let text = c.args.text.now in
      let later = c.requires.bracket.later in
      rw c.in-Image.is (holds_opening entities text handed _ ps true c.args.at c.args.bracket.end (omega (arith, later)) (c.in_ok-open-in-Image.ensures.pieces entities text handed ps h)),
)

pub returns-in-Closing-clause-takes : goal.returns-in-Closing-clause-takes
returns-in-Closing-clause-takes g c =
    let before = c.in_ok-end-in-Closing.ensures.takes in
    let after = c.in_ok-flush_if_idle-in-Closing.ensures.takes in (
      before.0 ++ after.0,
      g.met.S.InlineSink.takes_more c.args.sink.now c.close.new.sink c.flush_if_idle.new.sink before.0 after.0 before.1 after.1,
      λ handed ps unused h.
          let entities = c.args.self.now.entities.now in
          let text = c.args.text.now in
          let next = after_deed (closing entities (g.L.Labels.target c.args.labels.now) text c.args.at (nearest_opener ps)).deed ps in
          rw c.in-Closing.is (subst (λ es. HoldsPieces entities text es c.flush_if_idle.new.self.pending next) (append_assoc handed before.0 after.0)
          ((rw c.in_ok-end-in-Closing.ensures.entities at after.2) (handed ++ before.0) next (before.2 handed ps unused h))),
    )
