use Rattle.std.proofs.Common.{[], refl, ap}
use Rattle.inlinespec.specs.InlineEvents.{written}
use Rattle.mdinline.specs.declared.tokens.Token.TheVariants as kept
use Rattle.mdinline.specs.held.ReadMarks.{ones}
use Rattle.mdinline.proofs.ReadHolding.{leaf_handed, leaf_kept}
use Rattle.mdinline.proofs.readers.TextReader.put_mark.Goals as goal

pub returns-then-not-is_empty-clause-takes : goal.returns-then-not-is_empty-clause-takes
returns-then-not-is_empty-clause-takes g c = (
  [],
  g.met.S.InlineSink.takes_none c.args.sink.now,
  leaf_kept c.args.self.now.entities.now c.args.text.now (kept.Text c.args.span) c.args.self.now.pending c.leaf.new.self c.in_ok-leaf.ensures.pieces refl,
)

pub returns-clause-takes : goal.returns-clause-takes
returns-clause-takes g c =
    let es = written c.part.result.now in (
      es,
      c.in_ok-text.ensures,
      leaf_handed c.args.self.now.entities.now c.args.text.now _ es c.args.self.now.pending c.is_empty.result c.is_empty.ensures c.if-not-is_empty.false
          (ap (λ t. ones (written t)) c.part.ensures),
    )
