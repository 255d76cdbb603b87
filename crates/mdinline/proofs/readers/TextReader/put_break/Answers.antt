use Rattle.std.proofs.Common.{[], ◌∷◌, refl}
use Rattle.inlinespec.specs.InlineEvents.{SoftBreak}
use Rattle.mdinline.specs.declared.tokens.Token.TheVariants as kept
use Rattle.mdinline.proofs.ReadHolding.{leaf_handed, leaf_kept}
use Rattle.mdinline.proofs.readers.TextReader.put_break.Goals as goal

pub returns-then-not-is_empty-clause-takes : goal.returns-then-not-is_empty-clause-takes
returns-then-not-is_empty-clause-takes g c = (
  [],
  g.met.S.InlineSink.takes_none c.args.sink.now,
  λ text. leaf_kept c.args.self.now.entities.now text kept.SoftBreak c.args.self.now.pending c.leaf.new.self c.in_ok-leaf.ensures.pieces refl,
)

pub returns-clause-takes : goal.returns-clause-takes
returns-clause-takes g c =
    let es = SoftBreak ∷ [] in (
      es,
      c.in_ok-soft_break.ensures,
      λ text. leaf_handed c.args.self.now.entities.now text es es c.args.self.now.pending c.is_empty.result c.is_empty.ensures c.if-not-is_empty.false refl,
    )
