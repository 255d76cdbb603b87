use Rattle.std.proofs.Common.{refl, arith}
use Rattle.mdtext.proofs.NamedPlaces.{behind_step, before_step, found_step}
use Rattle.mdtext.proofs.named_texts.place_of.Goals as goal

pub loop-low-preserved-in-Less : goal.loop-low-preserved-in-Less
loop-low-preserved-in-Less c =
    let l = c.loop-low in (
      omega arith,
      omega (arith, l.invariant.1),
      l.invariant.2,
      before_step c.args.bytes.now c.args.spans.now c.requires c.args.name.now _ _ _ (omega (arith, c.loop-low-test.true, l.invariant.1)) refl c.in-Less.ensures,
    )

pub returns-in-Equal : goal.returns-in-Equal
returns-in-Equal c =
    let l = c.loop-low in
    found_step c.args.bytes.now c.args.spans.now c.requires c.args.name.now _ _ _ (omega (arith, c.loop-low-test.true, l.invariant.1)) refl c.in-Equal.ensures

pub loop-low-preserved : goal.loop-low-preserved
loop-low-preserved c =
    let l = c.loop-low in (
      omega (arith, c.loop-low-test.true),
      l.invariant.1,
      behind_step c.args.bytes.now c.args.spans.now c.requires c.args.name.now _ _ _ (omega (arith, c.loop-low-test.true, l.invariant.1)) refl c.in-Greater.ensures,
      l.invariant.3,
    )
