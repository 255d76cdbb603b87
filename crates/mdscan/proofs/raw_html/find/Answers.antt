use Rattle.std.proofs.Common.{arith, sym, ◌∙◌}
use Rattle.mdscan.specs.RawHtml.{place_of}
use Rattle.mdscan.proofs.Places.{place_here, place_later, no_place}
use Rattle.mdscan.proofs.raw_html.find.Goals as goal

pub returns-then-starts_with-clause-value : goal.returns-then-starts_with-clause-value
unfolding place_of
returns-then-starts_with-clause-value c = sym (place_here c.args.needle.now c.args.text.now c.loop-at.at (omega arith) (sym c.starts_with.ensures.value ∙ c.if-starts_with.true)) ∙ c.loop-at.invariant

pub loop-at-preserved : goal.loop-at-preserved
loop-at-preserved c = sym (place_later c.args.needle.now c.args.text.now c.loop-at.at (omega arith) (sym c.starts_with.ensures.value ∙ c.if-starts_with.false)) ∙ c.loop-at.invariant

pub returns-clause-value : goal.returns-clause-value
unfolding place_of
returns-clause-value c = sym (no_place c.args.needle.now c.args.text.now c.loop-at.at (omega arith)) ∙ c.loop-at.invariant
