use Rattle.std.proofs.Common.{refl}
use Rattle.mdscan.proofs.Ends.{if_some, if_both, span_of, after_enclosed}
use Rattle.mdscan.proofs.link_destinations.target.Goals as goal

pub returns-then-begins-clause-span : goal.returns-then-begins-clause-span
returns-then-begins-clause-span c utf8 boundary =
    if_some c.angle.result _ _ (λ dest h. span_of c.args.text.now c.args.at dest.span utf8 h) c.angle.ensures.enclosed

pub returns-then-begins-clause-end : goal.returns-then-begins-clause-end
returns-then-begins-clause-end c utf8 =
    if_both c.angle.result _ _ _ (λ dest h e. after_enclosed c.args.text.now c.args.text.now c.args.at dest.span dest.end refl utf8 h e) c.angle.ensures.enclosed c.angle.ensures.end
