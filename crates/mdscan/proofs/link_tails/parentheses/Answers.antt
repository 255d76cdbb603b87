use Rattle.std.proofs.Common.{◌<◌, length, get_or, arith}
use Rattle.std.proofs.lemmas.Grind.{common_steps}
use Rattle.std.proofs.lemmas.Str.{IsCharBoundary-after_ascii}
use Rattle.mdscan.proofs.link_tails.parentheses.Goals as goal

pub returns-then-begins-clause-spans : goal.returns-then-begins-clause-spans
returns-then-begins-clause-spans c utf8 =
    let text = c.args.text.now in
    let at = c.args.at in
    let inside : at < length text = grind (arith, common_steps) in
    let ascii : get_or text at 0 < 128 = grind (arith, common_steps) in
    c.inside.ensures.spans utf8 (c.after_spacing.ensures.boundary utf8 (IsCharBoundary-after_ascii text at utf8 inside ascii))
