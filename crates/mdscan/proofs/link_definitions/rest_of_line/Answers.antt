use Rattle.std.proofs.Common.{◌+◌, ◌<◌, length, get_or, arith}
use Rattle.std.proofs.lemmas.Grind.{common_steps}
use Rattle.std.proofs.lemmas.Str.{IsCharBoundary-after_ascii}
use Rattle.mdscan.proofs.Boundaries.{blanks_boundary}
use Rattle.mdscan.proofs.link_definitions.rest_of_line.Goals as goal

pub returns-then-next-text-clause-boundary : goal.returns-then-next-text-clause-boundary
returns-then-next-text-clause-boundary c utf8 boundary = blanks_boundary c.args.text.now c.args.at c.leading_blanks.result c.leading_blanks.ensures.count utf8 boundary

pub returns-then-begins-clause-boundary : goal.returns-then-begins-clause-boundary
returns-then-begins-clause-boundary c utf8 boundary =
    let text = c.args.text.now in
    let inside : c.args.at + c.leading_blanks.result < length text = grind (arith, common_steps) in
    let ascii : get_or text (c.args.at + c.leading_blanks.result) 0 < 128 = grind (arith, common_steps) in
    IsCharBoundary-after_ascii text (c.args.at + c.leading_blanks.result) utf8 inside ascii
