use Rattle.std.proofs.Common.{◌≡◌, length, ◌∙◌, arith}
use Rattle.mdblock.proofs.InsetLaws.{first_parts}
use Rattle.mdblock.proofs.units.insets.joins.put_first_joins.Goals as goal

pub returns : goal.returns
returns c =
    let count : c.len-count.result ≡ length c.args.part.items = omega (arith, c.len-count.ensures, c.args.part.ok.0) in
    c.swap_between.ensures ∙ first_parts c.len-count.result c.args.part.items c.args.joins.now.items count
