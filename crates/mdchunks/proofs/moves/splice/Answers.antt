use Rattle.std.proofs.Common.{◌≤◌, ◌+◌, ◌-◌, ◌∙◌, ap, length, arith}
use Rattle.mdchunks.specs.Lists.{replaced}
use Rattle.mdchunks.proofs.Replacements.{rest_replaced}
use Rattle.mdchunks.proofs.moves.splice.Goals as goal

pub returns-clause-items : goal.returns-clause-items
returns-clause-items g c =
    let few : c.min-both.result ≤ c.args.del = omega (arith, c.min-both.ensures) in
    let enough : c.min-both.result ≤ length c.args.add.now.items = omega (arith, c.min-both.ensures, c.args.add.now.ok.0) in
    let within : c.args.at + c.args.del ≤ length c.args.items.now.items = omega (arith, c.requires.within, c.args.items.now.ok.0) in
    c.splice_rest.ensures.items
    ∙ ap (λ xs. replaced xs (c.args.at + c.min-both.result) (c.args.del - c.min-both.result) c.cut_front.new.items.items) c.swap_members.ensures.items
    ∙ ap (replaced _ (c.args.at + c.min-both.result) (c.args.del - c.min-both.result)) (c.cut_front.ensures.items ∙ c.swap_members.ensures.rest)
    ∙ rest_replaced c.args.items.now.items c.args.add.now.items c.args.at c.args.del c.min-both.result within few enough
