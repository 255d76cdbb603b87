use Rattle.std.proofs.Common.{◌∙◌, ap, arith, drop}
use Rattle.mdchunks.specs.Lists.{joined}
use Rattle.mdchunks.proofs.Skipped.{drop_behind}
use Rattle.mdchunks.proofs.iters.Iter.ahead.Goals as goal

pub returns : goal.returns
returns g c =
    c.from.ensures ∙ drop_behind c.self.inside.inside.now (joined c.self.inside.rest.now) c.args.n (omega (arith, c.if-n-self.false)) ∙ ap (drop c.args.n) c.self.view_is
