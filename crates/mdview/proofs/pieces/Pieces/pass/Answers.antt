use Rattle.std.proofs.Common.{◌∙◌, sym, ap, drop, map}
use Rattle.std.proofs.lemmas.List.{drop-map}
use Rattle.mdview.specs.HeldUnit.{piece_of}
use Rattle.mdview.proofs.pieces.Pieces.pass.Goals as goal

pub returns : goal.returns
returns c = ap (map piece_of) c.ahead-self-inside.ensures ∙ sym (drop-map piece_of c.args.n c.self.inside.rest) ∙ ap (drop c.args.n) c.self.view_is
