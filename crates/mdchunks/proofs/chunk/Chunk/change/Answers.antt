use Rattle.std.proofs.Common.{◌≡◌, ◌<◌, get_or, length, ap, sym, subst, ◌∙◌, arith}
use Rattle.std.proofs.Math.ListN.{set, length-set}
use Rattle.std.proofs.lemmas.List.{get_or_default, get_or-set_same}
use Rattle.mdchunks.proofs.Alike.{marked_alike, weighs_alike}
use Rattle.mdchunks.proofs.chunk.Chunk.change.Goals as goal

pub invariant_of-self : goal.invariant_of-self
invariant_of-self g c =
    let xs = c.self.inside.items.items in
    let i = c.args.i in
    let new = c.change.new.member in
    let old = c.index.result.now in
    let W = g.T.Weighed.weight in
    let M = g.T.Weighed.marks in
    let here : i < length xs = subst (λ ys. i < length ys) (sym c.self.view_is) c.requires.within in
    let weight : W new ≡ W (get_or xs i old) =
    ap W (sym (c.index-3.ensures ∙ get_or-set_same xs i new c.index-3.result.now here)) ∙ sym c.weight.ensures ∙ c.if-weight.true ∙ c.weight-weight.ensures ∙ ap W c.index.ensures in
    let marks : M new ≡ M (get_or xs i old) =
    ap M (sym (c.index-then-weight.ensures ∙ get_or-set_same xs i new c.index-then-weight.result.now here))
    ∙ sym c.marks.ensures ∙ c.if-marks.true ∙ c.marks-marks.ensures ∙ ap M (c.index-2.ensures ∙ get_or_default xs i c.index-2.result.now old here) in
    let size : length (set xs i new) ≡ length xs = length-set xs i new in
    (omega (arith, size, c.self.invariant.0), c.self.invariant.1, c.self.invariant.2 ∙ sym (weighs_alike W xs i new old here weight), marked_alike M xs i new old c.self.inside.marks here marks c.self.invariant.3)
