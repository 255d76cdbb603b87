use Rattle.std.proofs.Common.{◌≡◌, length, string_bytes, sym, subst, ap, ◌∙◌, arith}
use Rattle.std.proofs.lemmas.List.{length-map}
use Rattle.mdblock.specs.BlockView.{blocks_view}
use Rattle.mdblock.specs.Positions.{BlocksIn}
use Rattle.reader_tests.proofs.html.calls.blocks_of.Goals as goal

pub returns : goal.returns
returns c =
    let unit = c.args.unit.now in
    let n : length unit.texts ≡ length c.texts.result.now = ap length (sym c.texts.ensures) ∙ length-map c.texts.result.now string_bytes in
    let e : length unit.texts ≡ length c.args.texts.now = omega (arith, n) in
    subst (λ z. BlocksIn z (blocks_view c.blocks-2.result.now)) e (subst (λ z. BlocksIn (length unit.texts) z) (sym c.blocks-2.ensures.value) c.blocks-2.ensures.within)
