use Rattle.std.proofs.Common.{◌∙◌, sym, ap, arith}
use Rattle.std.proofs.lemmas.Simd.{leading_from_mask_l, trailing_mask_l}
use lib.Count.{count_trailing_zeros}
use Rattle.std.specs.List.{position_or_len}
use Rattle.mdtext.proofs.Lanes.{block_is, length_block}
use Rattle.mdinline.specs.held.PlainText.{is_stop}
use Rattle.mdinline.proofs.stops.first_in_block.Goals as goal

pub returns-then-stops-eq0 : goal.returns-then-stops-eq0
returns-then-stops-eq0 c =
    sym (ap (position_or_len is_stop) (block_is c.args.text.now c.args.at 16) ∙ leading_from_mask_l is_stop _ (sym c.stops_in-stops.ensures ∙ c.if-stops-eq0.true)
    ∙ length_block c.args.text.now c.args.at 16 c.requires)

pub returns-else-stops-eq0 : goal.returns-else-stops-eq0
returns-else-stops-eq0 c =
    let long = length_block c.args.text.now c.args.at 16 c.requires in
    ap (count_trailing_zeros 64) c.stops_in-stops.ensures ∙ trailing_mask_l is_stop 64 _ (omega (arith, long)) (omega (arith, c.stops_in-stops.ensures, c.if-stops-eq0.false))
    ∙ sym (ap (position_or_len is_stop) (block_is c.args.text.now c.args.at 16))
